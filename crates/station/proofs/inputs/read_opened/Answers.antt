use Rattle.std.proofs.Common.{[], ◌∷◌, Ok, refl}
use Rattle.sk_words.specs.Asked.{options_in}
use Rattle.std.specs.Option.{option_to_list}
use Rattle.sk_words.specs.declared.tables.OptionName.TheVariants as opt
use Rattle.sk_words.specs.Request.{Options, text_or}
use Rattle.sk_outcome.specs.Seen.{Source, seen_by}
use Rattle.sk_outcome.specs.Stage.{gives}
use Rattle.sk_outcome.specs.Files.{OpenedRead, leap_file, kernel_file}
use Rattle.sk_outcome.proofs.Converted.{file_dated}
use Rattle.sk_outcome.proofs.Follows.{kernel_after, leap_follows, kernel_after_follows}
use Rattle.sk_outcome.proofs.Moves.{reads_then, may_end_as, handed_on}
use Rattle.sk_edge.proofs.Asking.{among_all, among_then, among_front}
use Rattle.station.proofs.inputs.read_opened.Goals as goal

pub invariant_of-result : goal.invariant_of-result
invariant_of-result g c =
    let depot = g.D.Depot in
    file_dated (seen_by depot.holds depot.given depot.faults c.args.depot.now c.leap_file.new.depot) (options_in c.args.request.now) c.in_ok-leap.leap c.in_ok-leap.ensures.stage

pub returns-in_err-kernel-clause-stage : goal.returns-in_err-kernel-clause-stage
returns-in_err-kernel-clause-stage g c =
    let depot = g.D.Depot in
    let options : Options = options_in c.args.request.now in
    let last : Source = seen_by depot.holds depot.given depot.faults c.leap_file.new.depot c.kernel_file.new.depot in
    reads_then depot.holds depot.given depot.faults (λ (o : OpenedRead). o) (λ s. leap_file s options) (kernel_after options)
    c.args.depot.now c.leap_file.new.depot c.kernel_file.new.depot c.in_ok-leap.leap c.from_residual-in_err-kernel.result
    (leap_follows options) (kernel_after_follows options) c.leap_file.ensures.stays c.in_ok-leap.ensures.stage
    (may_end_as (λ k. k) (λ (o : OpenedRead). o) (kernel_file last options) (λ kernel. gives {A = OpenedRead} (record { leap = c.in_ok-leap.leap; kernel = kernel }))
    c.kernel_file.result c.from_residual-in_err-kernel.result c.in_err-kernel.field-0.0 c.in_err-kernel.was
    (handed_on c.from_residual-in_err-kernel.result c.in_err-kernel.field-0.0 c.from_residual-in_err-kernel.ensures.1) c.kernel_file.ensures.stage)

pub returns-clause-stage : goal.returns-clause-stage
returns-clause-stage g c =
    let depot = g.D.Depot in
    let options : Options = options_in c.args.request.now in
    reads_then depot.holds depot.given depot.faults (λ (o : OpenedRead). o) (λ s. leap_file s options) (kernel_after options)
    c.args.depot.now c.leap_file.new.depot c.kernel_file.new.depot c.in_ok-leap.leap (Ok (record { leap = c.in_ok-leap.leap; kernel = c.in_ok-kernel.kernel }))
    (leap_follows options) (kernel_after_follows options) c.leap_file.ensures.stays c.in_ok-leap.ensures.stage
    (c.in_ok-kernel.kernel, c.in_ok-kernel.ensures.stage, refl)

pub returns-in_err-leap-clause-asks : goal.returns-in_err-leap-clause-asks
returns-in_err-leap-clause-asks g c =
    let options : Options = options_in c.args.request.now in
    among_front _ _ (option_to_list (options opt.Leap)) (text_or opt.Kernel options ∷ []) (among_all _ _ _ c.leap_file.ensures.asks)

pub returns-in_err-kernel-clause-asks : goal.returns-in_err-kernel-clause-asks
returns-in_err-kernel-clause-asks g c =
    let options : Options = options_in c.args.request.now in
    among_then _ _ _ (option_to_list (options opt.Leap)) (text_or opt.Kernel options ∷ [])
    (among_all _ _ _ c.leap_file.ensures.asks) (among_all _ _ _ c.kernel_file.ensures.asks)

pub returns-clause-asks : goal.returns-clause-asks
returns-clause-asks g c =
    let options : Options = options_in c.args.request.now in
    among_then _ _ _ (option_to_list (options opt.Leap)) (text_or opt.Kernel options ∷ [])
    (among_all _ _ _ c.leap_file.ensures.asks) (among_all _ _ _ c.kernel_file.ensures.asks)
