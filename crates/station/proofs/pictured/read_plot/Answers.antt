use Rattle.std.proofs.Common.{Ok, refl}
use Rattle.std.specs.Option.{option_to_list}
use Rattle.sk_words.specs.Asked.{options_in}
use Rattle.sk_words.specs.declared.tables.OptionName.TheVariants as opt
use Rattle.sk_words.specs.Request.{Options}
use Rattle.sk_edge.proofs.Asking.{among_all, among_then, among_front}
use Rattle.station.specs.Asking.{inputs_names}
use Rattle.sk_outcome.specs.Seen.{Source, seen_by}
use Rattle.sk_outcome.specs.Stage.{gives}
use Rattle.sk_outcome.specs.Files.{InputsRead, inputs_read}
use Rattle.sk_outcome.specs.Drawn.{PlotRead, second_kernel}
use Rattle.sk_outcome.proofs.Follows.{second_after, inputs_follow, second_follows}
use Rattle.sk_outcome.proofs.Moves.{reads_then, may_end_as, handed_on}
use Rattle.station.proofs.pictured.read_plot.Goals as goal

pub returns-in_err-second-clause-stage : goal.returns-in_err-second-clause-stage
returns-in_err-second-clause-stage g c =
    let depot = g.D.Depot in
    let options : Options = options_in c.args.request.now in
    let last : Source = seen_by depot.holds depot.given depot.faults c.read_inputs.new.depot c.second_kernel.new.depot in
    let inputs : InputsRead = c.in_ok-inputs.inputs in
    reads_then depot.holds depot.given depot.faults (λ (a : PlotRead). a) (λ s. inputs_read s options) (second_after options)
    c.args.depot.now c.read_inputs.new.depot c.second_kernel.new.depot inputs c.from_residual-in_err-second.result
    (inputs_follow options) (second_follows options) c.read_inputs.ensures.stays c.in_ok-inputs.ensures.stage
    (may_end_as (λ k. k) (λ (a : PlotRead). a) (second_kernel last options) (λ second. gives {A = PlotRead} (record { inputs = inputs; second = second }))
    c.second_kernel.result c.from_residual-in_err-second.result c.in_err-second.field-0.0 c.in_err-second.was
    (handed_on c.from_residual-in_err-second.result c.in_err-second.field-0.0 c.from_residual-in_err-second.ensures.1) c.second_kernel.ensures.stage)

pub returns-clause-stage : goal.returns-clause-stage
returns-clause-stage g c =
    let depot = g.D.Depot in
    let options : Options = options_in c.args.request.now in
    let inputs : InputsRead = c.in_ok-inputs.inputs in
    reads_then depot.holds depot.given depot.faults (λ (a : PlotRead). a) (λ s. inputs_read s options) (second_after options)
    c.args.depot.now c.read_inputs.new.depot c.second_kernel.new.depot inputs (Ok (record { inputs = inputs; second = c.in_ok-second.second }))
    (inputs_follow options) (second_follows options) c.read_inputs.ensures.stays c.in_ok-inputs.ensures.stage
    (c.in_ok-second.second, c.in_ok-second.ensures.stage, refl)

pub returns-in_err-inputs-clause-asks : goal.returns-in_err-inputs-clause-asks
returns-in_err-inputs-clause-asks g c =
    let options : Options = options_in c.args.request.now in
    among_front _ _ (inputs_names options) (option_to_list (options opt.New)) c.read_inputs.ensures.asks

pub returns-in_err-second-clause-asks : goal.returns-in_err-second-clause-asks
returns-in_err-second-clause-asks g c =
    let options : Options = options_in c.args.request.now in
    among_then _ _ _ (inputs_names options) (option_to_list (options opt.New)) c.read_inputs.ensures.asks (among_all _ _ _ c.second_kernel.ensures.asks)

pub returns-clause-asks : goal.returns-clause-asks
returns-clause-asks g c =
    let options : Options = options_in c.args.request.now in
    among_then _ _ _ (inputs_names options) (option_to_list (options opt.New)) c.read_inputs.ensures.asks (among_all _ _ _ c.second_kernel.ensures.asks)

pub returns-in_err-inputs-clause-stage : goal.returns-in_err-inputs-clause-stage
returns-in_err-inputs-clause-stage g c =
    let depot = g.D.Depot in
    let options : Options = options_in c.args.request.now in
    let source : Source = seen_by depot.holds depot.given depot.faults c.args.depot.now c.read_inputs.new.depot in
    may_end_as (λ (i : InputsRead). i) (λ (a : PlotRead). a) (inputs_read source options) (second_after options source)
    c.read_inputs.result c.from_residual.result c.in_err-inputs.field-0.0 c.in_err-inputs.was
    (handed_on c.from_residual.result c.in_err-inputs.field-0.0 c.from_residual.ensures.1) c.read_inputs.ensures.stage
