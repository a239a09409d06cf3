use Rattle.std.proofs.Common.{ℕ, List, Ok, ap, subst}
use Rattle.sk_leap.specs.declared.pair.LeapPair.{LeapPair}
use Rattle.sk_clock.specs.Clock.{ClockView}
use Rattle.sk_words.specs.Request.{Options, text_or}
use Rattle.sk_words.specs.declared.tables.OptionName.TheVariants as opt
use Rattle.sk_words.specs.Asked.{options_in}
use Rattle.sk_outcome.specs.Stage.{MayAnswer}
use Rattle.sk_outcome.specs.Files.{KernelRead, OpenedRead}
use Rattle.sk_outcome.specs.Outcome.{clock_tick, converted, convert_of}
use Rattle.sk_outcome.proofs.Moves.{may_then, may_end_as, handed_on}
use Rattle.sk_commands.proofs.convert.convert.Goals as goal

pub returns-in_err-tick : goal.returns-in_err-tick
returns-in_err-tick c =
    let options : Options = options_in c.args.request.now in
    let leap : List LeapPair = c.opened.inside.leap in
    let kernel : KernelRead = c.opened.inside.kernel in
    subst (λ (o : OpenedRead). MayAnswer (λ v. v.items) (convert_of options o) c.from_residual.result) c.opened.view_is
    (may_end_as (λ t. t) (λ v. v.items) (clock_tick (text_or opt.Clock options) kernel.clock) (converted leap kernel) c.clock_tick.result c.from_residual.result c.in_err-tick.field-0.0 c.in_err-tick.was
    (handed_on c.from_residual.result c.in_err-tick.field-0.0 c.from_residual.ensures.1)
    (subst (λ (clock : ClockView). MayAnswer (λ (t : ℕ). t) (clock_tick (text_or opt.Clock options) clock) c.clock_tick.result) (ap (λ (k : KernelRead). k.clock) c.kernel.view_is)
    (subst (λ (word : List ℕ). MayAnswer (λ (t : ℕ). t) (clock_tick word c.kernel.inside.clock) c.clock_tick.result) c.text_or_empty-word.ensures c.clock_tick.ensures)))

pub returns : goal.returns
returns c =
    let options : Options = options_in c.args.request.now in
    let leap : List LeapPair = c.opened.inside.leap in
    let kernel : KernelRead = c.opened.inside.kernel in
    subst (λ (o : OpenedRead). MayAnswer (λ v. v.items) (convert_of options o) c.converted.result) c.opened.view_is
    (may_then (λ v. v.items) (clock_tick (text_or opt.Clock options) kernel.clock) (converted leap kernel) c.in_ok-tick.tick c.converted.result
    (subst (λ (clock : ClockView). clock_tick (text_or opt.Clock options) clock (Ok c.in_ok-tick.tick)) (ap (λ (k : KernelRead). k.clock) c.kernel.view_is)
    (subst (λ (word : List ℕ). clock_tick word c.kernel.inside.clock (Ok c.in_ok-tick.tick)) c.text_or_empty-word.ensures c.in_ok-tick.ensures)) c.converted.ensures)
