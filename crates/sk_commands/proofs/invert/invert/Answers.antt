use Rattle.std.proofs.Common.{ℤ, List, ℕ, Ok, subst}
use Rattle.sk_decimal.specs.declared.fixed.Fixed.{Fixed}
use Rattle.sk_words.specs.Request.{Options, text_or}
use Rattle.sk_words.specs.declared.tables.OptionName.TheVariants as opt
use Rattle.sk_words.specs.Asked.{options_in}
use Rattle.sk_outcome.specs.Stage.{Stage, ◌>>=◌, MayAnswer}
use Rattle.sk_outcome.specs.Files.{KernelRead, OpenedRead}
use Rattle.sk_outcome.specs.Outcome.{said, ticked, told, invert_of}
use Rattle.sk_outcome.proofs.Moves.{may_then, may_end_as, handed_on}
use Rattle.sk_commands.proofs.invert.invert.Goals as goal

abbrev after_time : KernelRead → ℤ → Stage (List ℕ)
after_time kernel time = ticked kernel time >>= told kernel

pub returns-in_err-time : goal.returns-in_err-time
returns-in_err-time c =
    let options : Options = options_in c.args.request.now in
    let opened : OpenedRead = record { leap = c.opened.inside.leap; kernel = c.opened.inside.kernel } in
    subst (λ (o : OpenedRead). MayAnswer (λ v. v.items) (invert_of options o) c.from_residual.result) c.opened.view_is
    (may_end_as (λ (t : Fixed 12). t.units) (λ v. v.items) (said (text_or opt.Time options) opened.leap) (after_time opened.kernel) c.said.result c.from_residual.result c.in_err-time.field-0.0 c.in_err-time.was
    (handed_on c.from_residual.result c.in_err-time.field-0.0 c.from_residual.ensures.1)
    (subst (λ (word : List ℕ). MayAnswer (λ (t : Fixed 12). t.units) (said word opened.leap) c.said.result) c.text_or_empty-word.ensures c.said.ensures.stage))

pub returns-in_err-tick : goal.returns-in_err-tick
returns-in_err-tick c =
    let options : Options = options_in c.args.request.now in
    let opened : OpenedRead = record { leap = c.opened.inside.leap; kernel = c.opened.inside.kernel } in
    let time : ℤ = c.in_ok-time.time.units in
    subst (λ (o : OpenedRead). MayAnswer (λ v. v.items) (invert_of options o) c.from_residual-in_err-tick.result) c.opened.view_is
    (may_then (λ v. v.items) (said (text_or opt.Time options) opened.leap) (after_time opened.kernel) time c.from_residual-in_err-tick.result
    (subst (λ (word : List ℕ). said word opened.leap (Ok time)) c.text_or_empty-word.ensures c.in_ok-time.ensures.stage)
    (may_end_as (λ t. t) (λ v. v.items) (ticked opened.kernel time) (told opened.kernel) c.ticked.result c.from_residual-in_err-tick.result c.in_err-tick.field-0.0 c.in_err-tick.was
    (handed_on c.from_residual-in_err-tick.result c.in_err-tick.field-0.0 c.from_residual-in_err-tick.ensures.1) c.ticked.ensures))

pub returns : goal.returns
returns c =
    let options : Options = options_in c.args.request.now in
    let opened : OpenedRead = record { leap = c.opened.inside.leap; kernel = c.opened.inside.kernel } in
    let time : ℤ = c.in_ok-time.time.units in
    subst (λ (o : OpenedRead). MayAnswer (λ v. v.items) (invert_of options o) c.told.result) c.opened.view_is
    (may_then (λ v. v.items) (said (text_or opt.Time options) opened.leap) (after_time opened.kernel) time c.told.result
    (subst (λ (word : List ℕ). said word opened.leap (Ok time)) c.text_or_empty-word.ensures c.in_ok-time.ensures.stage)
    (may_then (λ v. v.items) (ticked opened.kernel time) (told opened.kernel) c.in_ok-tick.tick c.told.result c.in_ok-tick.ensures c.told.ensures))
