use Rattle.std.proofs.Common.{ℕ, subst}
use Rattle.std.proofs.lemmas.Bool.{false≢true}
use Rattle.sk_checks.specs.Checks.{Judges}
use Rattle.sk_cuc.specs.Code.{count as count_of_code}
use Rattle.sk_clock.specs.declared.fault.ClockFault.TheVariants.{WrongShape}
use Rattle.sk_clock.specs.Clock.{Encodes, count_checks}
use Rattle.sk_clock.specs.ClockText.{HasWrongShape}
use Rattle.sk_clock.proofs.TickLemmas.{judged_behind}
use Rattle.sk_clock.proofs.clock.Clock.ticks_of_cuc.Goals as goal

pub returns : goal.returns
returns c =
    let clock = c.args.self.now in
    let n = count_of_code c.args.code.now in
    let judged = subst (λ (m : ℕ). Judges (count_checks clock c.args.part m) (Encodes clock c.args.part m) c.tick_of.result) c.count_of.ensures c.tick_of.ensures in
    judged_behind (HasWrongShape clock c.args.code.now) WrongShape (count_checks clock c.args.part n) (Encodes clock c.args.part n) c.tick_of.result
    (λ wrong. false≢true (c.if-has_wrong_shape.ensures.1 wrong)) judged
