use Rattle.std.proofs.Common.{◌≡◌, inr, ◌≤◌, ◌*◌, ◌^◌, arith, subst, sym, rules, FitsSigned}
use Rattle.std.specs.Prelude.{ℤ, pos, ◌+ℤ◌, ◌*ℤ◌}
use Rattle.std.specs.Int.{w64}
use Rattle.std.proofs.lemmas.Int.{to_z-of_z}
use Rattle.sk_clock.specs.Clock.{total}
use Rattle.sk_publishing.specs.Row.{IsObservedTime}
use Rattle.sk_sample.proofs.Checked.{id_is, near, narrow, passes, refused}
use Rattle.sk_sample.proofs.observations.observation.Goals as goal

pub returns-then-tick-total-clause-answer : goal.returns-then-tick-total-clause-answer
returns-then-tick-total-clause-answer c =
    inr (refused c.args.clock.now c.args.number (pos (10 ^ 11 * c.args.number) +ℤ c.args.late) c.requires.number.1 (omega (arith, c.if-tick-total.true, c.total.ensures.value, c.from-tick.ensures)))

pub invariant_of-result : goal.invariant_of-result
invariant_of-result c =
    let fits : FitsSigned w64 c.args.late = search rules in
    let time : c.observed_time.result.units ≡ (pos (10 ^ 11 * c.args.number) +ℤ c.args.late) *ℤ pos 1000 = simp to_z-of_z at c.observed_time.ensures in
    record {
      id = rw c.in-Ok.ensures (id_is c.args.number (omega (arith, c.requires.number.1)));
      time = subst (λ (z : ℤ). IsObservedTime z) (sym time) (near c.args.number c.args.late c.requires.number.1 c.requires.from c.requires.to);
    }

pub returns-clause-answer : goal.returns-clause-answer
returns-clause-answer c =
    let fits : FitsSigned w64 c.args.late = search rules in
    let time : c.observed_time.result.units ≡ (pos (10 ^ 11 * c.args.number) +ℤ c.args.late) *ℤ pos 1000 = simp to_z-of_z at c.observed_time.ensures in
    passes c.args.clock.now c.args.number (pos (10 ^ 11 * c.args.number) +ℤ c.args.late) _ c.requires.number.1 (omega (arith, c.if-tick-total.false, c.total.ensures.value, c.from-tick.ensures))
    (narrow c.args.number c.args.late c.requires.number.1 c.requires.from c.requires.to) c.in-Ok.ensures (omega arith) (omega (arith, c.from-tick.ensures)) time
    (subst (λ (z : ℤ). IsObservedTime z) (sym time) (near c.args.number c.args.late c.requires.number.1 c.requires.from c.requires.to))
