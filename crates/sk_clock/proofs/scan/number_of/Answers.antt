use Rattle.std.proofs.Common.{ℕ, ◌^◌, ◌≤◌, lit<, arith}
use Rattle.std.proofs.Math.Nat.{pow-le-pow_right}
use Rattle.std.proofs.lemmas.Grind.{pow_more}
use Rattle.std.proofs.lemmas.Int.Digits.{digits_value_more}
use Rattle.sk_clock.proofs.scan.number_of.Goals as goal

power_small : (k : ℕ) → k ≤ 16 → 10 ^ k ≤ 10 ^ 16
power_small k few = pow-le-pow_right (lit< tt) few

pub overflow_mul-number : goal.overflow_mul-number
overflow_mul-number c = omega (arith, power_small c.loop-digit.digit-index (omega arith), c.loop-digit.invariant.below)

pub overflow_add-number : goal.overflow_add-number
overflow_add-number c = omega (arith, power_small c.loop-digit.digit-index (omega arith), c.loop-digit.invariant.below, c.from.ensures, c.digit_of.ensures.small)

pub loop-digit-preserved : goal.loop-digit-preserved
loop-digit-preserved c = record {
  same = omega (arith, digits_value_more 10 c.args.digits.now c.loop-digit.digit-index c.loop-digit-test.true, c.digit_of.ensures.value, c.from.ensures);
  below = omega (arith, pow_more 10 c.loop-digit.digit-index, c.loop-digit.invariant.below, c.digit_of.ensures.small, c.from.ensures);
}
