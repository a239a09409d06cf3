use Rattle.std.proofs.Common.{◌<◌, ◌≤◌, ◌^◌, arith, ℕ}
use Rattle.std.proofs.lemmas.Int.Digits.{digits_value_more}
use Rattle.std.proofs.lemmas.Grind.{pow_more}
use Rattle.sk_decimal.proofs.Wide.{pow_le}
use Rattle.sk_obs.proofs.digits.value_of.Goals as goal

-- before the last of sixteen digits the number has fifteen at most
room : (value place count : ℕ) → value < 10 ^ place → place < count → count ≤ 16 → value < 10 ^ 15
room value place count small before few = omega (arith, pow_le place 15 (omega arith))

pub overflow_mul-value : goal.overflow_mul-value
overflow_mul-value c = omega (arith, room c.loop-byte.value c.loop-byte.byte-index _ c.loop-byte.invariant.small c.loop-byte-test.true c.requires.few)

pub overflow_add-value : goal.overflow_add-value
overflow_add-value c = omega (arith, c.digit_of.ensures.small, room c.loop-byte.value c.loop-byte.byte-index _ c.loop-byte.invariant.small c.loop-byte-test.true c.requires.few)

pub loop-byte-preserved : goal.loop-byte-preserved
loop-byte-preserved c = record {
  read = omega (arith, digits_value_more 10 c.args.digits.now c.loop-byte.byte-index c.loop-byte-test.true, c.digit_of.ensures.value);
  small = omega (arith, pow_more 10 c.loop-byte.byte-index, c.digit_of.ensures.small);
}
