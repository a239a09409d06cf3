use Rattle.std.proofs.Common.{◌≡◌, ◌+◌, ◌-◌, ◌*◌, ◌^◌, ◌≤◌, length, ap, sym, ◌∙◌, subst, arith, ℕ}
use Rattle.sk_decimal.proofs.FewDigits.{room_left, digit_fits, one_more}
use Rattle.sk_decimal.proofs.short.short_value.Goals as goal

pub overflow_mul-value : goal.overflow_mul-value
overflow_mul-value c =
    let left = length c.args.digits.now - (c.loop-byte.byte-index + 1) in
    let sum : length c.args.digits.now - c.loop-byte.byte-index ≡ left + 1 = omega (arith, c.loop-byte-test.true) in
    let room = subst (λ (n : ℕ). (c.loop-byte.value + 1) * 10 ^ n ≤ (c.args.front + 1) * 10 ^ length c.args.digits.now) sum c.loop-byte.invariant.1 in
    omega (arith, digit_fits c.loop-byte.value left ((c.args.front + 1) * 10 ^ length c.args.digits.now) room c.requires.few)

pub overflow_add-value : goal.overflow_add-value
overflow_add-value c =
    let left = length c.args.digits.now - (c.loop-byte.byte-index + 1) in
    let sum : length c.args.digits.now - c.loop-byte.byte-index ≡ left + 1 = omega (arith, c.loop-byte-test.true) in
    let room = subst (λ (n : ℕ). (c.loop-byte.value + 1) * 10 ^ n ≤ (c.args.front + 1) * 10 ^ length c.args.digits.now) sum c.loop-byte.invariant.1 in
    omega (arith, digit_fits c.loop-byte.value left ((c.args.front + 1) * 10 ^ length c.args.digits.now) room c.requires.few, c.digit_of.ensures.small, c.from.ensures)

pub loop-byte-preserved : goal.loop-byte-preserved
loop-byte-preserved c =
    let left = length c.args.digits.now - (c.loop-byte.byte-index + 1) in
    let sum : length c.args.digits.now - c.loop-byte.byte-index ≡ left + 1 = omega (arith, c.loop-byte-test.true) in
    let room = subst (λ (n : ℕ). (c.loop-byte.value + 1) * 10 ^ n ≤ (c.args.front + 1) * 10 ^ length c.args.digits.now) sum c.loop-byte.invariant.1 in (
      one_more c.args.front c.loop-byte.value c.from.result c.loop-byte.byte-index c.args.digits.now c.loop-byte-test.true (omega (arith, c.digit_of.ensures.value, c.from.ensures)) c.loop-byte.invariant.0,
      room_left c.loop-byte.value c.from.result left ((c.args.front + 1) * 10 ^ length c.args.digits.now) (omega (arith, c.digit_of.ensures.small, c.from.ensures)) room,
    )
