use Rattle.std.proofs.Common.{ℕ, ◌+◌, ◌*◌, ◌∙◌, sym, subst, refl, get_or, take, arith}
use Rattle.sk_leap.proofs.DigitsRead.{IsReadTo, read_more}
use Rattle.sk_calendar.proofs.Runs.{read_room}
use Rattle.sk_calendar.proofs.numbers.number_of.Goals as goal

pub overflow_mul-number : goal.overflow_mul-number
overflow_mul-number c =
    omega (arith, read_room c.args.digits.now c.loop-byte.byte-index c.loop-byte.number c.loop-byte-test.true c.requires c.loop-byte.invariant)

pub overflow_add-number : goal.overflow_add-number
overflow_add-number c =
    omega (arith, c.from.ensures, c.type_inv.digits c.loop-byte.byte-index, read_room c.args.digits.now c.loop-byte.byte-index c.loop-byte.number c.loop-byte-test.true c.requires c.loop-byte.invariant)

pub loop-byte-preserved : goal.loop-byte-preserved
loop-byte-preserved c =
    let byte = get_or c.args.digits.now c.loop-byte.byte-index 0 in
    let step = read_more c.args.digits.now c.loop-byte.byte-index c.loop-byte.number byte c.loop-byte-test.true c.loop-byte.invariant refl (sym c.is_ascii_digit.ensures.value ∙ c.if-not-is_ascii_digit.false) in
    let P : ℕ → Type 0 = λ digit. IsReadTo (take (c.loop-byte.byte-index + 1) c.args.digits.now) (c.loop-byte.number * 10 + digit) in
    subst P (sym c.from.ensures) step
