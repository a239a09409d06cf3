use Rattle.std.proofs.Common.{arith}
use Rattle.sk_leap.proofs.DigitsRead.{scaled_small}
use Rattle.sk_leap.proofs.parts.picoseconds.Goals as goal

pub overflow_mul-result : goal.overflow_mul-result
overflow_mul-result c = omega (arith, scaled_small _ _ _ c.in-Some.ensures.small c.if-digits-gt12.false c.pow.ensures)

pub returns-in-Some-clause-small : goal.returns-in-Some-clause-small
returns-in-Some-clause-small c = scaled_small _ _ _ c.in-Some.ensures.small c.if-digits-gt12.false c.pow.ensures
