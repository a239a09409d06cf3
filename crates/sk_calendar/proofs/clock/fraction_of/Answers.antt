use Rattle.std.proofs.Common.{arith}
use Rattle.sk_calendar.proofs.Runs.{scaled_small}
use Rattle.sk_calendar.proofs.clock.fraction_of.Goals as goal

pub overflow_mul-result : goal.overflow_mul-result
overflow_mul-result c = omega (arith, scaled_small _ _ _ c.requires.small c.requires.count c.pow.ensures)
