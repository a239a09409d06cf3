use Rattle.std.proofs.Common.{arith}
use Rattle.sk_clock.proofs.NumberLemmas.{stuck_at}
use Rattle.sk_clock.proofs.numbers.whole_values.Goals as goal

pub returns-in_default : goal.returns-in_default
returns-in_default c = stuck_at c.args.values.now c.loop-value.value-index _ c.args.low c.args.high (omega arith) c.value-item.is c.in_default.ensures
