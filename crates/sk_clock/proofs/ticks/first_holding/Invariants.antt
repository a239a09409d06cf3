use Rattle.sk_clock.specs.Ticks.{HoldsNone}
use Rattle.sk_clock.proofs.ticks.first_holding.Given as goal

abbrev pub invariant-loop-i : goal.invariant-loop-i
invariant-loop-i l = HoldsNone l.partitions l.count l.i
