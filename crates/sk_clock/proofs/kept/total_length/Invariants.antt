use Rattle.std.proofs.Common.{◌≡◌, ◌+◌, drop, sum_by}
use Rattle.sk_clock.specs.Clock.{ticks_in}
use Rattle.sk_clock.proofs.kept.total_length.Given as goal

abbrev pub invariant-loop-partition : goal.invariant-loop-partition
invariant-loop-partition l = l.total + sum_by ticks_in (drop l.partition-index l.partitions) ≡ sum_by ticks_in l.partitions
