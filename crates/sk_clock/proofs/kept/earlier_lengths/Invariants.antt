use Rattle.std.proofs.Common.{◌≡◌, ◌+◌, ◌++◌, drop, sum_by}
use Rattle.sk_clock.specs.Clock.{ticks_in}
use Rattle.sk_clock.specs.Kept.{lengths_before}
use Rattle.sk_clock.proofs.kept.earlier_lengths.Given as goal

abbrev pub invariant-loop-partition : goal.invariant-loop-partition
invariant-loop-partition l = record {
  summed : l.before + sum_by ticks_in (drop l.partition-index l.partitions) ≡ sum_by ticks_in l.partitions;
  pushed : l.earlier.items ++ lengths_before l.before (drop l.partition-index l.partitions) ≡ lengths_before 0 l.partitions;
}
