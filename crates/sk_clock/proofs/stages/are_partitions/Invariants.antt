use Rattle.std.proofs.Common.{◌≡◌, ◌^◌, ◌<◌, ◌≤◌, take, sum_by, All}
use Rattle.sk_clock.specs.declared.partition.Partition.{Partition}
use Rattle.sk_clock.specs.Clock.{ticks_in}
use Rattle.sk_clock.proofs.stages.are_partitions.Given as goal

abbrev pub invariant-loop-partition : goal.invariant-loop-partition
invariant-loop-partition l = record {
  summed : l.total ≡ sum_by ticks_in (take l.partition-index l.partitions);
  small : l.total < 2 ^ 53;
  rise : All (λ (p : Partition). p.start ≤ p.end) (take l.partition-index l.partitions);
}
