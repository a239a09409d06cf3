use Rattle.std.proofs.Common.{◌≡◌, map, take}
use Rattle.sk_clock.specs.declared.partition.Partition.{Partition}
use Rattle.sk_clock.proofs.stages.paired.Given as goal

abbrev pub invariant-loop-i : goal.invariant-loop-i
invariant-loop-i l = record {
  starts : map (λ (p : Partition). p.start) l.partitions.items ≡ take l.i l.starts;
  ends : map (λ (p : Partition). p.end) l.partitions.items ≡ take l.i l.ends;
}
