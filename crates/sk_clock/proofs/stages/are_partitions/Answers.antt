use Rattle.std.proofs.Common.{◌≤◌, arith}
use Rattle.std.proofs.lemmas.List.Sums.{sum_by_more}
use Rattle.std.proofs.lemmas.List.Elements.{All-more}
use Rattle.sk_clock.specs.declared.partition.Partition.{Partition}
use Rattle.sk_clock.specs.Clock.{ticks_in}
use Rattle.sk_clock.proofs.stages.are_partitions.Goals as goal

pub loop-partition-preserved : goal.loop-partition-preserved
loop-partition-preserved c =
    let ps = c.args.partitions.now in
    let i = c.loop-partition.partition-index in
    let none : Partition = record { start = 0; end = 0 } in
    record {
      summed = omega (arith, sum_by_more ticks_in ps i none (omega arith), c.loop-partition.invariant.summed);
      small = omega arith;
      rise = All-more (λ (p : Partition). p.start ≤ p.end) ps i none (omega arith) c.loop-partition.invariant.rise (omega arith);
    }
