use Rattle.std.proofs.Common.{arith, length, ap}
use Rattle.sk_clock.proofs.PartitionLemmas.{length-lengths_before}
use Rattle.sk_clock.proofs.clock.Clock.partition_at.Goals as goal

pub overflow_cast-result : goal.overflow_cast-result
overflow_cast-result c =
    let at = c.self.invariant in
    let most = c.begun.ensures.few in
    let some = at.clock.partitions.some in
    omega (arith, most, ap length c.as_slice.ensures.value, ap length at.earlier_lengths, length-lengths_before 0 c.self.inside.partitions.items)
