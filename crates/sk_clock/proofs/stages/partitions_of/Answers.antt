use Rattle.std.proofs.Common.{List, ap, ◌∙◌, map}
use Rattle.std.proofs.lemmas.Bool.{false≢true}
use Rattle.sk_clock.specs.declared.partition.Partition.{Partition}
use Rattle.sk_clock.proofs.KernelLemmas.{no_starts, no_ends, ends_below, no_partitions}
use Rattle.sk_clock.proofs.stages.partitions_of.Goals as goal

pub returns-in_default : goal.returns-in_default
returns-in_default c =
    no_starts c.args.pool.now c.args.sc _ (c.name_of-name.ensures) (rw c.in_default.is at c.in_ok-starts.ensures)

pub returns-in_default-2 : goal.returns-in_default-2
returns-in_default-2 c =
    no_ends c.args.pool.now c.args.sc _ (c.name_of-name-2.ensures) (rw c.in_default-2.is at c.in_ok-ends.ensures)

pub are_partitions-requires-clause-ends : goal.are_partitions-requires-clause-ends
are_partitions-requires-clause-ends c =
    let numbers = rw c.in-Some-2.is at c.in_ok-ends.ensures in
    let ends = ap (λ (ps : List Partition). map (λ (p : Partition). p.end) ps) c.as_slice-3.ensures.value ∙ (c.in_ok-partitions.ensures.1 ∙ c.as_slice-2.ensures.value) in
    ends_below c.as_slice-3.result.now _ ends numbers.each

pub returns-then-not-are_partitions : goal.returns-then-not-are_partitions
returns-then-not-are_partitions c =
    let starts = rw c.in-Some.is at c.in_ok-starts.ensures in
    let ends = rw c.in-Some-2.is at c.in_ok-ends.ensures in
    no_partitions c.args.pool.now c.args.sc _ _ _ _ c.as_slice-3.result.now
    (c.name_of-name.ensures) (c.name_of-name-2.ensures) starts.are_whole ends.are_whole
    (ap (λ (ps : List Partition). map (λ (p : Partition). p.start) ps) c.as_slice-3.ensures.value ∙ (c.in_ok-partitions.ensures.0 ∙ c.as_slice.ensures.value))
    (ap (λ (ps : List Partition). map (λ (p : Partition). p.end) ps) c.as_slice-3.ensures.value ∙ (c.in_ok-partitions.ensures.1 ∙ c.as_slice-2.ensures.value))
    (λ are. false≢true (c.if-not-are_partitions.ensures.1 are))
