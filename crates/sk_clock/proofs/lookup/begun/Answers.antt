use Rattle.std.proofs.Common.{ℕ, leb, rules, sym, subst, List}
use Rattle.std.proofs.lemmas.List.Sorted.{IsPartitionPoint-from_clause, IsPartitionedBy-leb}
use Rattle.std.specs.List.Sorted.{IsNonDecreasingBy}
use Rattle.sk_clock.proofs.PartitionLemmas.{lengths_before-rises, partition_from-point}
use Rattle.sk_clock.proofs.lookup.begun.Goals as goal

pub returns-clause-number : goal.returns-clause-number
returns-clause-number c = λ partitions same.
    let rises : IsNonDecreasingBy (λ (n : ℕ). n) c.args.earlier.now = subst (λ (xs : List ℕ). IsNonDecreasingBy (λ (n : ℕ). n) xs) (sym same) (lengths_before-rises 0 partitions) in
    let parted = IsPartitionedBy-leb (λ (n : ℕ). n) _ c.args.tick rises in
    let point = IsPartitionPoint-from_clause (λ (n : ℕ). leb n c.args.tick) _ _ c.partition_point.ensures.partitioned parted (λ a r q k. search rules) in
    let at = rw same at point in
    let most = rw same at c.partition_point.ensures.bound in
    partition_from-point 0 c.args.tick partitions _ most at.0 at.1
