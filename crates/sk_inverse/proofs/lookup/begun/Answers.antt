use Rattle.std.proofs.Common.{rules}
use Rattle.std.proofs.lemmas.List.Sorted.{IsPartitionPoint-from_clause}
use Rattle.sk_inverse.proofs.Times.{begins_by, parted, have_begun}
use Rattle.sk_inverse.proofs.lookup.begun.Goals as goal

pub returns : goal.returns
returns c =
    let triples = c.args.triples.now in
    let point = IsPartitionPoint-from_clause (begins_by c.args.time) _ _ c.partition_point.ensures.partitioned (parted triples c.args.time c.requires) (λ a r q k. search rules) in
    have_begun triples c.args.time c.partition_point.result c.partition_point.ensures.bound point
