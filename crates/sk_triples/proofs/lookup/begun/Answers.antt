use Rattle.std.proofs.Common.{rules}
use Rattle.std.proofs.lemmas.List.Sorted.{IsPartitionPoint-from_clause, IsPartitionedBy-leb}
use Rattle.sk_line.specs.Triple.{TripleView}
use Rattle.sk_triples.proofs.Covering.{ticks_rise, has_begun, begun_is}
use Rattle.sk_triples.proofs.lookup.begun.Goals as goal

pub returns-clause-number : goal.returns-clause-number
returns-clause-number c =
    let triples = c.args.triples.now in
    let parted = IsPartitionedBy-leb (λ (t : TripleView). t.anchor.ticks) triples c.args.tick (ticks_rise triples c.requires) in
    let point = IsPartitionPoint-from_clause (has_begun c.args.tick) _ _ c.partition_point.ensures.partitioned parted (λ a r q k. search rules) in
    begun_is c.args.tick triples c.partition_point.result (c.partition_point.ensures.bound, point.0, point.1)
