use Rattle.std.proofs.Common.{length}
use Rattle.sk_leap.proofs.Pairs.{ReadsTo}
use Rattle.sk_leap.proofs.entries.read_pairs.Given as goal

abbrev pub invariant-loop-value : goal.invariant-loop-value
invariant-loop-value l = ReadsTo l.values l.rest l.pairs.items

abbrev pub decreases-loop-value : goal.decreases-loop-value
decreases-loop-value l = length l.rest
