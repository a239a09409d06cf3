use Rattle.std.proofs.Common.{length}
use Rattle.std.specs.List.{All}
use Rattle.sk_grammar.specs.Document.{IsValue}
use Rattle.sk_audit.proofs.Reading.{Leaves}
use Rattle.sk_audit.proofs.claims.triples_claimed.Given as goal

abbrev pub decreases-loop-rest : goal.decreases-loop-rest
decreases-loop-rest l = length l.rest

abbrev pub invariant-loop-rest : goal.invariant-loop-rest
invariant-loop-rest l = Leaves l.values l.claims.items l.rest × All IsValue l.rest
