use Rattle.std.proofs.Common.{List, length}
use Rattle.sk_triples.specs.Coefficients.{Row, rows_of}
use Rattle.sk_triples.specs.Reading.{IsReadUpTo}
use Rattle.sk_triples.proofs.reading.read_triples.Given as goal

abbrev pub invariant-rows : goal.invariant-rows
invariant-rows l = (done : List Row) × IsReadUpTo l.total (rows_of l.values) done (rows_of l.rest) l.triples.items l.before l.number

abbrev pub decreases-rows : goal.decreases-rows
decreases-rows l = length l.rest
