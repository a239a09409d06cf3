use Rattle.std.proofs.Common.{◌≡◌, length}
use Rattle.sk_triples.specs.Values.{in_rows}
use Rattle.sk_triples.proofs.values.are_rows.Given as goal

abbrev pub invariant-rows : goal.invariant-rows
invariant-rows l = in_rows l.values ≡ in_rows l.rest

abbrev pub decreases-rows : goal.decreases-rows
decreases-rows l = length l.rest
