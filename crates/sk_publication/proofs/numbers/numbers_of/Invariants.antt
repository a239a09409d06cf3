use Rattle.std.proofs.Common.{◌≡◌, take}
use Rattle.std.specs.List.{flat_map}
use Rattle.sk_publishing.specs.Published.{triple_values}
use Rattle.sk_publication.proofs.numbers.numbers_of.Given as goal

abbrev pub invariant-loop-triple : goal.invariant-loop-triple
invariant-loop-triple l = l.values.items ≡ flat_map triple_values (take l.triple-index l.triples)
