-- The triples that numbers are read as.
use Rattle.std.specs.Prelude.{◌≡◌, ◌≢◌, List, All, flat_map}
use Rattle.sk_line.specs.Triple.{TripleView}
use Rattle.sk_grammar.specs.declared.value.Value.{Value}
use Rattle.sk_publication.specs.Publication.{HasNumbers}
use Rattle.sk_publishing.specs.Published.{triple_values}

-- where the values are the numbers of triples, it is of these
abbrev pub AreReadAs : List Value → List TripleView → Type 0
AreReadAs values claims = (triples : List TripleView) → All HasNumbers triples → values ≡ flat_map triple_values triples → triples ≡ claims

-- the values are the numbers of no triples
abbrev pub AreOfNone : List Value → Type 0
AreOfNone values = (triples : List TripleView) → All HasNumbers triples → values ≢ flat_map triple_values triples
