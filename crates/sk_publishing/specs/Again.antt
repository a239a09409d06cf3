-- The same observations, published again over the kernel that was published.
use Rattle.std.specs.Prelude.{◌≡◌, List, [], ◌∷◌, ◌++◌, None}
use Rattle.std.specs.List.{AllByRecursion}
use Rattle.sk_line.specs.Triple.{TripleView}
use Rattle.sk_publishing.specs.Terms.{Sight, Terms}
use Rattle.sk_publishing.specs.Meets.{IsWithinTolerance}
use Rattle.sk_publishing.specs.Chain.{SegmentView, new_triples}
use Rattle.sk_publishing.specs.Kept.{IsPublication}
use Rattle.sk_publishing.specs.Laws.{TriplesRise}

-- the same terms over a kernel that ends with this triple
abbrev pub over : TripleView → Terms → Terms
over last t = record { gauge = t.gauge; lengths = t.lengths; old = last; band = t.band; hold = t.hold; reject = t.reject }

-- Where nothing was dropped and no hold is given, a second publication adds no triple.
abbrev pub AgainLaw : Type 0
AgainLaw = (t : Terms) (front front' : List TripleView) (last : TripleView) (all : List Sight) (chain : List SegmentView) (p : IsPublication t all [] chain)
    → t.hold ≡ None
    → (front ++ t.old ∷ []) ++ new_triples chain ≡ front' ++ last ∷ [] → TriplesRise (front' ++ last ∷ [])
    → AllByRecursion (IsWithinTolerance t.gauge (front' ++ last ∷ [])) p.kept
    → (dropped : List Sight) (again : List SegmentView) → IsPublication (over last t) all dropped again → new_triples again ≡ []

-- A publication of no observations has no new triple.
abbrev pub NoneLaw : Type 0
NoneLaw = (t : Terms) (dropped : List Sight) (chain : List SegmentView) → IsPublication t [] dropped chain → new_triples chain ≡ []
