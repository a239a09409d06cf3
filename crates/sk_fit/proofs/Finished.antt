-- What is built over all observations is a publication.
use Rattle.std.proofs.Common.{◌≡◌, ℕ, suc, ◌-◌, List, [], ◌∷◌, ◌++◌, length, refl, sym, ap, subst, ◌∙◌, arith}
use Rattle.std.proofs.lemmas.List.{map-append, length-map}
use Rattle.std.specs.Prelude.{count_by, not, flat_map, None}
use Rattle.sk_publishing.specs.Terms.{Sight, Terms}
use Rattle.sk_line.specs.Triple.{TripleView}
use Rattle.sk_publishing.specs.Chain.{SegmentView, new_triples, IsChain}
use Rattle.sk_publishing.specs.Kept.{Sorts, IsPublication, is_new}
use Rattle.sk_publishing.specs.Input.{Input, Begins, AreTooMany}
use Rattle.sk_fit.specs.declared.chain.Chain.{Chain}
use Rattle.sk_fit.specs.Given.{segment_view, segments_of}
use Rattle.sk_fit.specs.State.{FittingView, IsFitting, front_of, open_of}
use Rattle.sk_fit.specs.Causes.{Gives}

-- the chain of what is built
abbrev pub finished : ℕ → FittingView → Chain
finished first_new f = record { first_new = first_new; dropped = f.dropped; segments = f.closed ++ f.open_one ∷ [] }

segments_built : (all : List Sight) (first_new : ℕ) (f : FittingView) → segments_of all (finished first_new f) ≡ front_of all f ++ open_of all f ∷ []
segments_built all first_new f = map-append (segment_view all f.dropped) f.closed (f.open_one ∷ [])

pub built_publication : (t : Terms) (all kept dropped : List Sight) (n first_new : ℕ) (f : FittingView) (chain : Chain) → chain ≡ finished first_new f
    → Sorts t all kept dropped → IsFitting t all n f kept dropped → IsPublication t all dropped (segments_of all chain)
built_publication t all kept dropped n first_new f chain e sorts h = subst (λ (c : Chain). IsPublication t all dropped (segments_of all c)) (sym e) (record {
  kept = kept;
  sorts = sorts;
  is_chain = subst (IsChain t kept None) (sym (segments_built all first_new f)) h.built.chain;
})

pub gives : (x : Input) (old : TripleView) (kept dropped : List Sight) (n first_new : ℕ) (f : FittingView) (chain : Chain) → chain ≡ finished first_new f
    → Begins x old → Sorts (x.terms old) x.all kept dropped → IsFitting (x.terms old) x.all n f kept dropped
    → first_new ≡ count_by (λ o. not (is_new (x.terms old) o)) x.all → ¬ AreTooMany x (segments_of x.all chain) → Gives x chain
gives x old kept dropped n first_new f chain e begins sorts h counted few = record {
  old = old;
  begins = begins;
  dropped = dropped;
  dropped_places = ap (λ (c : Chain). c.dropped) e ∙ h.places.places;
  first_new = ap (λ (c : Chain). c.first_new) e ∙ counted;
  publication = built_publication (x.terms old) x.all kept dropped n first_new f chain e sorts h;
  few = few;
}

-- ---- how many triples

length-singles : (later : List SegmentView) → length {A = TripleView} (flat_map (λ (l : SegmentView). record { anchor = l.anchor; rate = l.rate } ∷ []) later) ≡ length later
length-singles [] = refl
length-singles (s ∷ later) = ap suc (length-singles later)

length-new : (ss : List SegmentView) → length (new_triples ss) ≡ length ss - 1
length-new [] = refl
length-new (s ∷ later) = length-singles later ∙ (omega arith)

-- the new triples are one fewer than the segments
pub new_triples_number : (all : List Sight) (chain : Chain) → length (new_triples (segments_of all chain)) ≡ length chain.segments - 1
new_triples_number all chain = length-new (segments_of all chain) ∙ ap (λ (n : ℕ). n - 1) (length-map chain.segments (segment_view all chain.dropped))
