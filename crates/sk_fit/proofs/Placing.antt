-- The places of segments after one more observation.
use Rattle.std.proofs.Common.{◌≡◌, ℕ, ◌+◌, ◌≤◌, Bool, List, [], ◌∷◌, ◌++◌, refl, sym, ap, subst, inl, inr, ◌∙◌, if◌then◌else◌}
use Rattle.std.proofs.lemmas.Bool.Decides.{eqb_tells}
use Rattle.std.specs.Prelude.{◌==◌, Option, Some}
use Rattle.sk_decimal.specs.declared.fixed.Fixed.{Fixed}
use Rattle.sk_fit.specs.declared.ending.Beginning.{Beginning}
use Rattle.sk_fit.specs.declared.chain.Segment.{Segment}
use Rattle.sk_fit.specs.declared.chain.End.{End}
use Rattle.sk_publishing.specs.Terms.{Sight}
use Rattle.sk_publishing.specs.Chain.{SegmentView, ForNext, last_of}
use Rattle.sk_line.proofs.Lists.{all_front, all_back, all_append, all_map, all_both}
use Rattle.sk_fit.specs.Given.{covered_between, IsPlaced, ArePlaced}
use Rattle.sk_fit.specs.State.{FittingView, first_from, gone_on, begun_at, HasPlaces, IsAt}
use Rattle.sk_fit.proofs.Places.{covers_none, covers_same}
use Rattle.sk_fit.proofs.States.{open_on, open_begun}

pub last_more : (c : List Sight) (o : Sight) → last_of (c ++ o ∷ []) ≡ Some o
last_more [] o = refl
last_more (x ∷ []) o = refl
last_more (x ∷ y ∷ c) o = last_more (y ∷ c) o

one_placed : (k n : ℕ) (o : Sight) → o.place ≡ n → IsPlaced k (o ∷ []) n (n + 1)
one_placed k n o e = (sym e, ap (λ (m : ℕ). m + 1) (sym e))

longer_placed : (k : ℕ) (c : List Sight) (o : Sight) (first past n : ℕ) → o.place ≡ n → (first ≡ past → c ≡ []) → IsPlaced k c first past
    → IsPlaced k (c ++ o ∷ []) (if first == past then n else first) (n + 1)
longer_placed k [] o first past n e none p = elim (eqb_tells first past) [
  | inl w ↦ subst (λ (b : Bool). IsPlaced k (o ∷ []) (if b then n else first) (n + 1)) (sym w.0) (one_placed k n o e)
  | inr w ↦ absurd (w.1 (p.0 ∙ sym p.1))
]
longer_placed k (x ∷ c) o first past n e none p = elim (eqb_tells first past) [
  | inl w ↦ absurd (let f = none w.1 in cc)
  | inr w ↦ subst (λ (b : Bool). IsPlaced k (x ∷ (c ++ o ∷ [])) (if b then n else first) (n + 1)) (sym w.0)
      (p.0, subst (λ (z : Option Sight). ForNext z (λ l. n + 1 ≡ l.place + 1)) (sym (last_more (x ∷ c) o)) (ap (λ (m : ℕ). m + 1) (sym e)))
]

module _ (k : ℕ) (all : List Sight) (n : ℕ) (f : FittingView) (dropped : List Sight) (h : HasPlaces all n f dropped)
    (p : ArePlaced k all f.dropped (f.closed ++ f.open_one ∷ [])) where
  closed_placed : ArePlaced k all f.dropped f.closed
  closed_placed = all_front _ f.closed (f.open_one ∷ []) p

  open_placed : IsPlaced k (covered_between all f.dropped f.open_one.first f.open_one.past) f.open_one.first f.open_one.past
  open_placed = (all_back _ f.closed (f.open_one ∷ []) p).0

  pub placed_on : (o : Sight) (rate : Fixed 18) → IsAt all n o
      → ArePlaced k all f.dropped (f.closed ++ (gone_on f n o.tick rate).open_one ∷ [])
  placed_on o rate at = all_append _ f.closed ((gone_on f n o.tick rate).open_one ∷ []) closed_placed (
    subst (λ (c : List Sight). IsPlaced k c (first_from f.open_one n) (n + 1)) (sym (ap (λ (s : SegmentView). s.covered) (open_on all n f dropped o rate h at)))
        (longer_placed k (covered_between all f.dropped f.open_one.first f.open_one.past) o f.open_one.first f.open_one.past n at.place none open_placed),
    tt,
  )
    where
      none : f.open_one.first ≡ f.open_one.past → covered_between all f.dropped f.open_one.first f.open_one.past ≡ []
      none e = ap (λ (m : ℕ). covered_between all f.dropped m f.open_one.past) e ∙ covers_none all f.dropped f.open_one.past

  pub placed_begun : (o : Sight) (ended : End) (b : Beginning) → IsAt all n o
      → ArePlaced k all f.dropped ((f.closed ++ record f.open_one { ended = ended } ∷ []) ++ (begun_at f ended b n o.tick).open_one ∷ [])
  placed_begun o ended b at =
      let closed : List Segment = f.closed ++ record f.open_one { ended = ended } ∷ [] in
      let begun : List Segment = (begun_at f ended b n o.tick).open_one ∷ [] in
      all_append _ closed begun (all_append _ f.closed (record f.open_one { ended = ended } ∷ []) closed_placed (open_placed, tt)) (
        subst (λ (c : List Sight). IsPlaced k c n (n + 1)) (sym (ap (λ (s : SegmentView). s.covered) (open_begun all n f dropped o ended b h at)))
            (one_placed k n o at.place),
        tt,
      )

  pub placed_dropped : ArePlaced k all (f.dropped ++ n ∷ []) (f.closed ++ f.open_one ∷ [])
  placed_dropped = all_map _ _ each (f.closed ++ f.open_one ∷ [])
      (all_both (λ s. s.past ≤ n) (λ s. IsPlaced k (covered_between all f.dropped s.first s.past) s.first s.past) (f.closed ++ f.open_one ∷ [])
      (all_append (λ s. s.past ≤ n) f.closed (f.open_one ∷ []) h.closed_before (h.open_before, tt)) p)
    where
      each : (s : Segment) → (s.past ≤ n) × IsPlaced k (covered_between all f.dropped s.first s.past) s.first s.past
          → IsPlaced k (covered_between all (f.dropped ++ n ∷ []) s.first s.past) s.first s.past
      each s w = subst (λ (c : List Sight). IsPlaced k c s.first s.past) (sym (covers_same all f.dropped s.first s.past n w.0)) w.1
