-- The state of a fit after one more observation.
use Rattle.std.proofs.Common.{◌≡◌, ◌≢◌, ◌⊎◌, ℕ, ◌+◌, ◌<◌, ◌≤◌, Bool, false, List, [], ◌∷◌, ◌++◌, refl, sym, ap, subst, inl, inr, ◌∙◌, arith, map, if◌then◌else◌}
use Rattle.std.proofs.lemmas.List.{map-append}
use Rattle.std.specs.Prelude.{ℤ}
use Rattle.std.specs.List.{AllByRecursion}
use Rattle.std.proofs.lemmas.Bool.Decides.{eqb_tells}
use Rattle.sk_decimal.specs.declared.fixed.Fixed.{Fixed}
use Rattle.sk_fit.specs.declared.ending.Beginning.{Beginning}
use Rattle.sk_fit.specs.declared.chain.Segment.{Segment}
use Rattle.sk_fit.specs.declared.chain.End.{End}
use Rattle.sk_publishing.specs.Terms.{Sight, Terms}
use Rattle.sk_line.specs.Triple.{Anchor}
use Rattle.sk_publishing.specs.Chain.{EndView, LastEnd, SegmentView}
use Rattle.sk_publishing.specs.Built.{longer, beginning}
use Rattle.sk_line.proofs.Lists.{all_append, all_map}
use Rattle.sk_publishing.proofs.Steps.{ended_as}
use Rattle.sk_fit.specs.Given.{segment_view, end_view, anchor_of, covered_between}
use Rattle.sk_fit.specs.State.{FittingView, first_from, gone_on, begun_at, dropped_at, front_of, open_of, HasPlaces, IsAt}
use Rattle.sk_fit.proofs.Places.{Gap, is_in, covers_more, covers_none, covers_same, gap_more, no_gap, in_none}

abbrev made : Anchor → ℤ → EndView → List Sight → SegmentView
made anchor rate ended covered = record { anchor = anchor; rate = rate; covered = covered; ended = ended }

-- ---- the places

-- one observation alone
covers_one : (all : List Sight) (n : ℕ) (dropped : List ℕ) (o : Sight) → IsAt all n o → is_in dropped n ≡ false
    → covered_between all dropped n (n + 1) ≡ o ∷ []
covers_one all n dropped o a kept = covers_more all dropped n n n o a (omega arith) (omega arith) (no_gap all dropped n) kept
    ∙ ap (λ (z : List Sight). z ++ o ∷ []) (covers_none all dropped n)

covers_on : (all : List Sight) (n : ℕ) (f : FittingView) (dropped : List Sight) (o : Sight) → HasPlaces all n f dropped → IsAt all n o
    → covered_between all f.dropped (first_from f.open_one n) (n + 1) ≡ covered_between all f.dropped f.open_one.first f.open_one.past ++ o ∷ []
covers_on all n f dropped o h a =
    let kept : is_in f.dropped n ≡ false = in_none f.dropped n h.dropped_before in
    elim (eqb_tells f.open_one.first f.open_one.past) [
      | inl w ↦ ap (λ (b : Bool). covered_between all f.dropped (if b then n else f.open_one.first) (n + 1)) w.0
          ∙ covers_one all n f.dropped o a kept
          ∙ sym (ap (λ (z : List Sight). z ++ o ∷ []) (ap (λ (p : ℕ). covered_between all f.dropped p f.open_one.past) w.1 ∙ covers_none all f.dropped f.open_one.past))
      | inr w ↦ ap (λ (b : Bool). covered_between all f.dropped (if b then n else f.open_one.first) (n + 1)) w.0
          ∙ covers_more all f.dropped f.open_one.first f.open_one.past n o a (let p = h.ordered in let q = h.open_before in omega arith) h.open_before (gap h.gap w.1) kept
    ]
  where
    gap : ((f.open_one.first ≡ f.open_one.past) ⊎ Gap all f.dropped f.open_one.past n) → f.open_one.first ≢ f.open_one.past → Gap all f.dropped f.open_one.past n
    gap (inl e) ne = absurd (ne e)
    gap (inr g) ne = g

pub open_on : (all : List Sight) (n : ℕ) (f : FittingView) (dropped : List Sight) (o : Sight) (rate : Fixed 18) → HasPlaces all n f dropped → IsAt all n o
    → open_of all (gone_on f n o.tick rate) ≡ longer (open_of all f) o rate.units
open_on all n f dropped o rate h a = ap (made (anchor_of f.open_one.anchor) rate.units LastEnd) (covers_on all n f dropped o h a)

pub open_begun : (all : List Sight) (n : ℕ) (f : FittingView) (dropped : List Sight) (o : Sight) (ended : End) (b : Beginning)
    → HasPlaces all n f dropped → IsAt all n o
    → open_of all (begun_at f ended b n o.tick) ≡ beginning (anchor_of b.anchor) o b.rate.units
open_begun all n f dropped o ended b h a =
    ap (made (anchor_of b.anchor) b.rate.units LastEnd) (covers_one all n f.dropped o a (in_none f.dropped n h.dropped_before))

pub front_begun : (t : Terms) (all : List Sight) (n : ℕ) (f : FittingView) (o : Sight) (ended : End) (b : Beginning)
    → front_of all (begun_at f ended b n o.tick) ≡ front_of all f ++ ended_as t (open_of all f) (end_view ended) ∷ []
front_begun t all n f o ended b = map-append (segment_view all f.dropped) f.closed (record f.open_one { ended = ended } ∷ [])

pub open_dropped : (all : List Sight) (n : ℕ) (f : FittingView) (dropped : List Sight) → HasPlaces all n f dropped
    → open_of all (dropped_at f n) ≡ open_of all f
open_dropped all n f dropped h = ap (made (anchor_of f.open_one.anchor) f.open_one.rate.units (end_view f.open_one.ended))
    (covers_same all f.dropped f.open_one.first f.open_one.past n h.open_before)

pub front_dropped : (all : List Sight) (n : ℕ) (f : FittingView) (dropped : List Sight) → HasPlaces all n f dropped
    → front_of all (dropped_at f n) ≡ front_of all f
front_dropped all n f dropped h = each f.closed h.closed_before
  where
    one : (s : Segment) → s.past ≤ n → segment_view all (f.dropped ++ n ∷ []) s ≡ segment_view all f.dropped s
    one s p = ap (made (anchor_of s.anchor) s.rate.units (end_view s.ended)) (covers_same all f.dropped s.first s.past n p)

    each : (xs : List Segment) → AllByRecursion (λ s. s.past ≤ n) xs → map (segment_view all (f.dropped ++ n ∷ [])) xs ≡ map (segment_view all f.dropped) xs
    each [] w = refl
    each (x ∷ xs) w = ap (λ (z : SegmentView). z ∷ map (segment_view all (f.dropped ++ n ∷ [])) xs) (one x w.0)
        ∙ ap (λ (z : List SegmentView). segment_view all f.dropped x ∷ z) (each xs w.1)

weaker_places : (n : ℕ) (xs : List ℕ) → AllByRecursion (λ d. d < n) xs → AllByRecursion (λ d. d < n + 1) xs
weaker_places n xs h = all_map _ _ (λ x l. omega arith) xs h

weaker_segments : (n : ℕ) (xs : List Segment) → AllByRecursion (λ s. s.past ≤ n) xs → AllByRecursion (λ s. s.past ≤ n + 1) xs
weaker_segments n xs h = all_map _ _ (λ x l. omega arith) xs h

pub places_on : (all : List Sight) (n : ℕ) (f : FittingView) (dropped : List Sight) (tick : ℕ) (rate : Fixed 18) → HasPlaces all n f dropped
    → HasPlaces all (n + 1) (gone_on f n tick rate) dropped
places_on all n f dropped tick rate h = record {
  places = h.places;
  dropped_before = weaker_places n f.dropped h.dropped_before;
  closed_before = weaker_segments n f.closed h.closed_before;
  ordered = elim (eqb_tells f.open_one.first f.open_one.past) [
    | inl w ↦ subst (λ (b : Bool). (if b then n else f.open_one.first) ≤ n + 1) (sym w.0) (omega arith)
    | inr w ↦ subst (λ (b : Bool). (if b then n else f.open_one.first) ≤ n + 1) (sym w.0) (let p = h.ordered in let q = h.open_before in omega arith)
  ];
  open_before = omega arith;
  gap = inr (no_gap all f.dropped (n + 1));
}

pub places_begun : (all : List Sight) (n : ℕ) (f : FittingView) (dropped : List Sight) (tick : ℕ) (ended : End) (b : Beginning)
    → HasPlaces all n f dropped → HasPlaces all (n + 1) (begun_at f ended b n tick) dropped
places_begun all n f dropped tick ended b h = record {
  places = h.places;
  dropped_before = weaker_places n f.dropped h.dropped_before;
  closed_before = all_append _ f.closed (record f.open_one { ended = ended } ∷ []) (weaker_segments n f.closed h.closed_before) ((let p = h.open_before in omega arith), tt);
  ordered = omega arith;
  open_before = omega arith;
  gap = inr (no_gap all f.dropped (n + 1));
}

pub places_dropped : (all : List Sight) (n : ℕ) (f : FittingView) (dropped : List Sight) (o : Sight) → o.place ≡ n → HasPlaces all n f dropped
    → HasPlaces all (n + 1) (dropped_at f n) (dropped ++ o ∷ [])
places_dropped all n f dropped o e h = record {
  places = ap (λ (z : List ℕ). z ++ n ∷ []) h.places ∙ ap (λ (m : ℕ). map (λ o. o.place) dropped ++ m ∷ []) (sym e) ∙ sym (map-append (λ (x : Sight). x.place) dropped (o ∷ []));
  dropped_before = all_append _ f.dropped (n ∷ []) (weaker_places n f.dropped h.dropped_before) (omega arith, tt);
  closed_before = weaker_segments n f.closed h.closed_before;
  ordered = h.ordered;
  open_before = (let p = h.open_before in omega arith);
  gap = elim h.gap [ inl e ↦ inl e | inr g ↦ inr (gap_more all f.dropped f.open_one.past n g) ];
}
