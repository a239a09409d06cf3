-- A publication whose triples are claimed goes on from what is built over the first observations.
use Rattle.std.proofs.Common.{◌≡◌, ℕ, ◌<◌, List, [], ◌∷◌, ◌++◌, length, length-append, take, drop, map, refl, sym, ap, subst, ◌∙◌, append_assoc, arith}
use Rattle.std.specs.Prelude.{ℤ, flat_map, None}
use Rattle.std.specs.List.{AllByRecursion}
use Rattle.std.proofs.lemmas.List.{take-append-drop, length-map}
use Rattle.std.proofs.lemmas.List.Concat.{flat_map-append}
use Rattle.sk_publishing.specs.Terms.{Sight, Terms}
use Rattle.sk_line.specs.Triple.{Anchor, TripleView}
use Rattle.sk_publishing.specs.Meets.{Meets}
use Rattle.sk_publishing.specs.Rates.{on_grid}
use Rattle.sk_publishing.specs.Chain.{SegmentView, IsAllowedStep, IsGridRate, IsChain, new_triples}
use Rattle.sk_publishing.specs.Kept.{Sorts, IsPublication}
use Rattle.sk_line.proofs.Lists.{all_front, heads, tails}
use Rattle.sk_publishing.proofs.Bounds.{meets_from, meets_to}
use Rattle.sk_publishing.proofs.Sorting.{sorts_parts, sorts_same, kept_grows}
use Rattle.sk_audit.specs.declared.told.Told.{Told}
use Rattle.sk_audit.specs.Claims.{triple_of}
use Rattle.sk_audit.specs.Given.{anchor_of}
use Rattle.sk_audit.specs.Walking.{WalkView, Tell, open_of}
use Rattle.sk_audit.specs.Walked.{IsWalked}
use Rattle.sk_audit.specs.Scene.{SceneView, terms, all_of}
use Rattle.sk_audit.specs.Evaluated.{IsBetween, IsRefuted, line_triple, late}
use Rattle.sk_audit.proofs.Moves.{some_front, tell_number}
use Rattle.sk_audit.proofs.NewTriples.{told_triples}
use Rattle.sk_audit.proofs.Shared.{Shared, shared}

-- ---- lists of triples

pub cancel : (xs ys zs : List TripleView) → xs ++ ys ≡ xs ++ zs → ys ≡ zs
cancel [] ys zs e = e
cancel (x ∷ xs) ys zs e = cancel xs ys zs (tails x x _ _ e)

one_apart : (xs : List TripleView) (a b : TripleView) (ys zs : List TripleView) → (xs ++ a ∷ []) ++ ys ≡ (xs ++ b ∷ []) ++ zs → a ≡ b
one_apart [] a b ys zs e = heads a b ys zs e
one_apart (x ∷ xs) a b ys zs e = one_apart xs a b ys zs (tails x x _ _ e)

-- the last of these triples is the same
pub late_same : (closed : List Told) (a b : TripleView) (ys zs : List TripleView) → 0 < length closed → late closed a ++ ys ≡ late closed b ++ zs → a ≡ b
late_same [] a b ys zs some e = absurd (omega arith)
late_same (s ∷ closed) a b ys zs some e = one_apart (map triple_of closed) a b ys zs e

-- one segment more
pub late_more : (closed : List Told) (x : Told) (y : TripleView) → late (closed ++ x ∷ []) y ≡ late closed (triple_of x) ++ y ∷ []
late_more [] x y = refl
late_more (s ∷ closed) x y = ap (λ (z : List TripleView). z ++ y ∷ []) (added closed x)
  where
    added : (xs : List Told) (x : Told) → map triple_of (xs ++ x ∷ []) ≡ map triple_of xs ++ triple_of x ∷ []
    added [] x = refl
    added (y ∷ xs) x = ap (λ (z : List TripleView). triple_of y ∷ z) (added xs x)

pub late_number : (closed : List Told) (x : TripleView) → length (late closed x) ≡ length closed
late_number [] x = refl
late_number (s ∷ closed) x = let l = length-append (map triple_of closed) (x ∷ []) in let k = length-map closed triple_of in omega arith

abbrev line_segment : SegmentView → TripleView
line_segment s = record { anchor = s.anchor; rate = s.rate }

abbrev all_lines : List SegmentView → List TripleView
all_lines segments = flat_map (λ (l : SegmentView). record { anchor = l.anchor; rate = l.rate } ∷ []) segments

-- the new triples of segments that go on from those that are told
pub new_of : (closed : List Told) (front : List SegmentView) (s : SegmentView) (later : List SegmentView) → Tell closed front
    → new_triples (front ++ s ∷ later) ≡ late closed (line_segment s) ++ all_lines later
new_of [] [] s later e = refl
new_of [] (f ∷ front) s later e = absurd (let n = tell_number [] (f ∷ front) e in omega arith)
new_of (c ∷ closed) [] s later e = absurd (let n = tell_number (c ∷ closed) [] e in omega arith)
new_of (c ∷ closed) (f ∷ front) s later e =
    flat_map-append (λ (l : SegmentView). line_segment l ∷ []) front (s ∷ later)
    ∙ ap (λ (z : List TripleView). z ++ line_segment s ∷ all_lines later) (sym (told_triples (c ∷ closed) (f ∷ front) e))
    ∙ sym (append_assoc (map triple_of closed) (line_segment s ∷ []) (all_lines later))

-- ---- a publication with these triples

-- The claims go on from what is built, with a rate of the running interval.
pub record Passes (scene : SceneView) (v : WalkView) : Type 0 where
  pub rate : ℤ
  pub more : List TripleView
  pub claimed : scene.claims ≡ late v.closed (line_triple v.anchor rate) ++ more
  pub between : 0 < length v.closed → IsBetween (terms scene) rate v.least v.greatest

module _ (scene : SceneView) (m : ℕ) (v : WalkView) (h : IsWalked (terms scene) scene.rows m v) where
  abbrev t : Terms
  t = terms scene

  -- a publication keeps what is kept, and more
  keeps : (kept dropped : List Sight) → Sorts t (all_of scene) kept dropped → (more : List Sight) × (kept ≡ h.kept ++ more)
  keeps kept dropped sorts =
      let all : List Sight = all_of scene in
      let parts = sorts_parts t (take m all) (drop m all) [] [] kept dropped
      (subst (λ (z : List Sight). Sorts t z kept dropped) (sym (take-append-drop m all)) sorts) in
      let same = sorts_same t (take m all) [] [] parts.0 parts.1 h.kept h.dropped parts.2 h.sorts in
      let grown = kept_grows t (drop m all) parts.0 parts.1 kept dropped parts.3 in
      (grown.0, grown.1 ∙ ap (λ (z : List Sight). z ++ grown.0) same.0)

  rated : (chain : List SegmentView) (s : Shared t chain h.walk.front (anchor_of v.anchor) h.walk.covered) → 0 < length v.closed
      → IsBetween t s.ongoing.rate v.least v.greatest
  rated chain s some =
      let some' : 0 < length h.walk.front = some_front v.closed h.walk.front h.walk.tells some in
      let i = h.walk.built.interval some' in
      let grid : IsGridRate t s.ongoing.rate = s.on_grid some' in
      let a : Anchor = anchor_of v.anchor in
      let met : AllByRecursion (Meets t.gauge a (on_grid t.gauge.rate_decimals grid.0)) h.walk.covered =
      subst (λ (r : ℤ). AllByRecursion (Meets t.gauge a r) h.walk.covered) grid.2
      (subst (λ (x : Anchor). AllByRecursion (Meets t.gauge x s.ongoing.rate) h.walk.covered) s.anchored
      (all_front _ h.walk.covered s.more (subst (AllByRecursion (Meets t.gauge s.ongoing.anchor s.ongoing.rate)) s.covers s.met))) in
      record {
        step = grid.0;
        is = grid.2;
        from = meets_from (IsAllowedStep t) t.gauge a h.walk.covered h.walk.low v.least grid.0 i.is_low grid.1 met;
        to = meets_to (IsAllowedStep t) t.gauge a h.walk.covered h.walk.high v.greatest grid.0 i.is_high grid.1 met;
      }

  passes : (dropped : List Sight) (chain : List SegmentView) → IsPublication t (all_of scene) dropped chain → new_triples chain ≡ scene.claims → Passes scene v
  passes dropped chain p e =
      let k = keeps p.kept dropped p.sorts in
      let s = shared t h.kept k.0 h.walk.front (open_of v h.walk.covered) chain h.walk.built.covers h.walk.built.chain
      (subst (λ (z : List Sight). IsChain t z None chain) k.1 p.is_chain) in
      record {
        rate = s.ongoing.rate;
        more = all_lines s.later;
        claimed = sym e ∙ ap new_triples s.is ∙ new_of v.closed h.walk.front s.ongoing s.later h.walk.tells
            ∙ ap (λ (x : Anchor). late v.closed (record { anchor = x; rate = s.ongoing.rate }) ++ all_lines s.later) s.anchored;
        between = rated chain s;
      }

  -- where the claims cannot go on so, no publication has them
  pub refuted_by : (Passes scene v → ⊥) → IsRefuted scene
  refuted_by none dropped chain p e = none (passes dropped chain p e)
