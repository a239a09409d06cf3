-- What a publication of all observations shares with what is built over the first ones: it goes on from it.
use Rattle.std.proofs.Common.{◌≡◌, ◌<◌, List, [], ◌∷◌, ◌++◌, length, refl, sym, ap, subst, ◌∙◌, append_assoc, append-nil, arith}
use Rattle.std.specs.Prelude.{ℤ, Option, Some, None}
use Rattle.std.specs.List.{AllByRecursion}
use Rattle.sk_publishing.specs.Terms.{Sight, Terms, partition_at}
use Rattle.sk_line.specs.Triple.{Anchor}
use Rattle.sk_publishing.specs.Meets.{Meets}
use Rattle.sk_publishing.specs.Rates.{IsMiddleRate}
use Rattle.sk_publishing.specs.Chain.{SegmentView, IsAllowedStep, covered_by, first_or, EachFollowed, FirstAndLater, EachJoined, IsInPartition, IsOldRate, IsGridRate, HasRate, IsMaximal, IsFixed, IsBlocked, IsEnded, anchor_due, IsChain, BeginsWithOld, LaterCover}
use Rattle.sk_line.proofs.Lists.{all_front, all_back, all_append, Same, First_ends, Second_ends, fronts, heads, tails}
use Rattle.sk_publishing.proofs.Chains.{chain_extends, due_of, starts}
use Rattle.sk_publishing.proofs.Sorting.{covered-append}
use Rattle.sk_publishing.proofs.Steps.{split}

-- ---- lists

same_rest : (xs ys zs : List Sight) → xs ++ ys ≡ xs ++ zs → ys ≡ zs
same_rest [] ys zs e = e
same_rest (x ∷ xs) ys zs e = same_rest xs ys zs (tails x x _ _ e)

begins_with : (xs ys zs : List Sight) (o : Sight) → 0 < length xs → xs ++ ys ≡ o ∷ zs → (m : List Sight) × (xs ≡ o ∷ m)
begins_with [] ys zs o h e = absurd (omega arith)
begins_with (x ∷ xs) ys zs o h e = (xs, ap (λ (z : Sight). z ∷ xs) (heads x o _ _ e))

joined_at : (R : SegmentView → SegmentView → Type 0) (front : List SegmentView) (s c : SegmentView) (back : List SegmentView)
    → EachJoined R ((front ++ s ∷ []) ++ c ∷ back) → R s c
joined_at R [] s c back h = h.0
joined_at R (x ∷ []) s c back h = h.1.0
joined_at R (x ∷ y ∷ front) s c back h = joined_at R (y ∷ front) s c back h.1

joined_front : (R : SegmentView → SegmentView → Type 0) (ys : List SegmentView) (x : SegmentView) → EachJoined R (ys ++ x ∷ []) → EachJoined R ys
joined_front R [] x h = tt
joined_front R (y ∷ []) x h = tt
joined_front R (y ∷ z ∷ ys) x h = (h.0, joined_front R (z ∷ ys) x h.1)

followed_at : (P : SegmentView → Option Sight → Type 0) (front : List SegmentView) (c : SegmentView) (back : List SegmentView) (next : Option Sight)
    → EachFollowed P (front ++ c ∷ back) next → P c (first_or (covered_by back) next)
followed_at P [] c back next h = h.0
followed_at P (x ∷ front) c back next h = followed_at P front c back next h.1

later_cover_at : (front : List SegmentView) (last c : SegmentView) (back : List SegmentView)
    → LaterCover ((front ++ last ∷ []) ++ c ∷ back) → 0 < length c.covered
later_cover_at [] last c back h = h.0
later_cover_at (x ∷ front) last c back h = (all_back (λ (l : SegmentView). 0 < length l.covered) (front ++ last ∷ []) (c ∷ back) h).0

later_fact_at : (P Q : SegmentView → Option Sight → Type 0) (front : List SegmentView) (last c : SegmentView) (back : List SegmentView) (next : Option Sight)
    → FirstAndLater P Q ((front ++ last ∷ []) ++ c ∷ back) next → Q c (first_or (covered_by back) next)
later_fact_at P Q [] last c back next h = h.1.0
later_fact_at P Q (x ∷ front) last c back next h = followed_at Q (front ++ last ∷ []) c back next h.1

begins_front : (t : Terms) (fr : List SegmentView) (b x : SegmentView) → BeginsWithOld t ((fr ++ b ∷ []) ++ x ∷ []) → BeginsWithOld t (fr ++ b ∷ [])
begins_front t [] b x h = h
begins_front t (y ∷ fr) b x h = h

cover_front : (fr : List SegmentView) (b x : SegmentView) → LaterCover ((fr ++ b ∷ []) ++ x ∷ []) → LaterCover (fr ++ b ∷ [])
cover_front [] b x h = tt
cover_front (y ∷ fr) b x h = all_front _ (fr ++ b ∷ []) (x ∷ []) h

unfollowed : (P Q : SegmentView → Type 0) (ys : List SegmentView) (n n' : Option Sight)
    → FirstAndLater (λ s _. P s) (λ s _. Q s) ys n → FirstAndLater (λ s _. P s) (λ s _. Q s) ys n'
unfollowed P Q [] n n' h = tt
unfollowed P Q (y ∷ ys) n n' h = (h.0, later ys n n' h.1)
  where
    later : (ys : List SegmentView) (n n' : Option Sight) → EachFollowed (λ s _. Q s) ys n → EachFollowed (λ s _. Q s) ys n'
    later [] n n' h = tt
    later (y ∷ ys) n n' h = (h.0, later ys n n' h.1)

-- a list that is not empty has a last one
last_apart : (x : SegmentView) (xs : List SegmentView) → (fr : List SegmentView) × (b : SegmentView) × (x ∷ xs ≡ fr ++ b ∷ [])
last_apart x [] = ([], x, refl)
last_apart x (y ∷ xs) = let r = last_apart y xs in (x ∷ r.0, r.1, ap (λ (z : List SegmentView). x ∷ z) r.2)

-- ---- what is shared

-- The chain goes on from these segments with one that begins at this anchor and covers these observations.
pub record Shared (t : Terms) (chain front : List SegmentView) (anchor : Anchor) (covered : List Sight) : Type 0 where
  pub ongoing : SegmentView
  pub later : List SegmentView
  pub more : List Sight
  pub is : chain ≡ front ++ ongoing ∷ later
  pub anchored : ongoing.anchor ≡ anchor
  pub covers : ongoing.covered ≡ covered ++ more
  pub met : AllByRecursion (Meets t.gauge ongoing.anchor ongoing.rate) ongoing.covered
  pub on_grid : 0 < length front → IsGridRate t ongoing.rate

module _ (t : Terms) where
  -- a run goes on as long as an allowed rate meets it
  goes_on : (allowed : ℤ → Type 0) (a b : SegmentView) (o : Sight) (m : List Sight) (na : Option Sight)
      → a.anchor ≡ b.anchor → b.covered ≡ a.covered ++ o ∷ m → na ≡ Some o
      → AllByRecursion (IsInPartition t b) b.covered → HasRate allowed t b → IsMaximal allowed t a na → ⊥
  goes_on allowed a b o m na same longer next partition rate maximal =
      let stays : AllByRecursion (IsInPartition t b) (a.covered ++ o ∷ m) = subst (AllByRecursion (IsInPartition t b)) longer partition in
      let here : IsInPartition t a o = (all_back _ a.covered (o ∷ m) stays).0 ∙ ap (λ (x : Anchor). partition_at t x.ticks) (sym same) in
      let meets : AllByRecursion (Meets t.gauge b.anchor b.rate) (a.covered ++ o ∷ m) = subst (AllByRecursion (Meets t.gauge b.anchor b.rate)) longer rate.1 in
      let fewer : AllByRecursion (Meets t.gauge b.anchor b.rate) (a.covered ++ o ∷ []) =
      all_append _ a.covered (o ∷ []) (all_front _ a.covered (o ∷ m) meets) ((all_back _ a.covered (o ∷ m) meets).0, tt) in
      let moved : AllByRecursion (Meets t.gauge a.anchor b.rate) (a.covered ++ o ∷ []) =
      subst (λ (x : Anchor). AllByRecursion (Meets t.gauge x b.rate) (a.covered ++ o ∷ [])) (sym same) fewer in
      let ended : IsMaximal allowed t a (Some o) = subst (IsMaximal allowed t a) next maximal in
      ended here b.rate rate.0 moved

  -- the run of a segment that can end nowhere sooner
  run_longer : (allowed : ℤ → Type 0) (s last : SegmentView) (back more : List Sight) → s.anchor ≡ last.anchor
      → s.covered ++ back ≡ last.covered ++ more → AllByRecursion (IsInPartition t last) last.covered → HasRate allowed t last
      → IsMaximal allowed t s (first_or back None) → (rest : List Sight) × (s.covered ≡ last.covered ++ rest)
  run_longer allowed s last back more same joined partition rate maximal = elim (fronts s.covered back last.covered more joined) [
    | Same p q ↦ ([], p ∙ sym (append-nil last.covered))
    | First_ends o m p q ↦ absurd (goes_on allowed s last o m (first_or back None) same p (ap (λ (z : List Sight). first_or z None) q) partition rate maximal)
    | Second_ends o m p q ↦ (o ∷ m, p)
  ]

  -- the first segment
  shared_first : (kept more : List Sight) (last : SegmentView) (chain : List SegmentView) → IsChain t kept None (last ∷ []) → IsChain t (kept ++ more) None chain
      → Shared t chain [] last.anchor last.covered
  shared_first kept more last [] p q = absurd q.runs.begins
  shared_first kept more last (b ∷ later) p q =
      let anchor : b.anchor ≡ last.anchor = q.runs.begins.0 ∙ sym p.runs.begins.0 in
      let joined : b.covered ++ covered_by later ≡ last.covered ++ more =
      q.runs.joined ∙ ap (λ (z : List Sight). z ++ more) (sym p.runs.joined ∙ append-nil last.covered) in
      let longer = run_longer (IsOldRate t) b last (covered_by later) more anchor joined p.partition.0 p.meets.0 q.maximal.0 in
      record {
        ongoing = b;
        later = later;
        more = longer.0;
        is = refl;
        anchored = anchor;
        covers = longer.1;
        met = q.meets.0.1;
        on_grid = λ some. absurd (omega arith);
      }

  -- the segments before the last one are a chain so far at its first observation
  so_far : (kept m : List Sight) (o : Sight) (fr : List SegmentView) (b last : SegmentView) → last.covered ≡ o ∷ m
      → IsChain t kept None ((fr ++ b ∷ []) ++ last ∷ []) → IsChain t (covered_by (fr ++ b ∷ [])) (Some o) (fr ++ b ∷ [])
  so_far kept m o fr b last e p =
      let front : List SegmentView = fr ++ b ∷ [] in
      let next : first_or last.covered None ≡ Some o = ap (λ (z : List Sight). first_or z None) e in
      record {
        runs = record { begins = begins_front t fr b last p.runs.begins; joined = refl; later = cover_front fr b last p.runs.later };
        partition = all_front _ front (last ∷ []) p.partition;
        meets = unfollowed (HasRate (IsOldRate t) t) (HasRate (IsGridRate t) t) front (first_or last.covered None) None
            (split (λ s _. HasRate (IsOldRate t) t s) (λ s _. HasRate (IsGridRate t) t s) front last None p.meets).0;
        anchor_within = joined_front _ front last p.anchor_within;
        anchor_anew = joined_front _ front last p.anchor_anew;
        past_anchor = joined_front _ front last p.past_anchor;
        middle = unfollowed (λ _. Unit {0}) (λ s. IsMiddleRate (IsAllowedStep t) t.gauge s.anchor s.covered s.rate) front (first_or last.covered None) None
            (split (λ _ _. Unit {0}) (λ s _. IsMiddleRate (IsAllowedStep t) t.gauge s.anchor s.covered s.rate) front last None p.middle).0;
        maximal = subst (FirstAndLater (IsMaximal (IsOldRate t) t) (IsMaximal (IsGridRate t) t) front) next
            (split (IsMaximal (IsOldRate t) t) (IsMaximal (IsGridRate t) t) front last None p.maximal).0;
        ends = subst (FirstAndLater (IsEnded IsFixed t) (IsEnded IsBlocked t) front) next
            (split (IsEnded IsFixed t) (IsEnded IsBlocked t) front last None p.ends).0;
      }

  -- the anchor that is due for a segment behind another one
  due_at : (fr : List SegmentView) (b c : SegmentView) (back : List SegmentView) (o : Sight) (m kept : List Sight) → c.covered ≡ o ∷ m
      → IsChain t kept None ((fr ++ b ∷ []) ++ c ∷ back) → c.anchor ≡ anchor_due t b o
  due_at fr b c back o m kept e p = due_of t b c o m e (joined_at _ fr b c back p.anchor_within) (joined_at _ fr b c back p.anchor_anew)

  shared_tail : (kept all m rest : List Sight) (o : Sight) (fr : List SegmentView) (b last : SegmentView) (cs : List SegmentView) → last.covered ≡ o ∷ m
      → all ≡ covered_by (fr ++ b ∷ []) ++ (last.covered ++ rest)
      → IsChain t kept None ((fr ++ b ∷ []) ++ last ∷ []) → IsChain t all None ((fr ++ b ∷ []) ++ cs)
      → Shared t ((fr ++ b ∷ []) ++ cs) (fr ++ b ∷ []) last.anchor last.covered
  shared_tail kept all m rest o fr b last [] e all_is p q =
      let joined : covered_by (fr ++ b ∷ []) ++ [] ≡ covered_by (fr ++ b ∷ []) ++ (last.covered ++ rest) =
      sym (covered-append (fr ++ b ∷ []) []) ∙ q.runs.joined ∙ all_is in
      let none : [] ≡ last.covered ++ rest = same_rest (covered_by (fr ++ b ∷ [])) [] (last.covered ++ rest) joined in
      absurd (let l = ap length (none ∙ ap (λ (z : List Sight). z ++ rest) e) in omega arith)
  shared_tail kept all m rest o fr b last (s ∷ later) e all_is p q =
      let front : List SegmentView = fr ++ b ∷ [] in
      let joined : covered_by front ++ (s.covered ++ covered_by later) ≡ covered_by front ++ (last.covered ++ rest) =
      sym (covered-append front (s ∷ later)) ∙ q.runs.joined ∙ all_is in
      let runs : s.covered ++ covered_by later ≡ last.covered ++ rest = same_rest (covered_by front) _ _ joined in
      let begin = begins_with s.covered (covered_by later) (m ++ rest) o (later_cover_at fr b s later q.runs.later) (runs ∙ ap (λ (z : List Sight). z ++ rest) e) in
      let anchor : s.anchor ≡ last.anchor = due_at fr b s later o begin.0 all begin.1 q ∙ sym (due_at fr b last [] o m kept e p) in
      let partition : AllByRecursion (IsInPartition t last) last.covered = (all_back (λ (x : SegmentView). AllByRecursion (IsInPartition t x) x.covered) front (last ∷ []) p.partition).0 in
      let rate : HasRate (IsGridRate t) t last = later_fact_at (λ x _. HasRate (IsOldRate t) t x) (λ x _. HasRate (IsGridRate t) t x) fr b last [] None p.meets in
      let rate' : HasRate (IsGridRate t) t s = later_fact_at (λ x _. HasRate (IsOldRate t) t x) (λ x _. HasRate (IsGridRate t) t x) fr b s later None q.meets in
      let longer = run_longer (IsGridRate t) s last (covered_by later) rest anchor runs partition rate
      (later_fact_at (IsMaximal (IsOldRate t) t) (IsMaximal (IsGridRate t) t) fr b s later None q.maximal) in
      record {
        ongoing = s;
        later = later;
        more = longer.0;
        is = refl;
        anchored = anchor;
        covers = longer.1;
        met = rate'.1;
        on_grid = λ _. rate'.0;
      }

  shared_later : (kept more : List Sight) (fr : List SegmentView) (b last : SegmentView) (chain : List SegmentView) → 0 < length last.covered
      → IsChain t kept None ((fr ++ b ∷ []) ++ last ∷ []) → IsChain t (kept ++ more) None chain → Shared t chain (fr ++ b ∷ []) last.anchor last.covered
  shared_later kept more fr b last chain some p q =
      let front : List SegmentView = fr ++ b ∷ [] in
      let first = starts last.covered some in
      let kept_is : kept ≡ covered_by front ++ last.covered =
      sym p.runs.joined ∙ covered-append front (last ∷ []) ∙ ap (λ (z : List Sight). covered_by front ++ z) (append-nil last.covered) in
      let all_is : kept ++ more ≡ covered_by front ++ (last.covered ++ more) =
      ap (λ (z : List Sight). z ++ more) kept_is ∙ append_assoc (covered_by front) last.covered more in
      let all_is' : kept ++ more ≡ covered_by front ++ (first.0 ∷ (first.1 ++ more)) = all_is ∙ ap (λ (z : List Sight). covered_by front ++ (z ++ more)) first.2 in
      let ext = chain_extends t front chain (covered_by front) (first.0 ∷ (first.1 ++ more)) (Some first.0) None refl
      (so_far kept first.1 first.0 fr b last first.2 p) (subst (λ (z : List Sight). IsChain t z None chain) all_is' q) in
      subst (λ (c : List SegmentView). Shared t c front last.anchor last.covered) (sym ext.1)
      (shared_tail kept (kept ++ more) first.1 more first.0 fr b last ext.0 first.2 all_is p
      (subst (IsChain t (kept ++ more) None) ext.1 q))

  pub shared : (kept more : List Sight) (front : List SegmentView) (last : SegmentView) (chain : List SegmentView) → (0 < length front → 0 < length last.covered)
      → IsChain t kept None (front ++ last ∷ []) → IsChain t (kept ++ more) None chain → Shared t chain front last.anchor last.covered
  shared kept more [] last chain some p q = shared_first kept more last chain p q
  shared kept more (f ∷ fs) last chain some p q =
      let r = last_apart f fs in
      subst (λ (z : List SegmentView). Shared t chain z last.anchor last.covered) (sym r.2)
      (shared_later kept more r.0 r.1 last chain (some (omega arith)) (subst (λ (z : List SegmentView). IsChain t kept None (z ++ last ∷ [])) r.2 p) q)
