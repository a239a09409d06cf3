-- The hull of a run with one observation more.
use Rattle.std.proofs.Common.{◌≡◌, ◌⊎◌, ℕ, ◌<◌, ◌≤◌, List, [], ◌∷◌, ◌++◌, length, take, drop, Option, Some, None, refl, sym, ap, subst, inl, inr, arith, ◌∙◌, append_assoc, length-append}
use Rattle.std.proofs.lemmas.List.{take-append-drop}
use Rattle.std.specs.List.{AllByRecursion}
use Rattle.sk_publishing.specs.Terms.{Sight}
use Rattle.sk_line.proofs.Lists.{all_front, all_back, all_append, all_map, all_both}
use Rattle.sk_least.specs.Cover.{StandsBefore}
use Rattle.sk_least.specs.Hull.{IsEarlier, EachPair, IsLessSteep, IsNoSteeper, GivesWay, HasOver, IsConvex, IsSteepestAt, AreHidden, IsIn, IsBeaten, Loses, IsBest, IsHullOf, IsSteeperOf}
use Rattle.sk_least.specs.declared.pair.Pair.{Pair}
use Rattle.sk_least.proofs.Turns.{no_steeper_through, less_steep_through, no_steeper_less, less_is_no_steeper, same_steep, way_no_steeper, way_same, way_through, over_left, over_right, over_elim, over_through, pairs_front, pairs_back, pairs_push, pairs_map, pairs_both}
use Rattle.sk_least.proofs.Sides.{over_split}

-- ---- members

in_left : (xs : List Sight) (p o : Sight) → IsIn xs o → IsIn (xs ++ p ∷ []) o
in_left [] p o h = absurd h
in_left (x ∷ xs) p o (inl e) = inl e
in_left (x ∷ xs) p o (inr h) = inr (in_left xs p o h)

in_last : (xs : List Sight) (p : Sight) → IsIn (xs ++ p ∷ []) p
in_last [] p = inl refl
in_last (x ∷ xs) p = inr (in_last xs p)

pub in_all : (P : Sight → Type 0) (xs : List Sight) (o : Sight) → AllByRecursion P xs → IsIn xs o → P o
in_all P [] o k h = absurd h
in_all P (x ∷ xs) o k (inl e) = subst P (sym e) k.0
in_all P (x ∷ xs) o k (inr h) = in_all P xs o k.1 h

in_split : (xs : List Sight) (o : Sight) → IsIn xs o → (front : List Sight) × (back : List Sight) × (xs ≡ front ++ o ∷ back)
in_split [] o h = absurd h
in_split (x ∷ xs) o (inl e) = ([], xs, ap (λ (y : Sight). y ∷ xs) (sym e))
in_split (x ∷ xs) o (inr h) = let r = in_split xs o h in (x ∷ r.0, r.1, ap (λ (ys : List Sight). x ∷ ys) r.2)

last_pair : (xs : List Sight) (o p : Sight) → IsIn xs o → StandsBefore (xs ++ p ∷ []) o p
last_pair xs o p h =
    let r = in_split xs o h in
    (r.0, r.1, [], ap (λ (ys : List Sight). ys ++ p ∷ []) r.2 ∙ append_assoc r.0 (o ∷ r.1) (p ∷ []))

pair_more : (xs : List Sight) (p i j : Sight) → StandsBefore xs i j → StandsBefore (xs ++ p ∷ []) i j
pair_more xs p i j h = (
  h.0,
  h.1,
  h.2 ++ p ∷ [],
  ap (λ (ys : List Sight). ys ++ p ∷ []) h.3
      ∙ append_assoc h.0 (i ∷ (h.1 ++ j ∷ h.2)) (p ∷ [])
      ∙ ap (λ (ys : List Sight). h.0 ++ i ∷ ys) (append_assoc h.1 (j ∷ h.2) (p ∷ [])),
)

-- what holds of each pair holds of this one
pub pairs_at : (R : Sight → Sight → Type 0) (run : List Sight) (i j : Sight) → EachPair R run → StandsBefore run i j → R i j
pairs_at R run i j h s =
    let cut = pairs_back R s.0 (i ∷ (s.1 ++ j ∷ s.2)) (subst (EachPair R) s.3 h) in
    (all_back (R i) s.1 (j ∷ s.2) cut.0).0

-- the later one of a pair is in the list
later_in : (P : Sight → Type 0) (run : List Sight) (i j : Sight) → AllByRecursion P run → StandsBefore run i j → P j
later_in P run i j h s = (all_back P s.1 (j ∷ s.2) ((all_back P s.0 (i ∷ (s.1 ++ j ∷ s.2)) (subst (AllByRecursion P) s.3 h)).1)).0

-- ---- the pair that is kept

module _ (w : ℕ) (run : List Sight) (best : Option Pair) (top next : Sight) (m : Pair)
    (rising : EachPair IsEarlier run) (before : AllByRecursion (λ x. IsEarlier x next) run) (inside : IsIn run top)
    (is_best : IsBest w run best) (steeper : IsSteeperOf w best (record { from = top; to = next }) m) where
  top_before : top.tick < next.tick
  top_before = (in_all (λ x. IsEarlier x next) run top before inside).tick

  -- it is at least as steep as the new pair
  pub new_no_steeper : IsNoSteeper w top next m.from m.to
  new_no_steeper = by best steeper
    where
      by : (best : Option Pair) → IsSteeperOf w best (record { from = top; to = next }) m → IsNoSteeper w top next m.from m.to
      by None s = subst (λ (x : Pair). IsNoSteeper w top next x.from x.to) (sym s) (same_steep w top next)
      by (Some b) (inl s) = subst (λ (x : Pair). IsNoSteeper w top next x.from x.to) (sym s.0) (same_steep w top next)
      by (Some b) (inr s) = subst (λ (x : Pair). IsNoSteeper w top next x.from x.to) (sym s.0) s.1

  -- and as the old one
  pub still_beaten : (x p : Sight) → IsBeaten w best x p → IsNoSteeper w x p m.from m.to
  still_beaten x p = by best is_best steeper
    where
      by : (best : Option Pair) → IsBest w run best → IsSteeperOf w best (record { from = top; to = next }) m → IsBeaten w best x p → IsNoSteeper w x p m.from m.to
      by None i s h = absurd h
      by (Some b) i (inl s) h = subst (λ (y : Pair). IsNoSteeper w x p y.from y.to) (sym s.0)
          (no_steeper_through w x p b.from b.to top next (pairs_at IsEarlier run b.from b.to rising i.0).tick h (less_is_no_steeper w b.from b.to top next s.1))
      by (Some b) i (inr s) h = subst (λ (y : Pair). IsNoSteeper w x p y.from y.to) (sym s.0) h

  pub kept_pair : StandsBefore (run ++ next ∷ []) m.from m.to
  kept_pair = by best is_best steeper
    where
      new : m ≡ record { from = top; to = next } → StandsBefore (run ++ next ∷ []) m.from m.to
      new e = subst (λ (y : Pair). StandsBefore (run ++ next ∷ []) y.from y.to) (sym e) (last_pair run top next inside)

      by : (best : Option Pair) → IsBest w run best → IsSteeperOf w best (record { from = top; to = next }) m → StandsBefore (run ++ next ∷ []) m.from m.to
      by None i s = new s
      by (Some b) i (inl s) = new s.0
      by (Some b) i (inr s) = subst (λ (y : Pair). StandsBefore (run ++ next ∷ []) y.from y.to) (sym s.0) (pair_more run next b.from b.to i.0)

  -- earlier pairs lose to it
  pub old_lose : EachPair (Loses w m) run
  old_lose = by best is_best steeper
    where
      none : (run : List Sight) → length run ≤ 1 → EachPair (Loses w m) run
      none [] h = tt
      none (x ∷ []) h = (tt, tt)
      none (x ∷ y ∷ run) h = absurd (omega arith)

      by : (best : Option Pair) → IsBest w run best → IsSteeperOf w best (record { from = top; to = next }) m → EachPair (Loses w m) run
      by None i s = none run i
      by (Some b) i (inl s) = pairs_map (λ x y. IsEarlier x y × Loses w b x y) (Loses w m) (λ x y h. subst (λ (z : Pair). Loses w z x y) (sym s.0) (inl (lower x y h.0.tick h.1))) run (pairs_both IsEarlier (Loses w b) run rising i.1)
        where
          lower : (x y : Sight) → x.tick < y.tick → Loses w b x y → IsLessSteep w x y top next
          lower x y e (inl h) = less_steep_through w x y b.from b.to top next top_before h (less_is_no_steeper w b.from b.to top next s.1)
          lower x y e (inr h) = no_steeper_less w x y b.from b.to top next e h.0 s.1
      by (Some b) i (inr s) = subst (λ (z : Pair). EachPair (Loses w z) run) (sym s.0) i.1

  -- a pair with the next one loses to it
  pub new_loses : (x : Sight) → x.tick < next.tick → IsBeaten w best x next ⊎ GivesWay w next x top → Loses w m x next
  new_loses x e = by best is_best steeper
    where
      new : m ≡ record { from = top; to = next } → GivesWay w next x top → Loses w m x next
      new f (inl h) = subst (λ (z : Pair). Loses w z x next) (sym f) (inl h)
      new f (inr h) = subst (λ (z : Pair). Loses w z x next) (sym f) (inr (h.0, inr (refl, h.1)))

      by : (best : Option Pair) → IsBest w run best → IsSteeperOf w best (record { from = top; to = next }) m → IsBeaten w best x next ⊎ GivesWay w next x top → Loses w m x next
      by None i s (inl h) = absurd h
      by None i s (inr h) = new s h
      by (Some b) i (inl s) (inl h) = subst (λ (z : Pair). Loses w z x next) (sym s.0) (inl (no_steeper_less w x next b.from b.to top next e h s.1))
      by (Some b) i (inl s) (inr h) = new s.0 h
      by (Some b) i (inr s) h = subst (λ (z : Pair). Loses w z x next) (sym s.0) (inr (no_steeper h, inl (later_in (λ o. IsEarlier o next) run b.from b.to before i.0).place))
        where
          no_steeper : IsBeaten w (Some b) x next ⊎ GivesWay w next x top → IsNoSteeper w x next b.from b.to
          no_steeper (inl h) = h
          no_steeper (inr h) = no_steeper_through w x next top next b.from b.to top_before (way_no_steeper w next x top h) s.1

-- ---- one observation more

-- all of the hull give way to the steepest
hull_ways : (w : ℕ) (hull : List Sight) (next : Sight) (place : ℕ) (s : IsSteepestAt w hull next place) → AllByRecursion (λ x. GivesWay w next x s.top) hull
hull_ways w hull next place s = subst (AllByRecursion (λ x. GivesWay w next x s.top)) (ap (λ (xs : List Sight). take place hull ++ xs) (sym s.here) ∙ take-append-drop place hull)
    (all_append _ (take place hull) (s.top ∷ s.rest) s.climbed.first (way_same w next s.top, s.others))

-- what is known of each of the run
abbrev Held : ℕ → List Sight → List Sight → Option Pair → Sight → Type 0
Held w run hull best x = (p : Sight) → AllByRecursion (λ o. IsEarlier o p) run → IsBeaten w best x p ⊎ HasOver w p x hull

pub one_more : (w : ℕ) (run hull : List Sight) (best : Option Pair) (next : Sight) (place count : ℕ) (m : Pair)
    → EachPair IsEarlier run → AllByRecursion (λ x. IsEarlier x next) run → IsHullOf w run hull best
    → (s : IsSteepestAt w hull next place) → AreHidden (drop place hull) next count → IsConvex (take count (drop place hull) ++ next ∷ [])
    → IsSteeperOf w best (record { from = s.top; to = next }) m
    → IsHullOf w (run ++ next ∷ []) (take count (drop place hull) ++ next ∷ []) (Some m)
one_more w run hull best next place count m rising before h s hid convex steeper = record {
  rising = pairs_push IsEarlier (take count (drop place hull)) next (pairs_front IsEarlier (take count (drop place hull)) _ (subst (EachPair IsEarlier) (sym (take-append-drop count (drop place hull))) live_rising))
      (of_kept (λ x. IsEarlier x next) (all_map (IsIn run) (λ x. IsEarlier x next) (λ x i. in_all (λ o. IsEarlier o next) run x before i) hull h.from_run));
  convex = convex;
  some = subst (λ (n : ℕ). 0 < n) (sym (length-append (take count (drop place hull)) (next ∷ []))) (omega arith);
  from_run = all_append (IsIn (run ++ next ∷ [])) (take count (drop place hull)) (next ∷ []) (of_kept (IsIn (run ++ next ∷ [])) (all_map (IsIn run) (IsIn (run ++ next ∷ [])) (λ x i. in_left run next x i) hull h.from_run)) (in_last run next, tt);
  holds = all_append (Held w (run ++ next ∷ []) (take count (drop place hull) ++ next ∷ []) (Some m)) run (next ∷ []) (all_map (λ x. IsEarlier x next × Held w run hull best x) (Held w (run ++ next ∷ []) (take count (drop place hull) ++ next ∷ []) (Some m)) (λ x t p after. held x p (t.0).tick (all_front (λ o. IsEarlier o p) run (next ∷ []) after) ((all_back (λ o. IsEarlier o p) run (next ∷ []) after).0).tick (t.1 p (all_front (λ o. IsEarlier o p) run (next ∷ []) after))) run (all_both _ (Held w run hull best) run before h.holds))
      ((λ p after. inr (over_right w p next (take count (drop place hull)) (next ∷ []) (inl (way_same w p next)))), tt);
  is_best = (
    kept_pair w run best s.top next m rising before top_in h.is_best steeper,
    pairs_push (Loses w m) run next (old_lose w run best s.top next m rising before top_in h.is_best steeper)
        (all_map (λ x. IsEarlier x next × Held w run hull best x) (λ x. Loses w m x next) (λ x t. new_loses w run best s.top next m rising before top_in h.is_best steeper x (t.0).tick (beaten_or x (t.0).tick (t.1 next before))) run (all_both _ (Held w run hull best) run before h.holds)),
  );
}
  where
    whole : take place hull ++ drop place hull ≡ hull
    whole = take-append-drop place hull

    of_live : (P : Sight → Type 0) → AllByRecursion P hull → AllByRecursion P (drop place hull)
    of_live P k = all_back P (take place hull) (drop place hull) (subst (AllByRecursion P) (sym whole) k)

    of_kept : (P : Sight → Type 0) → AllByRecursion P hull → AllByRecursion P (take count (drop place hull))
    of_kept P k = all_front P (take count (drop place hull)) (drop count (drop place hull)) (subst (AllByRecursion P) (sym (take-append-drop count (drop place hull))) (of_live P k))

    live_rising : EachPair IsEarlier (drop place hull)
    live_rising = pairs_back IsEarlier (take place hull) (drop place hull) (subst (EachPair IsEarlier) (sym whole) h.rising)

    early : AllByRecursion (λ x. x.tick < next.tick) hull
    early = all_map (IsIn run) (λ x. x.tick < next.tick) (λ x i. (in_all (λ o. IsEarlier o next) run x before i).tick) hull h.from_run

    top_in : IsIn run s.top
    top_in = (subst (AllByRecursion (IsIn run)) s.here (of_live (IsIn run) h.from_run)).0

    top_early : s.top.tick < next.tick
    top_early = (in_all (λ o. IsEarlier o next) run s.top before top_in).tick

    beaten_or : (x : Sight) → x.tick < next.tick → IsBeaten w best x next ⊎ HasOver w next x hull → IsBeaten w best x next ⊎ GivesWay w next x s.top
    beaten_or x e (inl b) = inl b
    beaten_or x e (inr over) = inr (over_elim w next x (λ y. y.tick < next.tick × GivesWay w next y s.top) hull (all_both _ _ hull early (hull_ways w hull next place s))
        (λ y k way. way_through w next x y s.top e k.0 top_early way k.1) over)

    -- what gives way to one of the (drop place hull) ones gives way to one that is (take count (drop place hull)), or to the next
    live_over : (x p : Sight) → x.tick < p.tick → next.tick < p.tick → HasOver w p x (drop place hull) → HasOver w p x ((take count (drop place hull)) ++ next ∷ [])
    live_over x p i j over = elim (over_split w p x (take count (drop place hull)) (drop count (drop place hull)) (subst (HasOver w p x) (sym (take-append-drop count (drop place hull))) over)) [
      | inl left ↦ over_left w p x (take count (drop place hull)) (next ∷ []) left
      | inr right ↦ over_elim w p x (λ y. y.tick < next.tick × ((p : Sight) → next.tick < p.tick → HasOver w p y ((take count (drop place hull)) ++ next ∷ []))) (drop count (drop place hull))
          (all_both _ _ (drop count (drop place hull)) (all_back (λ x. x.tick < next.tick) (take count (drop place hull)) (drop count (drop place hull)) (subst (AllByRecursion (λ x. x.tick < next.tick)) (sym (take-append-drop count (drop place hull))) (of_live (λ x. x.tick < next.tick) early))) (hid.hidden w))
          (λ y k way. over_through w p x y ((take count (drop place hull)) ++ next ∷ []) i (let u = k.0 in omega arith)
          (all_append (λ z. z.tick < p.tick) (take count (drop place hull)) (next ∷ []) (all_map (λ z. z.tick < next.tick) (λ z. z.tick < p.tick) (λ z u. (let v = u in omega arith)) (take count (drop place hull)) (of_kept (λ z. z.tick < next.tick) early)) (j, tt)) way (k.1 p j)) right
    ]

    held : (x p : Sight) → x.tick < next.tick → AllByRecursion (λ o. IsEarlier o p) run → next.tick < p.tick → IsBeaten w best x p ⊎ HasOver w p x hull
        → IsBeaten w (Some m) x p ⊎ HasOver w p x ((take count (drop place hull)) ++ next ∷ [])
    held x p e after j (inl b) = inl (still_beaten w run best s.top next m rising before top_in h.is_best steeper x p b)
    held x p e after j (inr over) = elim (over_split w p x (take place hull) (drop place hull) (subst (HasOver w p x) (sym whole) over)) [
      | inr right ↦ inr (live_over x p (omega arith) j right)
      | inl left ↦ over_elim w p x (λ y. y.tick < next.tick × ((p : Sight) → next.tick < p.tick → IsNoSteeper w y p s.top next ⊎ HasOver w p y (s.top ∷ s.rest))) (take place hull)
          (all_both _ _ (take place hull) (all_front (λ z. z.tick < next.tick) (take place hull) (drop place hull) (subst (AllByRecursion (λ z. z.tick < next.tick)) (sym whole) early)) s.climbed.later)
          (λ y k way. gone x p y e k.0 j way (k.1 p j)) left
    ]
      where
        gone : (x p y : Sight) → x.tick < next.tick → y.tick < next.tick → next.tick < p.tick → GivesWay w p x y → IsNoSteeper w y p s.top next ⊎ HasOver w p y (s.top ∷ s.rest)
            → IsBeaten w (Some m) x p ⊎ HasOver w p x ((take count (drop place hull)) ++ next ∷ [])
        gone x p y e f j way (inl le) = inl (no_steeper_through w x p s.top next m.from m.to top_early
            (no_steeper_through w x p y p s.top next (omega arith) (way_no_steeper w p x y way) le)
            (new_no_steeper w run best s.top next m rising before top_in h.is_best steeper))
        gone x p y e f j way (inr over) = inr (live_over x p (omega arith) j (over_through w p x y (drop place hull) (omega arith) (omega arith)
            (all_map (λ z. z.tick < next.tick) (λ z. z.tick < p.tick) (λ z u. (let v = u in omega arith)) (drop place hull) (of_live (λ z. z.tick < next.tick) early)) way
            (subst (HasOver w p y) (sym s.here) over)))
