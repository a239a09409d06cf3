-- A hull in its memory, and what taking an observation does to it.
use Rattle.std.proofs.Common.{◌≡◌, ℕ, suc, ◌+◌, ◌-◌, ◌<◌, ◌≤◌, List, [], ◌∷◌, ◌++◌, length, take, drop, get_or, Option, Some, None, sym, ap, subst, arith, ◌∙◌, length-drop}
use Rattle.std.proofs.lemmas.List.{take_rest, drop-append-le, drop-take, drop-drop, length-take-le, drop_more, take_more, take_all}
use Rattle.std.specs.Prelude.{IfSome}
use Rattle.std.specs.List.{AllByRecursion}
use Rattle.sk_publishing.specs.Terms.{Sight}
use Rattle.sk_line.proofs.Lists.{all_map, heads}
use Rattle.sk_least.specs.Hull.{IsEarlier, EachPair, IsConvex, IsSteepestAt, AreHidden, IsIn, IsBest, IsHullOf, IsSteeperOf}
use Rattle.sk_least.specs.declared.pair.Pair.{Pair}
use Rattle.sk_least.proofs.Turns.{pairs_front}
use Rattle.sk_least.proofs.Sides.{all_after, pairs_after, convex_after}
use Rattle.sk_least.proofs.OneMore.{in_all, pairs_at, one_more}

pub live_is : (d points : List Sight) (front : ℕ) → d ≡ points → take (length d - front) (drop front d) ≡ drop front points
live_is d points front e = take_rest d front ∙ ap (drop front) e

pub part_is : (d points : List Sight) (front place : ℕ) → d ≡ points
    → take (length (take (length d - front) (drop front d)) - place) (drop place (take (length d - front) (drop front d))) ≡ drop place (drop front points)
part_is d points front place e = take_rest (take (length d - front) (drop front d)) place ∙ ap (drop place) (live_is d points front e)

pub seen_and_next : (run : List Sight) (next : Sight) → 0 < length run → next ≡ get_or run (length run - 1) next → run ≡ take (length run - 1) run ++ next ∷ []
seen_and_next run next h e =
    sym (take_all (length run) run (omega arith)) ∙ ap (λ (n : ℕ). take n run) (one (length run) h) ∙ take_more run (length run - 1) next (omega arith)
    ∙ ap (λ (x : Sight). take (length run - 1) run ++ x ∷ []) (sym e)
  where
    one : (n : ℕ) → 0 < n → n ≡ n - 1 + 1
    one n h = omega arith

pub pairs_last : (R : Sight → Sight → Type 0) (xs : List Sight) (p : Sight) → EachPair R (xs ++ p ∷ []) → AllByRecursion (λ x. R x p) xs
pairs_last R [] p h = tt
pairs_last R (x ∷ xs) p h = (last xs h.0, pairs_last R xs p h.1)
  where
    last : (zs : List Sight) → AllByRecursion (R x) (zs ++ p ∷ []) → R x p
    last [] h = h.0
    last (z ∷ zs) h = last zs h.1

module _ (w : ℕ) (run hull : List Sight) (best : Option Pair) (next : Sight) (some : 0 < length run) (rising : EachPair IsEarlier run) (at_end : next ≡ get_or run (length run - 1) next)
    (taken : IsHullOf w (take (length run - 1) run) hull best) where
  abbrev seen : List Sight
  seen = take (length run - 1) run

  whole : run ≡ seen ++ next ∷ []
  whole = seen_and_next run next some at_end

  pub before : AllByRecursion (λ x. IsEarlier x next) seen
  before = pairs_last IsEarlier seen next (subst (EachPair IsEarlier) whole rising)

  pub seen_rising : EachPair IsEarlier seen
  seen_rising = pairs_front IsEarlier seen (next ∷ []) (subst (EachPair IsEarlier) whole rising)

  pub hull_before : AllByRecursion (λ x. x.tick < next.tick) hull
  hull_before = all_map (IsIn seen) (λ x. x.tick < next.tick) (λ x i. (in_all (λ o. IsEarlier o next) seen x before i).tick) hull taken.from_run

  pub part_before : (place : ℕ) → AllByRecursion (λ x. x.tick < next.tick) (drop place hull)
  part_before place = all_after (λ x. x.tick < next.tick) place hull hull_before

  pub part_rising : (place : ℕ) → EachPair IsEarlier (drop place hull)
  part_rising place = pairs_after IsEarlier place hull taken.rising

  pub part_convex : (place : ℕ) → IsConvex (drop place hull)
  part_convex place = convex_after place hull taken.convex

  pub best_rises : IfSome best (λ b. b.from.tick < b.to.tick)
  best_rises = by best taken.is_best
    where
      by : (best : Option Pair) → IsBest w seen best → IfSome best (λ b. b.from.tick < b.to.tick)
      by None h = tt
      by (Some b) h = (pairs_at IsEarlier seen b.from b.to seen_rising h.0).tick

  pub top_is : (place : ℕ) (s : IsSteepestAt w hull next place) (x : Sight) → place < length hull → x ≡ get_or hull place x → x ≡ s.top
  top_is place s x h e = e ∙ heads (get_or hull place x) s.top (drop (place + 1) hull) s.rest (sym (drop_more hull place x h) ∙ s.here)

  pub top_before : (place : ℕ) (s : IsSteepestAt w hull next place) → s.top.tick < next.tick
  top_before place s = (subst (AllByRecursion (λ x. x.tick < next.tick)) s.here (part_before place)).0

  pub takes : (place count : ℕ) (x : Sight) (m : Pair) → place < length hull → x ≡ get_or hull place x → IsSteepestAt w hull next place → AreHidden (drop place hull) next count
      → IsConvex (take count (drop place hull) ++ next ∷ []) → IsSteeperOf w best (record { from = x; to = next }) m
      → IsHullOf w run (take count (drop place hull) ++ next ∷ []) (Some m)
  takes place count x m h e s hid convex steeper = subst (λ (xs : List Sight). IsHullOf w xs (take count (drop place hull) ++ next ∷ []) (Some m)) (sym whole)
      (one_more w seen hull best next place count m seen_rising before taken s hid convex (subst (λ (y : Sight). IsSteeperOf w best (record { from = y; to = next }) m) (top_is place s x h e) steeper))

pub within_place : (xs : List Sight) (place : ℕ) (top : Sight) (rest : List Sight) → drop place xs ≡ top ∷ rest → place < length xs
within_place xs place top rest e = more (length xs) (length rest) (sym (length-drop place xs) ∙ ap length e)
  where
    more : (n m : ℕ) → n - place ≡ suc m → place < n
    more n m e = omega arith

pub new_points : (points : List Sight) (front place count : ℕ) (next : Sight) → 0 < count → count ≤ length (drop place (drop front points))
    → drop (front + place) (take (front + place + count) points ++ next ∷ []) ≡ take count (drop place (drop front points)) ++ next ∷ []
new_points points front place count next some h =
    let inside = most (length points) (ap length (drop-drop place front points) ∙ length-drop (front + place) points) in
    drop-append-le (front + place) (take (front + place + count) points) (next ∷ []) (subst (λ (n : ℕ). front + place ≤ n) (sym (length-take-le (front + place + count) points inside)) (omega arith))
    ∙ ap (λ (xs : List Sight). xs ++ next ∷ []) (drop-take (front + place) count points ∙ ap (take count) (sym (drop-drop place front points)))
  where
    most : (n : ℕ) → length (drop place (drop front points)) ≡ n - (front + place) → front + place + count ≤ n
    most n e = omega arith
