-- What the code holds of a run, as parts of the list of observations.
use Rattle.std.proofs.Common.{◌≡◌, ℕ, zero, suc, ◌+◌, ◌-◌, ◌<◌, ◌≤◌, List, [], ◌∷◌, ◌++◌, length, map, take, drop, get_or, Some, sym, ap, subst, arith, ◌∙◌, length-append}
use Rattle.std.proofs.lemmas.List.{take-map, take_at, map-append}
use Rattle.std.specs.List.{AllByRecursion, drop-map}
use Rattle.sk_publishing.specs.Terms.{Sight}
use Rattle.sk_least.specs.Hull.{IsEarlier, EachPair, IsHullOf}
use Rattle.sk_least.specs.Search.{turned, between_places}
use Rattle.sk_least.specs.declared.pair.Pair.{Pair}
use Rattle.sk_least.proofs.OneMore.{pairs_at}
use Rattle.sk_least.proofs.Runs.{run_more, run_pairs}

pub pairs_turned : (xs : List Sight) → EachPair IsEarlier xs → EachPair IsEarlier (map turned xs)
pairs_turned [] h = tt
pairs_turned (x ∷ xs) h = (each xs h.0, pairs_turned xs h.1)
  where
    each : (zs : List Sight) → AllByRecursion (IsEarlier x) zs → AllByRecursion (IsEarlier (turned x)) (map turned zs)
    each [] h = tt
    each (z ∷ zs) h = (record { tick = h.0.tick; place = h.0.place }, each zs h.1)

but_last : (xs all : List Sight) (o : Sight) → all ≡ xs ++ o ∷ [] → take (length all - 1) all ≡ xs
but_last xs all o e = ap (λ (ys : List Sight). take (length ys - 1) ys) e ∙ take_at xs (o ∷ []) (length (xs ++ o ∷ []) - 1) (counts (length xs) (length (xs ++ o ∷ [])) (length-append xs (o ∷ [])))
  where
    counts : (n m : ℕ) → m ≡ n + 1 → n ≡ m - 1
    counts n m e = omega arith

module _ (all : List Sight) (first past : ℕ) where
  pub part_is : (points : List Sight) → points ≡ all → take (past - first) (drop first points) ≡ between_places all first past
  part_is points e = ap (λ (xs : List Sight). take (past - first) (drop first xs)) e

  pub turned_part_is : (points : List Sight) → points ≡ map turned all → take (past - first) (drop first points) ≡ map turned (between_places all first past)
  turned_part_is points e = ap (λ (xs : List Sight). take (past - first) (drop first xs)) e ∙ ap (take (past - first)) (drop-map turned first all) ∙ take-map turned (past - first) (drop first all)

  pub part_rising : (points : List Sight) → points ≡ all → EachPair IsEarlier all → EachPair IsEarlier (take (past - first) (drop first points))
  part_rising points e h = subst (EachPair IsEarlier) (sym (part_is points e)) (run_pairs IsEarlier all first past h)

  pub turned_part_rising : (points : List Sight) → points ≡ map turned all → EachPair IsEarlier all → EachPair IsEarlier (take (past - first) (drop first points))
  turned_part_rising points e h = subst (EachPair IsEarlier) (sym (turned_part_is points e)) (pairs_turned (between_places all first past) (run_pairs IsEarlier all first past h))

-- what was taken before the last one
pub seen_is : (all points : List Sight) (first past : ℕ) (o : Sight) → first ≤ past → past < length all → o ≡ get_or all past o → points ≡ all
    → take (length (take (past + 1 - first) (drop first points)) - 1) (take (past + 1 - first) (drop first points)) ≡ between_places all first past
seen_is all points first past o h k at e = but_last (between_places all first past) _ o (part_is all first (past + 1) points e ∙ run_more all first past o h k at)

pub turned_seen_is : (all points : List Sight) (first past : ℕ) (o : Sight) → first ≤ past → past < length all → o ≡ get_or all past o → points ≡ map turned all
    → take (length (take (past + 1 - first) (drop first points)) - 1) (take (past + 1 - first) (drop first points)) ≡ map turned (between_places all first past)
turned_seen_is all points first past o h k at e = but_last (map turned (between_places all first past)) _ (turned o)
    (turned_part_is all first (past + 1) points e ∙ ap (map turned) (run_more all first past o h k at) ∙ map-append turned (between_places all first past) (o ∷ []))

pub best_rises : (w : ℕ) (run hull : List Sight) (best : Pair) → EachPair IsEarlier run → IsHullOf w run hull (Some best) → best.from.tick < best.to.tick
best_rises w run hull best rising h = (pairs_at IsEarlier run best.from best.to rising h.is_best.0).tick

pub turned_at : (all : List Sight) (place : ℕ) (o p : Sight) → place < length all → o ≡ get_or all place o → p ≡ get_or (map turned all) place p → p ≡ turned o
turned_at [] place o p h e f = absurd (omega arith)
turned_at (x ∷ xs) zero o p h e f = f ∙ ap turned (sym e)
turned_at (x ∷ xs) (suc n) o p h e f = turned_at xs n o p (omega arith) e f
