-- A run of one observation, and a run with one more.
use Rattle.std.proofs.Common.{◌≡◌, ℕ, suc, ◌+◌, ◌-◌, ◌*◌, ◌<◌, ◌≤◌, List, [], ◌∷◌, ◌++◌, length, map, take, drop, get_or, Option, Some, None, refl, sym, ap, subst, inl, inr, arith, ◌∙◌, length-append, length-drop}
use Rattle.std.proofs.lemmas.Int.{ints}
use Rattle.std.proofs.lemmas.List.{drop_more, take_more, take-append-drop, get_or-drop}
use Rattle.std.proofs.lemmas.Option.{slice_get_read, same_Some}
use Rattle.std.specs.Prelude.{ℤ, pos, ◌+ℤ◌, ◌-ℤ◌, ◌*ℤ◌, ◌≤ℤ◌, slice_get}
use Rattle.std.specs.List.{AllByRecursion}
use Rattle.sk_clock.specs.Clock.{lengths}
use Rattle.sk_publishing.specs.Terms.{Sight}
use Rattle.sk_line.proofs.Lists.{all_front, all_back, all_append}
use Rattle.sk_least.specs.Cover.{IsStretch, partition_at, IsInOnePartition, StandsBefore, AreBent}
use Rattle.sk_least.specs.Answer.{IsAt}
use Rattle.sk_least.specs.Hull.{IsEarlier, EachPair, IsHullOf, HullView}
use Rattle.sk_least.specs.Search.{turned, IsConflict, SearchView, IsSearch, between_places, HullsView, IsRun, EndsAs, IsLongestFrom}
use Rattle.sk_least.specs.declared.pair.Pair.{Pair}
use Rattle.sk_least.specs.declared.stretch.Stop.TheVariants.{Last, Partition, Bent}
use Rattle.sk_least.proofs.Turns.{way_same, pairs_front, pairs_back}
use Rattle.sk_least.proofs.Bends.{straight_run, bent_run}

-- ---- parts of the list

pub run_more : (all : List Sight) (first past : ℕ) (o : Sight) → first ≤ past → past < length all → o ≡ get_or all past o
    → between_places all first (past + 1) ≡ between_places all first past ++ o ∷ []
run_more all first past o h k e =
    ap (λ (n : ℕ). take n (drop first all)) (counts first past h)
    ∙ take_more (drop first all) (past - first) o (subst (λ (n : ℕ). past - first < n) (sym (length-drop first all)) (omega arith))
    ∙ ap (λ (x : Sight). between_places all first past ++ x ∷ []) (get_or-drop first all (past - first) o ∙ ap (λ (n : ℕ). get_or all n o) (back first past h) ∙ sym e)
  where
    counts : (first past : ℕ) → first ≤ past → past + 1 - first ≡ past - first + 1
    counts first past h = omega arith

    back : (first past : ℕ) → first ≤ past → first + (past - first) ≡ past
    back first past h = omega arith

pub run_one : (all : List Sight) (first : ℕ) (o : Sight) → first < length all → o ≡ get_or all first o → between_places all first (first + 1) ≡ o ∷ []
run_one all first o h e = run_more all first first o (omega arith) h e ∙ ap (λ (n : ℕ). take n (drop first all) ++ o ∷ []) (none first)
  where
    none : (n : ℕ) → n - n ≡ 0
    none n = omega arith

pub run_all : (P : Sight → Type 0) (all : List Sight) (first past : ℕ) → AllByRecursion P all → AllByRecursion P (between_places all first past)
run_all P all first past h = all_front P (take (past - first) (drop first all)) (drop (past - first) (drop first all))
    (subst (AllByRecursion P) (sym (take-append-drop (past - first) (drop first all))) (all_back P (take first all) (drop first all) (subst (AllByRecursion P) (sym (take-append-drop first all)) h)))

pub run_pairs : (R : Sight → Sight → Type 0) (all : List Sight) (first past : ℕ) → EachPair R all → EachPair R (between_places all first past)
run_pairs R all first past h = pairs_front R (take (past - first) (drop first all)) (drop (past - first) (drop first all))
    (subst (EachPair R) (sym (take-append-drop (past - first) (drop first all))) (pairs_back R (take first all) (drop first all) (subst (EachPair R) (sym (take-append-drop first all)) h)))

-- ---- one observation

pub one_hull : (w : ℕ) (o : Sight) (h : HullView) → h.points ≡ o ∷ [] → h.best ≡ None → IsHullOf w (o ∷ []) h.points h.best
one_hull w o h e f = subst (λ (xs : List Sight). IsHullOf w (o ∷ []) xs h.best) (sym e) (subst (λ (b : Option Pair). IsHullOf w (o ∷ []) (o ∷ []) b) (sym f) (record {
  rising = (tt, tt);
  convex = tt;
  some = omega arith;
  from_run = (inl refl, tt);
  holds = ((λ p after. inr (inl (way_same w p o))), tt);
  is_best = omega arith;
}))

one_stretch : (l : List ℕ) (t : ℕ) (o : Sight) → IsStretch l (pos t) (o ∷ [])
one_stretch l t o = record {
  not_empty = omega arith;
  straight = record { p = o.time; q = pos 0; c = 1; positive = omega arith; near = (record { low = low o.time t o.tick; high = high o.time t o.tick }, tt) };
  partition = (partition_at l o.tick, (refl, tt));
}
  where
    low : (z : ℤ) (t n : ℕ) → ((z +ℤ (pos 0 *ℤ pos n)) -ℤ (pos t *ℤ pos 1)) ≤ℤ (z *ℤ pos 1)
    low z t n = omega (arith, ints)

    high : (z : ℤ) (t n : ℕ) → (z *ℤ pos 1) ≤ℤ ((z +ℤ (pos 0 *ℤ pos n)) +ℤ (pos t *ℤ pos 1))
    high z t n = omega (arith, ints)

pub run_begun : (v : SearchView) (first : ℕ) (o : Sight) (h : HullsView) → first < length v.all → o ≡ get_or v.all first o
    → IsHullOf (2 * v.tolerance) (o ∷ []) h.need.points h.need.best → IsHullOf (2 * v.tolerance) (turned o ∷ []) h.room.points h.room.best
    → IsRun v first (first + 1) h
run_begun v first o h k e need room =
    let one = sym (run_one v.all first o k e) in
    record {
      some = omega arith;
      within = omega arith;
      need = subst (λ (xs : List Sight). IsHullOf (2 * v.tolerance) xs h.need.points h.need.best) one need;
      room = subst (λ (xs : List Sight). IsHullOf (2 * v.tolerance) (map turned xs) h.room.points h.room.best) one room;
      stretch = subst (λ (xs : List Sight). IsStretch (lengths v.clock) (pos v.tolerance) xs) one (one_stretch (lengths v.clock) v.tolerance o);
    }

-- ---- one more

-- the partition of a run is that of its first observation
pub first_partition : (l : List ℕ) (all : List Sight) (first past : ℕ) (f : Sight) → first < past → first < length all → f ≡ get_or all first f
    → IsInOnePartition l (between_places all first past) → AllByRecursion (λ o. partition_at l o.tick ≡ partition_at l f.tick) (between_places all first past)
first_partition l all first past f h k e is =
    let begins : between_places all first past ≡ f ∷ take (past - first - 1) (drop (first + 1) all) = begin in
    subst (λ (n : ℕ). AllByRecursion (λ o. partition_at l o.tick ≡ n) (between_places all first past)) (sym ((subst (AllByRecursion (λ o. partition_at l o.tick ≡ is.0)) begins is.1).0)) is.1
  where
    begin : between_places all first past ≡ f ∷ take (past - first - 1) (drop (first + 1) all)
    begin = ap (λ (n : ℕ). take n (drop first all)) (one_less past first h) ∙ ap (λ (xs : List Sight). take (suc (past - first - 1)) xs)
        (drop_more all first f k ∙ ap (λ (x : Sight). x ∷ drop (first + 1) all) (sym e))
      where
        one_less : (past first : ℕ) → first < past → past - first ≡ suc (past - first - 1)
        one_less past first h = omega arith

module _ (v : SearchView) (over : List Sight) (is : IsSearch v over) (first past : ℕ) (f o : Sight) (h : HullsView) (run : IsRun v first past h)
    (here : past < length v.all) (at_first : f ≡ get_or v.all first f) (at_past : o ≡ get_or v.all past o) where
  more : between_places v.all first (past + 1) ≡ between_places v.all first past ++ o ∷ []
  more = run_more v.all first past o (let a = run.some in omega arith) here at_past

  at : (place : ℕ) (x : Sight) → place < length v.all → x ≡ get_or v.all place x → slice_get v.all place ≡ Some x
  at place x k e = slice_get_read v.all (length v.all) place x refl k e

  twice : pos (2 * v.tolerance) ≡ pos 2 *ℤ pos v.tolerance
  twice = by v.tolerance
    where
      by : (t : ℕ) → pos (2 * t) ≡ pos 2 *ℤ pos t
      by t = omega (arith, ints)

  rising : EachPair IsEarlier (between_places v.all first (past + 1))
  rising = run_pairs IsEarlier v.all first (past + 1) is.rising

  -- the run ends where the partition does
  pub ends_partition : ¬ (partition_at (lengths v.clock) f.tick ≡ partition_at (lengths v.clock) o.tick) → EndsAs v first past Partition
  ends_partition never = (o, at past o here at_past, λ goes. never (partitions goes.0 goes.1 goes.2))
    where
      partitions : (x : Sight) → IsAt v.all first x → partition_at (lengths v.clock) o.tick ≡ partition_at (lengths v.clock) x.tick → partition_at (lengths v.clock) f.tick ≡ partition_at (lengths v.clock) o.tick
      partitions x a e = ap (λ (y : Sight). partition_at (lengths v.clock) y.tick) (same_Some f x (sym (at first f (let s = run.some in omega arith) at_first) ∙ a)) ∙ sym e

  module _ (same : partition_at (lengths v.clock) f.tick ≡ partition_at (lengths v.clock) o.tick) (need room : Pair) (h' : HullsView)
      (needs : IsHullOf (2 * v.tolerance) (between_places v.all first (past + 1)) h'.need.points (Some need))
      (rooms : IsHullOf (2 * v.tolerance) (map turned (between_places v.all first (past + 1))) h'.room.points (Some room)) where
    -- the run goes on
    pub goes_on : ¬ IsConflict (2 * v.tolerance) need room → h'.need.best ≡ Some need → h'.room.best ≡ Some room → IsRun v first (past + 1) h'
    goes_on never e g = record {
      some = (let a = run.some in omega arith);
      within = omega arith;
      need = subst (λ (b : Option Pair). IsHullOf (2 * v.tolerance) (between_places v.all first (past + 1)) h'.need.points b) (sym e) needs;
      room = subst (λ (b : Option Pair). IsHullOf (2 * v.tolerance) (map turned (between_places v.all first (past + 1))) h'.room.points b) (sym g) rooms;
      stretch = record {
        not_empty = not_empty;
        straight = straight_run (pos v.tolerance) (2 * v.tolerance) twice positive (between_places v.all first (past + 1)) need room not_empty rising needs.is_best rooms.is_best never;
        partition = (
          partition_at (lengths v.clock) f.tick,
          subst (AllByRecursion (λ x. partition_at (lengths v.clock) x.tick ≡ partition_at (lengths v.clock) f.tick)) (sym more)
              (all_append _ (between_places v.all first past) (o ∷ []) (first_partition (lengths v.clock) v.all first past f run.some (let a = run.some in omega arith) at_first run.stretch.partition) (sym same, tt)),
        );
      };
    }
      where
        positive : pos 0 ≤ℤ pos v.tolerance
        positive = omega (arith, ints)

        not_empty : 0 < length (between_places v.all first (past + 1))
        not_empty = subst (λ (n : ℕ). 0 < n) (sym (ap length more ∙ length-append (between_places v.all first past) (o ∷ []))) (omega arith)

    -- the run ends where a line does
    pub ends_bent : IsConflict (2 * v.tolerance) need room → EndsAs v first past (Bent need.from.place need.to.place room.from.place room.to.place)
    ends_bent conflict =
        let bent = bent_run (pos v.tolerance) (2 * v.tolerance) twice (between_places v.all first (past + 1)) need room rising needs.is_best rooms.is_best conflict in
        let all_at = run_all (λ x. IsAt v.all x.place x) v.all first (past + 1) is.placed in (
          o,
          at past o here at_past,
          (f, at first f (let a = run.some in omega arith) at_first, sym same),
          (
            need.from,
            need.to,
            turned room.from,
            turned room.to,
            earlier (λ x. IsAt v.all x.place x) _ need.from need.to all_at bent.need.pair,
            later (λ x. IsAt v.all x.place x) _ need.from need.to all_at bent.need.pair,
            earlier (λ x. IsAt v.all x.place x) _ (turned room.from) (turned room.to) all_at bent.room.pair,
            later (λ x. IsAt v.all x.place x) _ (turned room.from) (turned room.to) all_at bent.room.pair,
            subst (λ (xs : List Sight). AreBent (pos v.tolerance) xs need.from need.to (turned room.from) (turned room.to)) more bent,
          ),
        )
      where
        earlier : (P : Sight → Type 0) (run : List Sight) (i j : Sight) → AllByRecursion P run → StandsBefore run i j → P i
        earlier P run i j h s = (all_back P s.0 (i ∷ (s.1 ++ j ∷ s.2)) (subst (AllByRecursion P) s.3 h)).0

        later : (P : Sight → Type 0) (run : List Sight) (i j : Sight) → AllByRecursion P run → StandsBefore run i j → P j
        later P run i j h s = (all_back P s.1 (j ∷ s.2) ((all_back P s.0 (i ∷ (s.1 ++ j ∷ s.2)) (subst (AllByRecursion P) s.3 h)).1)).0

-- a run up to the end of the list
pub last_run : (v : SearchView) (first past : ℕ) (h : HullsView) (n : ℕ) → IsRun v first past h → n ≤ past → n ≡ length v.all → IsLongestFrom v first (record { first = first; past = n; stop = Last })
last_run v first past h n run m e =
    let same : past ≡ n = (let a = run.within in omega arith) in
    record {
      begins = refl;
      some = (let a = run.some in omega arith);
      within = omega arith;
      stretch = subst (λ (k : ℕ). IsStretch (lengths v.clock) (pos v.tolerance) (between_places v.all first k)) same run.stretch;
      stops = e;
    }
