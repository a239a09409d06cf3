-- From the steepest pairs of a run, and of the run with its times turned over, to its need and its room.
use Rattle.std.proofs.Common.{◌≡◌, ◌⊎◌, ℕ, zero, suc, ◌<◌, List, [], ◌∷◌, ◌++◌, length, map, Some, refl, sym, ap, subst, inl, inr, arith, ◌∙◌}
use Rattle.std.proofs.lemmas.Int.{ints, by_lt_z}
use Rattle.std.proofs.lemmas.List.{map-append}
use Rattle.std.specs.Prelude.{ℤ, pos, negsuc, neg_ℤ, ◌+ℤ◌, ◌-ℤ◌, ◌*ℤ◌, ◌≤ℤ◌, ◌<ℤ◌}
use Rattle.std.specs.List.{AllByRecursion}
use Rattle.sk_publishing.specs.Terms.{Sight}
use Rattle.sk_decimal.proofs.Quotients.{neg-mul}
use Rattle.sk_least.specs.Cover.{IsNear, IsStraight, need_over, room_over, ticks_between, IsBelow, StandsBefore, ComesFirst, IsGreatestNeed, IsLeastRoom, AreBent}
use Rattle.sk_least.specs.Hull.{IsEarlier, EachPair, rise, IsLessSteep, IsNoSteeper, Loses, IsBest}
use Rattle.sk_least.specs.Search.{turned, IsConflict}
use Rattle.sk_least.specs.declared.pair.Pair.{Pair}
use Rattle.sk_least.proofs.Slopes.{weaken, le-le, le_lt_no}
use Rattle.sk_least.proofs.Turns.{pairs_map, pairs_both}
use Rattle.sk_least.proofs.OneMore.{pairs_at}
use Rattle.sk_least.proofs.Lines.{Fits, fitting_is_straight, near_fits}

neg_neg : (z : ℤ) → neg_ℤ (neg_ℤ z) ≡ z
neg_neg (pos zero) = refl
neg_neg (pos (suc n)) = refl
neg_neg (negsuc n) = refl

turned_twice : (o : Sight) → turned (turned o) ≡ o
turned_twice o = ap (λ (z : ℤ). the_sight o.place o.tick z) (neg_neg o.time)
  where
    the_sight : ℕ → ℕ → ℤ → Sight
    the_sight place tick time = record { place = place; tick = tick; time = time }

all_turned_twice : (run : List Sight) → map turned (map turned run) ≡ run
all_turned_twice [] = refl
all_turned_twice (x ∷ xs) = ap (λ (o : Sight). o ∷ map turned (map turned xs)) (turned_twice x) ∙ ap (λ (os : List Sight). x ∷ os) (all_turned_twice xs)

stands_turned : (run : List Sight) (i j : Sight) → StandsBefore run i j → StandsBefore (map turned run) (turned i) (turned j)
stands_turned run i j s = (
  map turned s.0,
  map turned s.1,
  map turned s.2,
  ap (map turned) s.3 ∙ map-append turned s.0 (i ∷ (s.1 ++ j ∷ s.2)) ∙ ap (λ (os : List Sight). map turned s.0 ++ turned i ∷ os) (map-append turned s.1 (j ∷ s.2)),
)

stands_back : (run : List Sight) (i j : Sight) → StandsBefore (map turned run) i j → StandsBefore run (turned i) (turned j)
stands_back run i j s = subst (λ (os : List Sight). StandsBefore os (turned i) (turned j)) (all_turned_twice run) (stands_turned (map turned run) i j s)

module _ (tol : ℤ) (slack : ℕ) (twice : pos slack ≡ pos 2 *ℤ tol) where
  rise_is_need : (i j : Sight) → rise slack i j ≡ need_over tol i j
  rise_is_need i j = ap (λ (z : ℤ). (j.time -ℤ i.time) -ℤ z) twice

  rise_is_room : (i j : Sight) → rise slack (turned i) (turned j) ≡ neg_ℤ (room_over tol i j)
  rise_is_room i j = ap (λ (z : ℤ). (neg_ℤ j.time -ℤ neg_ℤ i.time) -ℤ z) twice ∙ turns i.time j.time (pos 2 *ℤ tol)
    where
      turns : (x y z : ℤ) → (neg_ℤ y -ℤ neg_ℤ x) -ℤ z ≡ neg_ℤ ((y -ℤ x) +ℤ z)
      turns x y z = omega (arith, ints)

  split : (a b : ℤ) → a ≤ℤ b → (a <ℤ b) ⊎ (a ≡ b)
  split a b p = by_lt_z a b (λ less. inl less) (λ le. inr (omega (arith, ints)))

  -- ---- need

  pub greatest_need : (run : List Sight) (best : Pair) → IsBest slack run (Some best) → IsGreatestNeed tol run best.from best.to
  greatest_need run best h = record {
    pair = h.0;
    greatest = λ x y s. told x y (pairs_at (Loses slack best) run x y h.1 s);
  }
    where
      told : (x y : Sight) → Loses slack best x y → IsBelow (need_over tol x y) (ticks_between x y) (need_over tol best.from best.to) (ticks_between best.from best.to)
          ⊎ ((need_over tol x y *ℤ pos (ticks_between best.from best.to) ≡ need_over tol best.from best.to *ℤ pos (ticks_between x y)) × ComesFirst best.from best.to x y)
      told x y l = needs (need_over tol x y) (need_over tol best.from best.to) (rise_is_need x y) (rise_is_need best.from best.to) l
        where
          needs : (a b : ℤ) → rise slack x y ≡ a → rise slack best.from best.to ≡ b → Loses slack best x y
              → (a *ℤ pos (ticks_between best.from best.to)) <ℤ (b *ℤ pos (ticks_between x y))
              ⊎ (((a *ℤ pos (ticks_between best.from best.to)) ≡ (b *ℤ pos (ticks_between x y))) × ComesFirst best.from best.to x y)
          needs a b e f (inl less) = inl (subst (λ (z : ℤ). (z *ℤ pos (ticks_between best.from best.to)) <ℤ (b *ℤ pos (ticks_between x y))) e
              (subst (λ (z : ℤ). (rise slack x y *ℤ pos (ticks_between best.from best.to)) <ℤ (z *ℤ pos (ticks_between x y))) f less))
          needs a b e f (inr le) = elim (split _ _ (subst (λ (z : ℤ). (z *ℤ pos (ticks_between best.from best.to)) ≤ℤ (b *ℤ pos (ticks_between x y))) e
              (subst (λ (z : ℤ). (rise slack x y *ℤ pos (ticks_between best.from best.to)) ≤ℤ (z *ℤ pos (ticks_between x y))) f le.0))) [
                | inl less ↦ inl less
                | inr same ↦ inr (same, le.1)
              ]

  -- ---- room

  -- a slope of turned times is the room with the other sign
  room_less : (i j x y : Sight) → IsLessSteep slack (turned i) (turned j) (turned x) (turned y)
      → IsBelow (room_over tol x y) (ticks_between x y) (room_over tol i j) (ticks_between i j)
  room_less i j x y h = signs (room_over tol i j) (room_over tol x y) (ticks_between x y) (ticks_between i j)
      (subst (λ (z : ℤ). (z *ℤ pos (ticks_between x y)) <ℤ (neg_ℤ (room_over tol x y) *ℤ pos (ticks_between i j))) (rise_is_room i j)
      (subst (λ (z : ℤ). (rise slack (turned i) (turned j) *ℤ pos (ticks_between x y)) <ℤ (z *ℤ pos (ticks_between i j))) (rise_is_room x y) h))
    where
      signs : (a b : ℤ) (m n : ℕ) → (neg_ℤ a *ℤ pos m) <ℤ (neg_ℤ b *ℤ pos n) → (b *ℤ pos n) <ℤ (a *ℤ pos m)
      signs a b m n h = turn _ _ (subst (λ (z : ℤ). z <ℤ neg_ℤ (b *ℤ pos n)) (neg-mul a m) (subst (λ (z : ℤ). (neg_ℤ a *ℤ pos m) <ℤ z) (neg-mul b n) h))
        where
          turn : (x y : ℤ) → neg_ℤ x <ℤ neg_ℤ y → y <ℤ x
          turn x y p = omega (arith, ints)

  room_at_least : (i j x y : Sight) → IsNoSteeper slack (turned i) (turned j) (turned x) (turned y)
      → (room_over tol x y *ℤ pos (ticks_between i j)) ≤ℤ (room_over tol i j *ℤ pos (ticks_between x y))
  room_at_least i j x y h = signs (room_over tol i j) (room_over tol x y) (ticks_between x y) (ticks_between i j)
      (subst (λ (z : ℤ). (z *ℤ pos (ticks_between x y)) ≤ℤ (neg_ℤ (room_over tol x y) *ℤ pos (ticks_between i j))) (rise_is_room i j)
      (subst (λ (z : ℤ). (rise slack (turned i) (turned j) *ℤ pos (ticks_between x y)) ≤ℤ (z *ℤ pos (ticks_between i j))) (rise_is_room x y) h))
    where
      signs : (a b : ℤ) (m n : ℕ) → (neg_ℤ a *ℤ pos m) ≤ℤ (neg_ℤ b *ℤ pos n) → (b *ℤ pos n) ≤ℤ (a *ℤ pos m)
      signs a b m n h = turn _ _ (subst (λ (z : ℤ). z ≤ℤ neg_ℤ (b *ℤ pos n)) (neg-mul a m) (subst (λ (z : ℤ). (neg_ℤ a *ℤ pos m) ≤ℤ z) (neg-mul b n) h))
        where
          turn : (x y : ℤ) → neg_ℤ x ≤ℤ neg_ℤ y → y ≤ℤ x
          turn x y p = omega (arith, ints)

  -- the pair by its own times
  abbrev pub loses_room : Sight → Sight → Sight → Sight → Type 0
  loses_room i j x y = IsBelow (room_over tol i j) (ticks_between i j) (room_over tol x y) (ticks_between x y)
      ⊎ ((room_over tol x y *ℤ pos (ticks_between i j) ≡ room_over tol i j *ℤ pos (ticks_between x y)) × ComesFirst i j x y)

  pub least_room : (run : List Sight) (i j : Sight) → IsBest slack (map turned run) (Some (record { from = turned i; to = turned j })) → IsLeastRoom tol run i j
  least_room run i j h = record {
    pair = subst (λ (o : Sight). StandsBefore run o j) (turned_twice i) (subst (λ (o : Sight). StandsBefore run (turned (turned i)) o) (turned_twice j) (stands_back run (turned i) (turned j) h.0));
    least = λ x y s. told x y (pairs_at (Loses slack (record { from = turned i; to = turned j })) (map turned run) (turned x) (turned y) h.1 (stands_turned run x y s));
  }
    where
      told : (x y : Sight) → Loses slack (record { from = turned i; to = turned j }) (turned x) (turned y) → loses_room i j x y
      told x y (inl less) = inl (room_less x y i j less)
      told x y (inr le) = elim (split _ _ (room_at_least x y i j le.0)) [
        | inl less ↦ inl less
        | inr same ↦ inr (sym same, le.1)
      ]

  -- ---- one line

  -- the slope of the line fits the pair
  abbrev IsFit : (run : List Sight) → IsStraight tol run → Sight → Sight → Type 0
  IsFit run s x y = Fits tol s.q s.c x y

  pub bends : (run : List Sight) (need : Pair) (i j : Sight) → EachPair IsEarlier run → IsBest slack run (Some need)
      → IsBest slack (map turned run) (Some (record { from = turned i; to = turned j }))
      → IsConflict slack need (record { from = turned i; to = turned j }) → AreBent tol run need.from need.to i j
  bends run need i j rising h k conflict = record {
    need = greatest_need run need h;
    room = least_room run i j k;
    conflict = below;
    bent = λ straight. crossed straight (pairs_at (IsFit run straight) run need.from need.to (fits straight) h.0) (pairs_at (IsFit run straight) run i j (fits straight) (least_room run i j k).pair);
  }
    where
      below : IsBelow (room_over tol i j) (ticks_between i j) (need_over tol need.from need.to) (ticks_between need.from need.to)
      below = subst (λ (z : ℤ). (room_over tol i j *ℤ pos (ticks_between need.from need.to)) <ℤ (z *ℤ pos (ticks_between i j))) (rise_is_need need.from need.to)
          (subst (λ (z : ℤ). z <ℤ (rise slack need.from need.to *ℤ pos (ticks_between i j))) (same (room_over tol i j) (ticks_between need.from need.to))
          (subst (λ (z : ℤ). neg_ℤ (z *ℤ pos (ticks_between need.from need.to)) <ℤ (rise slack need.from need.to *ℤ pos (ticks_between i j))) (rise_is_room i j) conflict))
        where
          same : (a : ℤ) (m : ℕ) → neg_ℤ (neg_ℤ a *ℤ pos m) ≡ a *ℤ pos m
          same a m = ap neg_ℤ (neg-mul a m) ∙ neg_neg (a *ℤ pos m)

      fits : (s : IsStraight tol run) → EachPair (IsFit run s) run
      fits s = each run rising s.near
        where
          each : (xs : List Sight) → EachPair IsEarlier xs → AllByRecursion (IsNear tol s.p s.q s.c) xs → EachPair (IsFit run s) xs
          each [] e n = tt
          each (x ∷ xs) e n = (one xs e.0 n.1, each xs e.1 n.1)
            where
              one : (ys : List Sight) → AllByRecursion (IsEarlier x) ys → AllByRecursion (IsNear tol s.p s.q s.c) ys → AllByRecursion (IsFit run s x) ys
              one [] e m = tt
              one (y ∷ ys) e m = (near_fits tol s.q s.c s.p x y (e.0).tick n.0 m.0, one ys e.1 m.1)

      -- need ≤ q / c ≤ room
      crossed : (s : IsStraight tol run) → IsFit run s need.from need.to → IsFit run s i j → ⊥
      crossed s f g = le_lt_no _ _ (le-le (need_over tol need.from need.to) s.q (room_over tol i j) (ticks_between need.from need.to) s.c (ticks_between i j) s.positive f.need g.room) below

  pub straight_on : pos 0 ≤ℤ tol → (x : Sight) (xs : List Sight) (need : Pair) (i j : Sight) → EachPair IsEarlier (x ∷ xs) → IsBest slack (x ∷ xs) (Some need)
      → IsBest slack (map turned (x ∷ xs)) (Some (record { from = turned i; to = turned j }))
      → ¬ IsConflict slack need (record { from = turned i; to = turned j }) → IsStraight tol (x ∷ xs)
  straight_on positive x xs need i j rising h k never =
      let rise_need = (pairs_at IsEarlier (x ∷ xs) need.from need.to rising h.0).tick in
      let rise_room = (pairs_at IsEarlier (x ∷ xs) i j rising (least_room (x ∷ xs) i j k).pair).tick in
      fitting_is_straight tol (need_over tol need.from need.to) (ticks_between need.from need.to) positive (omega arith) x xs
      (pairs_map (λ a b. IsEarlier a b × (Loses slack need a b × Loses slack (record { from = turned i; to = turned j }) (turned a) (turned b))) (Fits tol (need_over tol need.from need.to) (ticks_between need.from need.to))
      (λ a b t. record {
        rise = (t.0).tick;
        need = needed a b t.1.0;
        room = le-le (need_over tol need.from need.to) (room_over tol i j) (room_over tol a b) (ticks_between need.from need.to) (ticks_between i j) (ticks_between a b) (omega (arith, rise_room)) fits (roomy a b t.1.1);
      })
      (x ∷ xs) (pairs_both IsEarlier _ (x ∷ xs) rising (pairs_both (Loses slack need) (λ a b. Loses slack (record { from = turned i; to = turned j }) (turned a) (turned b)) (x ∷ xs) h.1 (unturned (x ∷ xs) k.1))))
    where
      needed : (a b : Sight) → Loses slack need a b → (need_over tol a b *ℤ pos (ticks_between need.from need.to)) ≤ℤ (need_over tol need.from need.to *ℤ pos (ticks_between a b))
      needed a b l = subst (λ (z : ℤ). (z *ℤ pos (ticks_between need.from need.to)) ≤ℤ (need_over tol need.from need.to *ℤ pos (ticks_between a b))) (rise_is_need a b)
          (subst (λ (z : ℤ). (rise slack a b *ℤ pos (ticks_between need.from need.to)) ≤ℤ (z *ℤ pos (ticks_between a b))) (rise_is_need need.from need.to) (at_most l))
        where
          at_most : Loses slack need a b → IsNoSteeper slack a b need.from need.to
          at_most (inl less) = weaken _ _ less
          at_most (inr le) = le.0

      roomy : (a b : Sight) → Loses slack (record { from = turned i; to = turned j }) (turned a) (turned b) → (room_over tol i j *ℤ pos (ticks_between a b)) ≤ℤ (room_over tol a b *ℤ pos (ticks_between i j))
      roomy a b (inl less) = weaken _ _ (room_less a b i j less)
      roomy a b (inr le) = room_at_least a b i j le.0

      fits : (need_over tol need.from need.to *ℤ pos (ticks_between i j)) ≤ℤ (room_over tol i j *ℤ pos (ticks_between need.from need.to))
      fits = by_lt_z (room_over tol i j *ℤ pos (ticks_between need.from need.to)) (need_over tol need.from need.to *ℤ pos (ticks_between i j)) (λ less. absurd (never (conflict less))) (λ le. le)
        where
          same : (a : ℤ) (m : ℕ) → neg_ℤ (neg_ℤ a *ℤ pos m) ≡ a *ℤ pos m
          same a m = ap neg_ℤ (neg-mul a m) ∙ neg_neg (a *ℤ pos m)

          conflict : (room_over tol i j *ℤ pos (ticks_between need.from need.to)) <ℤ (need_over tol need.from need.to *ℤ pos (ticks_between i j))
              → IsConflict slack need (record { from = turned i; to = turned j })
          conflict less = subst (λ (z : ℤ). neg_ℤ (z *ℤ pos (ticks_between need.from need.to)) <ℤ (rise slack need.from need.to *ℤ pos (ticks_between i j))) (sym (rise_is_room i j))
              (subst (λ (z : ℤ). z <ℤ (rise slack need.from need.to *ℤ pos (ticks_between i j))) (sym (same (room_over tol i j) (ticks_between need.from need.to)))
              (subst (λ (z : ℤ). (room_over tol i j *ℤ pos (ticks_between need.from need.to)) <ℤ (z *ℤ pos (ticks_between i j))) (sym (rise_is_need need.from need.to)) less))

      unturned : (run : List Sight) → EachPair (Loses slack (record { from = turned i; to = turned j })) (map turned run)
          → EachPair (λ a b. Loses slack (record { from = turned i; to = turned j }) (turned a) (turned b)) run
      unturned [] h = tt
      unturned (y ∷ ys) h = (each ys h.0, unturned ys h.1)
        where
          each : (zs : List Sight) → AllByRecursion (Loses slack (record { from = turned i; to = turned j }) (turned y)) (map turned zs)
              → AllByRecursion (λ b. Loses slack (record { from = turned i; to = turned j }) (turned y) (turned b)) zs
          each [] h = tt
          each (z ∷ zs) h = (h.0, each zs h.1)

  -- ---- the same of a pair of turned observations

  back : (pair : Pair) → record { from = turned (turned pair.from); to = turned (turned pair.to) } ≡ pair
  back pair = ap (λ (o : Sight). the_pair o (turned (turned pair.to))) (turned_twice pair.from) ∙ ap (λ (o : Sight). the_pair pair.from o) (turned_twice pair.to)
    where
      the_pair : Sight → Sight → Pair
      the_pair a b = record { from = a; to = b }

  pub straight_run : pos 0 ≤ℤ tol → (run : List Sight) (need room : Pair) → 0 < length run → EachPair IsEarlier run → IsBest slack run (Some need)
      → IsBest slack (map turned run) (Some room) → ¬ IsConflict slack need room → IsStraight tol run
  straight_run positive [] need room some rising h k never = absurd (omega arith)
  straight_run positive (x ∷ xs) need room some rising h k never = straight_on positive x xs need (turned room.from) (turned room.to) rising h
      (subst (λ (p : Pair). IsBest slack (map turned (x ∷ xs)) (Some p)) (sym (back room)) k)
      (subst (λ (p : Pair). ¬ IsConflict slack need p) (sym (back room)) never)

  pub bent_run : (run : List Sight) (need room : Pair) → EachPair IsEarlier run → IsBest slack run (Some need)
      → IsBest slack (map turned run) (Some room) → IsConflict slack need room → AreBent tol run need.from need.to (turned room.from) (turned room.to)
  bent_run run need room rising h k conflict = bends run need (turned room.from) (turned room.to) rising h
      (subst (λ (p : Pair). IsBest slack (map turned run) (Some p)) (sym (back room)) k)
      (subst (λ (p : Pair). IsConflict slack need p) (sym (back room)) conflict)
