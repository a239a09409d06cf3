-- The later of two ticks has the later time where no join between them falls.
use Rattle.std.proofs.Common.{◌≡◌, ◌⊎◌, true, false, ℕ, zero, suc, ◌+◌, ◌-◌, ◌<◌, ◌≤◌, List, [], ◌∷◌, Option, Some, None, refl, sym, ap, subst, inl, inr, ◌∙◌, arith}
use Rattle.std.proofs.lemmas.Int.{ints, by_lt_z}
use Rattle.std.proofs.lemmas.Bool.{cases_lt}
use Rattle.std.proofs.lemmas.Bool.Decides.{nat_tests}
use Rattle.std.proofs.lemmas.Option.{none-some, some_pair_parts}
use Rattle.std.proofs.Math.Nat.{mul-le-mul_right}
use Rattle.std.specs.Prelude.{ℤ, pos, negsuc, ◌+ℤ◌, ◌-ℤ◌, ◌*ℤ◌, ◌≤ℤ◌, ◌<ℤ◌, slice_get, nat_le, unwrap_or}
use Rattle.std.specs.List.{AllByRecursion}
use Rattle.sk_line.specs.Triple.{TripleView}
use Rattle.sk_line.specs.Line.{line_over, fall_over, FallsOver, covering_from, IsTimeAt}
use Rattle.sk_publishing.specs.Laws.{TriplesRise}
use Rattle.sk_publishing.specs.Promises.{StandBetween, OrderLaw}

gain_up : (rate : ℤ) (a b : ℕ) → pos 0 <ℤ rate → a < b → (rate *ℤ pos a) <ℤ (rate *ℤ pos b)
gain_up (pos zero) a b p q = absurd (omega (arith, ints, p))
gain_up (pos (suc r)) a b p q = omega (arith, ints, mul-le-mul_right (suc r) q)
gain_up (negsuc r) a b p q = absurd (omega (arith, ints, p))

gain_some : (rate : ℤ) (a : ℕ) → pos 0 <ℤ rate → pos 0 ≤ℤ (rate *ℤ pos a)
gain_some (pos zero) a p = absurd (omega (arith, ints, p))
gain_some (pos (suc r)) a p = omega (arith, ints)
gain_some (negsuc r) a p = absurd (omega (arith, ints, p))

added_up : (a b c : ℤ) → b <ℤ c → (a +ℤ b) <ℤ (a +ℤ c)
added_up a b c p = omega (arith, ints)

added_some : (a b : ℤ) → pos 0 ≤ℤ b → a ≤ℤ (a +ℤ b)
added_some a b p = omega (arith, ints)

same_line : (x y p q : ℤ) → x ≡ p → y ≡ q → p <ℤ q → x <ℤ y
same_line x y p q e d h = subst (λ (z : ℤ). z <ℤ y) (sym e) (subst (λ (z : ℤ). p <ℤ z) (sym d) h)

le_true : (a b : ℕ) → a ≤ b → nat_le a b ≡ true
le_true a b h = grind (arith, nat_tests)

le_false : (a b : ℕ) → b < a → nat_le a b ≡ false
le_false a b h = grind (arith, nat_tests)

module _ (per_count : ℕ) where
  abbrev line : TripleView → ℕ → ℤ
  line triple tick = line_over per_count triple.anchor triple.rate tick

  line_up : (triple : TripleView) (m n : ℕ) → pos 0 <ℤ triple.rate → triple.anchor.ticks ≤ m → m < n → line triple m <ℤ line triple n
  line_up triple m n positive from up =
      added_up (triple.anchor.time *ℤ pos per_count) _ _ (gain_up triple.rate (m - triple.anchor.ticks) (n - triple.anchor.ticks) positive (omega arith))

  line_from : (triple : TripleView) (n : ℕ) → pos 0 <ℤ triple.rate → (triple.anchor.time *ℤ pos per_count) ≤ℤ line triple n
  line_from triple n positive = added_some (triple.anchor.time *ℤ pos per_count) _ (gain_some triple.rate (n - triple.anchor.ticks) positive)

  -- the time of a tick by the triples behind one that has begun
  abbrev Time : ℕ → TripleView → List TripleView → ℕ → ℤ → Type 0
  Time n triple triples tick over = (m : ℕ) × (found : TripleView) × (covering_from n (triple ∷ triples) tick ≡ Some (m, found)) × (over ≡ line found tick)

  -- where the next triple has not begun, the time is by the first
  by_first : (n : ℕ) (x : TripleView) (xs : List TripleView) (tick : ℕ) (over : ℤ) → x.anchor.ticks ≤ tick → covering_from (n + 1) xs tick ≡ None
      → Time n x xs tick over → over ≡ line x tick
  by_first n x xs tick over begun none time =
      let here : covering_from n (x ∷ xs) tick ≡ Some (n, x) = rw (le_true x.anchor.ticks tick begun, none) refl in
      let both : ◌≡◌ {A = Option (ℕ × TripleView)} (Some (n, x)) (Some (time.0, time.1)) = sym here ∙ time.2 in
      let parts = some_pair_parts n time.0 x time.1 both in
      time.3 ∙ ap (λ (y : TripleView). line y tick) (sym parts.1)

  not_begun : (n : ℕ) (y : TripleView) (ys : List TripleView) (tick : ℕ) → tick < y.anchor.ticks → covering_from n (y ∷ ys) tick ≡ None
  not_begun n y ys tick before = rw (le_false y.anchor.ticks tick before) refl

  -- where the next triple has begun, the time is by it and those behind it
  by_next : (n : ℕ) (x y : TripleView) (ys : List TripleView) (tick : ℕ) (over : ℤ) → x.anchor.ticks ≤ tick → y.anchor.ticks ≤ tick
      → Time n x (y ∷ ys) tick over → Time (n + 1) y ys tick over
  by_next n x y ys tick over first second time =
      let here : covering_from n (x ∷ y ∷ ys) tick ≡ covering_from (n + 1) (y ∷ ys) tick =
      rw (le_true x.anchor.ticks tick first, le_true y.anchor.ticks tick second) refl in
      (time.0, time.1, sym here ∙ time.2, time.3)

  -- no join falls between a and b
  abbrev Stands : ℕ → ℕ → TripleView → List TripleView → Type 0
  Stands a b x [] = Unit {0}
  Stands a b x (y ∷ ys) = (a < y.anchor.ticks → y.anchor.ticks ≤ b → line x y.anchor.ticks ≤ℤ (y.anchor.time *ℤ pos per_count)) × Stands a b y ys

  -- the time at b is not before the start of a triple that began after a
  not_before : (a b n : ℕ) (x : TripleView) (xs : List TripleView) (over : ℤ) → AllByRecursion (λ t. pos 0 <ℤ t.rate) (x ∷ xs) → TriplesRise (x ∷ xs)
      → x.anchor.ticks ≤ b → a < x.anchor.ticks → Stands a b x xs → Time n x xs b over → (x.anchor.time *ℤ pos per_count) ≤ℤ over
  not_before a b n x [] over rates rise begun after stands time =
      subst (λ (z : ℤ). (x.anchor.time *ℤ pos per_count) ≤ℤ z) (sym (by_first n x [] b over begun refl time)) (line_from x b rates.0)
  not_before a b n x (y ∷ ys) over rates rise begun after stands time = elim (cases_lt b y.anchor.ticks) [
    | inl before ↦ subst (λ (z : ℤ). (x.anchor.time *ℤ pos per_count) ≤ℤ z) (sym (by_first n x (y ∷ ys) b over begun (not_begun (n + 1) y ys b before) time)) (line_from x b rates.0)
    | inr later ↦
        let up : x.anchor.ticks < y.anchor.ticks = rise.0.0 in
        through _ _ _ _ (line_from x y.anchor.ticks rates.0) (stands.0 (omega arith) later)
        (not_before a b (n + 1) y ys over rates.1 rise.1 later (omega arith) stands.1 (by_next n x y ys b over begun later time))
  ]
    where
      through : (p q r s : ℤ) → p ≤ℤ q → q ≤ℤ r → r ≤ℤ s → p ≤ℤ s
      through p q r s h k l = omega (arith, ints)

  in_order : (a b n : ℕ) (x : TripleView) (xs : List TripleView) (over_a over_b : ℤ) → AllByRecursion (λ t. pos 0 <ℤ t.rate) (x ∷ xs) → TriplesRise (x ∷ xs)
      → a < b → x.anchor.ticks ≤ a → Stands a b x xs → Time n x xs a over_a → Time n x xs b over_b → over_a <ℤ over_b
  in_order a b n x [] over_a over_b rates rise up begun stands at_a at_b =
      same_line _ _ _ _ (by_first n x [] a over_a begun refl at_a) (by_first n x [] b over_b (omega arith) refl at_b) (line_up x a b rates.0 begun up)
  in_order a b n x (y ∷ ys) over_a over_b rates rise up begun stands at_a at_b = elim (cases_lt a y.anchor.ticks) [
    | inl apart ↦ parted apart (cases_lt b y.anchor.ticks)
    | inr both ↦ in_order a b (n + 1) y ys over_a over_b rates.1 rise.1 up both stands.1
        (by_next n x y ys a over_a begun both at_a) (by_next n x y ys b over_b (omega arith) (omega arith) at_b)
  ]
    where
      time_a : a < y.anchor.ticks → over_a ≡ line x a
      time_a apart = by_first n x (y ∷ ys) a over_a begun (not_begun (n + 1) y ys a apart) at_a

      through : (p q r s : ℤ) → p <ℤ q → q ≤ℤ r → r ≤ℤ s → p <ℤ s
      through p q r s h k l = omega (arith, ints)

      parted : a < y.anchor.ticks → ((b < y.anchor.ticks) ⊎ (y.anchor.ticks ≤ b)) → over_a <ℤ over_b
      parted apart (inl before) =
          same_line _ _ _ _ (time_a apart) (by_first n x (y ∷ ys) b over_b (omega arith) (not_begun (n + 1) y ys b before) at_b) (line_up x a b rates.0 begun up)
      parted apart (inr later) =
          subst (λ (z : ℤ). z <ℤ over_b) (sym (time_a apart))
          (through _ _ _ _ (line_up x a y.anchor.ticks rates.0 begun apart) (stands.0 apart later)
          (not_before a b (n + 1) y ys over_b rates.1 rise.1 later apart stands.1 (by_next n x y ys b over_b (omega arith) later at_b)))

  -- what is said of the joins by their numbers, and what is said of them one after another
  stand_on : (a b : ℕ) (x : TripleView) (xs : List TripleView) → StandBetween per_count (x ∷ xs) a b → Stands a b x xs
  stand_on a b x [] h = tt
  stand_on a b x (y ∷ ys) h = (here, stand_on a b y ys (λ i triple at above up falls. h (suc i) triple at above up (shifted i falls)))
    where
      not_falling : (p q z : ℤ) → z ≡ pos 0 → ¬ (z <ℤ (p -ℤ q)) → p ≤ℤ q
      not_falling p q z e stands = by_lt_z q p (λ less. absurd (stands (fall p q z e less))) (λ up. up)
        where
          fall : (p q z : ℤ) → z ≡ pos 0 → q <ℤ p → z <ℤ (p -ℤ q)
          fall p q z e less = omega (arith, ints, e, less)

      nothing : (n : ℕ) → (pos 0 *ℤ pos n) ≡ pos 0
      nothing n = omega (arith, ints)

      here : a < y.anchor.ticks → y.anchor.ticks ≤ b → line x y.anchor.ticks ≤ℤ (y.anchor.time *ℤ pos per_count)
      here above up = not_falling _ _ (pos 0 *ℤ pos per_count) (nothing per_count)
          (λ falls. h 1 y refl above up (record { before = x; after = y; counted = omega arith; is_before = refl; is_after = refl; falls = falls }))

      shifted : (i : ℕ) → FallsOver per_count (y ∷ ys) (pos 0) i → FallsOver per_count (x ∷ y ∷ ys) (pos 0) (suc i)
      shifted i f = record {
        before = f.before;
        after = f.after;
        counted = omega arith;
        is_before = subst (λ (k : ℕ). slice_get (x ∷ y ∷ ys) k ≡ Some f.before) (let c = f.counted in let e : suc (i - 1) ≡ suc i - 1 = omega arith in e) f.is_before;
        is_after = f.is_after;
        falls = f.falls;
      }

pub order_law : OrderLaw
order_law per_count [] a b over_a over_b positive rise rates up stands at_a at_b = absurd (none-some (at_a.0, at_a.1) at_a.2)
order_law per_count (x ∷ xs) a b over_a over_b positive rise rates up stands at_a at_b = elim (cases_lt a x.anchor.ticks) [
  | inl before ↦ absurd (none-some (at_a.0, at_a.1) (sym (not_begun per_count 1 x xs a before) ∙ at_a.2))
  | inr begun ↦ in_order per_count a b 1 x xs over_a over_b rates rise up begun (stand_on per_count a b x xs stands) at_a at_b
]
