-- Day and second of day from a count of seconds.
use Rattle.std.proofs.Common.{◌≡◌, ◌≢◌, ℕ, ◌+◌, ◌*◌, ◌^◌, ◌<◌, ◌≤◌, ◌⊎◌, inl, inr, Option, Some, None, refl, ap, sym, ◌∙◌, subst, arith, lit<, SFits, to_z, of_z, w32, w64}
use Rattle.std.specs.Prelude.{ℤ, pos, negsuc, neg_ℤ, nat_abs, ◌+ℤ◌, ◌-ℤ◌, ◌*ℤ◌, ◌<ℤ◌, ◌≤ℤ◌}
use Rattle.std.specs.Int.{int_div_euclid, w128}
use Rattle.std.specs.Option.{ForSome}
use Rattle.std.proofs.lemmas.Int.{ints, by_lt_z, to_z-of_z}
use Rattle.std.proofs.lemmas.Option.{none-some, same_Some}
use Rattle.sk_decimal.specs.Fixed.{IsFloor}
use Rattle.sk_decimal.proofs.Quotients.{floor_below, floor_above}
use Rattle.sk_leap.specs.declared.pair.LeapPair.{LeapPair}
use Rattle.sk_leap.specs.Steps.{start_of, EndsBefore, IsBetween, IsClockOf}

pub record IsDayOfSecond (counted day : ℤ) : Type 0 where
  pub from : (day *ℤ pos 86400) ≤ℤ counted
  pub to : counted <ℤ (day *ℤ pos 86400 +ℤ pos 86400)

pub day_of_second : (counted day : ℤ) → day ≡ int_div_euclid counted (pos 86400) → IsDayOfSecond counted day
day_of_second counted day is = record { from = omega (arith, ints, is, floor_below counted 86400 (lit< tt)); to = omega (arith, ints, is, floor_above counted 86400 (lit< tt)) }

pub last_clock : (pair : LeapPair) (second day : ℤ) (sod : ℕ) → day *ℤ pos 86400 +ℤ pos sod ≡ second -ℤ pos pair.value → sod < 86400 → IsClockOf pair None second day sod
last_clock pair second day sod sum part = record { sum = omega (arith, ints, sum); ends = part }

pub leap_clock : (pair later : LeapPair) (second day : ℤ) (sod : ℕ) → day *ℤ pos 86400 +ℤ pos sod ≡ second -ℤ pos pair.value → IsBetween pair later second → day ≡ later.day
    → IsClockOf pair (Some later) second (later.day -ℤ pos 1) 86400
leap_clock pair later second day sod sum between same =
    record { sum = omega (arith, ints, sum, same, between.before, between.value); ends = inr (omega (arith, ints), refl) }

pub plain_clock : (pair later : LeapPair) (second day : ℤ) (sod : ℕ) → day *ℤ pos 86400 +ℤ pos sod ≡ second -ℤ pos pair.value → sod < 86400 → IsBetween pair later second → (day ≡ later.day → ⊥)
    → IsClockOf pair (Some later) second day sod
plain_clock pair later second day sod sum part between differs =
    let before : day <ℤ later.day = by_lt_z day later.day (λ lt. lt)
    (λ ge. absurd (differs (omega (arith, ints, sum, between.before, between.value, ge)))) in
    record { sum = omega (arith, ints, sum); ends = inl (before, part) }

-- ---- numbers in their types

pub start_low : (pair : LeapPair) (second : ℤ) → neg_ℤ (pos 15340) ≤ℤ pair.day → start_of pair ≤ℤ second → neg_ℤ (pos (10 ^ 10)) ≤ℤ second
start_low pair second low begun = omega (arith, ints, low, begun)

pub count_cast : (second from : ℤ) (value : ℕ) → from ≡ pos value → value ≤ 1000 → neg_ℤ (pos (10 ^ 10)) ≤ℤ second → second ≤ℤ pos (10 ^ 10)
    → to_z w64 (of_z w64 (to_z w64 (of_z w64 second) -ℤ to_z w64 (of_z w64 from))) ≡ second -ℤ pos value
count_cast second from value is small low high = omega (arith, ints)

pub same_bits : (a b : ℤ) → SFits w64 a → SFits w64 b → of_z w64 a ≡ of_z w64 b → a ≡ b
same_bits a b f g h = sym (to_z-of_z w64 a f) ∙ ap (to_z w64) h ∙ to_z-of_z w64 b g

pub back_cast : (d : ℤ) → SFits w32 d → neg_ℤ (pos 15340) ≤ℤ d → to_z w32 (of_z w32 (to_z w32 (of_z w32 d) -ℤ pos 1)) ≡ d -ℤ pos 1
back_cast d fits low = omega (arith, ints)

pub record IsNear (day : ℤ) : Type 0 where
  pub low : neg_ℤ (pos (10 ^ 6)) ≤ℤ day
  pub high : day ≤ℤ pos (10 ^ 6)

pub near_day : (day second : ℤ) (sod value : ℕ) → day *ℤ pos 86400 +ℤ pos sod ≡ second -ℤ pos value → sod < 86400 → value ≤ 1000 → neg_ℤ (pos (10 ^ 10)) ≤ℤ second → second ≤ℤ pos (10 ^ 10) → IsNear day
near_day day second sod value sum part small low high = record { low = omega (arith, ints); high = omega (arith, ints) }

pub day_cast : (day : ℤ) → IsNear day → to_z w32 (of_z w32 (to_z w64 (of_z w64 day))) ≡ day
day_cast day near = omega (arith, ints, near.low, near.high)

pub near_fits : (day : ℤ) → IsNear day → SFits w64 day
near_fits day near = omega (arith, ints, near.low, near.high)

-- ---- a time's parts

pub second_cast : (s : ℤ) → neg_ℤ (pos (10 ^ 11)) ≤ℤ s → s ≤ℤ pos (10 ^ 11) → to_z w64 (of_z w64 (to_z w64 (of_z w64 (to_z w128 (of_z w128 s))) +ℤ pos 43200)) ≡ s +ℤ pos 43200
second_cast s low high = omega (arith, ints)

pub part_cast : (atomic s : ℤ) → neg_ℤ (pos (10 ^ 23)) ≤ℤ atomic → atomic ≤ℤ pos (10 ^ 23) → neg_ℤ (pos (10 ^ 11)) ≤ℤ s → s ≤ℤ pos (10 ^ 11)
    → to_z w128 (of_z w128 (atomic -ℤ to_z w128 (of_z w128 (to_z w128 (of_z w128 s) *ℤ pos 1000000000000)))) ≡ atomic -ℤ s *ℤ pos 1000000000000
part_cast atomic s low high from to = omega (arith, ints)

pub near_second : (units s : ℤ) → IsFloor (units -ℤ pos 32184000000000) (pos 1000000000000) s → neg_ℤ (pos (10 ^ 22)) ≤ℤ units → units ≤ℤ pos (10 ^ 22)
    → (neg_ℤ (pos (10 ^ 11)) ≤ℤ s) × (s ≤ℤ pos (10 ^ 11))
near_second units s floor low high = (omega (arith, ints, floor), omega (arith, ints, floor))

pub parts_sum : (units s : ℤ) → IsFloor (units -ℤ pos 32184000000000) (pos 1000000000000) s
    → units ≡ ((s +ℤ pos 43200) -ℤ pos 43200) *ℤ pos 1000000000000 +ℤ pos (nat_abs ((units -ℤ pos 32184000000000) -ℤ s *ℤ pos 1000000000000) + 32184000000000)
parts_sum units s floor = omega (arith, ints, floor)

pub later_low : (pair later : LeapPair) (second : ℤ) → neg_ℤ (pos 15340) ≤ℤ pair.day → IsBetween pair later second → neg_ℤ (pos 15340) ≤ℤ later.day
later_low pair later second low between = omega (arith, ints, low, between.day)
