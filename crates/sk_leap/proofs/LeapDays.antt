-- The days of the years 1958 to 2199.
use Rattle.std.proofs.Common.{◌≡◌, ℕ, ◌<◌, ◌≤◌, ◌⊎◌, inl, inr, List, refl, ap, sym, ◌∙◌, subst, arith, lit≤}
use Rattle.std.specs.Prelude.{ℤ, pos, negsuc, neg_ℤ, ◌<ℤ◌, ◌≤ℤ◌, ◌+ℤ◌, ◌-ℤ◌}
use Rattle.std.proofs.lemmas.Int.{ints, by_lt_z}
use Rattle.jiff_core.specs.declared.civil.date.Date.{Date}
use Rattle.jiff_core.specs.Calendar.{IsDate, days_from_civil, day_count, days_of_years, days_of_months, days_in_month}
use Rattle.jiff_core.specs.Date.{epoch_day}
use Rattle.jiff_core.proofs.DateLemmas.{epoch_day-lt, cases_date, epoch_day_same, IsEarlier}
use Rattle.sk_leap.specs.Kernel.{IsLeapDate, day_of}
use Rattle.sk_leap.proofs.Texts.{days_in_month_small}

-- the date of these parts
abbrev pub date_of : (year month date : ℕ) → IsDate (pos year) (pos month) (pos date) → Date
date_of year month date h = record { year = pos year; month = month; day = date; year_in = h.0; month_in = (omega (arith, ints, h.1), omega (arith, ints, h.1)); day_in = (omega (arith, ints, h.2), omega (arith, ints, h.2)) }

not_before : (a b : Date) → (IsEarlier b a → ⊥) → epoch_day a ≤ℤ epoch_day b
not_before a b h = elim (cases_date a b) [
  | inl lt ↦ omega (arith, ints, epoch_day-lt a b lt)
  | inr (inl gt) ↦ absurd (h gt)
  | inr (inr same) ↦ omega (arith, ints, epoch_day_same a b same.0 same.1 same.2)
]

abbrev first : Date
first = date_of 1958 1 1 (omega (arith, ints), omega (arith, ints), omega (arith, ints))

abbrev last : Date
last = date_of 2199 12 31 (omega (arith, ints), omega (arith, ints), omega (arith, ints))

first_day : days_from_civil (pos 1958) 1 1 ≡ negsuc 4382
unfolding days_from_civil day_count days_of_years days_of_months
first_day = refl

last_day : days_from_civil (pos 2199) 12 31 ≡ pos 84005
unfolding days_from_civil day_count days_of_years days_of_months
last_day = refl

pub leap_day_bounds : (text : List ℕ) (day : ℤ) → IsLeapDate text day → (neg_ℤ (pos 15340) ≤ℤ day) × (day ≤ℤ pos 73048)
leap_day_bounds text day h =
    let d = date_of h.year h.month h.date h.real in
    let low : epoch_day first ≤ℤ epoch_day d = not_before first d (λ early. elim early [
      | inl year ↦ omega (arith, ints, year, h.in_range)
      | inr (year, inl month) ↦ omega (arith, ints, month, h.real)
      | inr (year, inr date) ↦ omega (arith, ints, date, h.real)
    ]) in
    let high : epoch_day d ≤ℤ epoch_day last = not_before d last (λ late. elim late [
      | inl year ↦ omega (arith, ints, year, h.in_range)
      | inr (year, inl month) ↦ omega (arith, ints, month, h.real)
      | inr (year, inr date) ↦ omega (arith, ints, date, h.real, days_in_month_small (pos h.year) h.month)
    ]) in
    (omega (arith, ints, low, first_day, h.is_day), omega (arith, ints, high, last_day, h.is_day))

year_one : days_from_civil (pos 1) 1 1 ≡ negsuc 719161
unfolding days_from_civil day_count days_of_years days_of_months
year_one = refl

abbrev one : Date
one = date_of 1 1 1 ((omega (arith, ints), omega (arith, ints)), (omega (arith, ints), omega (arith, ints)), (omega (arith, ints), omega (arith, ints)))

-- no date before the year 1 has such a day
pub late_year : (d : Date) (day : ℤ) → epoch_day d ≡ day +ℤ pos 10957 → neg_ℤ (pos 15340) ≤ℤ day → pos 1 ≤ℤ d.year
late_year d day is low = by_lt_z d.year (pos 1)
    (λ early. let before : epoch_day d <ℤ epoch_day one = epoch_day-lt d one (inl early) in absurd (omega (arith, ints, before, year_one, is, low)))
    (λ late. late)
