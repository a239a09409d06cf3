-- A time of a leap table is that of one UTC, and a UTC has one text.
use Rattle.std.proofs.Common.{◌≡◌, ◌⊎◌, ℕ, ◌+◌, ◌*◌, ◌<◌, ◌≤◌, List, [], ◌∷◌, ◌++◌, codes, refl, sym, ap, subst, inl, inr, ◌∙◌, arith}
use Rattle.std.proofs.lemmas.Int.{ints, by_lt_z}
use Rattle.std.proofs.lemmas.Bool.{cases_order}
use Rattle.std.specs.Prelude.{ℤ, pos, ◌-ℤ◌, ◌<ℤ◌}
use Rattle.jiff_core.specs.Calendar.{days_from_civil}
use Rattle.jiff_core.proofs.DateLemmas.{epoch_day_injective}
use Rattle.sk_checks.specs.Checks.{NoneRefuses}
use Rattle.sk_decimal.specs.Number.{padded_decimal}
use Rattle.sk_leap.specs.declared.pair.LeapPair.{LeapPair}
use Rattle.sk_leap.specs.declared.utc.Utc.{Utc}
use Rattle.sk_leap.specs.Leap.{tdt_of, utc_checks, IsEarlier, IsLeapTable}
use Rattle.sk_leap.specs.UtcText.{IsCalendarDate, IsClockTime, IsPrintedUtc}
use Rattle.sk_leap.proofs.LeapDays.{date_of}
use Rattle.sk_leap.proofs.Rising.{rising}
use Rattle.sk_leap.proofs.OneUtc.{same_utc}

-- ---- a UTC has one text

same_less : (x y : ℤ) → x -ℤ pos 10957 ≡ y -ℤ pos 10957 → x ≡ y
same_less x y e = omega (arith, ints, e)

same_pos : (m n : ℕ) → pos m ≡ pos n → m ≡ n
same_pos m n e = omega (arith, ints, e)

one_date : (s t : List ℕ) (d : ℤ) → IsCalendarDate s d → IsCalendarDate t d → s ≡ t
one_date s t d h k =
    let days : days_from_civil (pos h.year) h.month h.date ≡ days_from_civil (pos k.year) k.month k.date = same_less _ _ (sym h.is_day ∙ k.is_day) in
    let same = epoch_day_injective (date_of h.year h.month h.date h.real) (date_of k.year k.month k.date k.real) days in
    let year : h.year ≡ k.year = same_pos h.year k.year same.0 in
    h.spelled ∙ (λ i. padded_decimal 4 (year i) ++ codes "-" ++ padded_decimal 2 (same.1 i) ++ codes "-" ++ padded_decimal 2 (same.2 i)) ∙ sym k.spelled

record SameParts (h m s h' m' s' : ℕ) : Type 0 where
  hour : h ≡ h'
  minute : m ≡ m'
  second : s ≡ s'

abbrev IsSecond : ℕ → ℕ → ℕ → Type 0
IsSecond h m s = (s ≤ 59) ⊎ ((h ≡ 23) × (m ≡ 59) × (s ≡ 60))

one_second : (h m s h' m' s' : ℕ) → h ≤ 23 → m ≤ 59 → IsSecond h m s → h' ≤ 23 → m' ≤ 59 → IsSecond h' m' s' → h * 3600 + m * 60 + s ≡ h' * 3600 + m' * 60 + s' → SameParts h m s h' m' s'
one_second h m s h' m' s' a b (inl c) d e (inl f) is = record { hour = omega (arith, a, b, c, d, e, f, is); minute = omega (arith, a, b, c, d, e, f, is); second = omega (arith, a, b, c, d, e, f, is) }
one_second h m s h' m' s' a b (inl c) d e (inr f) is = absurd (omega (arith, a, b, c, f.0, f.1, f.2, is))
one_second h m s h' m' s' a b (inr c) d e (inl f) is = absurd (omega (arith, d, e, f, c.0, c.1, c.2, is))
one_second h m s h' m' s' a b (inr c) d e (inr f) is = record { hour = omega (arith, c.0, f.0); minute = omega (arith, c.1, f.1); second = omega (arith, c.2, f.2) }

one_clock : (s t : List ℕ) (n : ℕ) → IsClockTime s n → IsClockTime t n → s ≡ t
one_clock s t n h k =
    let same = one_second h.hour h.minute h.second k.hour k.minute k.second h.hours h.minutes h.seconds k.hours k.minutes k.seconds (sym h.is_sod ∙ k.is_sod) in
    h.spelled ∙ (λ i. padded_decimal 2 (same.hour i) ++ codes ":" ++ padded_decimal 2 (same.minute i) ++ codes ":" ++ padded_decimal 2 (same.second i)) ∙ sym k.spelled

pub one_print : (a b : List ℕ) (u v : Utc) → u ≡ v → IsPrintedUtc a u → IsPrintedUtc b v → a ≡ b
one_print a b u v same h k =
    let date : h.date ≡ k.date = one_date h.date k.date v.day (subst (IsCalendarDate h.date) (ap (λ (w : Utc). w.day) same) h.is_date) k.is_date in
    let clock : h.clock ≡ k.clock = one_clock h.clock k.clock v.sod (subst (IsClockTime h.clock) (ap (λ (w : Utc). w.sod) same) h.is_clock) k.is_clock in
    h.joined ∙ (λ i. date i ++ codes "T" ++ clock i ++ codes "." ++ padded_decimal 12 (same i).sub ++ codes "Z") ∙ sym k.joined

-- ---- a time is that of one UTC

earlier_or_same : (u v : Utc) → IsEarlier u v ⊎ (IsEarlier v u ⊎ (u ≡ v))
earlier_or_same u v =
    by_lt_z u.day v.day (λ lt. inl (inl lt)) (λ ge. by_lt_z v.day u.day (λ gt. inr (inl (inl gt)))
    (λ le. let day : u.day ≡ v.day = omega (arith, ints, ge, le) in
    elim (cases_order u.sod v.sod) [
      | inr (inl lt) ↦ inl (inr (day, inl lt))
      | inl sod ↦ elim (cases_order u.sub v.sub) [
        | inr (inl lt) ↦ inl (inr (day, inr (sod, lt)))
        | inl sub ↦ inr (inr (same_utc u v day sod sub))
        | inr (inr gt) ↦ inr (inl (inr (sym day, inr (sym sod, gt))))
      ]
      | inr (inr gt) ↦ inr (inl (inr (sym day, inl gt)))
    ]))

not_less : (x y z : ℤ) → x ≡ z → y ≡ z → x <ℤ y → ⊥
not_less x y z e f less = omega (arith, ints, e, f, less)

pub one_utc_of : (pairs : List LeapPair) (time : ℤ) (u v : Utc) → IsLeapTable pairs → NoneRefuses (utc_checks pairs u) → NoneRefuses (utc_checks pairs v)
    → tdt_of pairs u ≡ time → tdt_of pairs v ≡ time → u ≡ v
one_utc_of pairs time u v table p q e f = elim (earlier_or_same u v) [
  | inl earlier ↦ absurd (not_less (tdt_of pairs u) (tdt_of pairs v) time e f (rising pairs table u v p q earlier))
  | inr (inl later) ↦ absurd (not_less (tdt_of pairs v) (tdt_of pairs u) time f e (rising pairs table v u q p later))
  | inr (inr same) ↦ same
]
