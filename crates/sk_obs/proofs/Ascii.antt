-- The texts of clocks and times are ASCII.
use Rattle.std.proofs.Common.{◌≡◌, ◌⊎◌, ℕ, suc, ◌^◌, ◌<◌, ◌≤◌, Bool, true, List, [], ◌∷◌, ◌++◌, Option, Some, None, codes, refl, sym, subst, inl, inr, arith, pos, ◌==◌}
use Rattle.std.proofs.lemmas.Int.{ints}
use Rattle.std.specs.Prelude.{nat_lt, Contains}
use Rattle.std.specs.Char.{is_ascii_digit}
use Rattle.std.specs.List.{list_all}
use Rattle.std.specs.Str.{IsUtf8}
use Rattle.std.proofs.lemmas.Str.{IsUtf8-from_ascii}
use Rattle.std.proofs.lemmas.Str.Ascii.{IsAscii-from_all}
use Rattle.std.proofs.lemmas.List.Elements.{All-weaker, All-contains}
use Rattle.std.proofs.lemmas.List.Sums.{AllPass-from_list_all}
use Rattle.std.proofs.lemmas.Bool.{ltb-true, lt-ltb, leb-true, and_parts, eqb-true}
use Rattle.jiff_core.specs.Calendar.{days_in_year}
use Rattle.sk_decimal.specs.Number.{padded_decimal}
use Rattle.sk_decimal.proofs.Forms.{list_all-both, list_all-weaker}
use Rattle.sk_clock.specs.ClockText.{Reading, SpellsClock, SpellsPartition, SpellsFields, IsFieldSeparator, AreBlanks}
use Rattle.sk_leap.specs.declared.utc.Utc.{Utc}
use Rattle.sk_leap.specs.UtcText.{SpellsUtc, IsCalendarDate, IsOrdinalDate, IsClockTime, IsFraction}
use Rattle.sk_leap.proofs.Padded.{padded_is}
use Rattle.sk_leap.proofs.Texts.{days_small}

abbrev is_low : ℕ → Bool
is_low byte = nat_lt byte 128

record AreLow (bytes : List ℕ) : Type 0 where
  low : list_all is_low bytes ≡ true

computed : (bytes : List ℕ) → list_all is_low bytes ≡ true → AreLow bytes
computed bytes h = record { low = h }

low_utf8 : (bytes : List ℕ) → AreLow bytes → IsUtf8 bytes
low_utf8 bytes h =
    IsUtf8-from_ascii bytes (IsAscii-from_all bytes (All-weaker (λ (x : ℕ). is_low x ≡ true) (λ (x : ℕ). x < 128) (λ x low. ltb-true x 128 low) bytes (AllPass-from_list_all is_low bytes h.low)))

digit_low : (x : ℕ) → is_ascii_digit x ≡ true → is_low x ≡ true
digit_low x h = let most : x ≤ 57 = leb-true x 57 (and_parts _ _ h).1 in lt-ltb x 128 (omega arith)

blank_low : (x : ℕ) → (x == 32) ≡ true → is_low x ≡ true
blank_low x h = let is : x ≡ 32 = eqb-true x 32 h in lt-ltb x 128 (omega arith)

digits_low : (bytes : List ℕ) → list_all is_ascii_digit bytes ≡ true → AreLow bytes
digits_low bytes h = record { low = list_all-weaker is_ascii_digit is_low digit_low bytes h }

blanks_low : (bytes : List ℕ) → AreBlanks bytes → AreLow bytes
blanks_low bytes h = record { low = list_all-weaker (λ byte. byte == 32) is_low blank_low bytes h }

both : (a b : List ℕ) → AreLow a → AreLow b → AreLow (a ++ b)
both a b h k = record { low = list_all-both is_low a b h.low k.low }

along : (a b : List ℕ) → a ≡ b → AreLow b → AreLow a
along a b e h = subst AreLow (sym e) h

-- ---- UTC

padded_low : (k n : ℕ) → k ≤ 11 → n < 10 ^ suc k → AreLow (padded_decimal (suc k) n)
padded_low k n le lt = digits_low (padded_decimal (suc k) n) (padded_is k n le lt).digits

dash : AreLow (codes "-")
dash = computed (codes "-") refl

colon : AreLow (codes ":")
colon = computed (codes ":") refl

days_in_year_small : (year : ℕ) → days_in_year (pos year) ≤ 366
days_in_year_small year = grind arith

date_low : (date : List ℕ) (day : _) → IsCalendarDate date day ⊎ IsOrdinalDate date day → AreLow date
date_low date day (inl h) =
    let year = padded_low 3 h.year (omega arith) (omega (arith, h.in_range)) in
    let month = padded_low 1 h.month (omega arith) (omega (arith, ints, h.real)) in
    let days = padded_low 1 h.date (omega arith) (days_small h.year h.month h.date h.real) in
    along date _ h.spelled (both _ _ (both _ _ (both _ _ (both (padded_decimal 4 h.year) (codes "-") year dash) month) dash) days)
date_low date day (inr h) =
    let year = padded_low 3 h.year (omega arith) (omega (arith, h.in_range)) in
    let place = padded_low 2 h.place (omega arith) (omega (arith, h.real, days_in_year_small h.year)) in
    along date _ h.spelled (both _ _ (both (padded_decimal 4 h.year) (codes "-") year dash) place)

seconds_small : (hour minute second : ℕ) → (second ≤ 59) ⊎ ((hour ≡ 23) × (minute ≡ 59) × (second ≡ 60)) → second < 10 ^ 2
seconds_small hour minute second (inl h) = omega arith
seconds_small hour minute second (inr h) = omega (arith, h)

clock_low : (clock : List ℕ) (sod : ℕ) → IsClockTime clock sod → AreLow clock
clock_low clock sod h =
    let hour = padded_low 1 h.hour (omega arith) (omega (arith, h.hours)) in
    let minute = padded_low 1 h.minute (omega arith) (omega (arith, h.minutes)) in
    let second = padded_low 1 h.second (omega arith) (seconds_small h.hour h.minute h.second h.seconds) in
    along clock _ h.spelled (both _ _ (both _ _ (both _ _ (both (padded_decimal 2 h.hour) (codes ":") hour colon) minute) colon) second)

fraction_low : (fraction : List ℕ) (sub : ℕ) → IsFraction fraction sub → AreLow fraction
fraction_low fraction sub (inl h) = along fraction [] h.0 (computed [] refl)
fraction_low fraction sub (inr h) = along fraction _ h.1 (both (codes ".") h.0 (computed (codes ".") refl) (digits_low h.0 h.2.1))

zone_low : (zone : List ℕ) → (zone ≡ []) ⊎ (zone ≡ codes "Z") → AreLow zone
zone_low zone (inl h) = along zone [] h (computed [] refl)
zone_low zone (inr h) = along zone _ h (computed (codes "Z") refl)

pub SpellsUtc-utf8 : (text : List ℕ) (utc : Utc) → SpellsUtc text utc → IsUtf8 text
SpellsUtc-utf8 text utc h =
    low_utf8 text (along text _ h.joined (both _ _ (both _ _ (both _ _ (both h.date (codes "T") (date_low h.date utc.day h.is_date) (computed (codes "T") refl)) (clock_low h.clock utc.sod h.is_clock)) (fraction_low h.fraction utc.sub h.is_fraction)) (zone_low h.zone h.is_zone)))

-- ---- clock strings

part_low : (part : List ℕ) (named : Option ℕ) → SpellsPartition part named → AreLow part
part_low part None h = along part [] h (computed [] refl)
part_low part (Some p) h =
    along part _ h.3 (both _ _ (both _ _ (both h.0 h.1 (digits_low h.0 h.4.0.1) (blanks_low h.1 h.5)) (computed (codes "/") refl)) (blanks_low h.2 h.6))

mark_low : (mark : ℕ) → Contains (codes ".:-,") mark → is_low mark ≡ true
mark_low mark h = All-contains (λ (b : ℕ). is_low b ≡ true) (codes ".:-,") mark (AllPass-from_list_all is_low (codes ".:-,") refl) h

one_low : (byte : ℕ) → is_low byte ≡ true → AreLow (byte ∷ [])
one_low byte h = record { low = rw h refl }

separator_low : (separator : List ℕ) → IsFieldSeparator separator → AreLow separator
separator_low separator (inl h) = blanks_low separator h.1
separator_low separator (inr h) =
    along separator _ h.3 (both h.0 (h.1 ∷ h.2) (blanks_low h.0 h.5) (both (h.1 ∷ []) h.2 (one_low h.1 (mark_low h.1 h.4)) (blanks_low h.2 h.6)))

fields_low : (bytes : List ℕ) (values : List ℕ) → SpellsFields bytes values → AreLow bytes
fields_low bytes [] h = absurd h
fields_low bytes (value ∷ []) h = digits_low bytes h.0.1
fields_low bytes (value ∷ next ∷ values) h =
    along bytes _ h.3 (both _ _ (both h.0 h.1 (digits_low h.0 h.4.0.1) (separator_low h.1 h.5)) (fields_low h.2 (next ∷ values) h.6))

pub SpellsClock-utf8 : (text : List ℕ) (reading : Reading) → SpellsClock text reading → IsUtf8 text
SpellsClock-utf8 text reading h =
    low_utf8 text (along text _ h.joined (both _ _ (both _ _ (both h.before h.part (blanks_low h.before h.is_before) (part_low h.part reading.partition h.is_part)) (fields_low h.fields reading.values h.are_fields)) (blanks_low h.after h.is_after)))
