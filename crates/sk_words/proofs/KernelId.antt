-- Kernel IDs: which texts spell a calendar time, and which bytes these have.
use Rattle.std.proofs.Common.{◌≡◌, ℕ, zero, suc, ◌+◌, ◌-◌, ◌*◌, ◌≤◌, ◌⊎◌, inl, inr, Bool, true, false, not, ◌&&◌, ◌||◌, List, [], ◌∷◌, ◌++◌, length, map, codes, Option, Some, None, is_some, nat_le, refl, ap, sym, ◌∙◌, subst, arith, length-append}
use Rattle.std.specs.Prelude.{ℤ, pos, ◌+ℤ◌, ◌-ℤ◌, ◌==◌, slice_get, MatchOption}
use Rattle.std.specs.Char.{is_ascii_digit, to_ascii_lowercase}
use Rattle.std.specs.List.{list_all}
use Rattle.std.specs.Option.{option_map_or}
use Rattle.std.specs.Str.{str_to_ascii_lowercase}
use Rattle.std.proofs.lemmas.Bool.{false≢true, false_from_ne_true, and_parts, and_from, le-leb, leb-true}
use Rattle.std.proofs.lemmas.Bool.Decides.{nat_tests}
use Rattle.std.proofs.lemmas.Int.{ints}
use Rattle.std.proofs.lemmas.Option.{none-some, same_Some}
use Rattle.jiff_core.specs.Calendar.{days_in_year, days_in_month}
use Rattle.sk_decimal.proofs.Forms.{list_all-both, list_all-weaker}
use Rattle.sk_leap.specs.Kernel.{day_of, month_names}
use Rattle.sk_calendar.specs.declared.date.DateParts.{DateParts}
use Rattle.sk_calendar.specs.declared.date.DateParts.TheVariants.{Civil, Ordinal}
use Rattle.sk_calendar.specs.declared.clock.ClockParts.{ClockParts}
use Rattle.sk_calendar.specs.declared.time.TimeParts.{TimeParts}
use Rattle.sk_calendar.specs.Calendar.{IsNumber, IsShortNumber, IsMonth, AreCivil, IsCivilDate, IsOrdinalDate, IsFraction, AreSeconds, IsTimeOfDay, IsSeparator, IsClock, SpellsCalendarTime, time_of}
use Rattle.sk_calendar.specs.Meaning.{IsDayOf, IsSecondOf}
use Rattle.sk_calendar.specs.Reading.{parts_of}
use Rattle.sk_calendar.proofs.MonthNames.{name_of}
use Rattle.sk_calendar.proofs.Texts.{spelled_is_read, read_is_spelled}
use Rattle.sk_words.specs.KernelId.{is_day, is_second, is_time, is_calendar_time}

-- ---- the parts that mean a time

within : (low high n : ℕ) → (nat_le low n && nat_le n high) ≡ true → (low ≤ n) × (n ≤ high)
within low high n h = let p = and_parts (nat_le low n) (nat_le n high) h in (leb-true low n p.0, leb-true n high p.1)

tested_within : (low high n : ℕ) → low ≤ n → n ≤ high → (nat_le low n && nat_le n high) ≡ true
tested_within low high n from to = and_from _ _ (le-leb low n from) (le-leb n high to)

day_found : (date : DateParts) → is_day date ≡ true → (day : ℤ) × IsDayOf date day
day_found (Civil year month date) h =
    let p = and_parts _ _ h in
    let q = and_parts _ _ p.1 in
    let y = within 1600 2399 year p.0 in
    let m = within 1 12 month q.0 in
    let d = within 1 (days_in_month (pos year) month) date q.1 in (
      day_of year month date,
      (
        y,
        ((omega (arith, ints, y), omega (arith, ints, y)), (omega (arith, ints, m), omega (arith, ints, m)), (omega (arith, ints, d), omega (arith, ints, d))),
        refl,
      ),
    )
day_found (Ordinal year place) h =
    let p = and_parts _ _ h in
    let y = within 1600 2399 year p.0 in
    let d = within 1 (days_in_year (pos year)) place p.1 in
    (day_of year 1 1 +ℤ pos place -ℤ pos 1, (y, d, omega (arith, ints)))

day_tested : (date : DateParts) (day : ℤ) → IsDayOf date day → is_day date ≡ true
day_tested (Civil year month date) day h =
    and_from _ _ (tested_within 1600 2399 year h.0.0 h.0.1)
    (and_from _ _ (tested_within 1 12 month (omega (arith, ints, h.1.1)) (omega (arith, ints, h.1.1)))
    (tested_within 1 (days_in_month (pos year) month) date (omega (arith, ints, h.1.2)) (omega (arith, ints, h.1.2))))
day_tested (Ordinal year place) day h =
    and_from _ _ (tested_within 1600 2399 year h.0.0 h.0.1) (tested_within 1 (days_in_year (pos year)) place h.1.0 h.1.1)

second_found : (clock : ClockParts) → is_second clock ≡ true → (sod : ℕ) × IsSecondOf clock sod
second_found clock h =
    let p = and_parts _ _ h in
    let q = and_parts _ _ p.1 in (
      clock.hour * 3600 + clock.minute * 60 + clock.second,
      record { hours = leb-true clock.hour 23 p.0; minutes = leb-true clock.minute 59 q.0; seconds = leb-true clock.second 59 q.1; is_sod = refl },
    )

second_tested : (clock : ClockParts) (sod : ℕ) → IsSecondOf clock sod → is_second clock ≡ true
second_tested clock sod h = and_from _ _ (le-leb clock.hour 23 h.hours) (and_from _ _ (le-leb clock.minute 59 h.minutes) (le-leb clock.second 59 h.seconds))

-- ---- the texts of calendar times

found : (text : List ℕ) (o : Option TimeParts) → parts_of text ≡ o → option_map_or is_time o false ≡ true → (time : ℤ) × SpellsCalendarTime text time
found text None read h = absurd (false≢true h)
found text (Some parts) read h =
    let p = and_parts (is_day parts.date) (is_second parts.clock) h in
    let day = day_found parts.date p.0 in
    let sod = second_found parts.clock p.1 in
    let time = time_of day.0 sod.0 parts.clock.sub in
    (time, read_is_spelled text parts time read (record { day = day.0; sod = sod.0; is_day = day.1; is_second = sod.1; is_time = refl }))

pub spelled : (text : List ℕ) → is_calendar_time text ≡ true → (time : ℤ) × SpellsCalendarTime text time
unfolding is_calendar_time
spelled text h = found text (parts_of text) refl h

pub tested : (text : List ℕ) (time : ℤ) → SpellsCalendarTime text time → is_calendar_time text ≡ true
unfolding is_calendar_time
tested text time h =
    let read = spelled_is_read text time h in
    ap (λ (o : Option TimeParts). option_map_or is_time o false) read.read
    ∙ and_from _ _ (day_tested read.parts.date read.is_time.day read.is_time.is_day) (second_tested read.parts.clock read.is_time.sod read.is_time.is_second)

-- what the reader of calendar times answers
pub decided : {F : Type 0} (units : F → ℤ) (text : List ℕ) (o : Option F)
    → MatchOption o ((time : ℤ) → ¬ SpellsCalendarTime text time) (λ f. SpellsCalendarTime text (units f)) → is_some o ≡ is_calendar_time text
decided units text None none = sym (false_from_ne_true (is_calendar_time text) (λ is. let t = spelled text is in none t.0 t.1))
decided units text (Some f) h = sym (tested text (units f) h)

-- ---- their bytes

-- bytes from 33 to 126 without `,`, `(`, `)` and `'`
abbrev pub is_id_byte : ℕ → Bool
is_id_byte byte = nat_le 33 byte && nat_le byte 126 && not (byte == 44 || byte == 40 || byte == 41 || byte == 39)

-- so many bytes at most, each of them of these
abbrev Fits : ℕ → List ℕ → Type 0
Fits most text = (length text ≤ most) × (list_all is_id_byte text ≡ true)

joined : (m n : ℕ) (xs ys : List ℕ) → Fits m xs → Fits n ys → Fits (m + n) (xs ++ ys)
joined m n xs ys a b = (omega (arith, length-append xs ys, a.0, b.0), list_all-both is_id_byte xs ys a.1 b.1)

hyphen : Fits 1 (codes "-")
hyphen = (omega arith, refl)

-- two parts, and three, with `-` between
three : (a b : List ℕ) (k m : ℕ) → Fits k a → Fits m b → Fits (k + 1 + m) (a ++ codes "-" ++ b)
three a b k m h i = joined (k + 1) m (a ++ codes "-") b (joined k 1 a (codes "-") h hyphen) i

five : (a b c : List ℕ) (k m n : ℕ) → Fits k a → Fits m b → Fits n c → Fits (k + 1 + m + 1 + n) (a ++ codes "-" ++ b ++ codes "-" ++ c)
five a b c k m n h i j =
    joined (k + 1 + m + 1) n (a ++ codes "-" ++ b ++ codes "-") c
    (joined (k + 1 + m) 1 (a ++ codes "-" ++ b) (codes "-") (three a b k m h i) hyphen) j

digit_byte : (byte : ℕ) → is_ascii_digit byte ≡ true → is_id_byte byte ≡ true
digit_byte byte h = grind (arith, nat_tests)

digits_fit : (width most number : ℕ) (text : List ℕ) → IsNumber width text number → width ≤ most → Fits most text
digits_fit width most number text h room = (omega (arith, h.long), list_all-weaker is_ascii_digit is_id_byte digit_byte text h.digits)

short_fits : (text : List ℕ) (number : ℕ) → IsShortNumber text number → Fits 2 text
short_fits text number (inl h) = digits_fit 1 2 number text h (omega arith)
short_fits text number (inr h) = digits_fit 2 2 number text h (omega arith)

abbrev is_lower : ℕ → Bool
is_lower byte = nat_le 97 byte && nat_le byte 122

abbrev AreLower : List (List ℕ) → Type 0
AreLower [] = Unit {0}
AreLower (name ∷ names) = (list_all is_lower name ≡ true) × AreLower names

lower_at : (names : List (List ℕ)) (k : ℕ) (name : List ℕ) → AreLower names → slice_get names k ≡ Some name → list_all is_lower name ≡ true
lower_at [] k name all h = absurd (none-some name h)
lower_at (n ∷ names) zero name all h = subst (λ (xs : List ℕ). list_all is_lower xs ≡ true) (same_Some n name h) all.0
lower_at (n ∷ names) (suc k) name all h = lower_at names k name all.1 h

letter_byte : (byte : ℕ) → is_lower (to_ascii_lowercase byte) ≡ true → is_id_byte byte ≡ true
letter_byte byte h = grind (arith, nat_tests)

letter_bytes : (text : List ℕ) → list_all is_lower (map to_ascii_lowercase text) ≡ true → list_all is_id_byte text ≡ true
letter_bytes [] h = refl
letter_bytes (byte ∷ bytes) h =
    let both = and_parts (is_lower (to_ascii_lowercase byte)) (list_all is_lower (map to_ascii_lowercase bytes)) h in
    and_from _ _ (letter_byte byte both.0) (letter_bytes bytes both.1)

month_fits : (text : List ℕ) (month : ℕ) → IsMonth text month → Fits 3 text
month_fits text month h = (
  omega (arith, (name_of (month - 1) text h).long),
  letter_bytes text
      (lower_at month_names (month - 1) (str_to_ascii_lowercase text)
      (refl, (refl, (refl, (refl, (refl, (refl, (refl, (refl, (refl, (refl, (refl, (refl, tt)))))))))))) h),
)

civil_fits : (a b c : List ℕ) (year month date : ℕ) → AreCivil a b c year month date → Fits 11 (a ++ codes "-" ++ b ++ codes "-" ++ c)
civil_fits a b c year month date (inl h) = five a b c 4 3 2 (digits_fit 4 4 year a h.0 (omega arith)) (digits_fit 2 3 month b h.1 (omega arith)) (digits_fit 2 2 date c h.2 (omega arith))
civil_fits a b c year month date (inr (inl h)) = five a b c 4 3 2 (digits_fit 4 4 year a h.0 (omega arith)) (month_fits b month h.1) (short_fits c date h.2)
civil_fits a b c year month date (inr (inr h)) = five a b c 2 3 4 (short_fits a date h.0) (month_fits b month h.1) (digits_fit 4 4 year c h.2 (omega arith))

date_fits : (text : List ℕ) (day : ℤ) → IsCivilDate text day ⊎ IsOrdinalDate text day → Fits 11 text
date_fits text day (inl h) = subst (Fits 11) (sym h.joined) (civil_fits h.first h.second h.third h.year h.month h.date h.parts)
date_fits text day (inr h) =
    subst (Fits 11) (sym h.joined)
    (three h.first h.second 4 6 (digits_fit 4 4 h.year h.first h.is_year (omega arith)) (digits_fit 3 6 h.place h.second h.is_place (omega arith)))

fraction_fits : (text : List ℕ) (sub : ℕ) → IsFraction text sub → Fits 19 text
fraction_fits text sub (inl h) = subst (Fits 19) (sym h.0) (omega arith, refl)
fraction_fits text sub (inr h) =
    subst (Fits 19) (sym h.1) (joined 1 18 (codes ".") h.0 (omega arith, refl) (h.3, list_all-weaker is_ascii_digit is_id_byte digit_byte h.0 h.2.1))

seconds_fit : (text : List ℕ) (second sub : ℕ) → AreSeconds text second sub → Fits 22 text
seconds_fit text second sub (inl h) = subst (Fits 22) (sym h.0) (omega arith, refl)
seconds_fit text second sub (inr h) =
    subst (Fits 22) (sym h.2)
    (joined 3 19 (codes ":" ++ h.0) h.1 (joined 1 2 (codes ":") h.0 (omega arith, refl) (digits_fit 2 2 second h.0 h.3 (omega arith))) (fraction_fits h.1 sub h.4))

time_fits : (text : List ℕ) (sod sub : ℕ) → IsTimeOfDay text sod sub → Fits 27 text
time_fits text sod sub h =
    subst (Fits 27) (sym h.joined)
    (joined 5 22 (h.first ++ codes ":" ++ h.middle) h.last
    (joined 3 2 (h.first ++ codes ":") h.middle (joined 2 1 h.first (codes ":") (digits_fit 2 2 h.hour h.first h.is_hour (omega arith)) (omega arith, refl)) (digits_fit 2 2 h.minute h.middle h.is_minute (omega arith)))
    (seconds_fit h.last h.second sub h.are_seconds))

separator_byte : (byte : ℕ) → IsSeparator byte → is_id_byte byte ≡ true
separator_byte byte h = grind (arith, nat_tests, h)

clock_fits : (text : List ℕ) (sod sub : ℕ) → IsClock text sod sub → Fits 28 text
clock_fits text sod sub (inl h) = subst (Fits 28) (sym h.0) (omega arith, refl)
clock_fits text sod sub (inr h) =
    let time = time_fits h.1 sod sub h.4 in
    subst (Fits 28) (sym h.2) (omega (arith, time.0), and_from (is_id_byte h.0) (list_all is_id_byte h.1) (separator_byte h.0 h.3) time.1)

not_empty : (text : List ℕ) → is_calendar_time text ≡ true → 1 ≤ length text
unfolding is_calendar_time
not_empty [] h = absurd (false≢true h)
not_empty (byte ∷ bytes) h = omega arith

-- a calendar time has 1 to 79 bytes, of those that a kernel's date may have
pub id_bytes : (text : List ℕ) → is_calendar_time text ≡ true → (1 ≤ length text) × (length text ≤ 79) × (list_all is_id_byte text ≡ true)
id_bytes text h =
    let time = (spelled text h).1 in
    let fits = subst (Fits 39) (sym time.joined) (joined 11 28 time.date time.clock (date_fits time.date time.day time.is_date) (clock_fits time.clock time.sod time.sub time.is_clock)) in
    (not_empty text h, omega (arith, fits.0), fits.1)
