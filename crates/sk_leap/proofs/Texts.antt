-- The readers of UTC texts against what the codes spell.
use Rattle.std.proofs.Common.{◌≡◌, ℕ, zero, suc, ◌+◌, ◌-◌, ◌*◌, ◌^◌, ◌<◌, ◌≤◌, ◌⊎◌, inl, inr, Bool, true, false, cond, List, [], ◌∷◌, ◌++◌, length, take, drop, Option, Some, None, option_map, nat_le, nat_lt, ◌&&◌, codes, refl, ap, sym, ◌∙◌, subst, arith, lit<, lit≤, append_assoc, length-append}
use Rattle.std.specs.Prelude.{ℤ, pos, ◌==◌}
use Rattle.std.specs.Char.{is_ascii_digit}
use Rattle.std.specs.List.{list_all, prefix_len}
use Rattle.std.specs.Option.{option_and_then, option_or}
use Rattle.std.specs.Str.Parse.{digits_value}
use Rattle.std.proofs.lemmas.Bool.{and_parts, and_from, le-leb, leb-true, lt-ltb, ltb-true, eqb-true, ne_eqb, cases_Bool}
use Rattle.std.proofs.lemmas.Int.{ints}
use Rattle.std.proofs.lemmas.Option.{none-some, same_Some}
use Rattle.std.proofs.Math.Seq.{take-append_seam, drop-append_seam}
use Rattle.sk_decimal.specs.Number.{padded_decimal, AreDigits}
use Rattle.sk_decimal.specs.Reading.{digits_at, behind_digits}
use Rattle.jiff_core.specs.Calendar.{IsDate, days_in_month, days_in_year}
use Rattle.sk_leap.specs.declared.utc.Utc.{Utc}
use Rattle.sk_leap.specs.declared.parts.DateParts.{DateParts}
use Rattle.sk_leap.specs.declared.parts.DateParts.TheVariants.{Calendar, Ordinal}
use Rattle.sk_leap.specs.declared.parts.ClockParts.{ClockParts}
use Rattle.sk_leap.specs.declared.parts.UtcParts.{UtcParts}
use Rattle.sk_leap.specs.Reading.{number_of, number_at, behind, marked_number, picoseconds_of, is_zone, fraction_at, calendar_at, ordinal_at, date_behind, date_at, clock_at, parts_of}
use Rattle.sk_leap.specs.Meaning.{IsDayOf, IsSecondOf, IsUtcOf}
use Rattle.sk_leap.specs.UtcText.{IsCalendarDate, IsOrdinalDate, IsClockTime, IsFraction, SpellsUtc}
use Rattle.sk_leap.proofs.DigitsRead.{digit_is}
use Rattle.sk_leap.proofs.Padded.{AreDigitsOf, padded_is, padded_read, front_read, front_spelled, marked_read, marked_spelled, bound, mapped, guarded}

-- ---- dates

pub days_in_month_small : (year : ℤ) (month : ℕ) → days_in_month year month ≤ 31
days_in_month_small year month = grind arith

pub days_small : (year month date : ℕ) → IsDate (pos year) (pos month) (pos date) → date < 10 ^ 2
days_small year month date h = omega (arith, ints, h.2, days_in_month_small (pos year) month)

days_in_year_small : (year : ℕ) → days_in_year (pos year) ≤ 366
days_in_year_small year = grind arith

calendar_read : (year month date : ℕ) (rest : List ℕ) → month < 10 ^ 2 → date < 10 ^ 2
    → calendar_at year (45 ∷ (padded_decimal 2 month ++ 45 ∷ (padded_decimal 2 date ++ rest))) ≡ Some (Calendar year month date, rest)
calendar_read year month date rest m d =
    ap (option_and_then (λ (p : ℕ × List ℕ). option_map (λ (q : ℕ × List ℕ). (Calendar year p.0 q.0, q.1)) (marked_number 45 2 p.1))) (marked_read 45 1 month (45 ∷ (padded_decimal 2 date ++ rest)) (lit≤ tt) m)
    ∙ ap (option_map (λ (q : ℕ × List ℕ). (Calendar year month q.0, q.1))) (marked_read 45 1 date rest (lit≤ tt) d)

-- where a third digit stands there is no date of the calendar
three_digits : (year a b c : ℕ) (rest : List ℕ) → list_all is_ascii_digit (a ∷ b ∷ c ∷ []) ≡ true → calendar_at year (45 ∷ a ∷ b ∷ c ∷ rest) ≡ None
three_digits year a b c rest all =
    let first = and_parts (is_ascii_digit a) _ all in
    let second = and_parts (is_ascii_digit b) _ first.1 in
    let third = and_parts (is_ascii_digit c) true second.1 in
    let digit = digit_is c third.0 in
    let front : AreDigitsOf 2 (a ∷ b ∷ []) (digits_value 10 (a ∷ b ∷ [])) = record { long = refl; digits = and_from _ _ first.0 (and_from _ _ second.0 refl); value = refl } in
    let other : (c == 45) ≡ false = ne_eqb c 45 (λ is. omega (arith, digit.low, is)) in
    let none : marked_number 45 2 (c ∷ rest) ≡ None = ap (λ (t : Bool). option_and_then (number_at 2) (cond t (Some rest) None)) other in
    ap (option_and_then (λ (p : ℕ × List ℕ). option_map (λ (q : ℕ × List ℕ). (Calendar year p.0 q.0, q.1)) (marked_number 45 2 p.1))) (front_read 2 (digits_value 10 (a ∷ b ∷ [])) (a ∷ b ∷ []) (c ∷ rest) front)
    ∙ ap (option_map (λ (q : ℕ × List ℕ). (Calendar year (digits_value 10 (a ∷ b ∷ [])) q.0, q.1))) none

no_calendar : (year n : ℕ) (digits rest : List ℕ) → AreDigitsOf 3 digits n → calendar_at year (45 ∷ (digits ++ rest)) ≡ None
no_calendar year n [] rest h = absurd (omega (arith, h.long))
no_calendar year n (a ∷ []) rest h = absurd (omega (arith, h.long))
no_calendar year n (a ∷ b ∷ []) rest h = absurd (omega (arith, h.long))
no_calendar year n (a ∷ b ∷ c ∷ []) rest h = three_digits year a b c rest h.digits
no_calendar year n (a ∷ b ∷ c ∷ d ∷ ds) rest h = absurd (omega (arith, h.long))

ordinal_read : (year place : ℕ) (rest : List ℕ) → place < 10 ^ 3 → ordinal_at year (45 ∷ (padded_decimal 3 place ++ rest)) ≡ Some (Ordinal year place, rest)
ordinal_read year place rest lt = ap (option_map (λ (q : ℕ × List ℕ). (Ordinal year q.0, q.1))) (marked_read 45 2 place rest (lit≤ tt) lt)

-- a date in front is read
pub record ReadsDate (text rest : List ℕ) (day : ℤ) : Type 0 where
  pub date : DateParts
  pub read : date_at text ≡ Some (date, rest)
  pub is_day : IsDayOf date day

joined_calendar : (a b c rest : List ℕ) → (a ++ codes "-" ++ b ++ codes "-" ++ c) ++ rest ≡ a ++ 45 ∷ (b ++ 45 ∷ (c ++ rest))
joined_calendar a b c rest = simp append_assoc

joined_ordinal : (a b rest : List ℕ) → (a ++ codes "-" ++ b) ++ rest ≡ a ++ 45 ∷ (b ++ rest)
joined_ordinal a b rest = simp append_assoc

calendar_is_read : (date rest : List ℕ) (day : ℤ) → IsCalendarDate date day → ReadsDate (date ++ rest) rest day
calendar_is_read date rest day h =
    let tail = 45 ∷ (padded_decimal 2 h.month ++ 45 ∷ (padded_decimal 2 h.date ++ rest)) in
    let shape : date ++ rest ≡ padded_decimal 4 h.year ++ tail =
    ap (λ (xs : List ℕ). xs ++ rest) h.spelled ∙ joined_calendar (padded_decimal 4 h.year) (padded_decimal 2 h.month) (padded_decimal 2 h.date) rest in
    let year : number_at 4 (date ++ rest) ≡ Some (h.year, tail) = ap (number_at 4) shape ∙ padded_read 3 h.year tail (lit≤ tt) (omega (arith, h.in_range)) in
    let month : h.month < 10 ^ 2 = omega (arith, ints, h.real) in
    let days : h.date < 10 ^ 2 = days_small h.year h.month h.date h.real in
    record {
      date = Calendar h.year h.month h.date;
      read = ap (option_and_then date_behind) year ∙ ap (λ (o : Option (DateParts × List ℕ)). option_or o (ordinal_at h.year tail)) (calendar_read h.year h.month h.date rest month days);
      is_day = (omega (arith, h.in_range), h.real, h.is_day);
    }

ordinal_is_read : (date rest : List ℕ) (day : ℤ) → IsOrdinalDate date day → ReadsDate (date ++ rest) rest day
ordinal_is_read date rest day h =
    let tail = 45 ∷ (padded_decimal 3 h.place ++ rest) in
    let shape : date ++ rest ≡ padded_decimal 4 h.year ++ tail =
    ap (λ (xs : List ℕ). xs ++ rest) h.spelled ∙ joined_ordinal (padded_decimal 4 h.year) (padded_decimal 3 h.place) rest in
    let year : number_at 4 (date ++ rest) ≡ Some (h.year, tail) = ap (number_at 4) shape ∙ padded_read 3 h.year tail (lit≤ tt) (omega (arith, h.in_range)) in
    let place : h.place < 10 ^ 3 = omega (arith, h.real, days_in_year_small h.year) in
    record {
      date = Ordinal h.year h.place;
      read = ap (option_and_then date_behind) year
          ∙ ap (λ (o : Option (DateParts × List ℕ)). option_or o (ordinal_at h.year tail)) (no_calendar h.year h.place (padded_decimal 3 h.place) rest (padded_is 2 h.place (lit≤ tt) place))
          ∙ ordinal_read h.year h.place rest place;
      is_day = (omega (arith, h.in_range), h.real, h.is_day);
    }

date_is_read : (date rest : List ℕ) (day : ℤ) → IsCalendarDate date day ⊎ IsOrdinalDate date day → ReadsDate (date ++ rest) rest day
date_is_read date rest day (inl h) = calendar_is_read date rest day h
date_is_read date rest day (inr h) = ordinal_is_read date rest day h

-- ---- the time of day

pub record ReadsClock (bytes rest : List ℕ) (sod : ℕ) : Type 0 where
  pub clock : ClockParts
  pub read : clock_at bytes ≡ Some (clock, rest)
  pub is_second : IsSecondOf clock sod

joined_clock : (a b c rest : List ℕ) → (a ++ codes ":" ++ b ++ codes ":" ++ c) ++ rest ≡ a ++ 58 ∷ (b ++ 58 ∷ (c ++ rest))
joined_clock a b c rest = simp append_assoc

abbrev clock_of : ℕ → ℕ → ℕ → ClockParts
clock_of hour minute second = record { hour = hour; minute = minute; second = second }

clock_read : (hour minute second : ℕ) (rest : List ℕ) → hour < 10 ^ 2 → minute < 10 ^ 2 → second < 10 ^ 2
    → clock_at (84 ∷ (padded_decimal 2 hour ++ 58 ∷ (padded_decimal 2 minute ++ 58 ∷ (padded_decimal 2 second ++ rest)))) ≡ Some (clock_of hour minute second, rest)
clock_read hour minute second rest h m s =
    let behind_minute = 58 ∷ (padded_decimal 2 second ++ rest) in
    let behind_hour = 58 ∷ (padded_decimal 2 minute ++ behind_minute) in
    ap (option_and_then (λ (p : ℕ × List ℕ). option_and_then (λ (q : ℕ × List ℕ). option_map (λ (r : ℕ × List ℕ). (clock_of p.0 q.0 r.0, r.1)) (marked_number 58 2 q.1)) (marked_number 58 2 p.1))) (marked_read 84 1 hour behind_hour (lit≤ tt) h)
    ∙ ap (option_and_then (λ (q : ℕ × List ℕ). option_map (λ (r : ℕ × List ℕ). (clock_of hour q.0 r.0, r.1)) (marked_number 58 2 q.1))) (marked_read 58 1 minute behind_minute (lit≤ tt) m)
    ∙ ap (option_map (λ (r : ℕ × List ℕ). (clock_of hour minute r.0, r.1))) (marked_read 58 1 second rest (lit≤ tt) s)

seconds_small : (hour minute second : ℕ) → (second ≤ 59) ⊎ ((hour ≡ 23) × (minute ≡ 59) × (second ≡ 60)) → second < 10 ^ 2
seconds_small hour minute second (inl h) = omega arith
seconds_small hour minute second (inr h) = omega (arith, h)

clock_is_read : (clock rest : List ℕ) (sod : ℕ) → IsClockTime clock sod → ReadsClock (84 ∷ (clock ++ rest)) rest sod
clock_is_read clock rest sod h =
    let shape : clock ++ rest ≡ padded_decimal 2 h.hour ++ 58 ∷ (padded_decimal 2 h.minute ++ 58 ∷ (padded_decimal 2 h.second ++ rest)) =
    ap (λ (xs : List ℕ). xs ++ rest) h.spelled ∙ joined_clock (padded_decimal 2 h.hour) (padded_decimal 2 h.minute) (padded_decimal 2 h.second) rest in
    record {
      clock = clock_of h.hour h.minute h.second;
      read = ap (λ (xs : List ℕ). clock_at (84 ∷ xs)) shape
          ∙ clock_read h.hour h.minute h.second rest (omega (arith, h.hours)) (omega (arith, h.minutes)) (seconds_small h.hour h.minute h.second h.seconds);
      is_second = record { hours = h.hours; minutes = h.minutes; seconds = h.seconds; is_sod = h.is_sod };
    }

-- ---- the fraction

abbrev pub IsZone : List ℕ → Type 0
IsZone zone = (zone ≡ []) ⊎ (zone ≡ codes "Z")

zone_stops : (zone : List ℕ) → IsZone zone → (prefix_len is_ascii_digit zone ≡ 0) × (is_zone zone ≡ true) × (fraction_at zone ≡ Some 0)
zone_stops zone (inl h) = rw h (refl, refl, refl)
zone_stops zone (inr h) = rw h (refl, refl, refl)

run_length : (digits zone : List ℕ) → list_all is_ascii_digit digits ≡ true → prefix_len is_ascii_digit zone ≡ 0 → prefix_len is_ascii_digit (digits ++ zone) ≡ length digits
run_length [] zone all stops = stops
run_length (d ∷ ds) zone all stops =
    let both = and_parts (is_ascii_digit d) (list_all is_ascii_digit ds) all in
    ap (λ (b : Bool). cond b (1 + prefix_len is_ascii_digit (ds ++ zone)) 0) both.0 ∙ omega (arith, run_length ds zone both.1 stops)

run_digits : (digits zone : List ℕ) → list_all is_ascii_digit digits ≡ true → prefix_len is_ascii_digit zone ≡ 0 → digits_at (digits ++ zone) ≡ digits
run_digits digits zone all stops = ap (λ (k : ℕ). take k (digits ++ zone)) (run_length digits zone all stops) ∙ take-append_seam digits zone

run_rest : (digits zone : List ℕ) → list_all is_ascii_digit digits ≡ true → prefix_len is_ascii_digit zone ≡ 0 → behind_digits (digits ++ zone) ≡ zone
run_rest digits zone all stops = ap (λ (xs : List ℕ). drop (length xs) (digits ++ zone)) (run_digits digits zone all stops) ∙ drop-append_seam digits zone

picoseconds_read : (digits : List ℕ) → AreDigits digits → length digits ≤ 12 → picoseconds_of digits ≡ Some (digits_value 10 digits * 10 ^ (12 - length digits))
picoseconds_read digits h le =
    let room : (nat_lt 0 (length digits) && nat_le (length digits) 12) ≡ true = and_from _ _ (lt-ltb 0 (length digits) h.0) (le-leb (length digits) 12 le) in
    let number : number_of digits ≡ Some (digits_value 10 digits) = ap (λ (b : Bool). cond b (Some (digits_value 10 digits)) None) h.1 in
    ap (λ (b : Bool). cond b (option_map (λ (n : ℕ). n * 10 ^ (12 - length digits)) (number_of digits)) None) room
    ∙ ap (option_map (λ (n : ℕ). n * 10 ^ (12 - length digits))) number

fraction_is_read : (fraction zone : List ℕ) (sub : ℕ) → IsFraction fraction sub → IsZone zone → fraction_at (fraction ++ zone) ≡ Some sub
fraction_is_read fraction zone sub (inl h) is_end =
    ap (λ (xs : List ℕ). fraction_at (xs ++ zone)) h.0 ∙ (zone_stops zone is_end).2 ∙ ap Some (sym h.1)
fraction_is_read fraction zone sub (inr h) is_end =
    let digits = h.0 in
    let stops = zone_stops zone is_end in
    let rest = run_rest digits zone h.2.1 stops.0 in
    ap (λ (xs : List ℕ). fraction_at (xs ++ zone)) h.1
    ∙ ap (λ (xs : List ℕ). cond (is_zone xs) (picoseconds_of (digits_at (digits ++ zone))) None) rest
    ∙ ap (λ (b : Bool). cond b (picoseconds_of (digits_at (digits ++ zone))) None) stops.1
    ∙ ap picoseconds_of (run_digits digits zone h.2.1 stops.0)
    ∙ picoseconds_read digits h.2 h.3
    ∙ ap Some (sym h.4)

-- ---- the whole text

joined_text : (date clock fraction zone : List ℕ) → date ++ codes "T" ++ clock ++ fraction ++ zone ≡ date ++ 84 ∷ (clock ++ (fraction ++ zone))
joined_text date clock fraction zone = simp append_assoc

pub record ReadsUtc (text : List ℕ) (utc : Utc) : Type 0 where
  pub parts : UtcParts
  pub read : parts_of text ≡ Some parts
  pub is_utc : IsUtcOf parts utc

abbrev pub utc_parts : DateParts → ClockParts → ℕ → UtcParts
utc_parts date clock sub = record { date = date; clock = clock; sub = sub }

-- what is spelled is read
pub spelled_is_read : (text : List ℕ) (utc : Utc) → SpellsUtc text utc → ReadsUtc text utc
spelled_is_read text utc h =
    let tail = h.fraction ++ h.zone in
    let date = date_is_read h.date (84 ∷ (h.clock ++ tail)) utc.day h.is_date in
    let clock = clock_is_read h.clock tail utc.sod h.is_clock in
    let sub = fraction_is_read h.fraction h.zone utc.sub h.is_fraction h.is_zone in
    record {
      parts = utc_parts date.date clock.clock utc.sub;
      read = ap parts_of (h.joined ∙ joined_text h.date h.clock h.fraction h.zone)
          ∙ ap (option_and_then (λ (d : DateParts × List ℕ). option_and_then (λ (c : ClockParts × List ℕ). option_map (utc_parts d.0 c.0) (fraction_at c.1)) (clock_at d.1))) date.read
          ∙ ap (option_and_then (λ (c : ClockParts × List ℕ). option_map (utc_parts date.date c.0) (fraction_at c.1))) clock.read
          ∙ ap (option_map (utc_parts date.date clock.clock)) sub;
      is_utc = record { day = date.is_day; second = clock.is_second; sub = refl };
    }
