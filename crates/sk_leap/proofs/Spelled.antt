-- What the readers of UTC texts take is spelled.
use Rattle.std.proofs.Common.{◌≡◌, ℕ, zero, suc, ◌+◌, ◌-◌, ◌*◌, ◌^◌, ◌<◌, ◌≤◌, ◌⊎◌, inl, inr, Bool, true, false, cond, List, [], ◌∷◌, ◌++◌, length, take, drop, Option, Some, None, option_map, nat_le, nat_lt, ◌&&◌, codes, refl, ap, sym, ◌∙◌, subst, arith, lit<, lit≤, append_assoc, length-append}
use Rattle.std.specs.Prelude.{ℤ, pos, ◌==◌}
use Rattle.std.specs.Char.{is_ascii_digit}
use Rattle.std.specs.List.{list_all, prefix_len}
use Rattle.std.specs.Int.{IsInRange}
use Rattle.std.specs.Option.{option_and_then, option_or}
use Rattle.std.specs.Str.Parse.{digits_value}
use Rattle.std.proofs.lemmas.Bool.{and_parts, and_from, le-leb, leb-true, lt-ltb, ltb-true, eqb-true, cases_Bool}
use Rattle.std.proofs.lemmas.Option.{none-some, same_Some}
use Rattle.std.proofs.lemmas.List.{take-append-drop, length-take}
use Rattle.std.proofs.lemmas.List.Sums.{prefix_len-le-length}
use Rattle.sk_decimal.specs.Number.{padded_decimal, AreDigits}
use Rattle.sk_decimal.specs.Reading.{digits_at, behind_digits}
use Rattle.jiff_core.specs.Calendar.{IsDate}
use Rattle.sk_leap.specs.declared.utc.Utc.{Utc}
use Rattle.sk_leap.specs.declared.parts.DateParts.{DateParts}
use Rattle.sk_leap.specs.declared.parts.DateParts.TheVariants.{Calendar, Ordinal}
use Rattle.sk_leap.specs.declared.parts.ClockParts.{ClockParts}
use Rattle.sk_leap.specs.declared.parts.UtcParts.{UtcParts}
use Rattle.sk_leap.specs.Reading.{number_of, number_at, behind, marked_number, picoseconds_of, is_zone, fraction_at, calendar_at, ordinal_at, date_behind, date_at, clock_at, parts_of}
use Rattle.sk_leap.specs.Meaning.{IsDayOf, IsSecondOf, IsUtcOf}
use Rattle.sk_leap.specs.UtcText.{IsCalendarDate, IsOrdinalDate, IsClockTime, IsFraction, SpellsUtc}
use Rattle.sk_leap.proofs.Padded.{front_spelled, marked_spelled, bound, mapped, guarded}
use Rattle.sk_leap.proofs.Texts.{IsZone, utc_parts}
use Rattle.sk_decimal.proofs.Numerals.{all_digits_at}

-- ---- dates

-- a date stands in front
pub record SpellsDate (text rest : List ℕ) (day : ℤ) : Type 0 where
  pub date : List ℕ
  pub is : text ≡ date ++ rest
  pub is_date : IsCalendarDate date day ⊎ IsOrdinalDate date day

split_calendar : (a b c rest : List ℕ) → a ++ 45 ∷ (b ++ 45 ∷ (c ++ rest)) ≡ (a ++ codes "-" ++ b ++ codes "-" ++ c) ++ rest
split_calendar a b c rest = simp append_assoc

split_ordinal : (a b rest : List ℕ) → a ++ 45 ∷ (b ++ rest) ≡ (a ++ codes "-" ++ b) ++ rest
split_ordinal a b rest = simp append_assoc

year_range : (year : ℕ) → 1 ≤ year → year < 10 ^ 4 → IsInRange 1 9999 year
year_range year from to = (from, omega arith)

calendar_spelled : (text tail rest : List ℕ) (year : ℕ) (date : DateParts) (day : ℤ) → year < 10 ^ 4 → text ≡ padded_decimal 4 year ++ tail
    → calendar_at year tail ≡ Some (date, rest) → IsDayOf date day → SpellsDate text rest day
calendar_spelled text tail rest year date day small is read is_day =
    let month = bound (λ (p : ℕ × List ℕ). option_map (λ (q : ℕ × List ℕ). (Calendar year p.0 q.0, q.1)) (marked_number 45 2 p.1)) (marked_number 45 2 tail) (date, rest) read in
    let last = mapped (λ (q : ℕ × List ℕ). (Calendar year month.0.0 q.0, q.1)) (marked_number 45 2 month.0.1) (date, rest) month.2 in
    let m = marked_spelled 45 1 month.0.0 tail month.0.1 (lit≤ tt) month.1 in
    let d = marked_spelled 45 1 last.0.0 month.0.1 last.0.1 (lit≤ tt) last.1 in
    let parts : Calendar year month.0.0 last.0.0 ≡ date = ap (λ (x : DateParts × List ℕ). x.0) last.2 in
    let end : last.0.1 ≡ rest = ap (λ (x : DateParts × List ℕ). x.1) last.2 in
    let means : IsDayOf (Calendar year month.0.0 last.0.0) day = subst (λ (x : DateParts). IsDayOf x day) (sym parts) is_day in
    record {
      date = padded_decimal 4 year ++ codes "-" ++ padded_decimal 2 month.0.0 ++ codes "-" ++ padded_decimal 2 last.0.0;
      is = is ∙ ap (λ (xs : List ℕ). padded_decimal 4 year ++ xs) m.is
          ∙ ap (λ (xs : List ℕ). padded_decimal 4 year ++ 45 ∷ (padded_decimal 2 month.0.0 ++ xs)) d.is
          ∙ split_calendar (padded_decimal 4 year) (padded_decimal 2 month.0.0) (padded_decimal 2 last.0.0) last.0.1
          ∙ ap (λ (xs : List ℕ). (padded_decimal 4 year ++ codes "-" ++ padded_decimal 2 month.0.0 ++ codes "-" ++ padded_decimal 2 last.0.0) ++ xs) end;
      is_date = inl (record { year = year; month = month.0.0; date = last.0.0; spelled = refl; in_range = year_range year means.0 small; real = means.1; is_day = means.2 });
    }

ordinal_spelled : (text tail rest : List ℕ) (year : ℕ) (date : DateParts) (day : ℤ) → year < 10 ^ 4 → text ≡ padded_decimal 4 year ++ tail
    → ordinal_at year tail ≡ Some (date, rest) → IsDayOf date day → SpellsDate text rest day
ordinal_spelled text tail rest year date day small is read is_day =
    let last = mapped (λ (q : ℕ × List ℕ). (Ordinal year q.0, q.1)) (marked_number 45 3 tail) (date, rest) read in
    let d = marked_spelled 45 2 last.0.0 tail last.0.1 (lit≤ tt) last.1 in
    let parts : Ordinal year last.0.0 ≡ date = ap (λ (x : DateParts × List ℕ). x.0) last.2 in
    let end : last.0.1 ≡ rest = ap (λ (x : DateParts × List ℕ). x.1) last.2 in
    let means : IsDayOf (Ordinal year last.0.0) day = subst (λ (x : DateParts). IsDayOf x day) (sym parts) is_day in
    record {
      date = padded_decimal 4 year ++ codes "-" ++ padded_decimal 3 last.0.0;
      is = is ∙ ap (λ (xs : List ℕ). padded_decimal 4 year ++ xs) d.is
          ∙ split_ordinal (padded_decimal 4 year) (padded_decimal 3 last.0.0) last.0.1
          ∙ ap (λ (xs : List ℕ). (padded_decimal 4 year ++ codes "-" ++ padded_decimal 3 last.0.0) ++ xs) end;
      is_date = inr (record { year = year; place = last.0.0; spelled = refl; in_range = year_range year means.0 small; real = means.1; is_day = means.2 });
    }

either : {A : Type 0} (a b : Option A) (y : A) → option_or a b ≡ Some y → (a ≡ Some y) ⊎ (b ≡ Some y)
either None b y h = inr h
either (Some x) b y h = inl h

date_spelled : (text rest : List ℕ) (date : DateParts) (day : ℤ) → date_at text ≡ Some (date, rest) → IsDayOf date day → SpellsDate text rest day
date_spelled text rest date day read is_day =
    let year = bound date_behind (number_at 4 text) (date, rest) read in
    let front = front_spelled 3 year.0.0 text year.0.1 (lit≤ tt) year.1 in
    elim (either (calendar_at year.0.0 year.0.1) (ordinal_at year.0.0 year.0.1) (date, rest) year.2) [
      | inl h ↦ calendar_spelled text year.0.1 rest year.0.0 date day front.small front.is h is_day
      | inr h ↦ ordinal_spelled text year.0.1 rest year.0.0 date day front.small front.is h is_day
    ]

-- ---- the time of day

pub record SpellsTime (bytes rest : List ℕ) (sod : ℕ) : Type 0 where
  pub clock : List ℕ
  pub is : bytes ≡ 84 ∷ (clock ++ rest)
  pub is_clock : IsClockTime clock sod

abbrev clock_of : ℕ → ℕ → ℕ → ClockParts
clock_of hour minute second = record { hour = hour; minute = minute; second = second }

split_clock : (a b c rest : List ℕ) → 84 ∷ (a ++ 58 ∷ (b ++ 58 ∷ (c ++ rest))) ≡ 84 ∷ ((a ++ codes ":" ++ b ++ codes ":" ++ c) ++ rest)
split_clock a b c rest = simp append_assoc

clock_spelled : (bytes rest : List ℕ) (clock : ClockParts) (sod : ℕ) → clock_at bytes ≡ Some (clock, rest) → IsSecondOf clock sod → SpellsTime bytes rest sod
clock_spelled bytes rest clock sod read is_second =
    let hour = bound (λ (p : ℕ × List ℕ). option_and_then (λ (q : ℕ × List ℕ). option_map (λ (r : ℕ × List ℕ). (clock_of p.0 q.0 r.0, r.1)) (marked_number 58 2 q.1)) (marked_number 58 2 p.1)) (marked_number 84 2 bytes) (clock, rest) read in
    let minute = bound (λ (q : ℕ × List ℕ). option_map (λ (r : ℕ × List ℕ). (clock_of hour.0.0 q.0 r.0, r.1)) (marked_number 58 2 q.1)) (marked_number 58 2 hour.0.1) (clock, rest) hour.2 in
    let second = mapped (λ (r : ℕ × List ℕ). (clock_of hour.0.0 minute.0.0 r.0, r.1)) (marked_number 58 2 minute.0.1) (clock, rest) minute.2 in
    let h = marked_spelled 84 1 hour.0.0 bytes hour.0.1 (lit≤ tt) hour.1 in
    let m = marked_spelled 58 1 minute.0.0 hour.0.1 minute.0.1 (lit≤ tt) minute.1 in
    let s = marked_spelled 58 1 second.0.0 minute.0.1 second.0.1 (lit≤ tt) second.1 in
    let parts : clock_of hour.0.0 minute.0.0 second.0.0 ≡ clock = ap (λ (x : ClockParts × List ℕ). x.0) second.2 in
    let end : second.0.1 ≡ rest = ap (λ (x : ClockParts × List ℕ). x.1) second.2 in
    let means : IsSecondOf (clock_of hour.0.0 minute.0.0 second.0.0) sod = subst (λ (x : ClockParts). IsSecondOf x sod) (sym parts) is_second in
    record {
      clock = padded_decimal 2 hour.0.0 ++ codes ":" ++ padded_decimal 2 minute.0.0 ++ codes ":" ++ padded_decimal 2 second.0.0;
      is = h.is ∙ ap (λ (xs : List ℕ). 84 ∷ (padded_decimal 2 hour.0.0 ++ xs)) m.is
          ∙ ap (λ (xs : List ℕ). 84 ∷ (padded_decimal 2 hour.0.0 ++ 58 ∷ (padded_decimal 2 minute.0.0 ++ xs))) s.is
          ∙ split_clock (padded_decimal 2 hour.0.0) (padded_decimal 2 minute.0.0) (padded_decimal 2 second.0.0) second.0.1
          ∙ ap (λ (xs : List ℕ). 84 ∷ ((padded_decimal 2 hour.0.0 ++ codes ":" ++ padded_decimal 2 minute.0.0 ++ codes ":" ++ padded_decimal 2 second.0.0) ++ xs)) end;
      is_clock = record { hour = hour.0.0; minute = minute.0.0; second = second.0.0; spelled = refl; hours = means.hours; minutes = means.minutes; seconds = means.seconds; is_sod = means.is_sod };
    }

-- ---- the fraction

pub record SpellsFraction (bytes : List ℕ) (sub : ℕ) : Type 0 where
  pub fraction : List ℕ
  pub zone : List ℕ
  pub is : bytes ≡ fraction ++ zone
  pub is_fraction : IsFraction fraction sub
  pub is_end : IsZone zone

no_bytes : (bytes : List ℕ) → (length bytes == 0) ≡ true → bytes ≡ []
no_bytes [] h = refl
no_bytes (b ∷ bs) h = absurd (omega (arith, eqb-true (length (b ∷ bs)) 0 h))

zone_is : (zone : List ℕ) → is_zone zone ≡ true → IsZone zone
zone_is [] h = inl refl
zone_is (b ∷ bs) h =
    let parts = and_parts (b == 90) (length bs == 0) h in
    inr (ap (λ (x : ℕ). x ∷ bs) (eqb-true b 90 parts.0) ∙ ap (λ (xs : List ℕ). 90 ∷ xs) (no_bytes bs parts.1))

take_le : (n : ℕ) (xs : List ℕ) → n ≤ length xs → drop (length (take n xs)) xs ≡ drop n xs
take_le n xs le = let long : length (take n xs) ≡ n = simp length-take (omega arith) in ap (λ (k : ℕ). drop k xs) long

digits_split : (bytes : List ℕ) → bytes ≡ digits_at bytes ++ behind_digits bytes
digits_split bytes =
    let le = prefix_len-le-length is_ascii_digit bytes in
    sym (take-append-drop (prefix_len is_ascii_digit bytes) bytes) ∙ ap (λ (xs : List ℕ). digits_at bytes ++ xs) (sym (take_le (prefix_len is_ascii_digit bytes) bytes le))

-- a point, digits and the zone
point_spelled : (bytes : List ℕ) (sub : ℕ) → is_zone (behind_digits bytes) ≡ true → picoseconds_of (digits_at bytes) ≡ Some sub → SpellsFraction (46 ∷ bytes) sub
point_spelled bytes sub is_end read =
    let digits = digits_at bytes in
    let room = guarded (nat_lt 0 (length digits) && nat_le (length digits) 12) (option_map (λ (n : ℕ). n * 10 ^ (12 - length digits)) (number_of digits)) sub read in
    let number = mapped (λ (n : ℕ). n * 10 ^ (12 - length digits)) (number_of digits) sub room.1 in
    let all = guarded (list_all is_ascii_digit digits) (Some (digits_value 10 digits)) number.0 number.1 in
    let both = and_parts (nat_lt 0 (length digits)) (nat_le (length digits) 12) room.0 in
    record {
      fraction = codes "." ++ digits;
      zone = behind_digits bytes;
      is = ap (λ (xs : List ℕ). 46 ∷ xs) (digits_split bytes);
      is_fraction = inr (
        digits,
        refl,
        (ltb-true 0 (length digits) both.0, all.0),
        leb-true (length digits) 12 both.1,
        sym number.2 ∙ ap (λ (n : ℕ). n * 10 ^ (12 - length digits)) (sym (same_Some _ _ all.1)),
      );
      is_end = zone_is (behind_digits bytes) is_end;
    }

plain_spelled : (bytes : List ℕ) (sub : ℕ) → cond (is_zone bytes) (Some 0) None ≡ Some sub → SpellsFraction bytes sub
plain_spelled bytes sub read =
    let parts = guarded (is_zone bytes) (Some 0) sub read in
    record { fraction = []; zone = bytes; is = refl; is_fraction = inl (refl, sym (same_Some 0 sub parts.1)); is_end = zone_is bytes parts.0 }

fraction_spelled : (bytes : List ℕ) (sub : ℕ) → fraction_at bytes ≡ Some sub → SpellsFraction bytes sub
fraction_spelled [] sub read = record { fraction = []; zone = []; is = refl; is_fraction = inl (refl, sym (same_Some 0 sub read)); is_end = inl refl }
fraction_spelled (byte ∷ bytes) sub read =
    elim (cases_Bool (byte == 46)) [
      | inl point ↦
          let here : cond (is_zone (behind_digits bytes)) (picoseconds_of (digits_at bytes)) None ≡ Some sub =
          sym (ap (λ (b : Bool). cond b (cond (is_zone (behind_digits bytes)) (picoseconds_of (digits_at bytes)) None) (cond (is_zone (byte ∷ bytes)) (Some 0) None)) point) ∙ read in
          let parts = guarded (is_zone (behind_digits bytes)) (picoseconds_of (digits_at bytes)) sub here in
          subst (λ (b : ℕ). SpellsFraction (b ∷ bytes) sub) (sym (eqb-true byte 46 point)) (point_spelled bytes sub parts.0 parts.1)
      | inr other ↦
          plain_spelled (byte ∷ bytes) sub
          (sym (ap (λ (b : Bool). cond b (cond (is_zone (behind_digits bytes)) (picoseconds_of (digits_at bytes)) None) (cond (is_zone (byte ∷ bytes)) (Some 0) None)) other) ∙ read)
    ]

-- ---- the whole text

split_text : (date clock fraction zone : List ℕ) → date ++ 84 ∷ (clock ++ (fraction ++ zone)) ≡ date ++ codes "T" ++ clock ++ fraction ++ zone
split_text date clock fraction zone = simp append_assoc

pub read_is_spelled : (text : List ℕ) (parts : UtcParts) (utc : Utc) → parts_of text ≡ Some parts → IsUtcOf parts utc → SpellsUtc text utc
read_is_spelled text parts utc read means =
    let date = bound (λ (d : DateParts × List ℕ). option_and_then (λ (c : ClockParts × List ℕ). option_map (utc_parts d.0 c.0) (fraction_at c.1)) (clock_at d.1)) (date_at text) parts read in
    let clock = bound (λ (c : ClockParts × List ℕ). option_map (utc_parts date.0.0 c.0) (fraction_at c.1)) (clock_at date.0.1) parts date.2 in
    let last = mapped (utc_parts date.0.0 clock.0.0) (fraction_at clock.0.1) parts clock.2 in
    let day : IsDayOf date.0.0 utc.day = subst (λ (p : UtcParts). IsDayOf p.date utc.day) (sym last.2) means.day in
    let second : IsSecondOf clock.0.0 utc.sod = subst (λ (p : UtcParts). IsSecondOf p.clock utc.sod) (sym last.2) means.second in
    let sub : utc.sub ≡ last.0 = means.sub ∙ ap (λ (p : UtcParts). p.sub) (sym last.2) in
    let d = date_spelled text date.0.1 date.0.0 utc.day date.1 day in
    let c = clock_spelled date.0.1 clock.0.1 clock.0.0 utc.sod clock.1 second in
    let f = fraction_spelled clock.0.1 last.0 last.1 in
    record {
      date = d.date;
      clock = c.clock;
      fraction = f.fraction;
      zone = f.zone;
      joined = d.is ∙ ap (λ (xs : List ℕ). d.date ++ xs) c.is ∙ ap (λ (xs : List ℕ). d.date ++ 84 ∷ (c.clock ++ xs)) f.is ∙ split_text d.date c.clock f.fraction f.zone;
      is_date = d.is_date;
      is_clock = c.is_clock;
      is_fraction = subst (λ (n : ℕ). IsFraction f.fraction n) (sym sub) f.is_fraction;
      is_zone = f.is_end;
    }
