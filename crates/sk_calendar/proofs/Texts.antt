-- Texts of calendar times, read and spelled.
use Rattle.std.proofs.Common.{◌≡◌, ℕ, List, Option, Some, None, option_map, ap, sym, ◌∙◌, subst, arith}
use Rattle.std.specs.Prelude.{ℤ, MatchOption}
use Rattle.std.specs.Option.{option_and_then}
use Rattle.std.proofs.lemmas.Int.{ints}
use Rattle.std.proofs.lemmas.Option.{none-some, same_Some}
use Rattle.sk_leap.proofs.Padded.{bound, mapped}
use Rattle.sk_calendar.specs.declared.date.DateParts.{DateParts}
use Rattle.sk_calendar.specs.declared.date.DateParts.TheVariants.{Civil, Ordinal}
use Rattle.sk_calendar.specs.declared.clock.ClockParts.{ClockParts}
use Rattle.sk_calendar.specs.declared.time.TimeParts.{TimeParts}
use Rattle.sk_calendar.specs.Calendar.{SpellsCalendarTime, time_of}
use Rattle.sk_calendar.specs.Meaning.{IsDayOf, IsTimeOf}
use Rattle.sk_calendar.specs.Reading.{date_at, clock_at, with_clock, parts_of}
use Rattle.sk_calendar.proofs.Dates.{date_is_read, date_spelled}
use Rattle.sk_calendar.proofs.Clocks.{clock_stops, clock_is_read, clock_spelled}

abbrev parts_with : DateParts → ClockParts → TimeParts
parts_with date clock = record { date = date; clock = clock }

pub record ReadsTime (text : List ℕ) (time : ℤ) : Type 0 where
  pub parts : TimeParts
  pub read : parts_of text ≡ Some parts
  pub is_time : IsTimeOf parts time

pub spelled_is_read : (text : List ℕ) (time : ℤ) → SpellsCalendarTime text time → ReadsTime text time
spelled_is_read text time h =
    let date = date_is_read h.date h.clock h.day h.is_date (clock_stops h.clock h.sod h.sub h.is_clock) in
    let clock = clock_is_read h.clock h.sod h.sub h.is_clock in
    record {
      parts = parts_with date.date clock.clock;
      read = ap parts_of h.joined ∙ ap (option_and_then with_clock) date.read ∙ ap (option_map (parts_with date.date)) clock.read;
      is_time = record {
        day = h.day;
        sod = h.sod;
        is_day = date.is_day;
        is_second = clock.is_second;
        is_time = h.is_time ∙ ap (time_of h.day h.sod) (sym clock.is_sub);
      };
    }

pub read_is_spelled : (text : List ℕ) (parts : TimeParts) (time : ℤ) → parts_of text ≡ Some parts → IsTimeOf parts time → SpellsCalendarTime text time
read_is_spelled text parts time read means =
    let date = bound with_clock (date_at text) parts read in
    let clock = mapped (parts_with date.0.0) (clock_at date.0.1) parts date.2 in
    let here : IsTimeOf (parts_with date.0.0 clock.0) time = subst (λ (p : TimeParts). IsTimeOf p time) (sym clock.2) means in
    let d = date_spelled text date.0.1 date.0.0 here.day date.1 here.is_day in
    record {
      date = d.date;
      clock = date.0.1;
      day = here.day;
      sod = here.sod;
      sub = clock.0.sub;
      joined = d.is;
      is_date = d.is_date;
      is_clock = clock_spelled date.0.1 clock.0 here.sod clock.1 here.is_second;
      is_time = here.is_time;
    }

-- ---- one reading

one_day : (date : DateParts) (a b : ℤ) → IsDayOf date a → IsDayOf date b → a ≡ b
one_day (Civil year month date) a b h k = h.2 ∙ sym k.2
one_day (Ordinal year place) a b h k = omega (arith, ints, h.2, k.2)

one_meaning : (parts : TimeParts) (a b : ℤ) → IsTimeOf parts a → IsTimeOf parts b → a ≡ b
one_meaning parts a b h k =
    h.is_time ∙ ap (λ (day : ℤ). time_of day h.sod parts.clock.sub) (one_day parts.date h.day k.day h.is_day k.is_day)
    ∙ ap (λ (sod : ℕ). time_of k.day sod parts.clock.sub) (h.is_second.is_sod ∙ sym k.is_second.is_sod) ∙ sym k.is_time

pub one_time : (text : List ℕ) (a b : ℤ) → SpellsCalendarTime text a → SpellsCalendarTime text b → a ≡ b
one_time text a b h k =
    let first = spelled_is_read text a h in
    let second = spelled_is_read text b k in
    let same : first.parts ≡ second.parts = same_Some first.parts second.parts (sym first.read ∙ second.read) in
    one_meaning second.parts a b (subst (λ (parts : TimeParts). IsTimeOf parts a) same first.is_time) second.is_time

-- ---- what the reader answers

same_meaning : (text : List ℕ) (parts : TimeParts) (time : ℤ) → parts_of text ≡ Some parts → SpellsCalendarTime text time → IsTimeOf parts time
same_meaning text parts time read h =
    let found = spelled_is_read text time h in
    subst (λ (p : TimeParts). IsTimeOf p time) (same_Some found.parts parts (sym found.read ∙ read)) found.is_time

-- what the parts mean is what the text spells
pub meant_is : {F : Type 0} (units : F → ℤ) (text : List ℕ) (parts : TimeParts) (o : Option F) → parts_of text ≡ Some parts
    → MatchOption o ((time : ℤ) → ¬ IsTimeOf parts time) (λ found. IsTimeOf parts (units found))
    → MatchOption o ((time : ℤ) → ¬ SpellsCalendarTime text time) (λ found. SpellsCalendarTime text (units found))
meant_is units text parts None read none = λ time spelled. none time (same_meaning text parts time read spelled)
meant_is units text parts (Some found) read means = read_is_spelled text parts (units found) read means

pub unread : (text : List ℕ) → None ≡ parts_of text → (time : ℤ) → ¬ SpellsCalendarTime text time
unread text none time spelled = let found = spelled_is_read text time spelled in none-some found.parts (none ∙ found.read)
