-- How a UTC is printed.
use Rattle.std.proofs.Common.{◌≡◌, ℕ, zero, suc, ◌+◌, ◌-◌, ◌*◌, ◌/◌, ◌%◌, ◌^◌, ◌<◌, ◌≤◌, ◌⊎◌, inl, inr, List, [], ◌∷◌, ◌++◌, refl, ap, sym, ◌∙◌, subst, arith, lit<, lit≤, append_assoc, codes, length}
use Rattle.std.proofs.Math.Nat.{pow-le-pow_right}
use Rattle.std.specs.Prelude.{ℤ, pos, neg_ℤ, ◌+ℤ◌, ◌-ℤ◌, ◌≤ℤ◌, nat_abs}
use Rattle.std.proofs.lemmas.Int.{ints}
use Rattle.std.specs.Int.{IsInRange}
use Rattle.std.specs.Str.Parse.{digits_value}
use Rattle.jiff_core.specs.declared.civil.date.Date.{Date}
use Rattle.jiff_core.specs.Calendar.{IsDate, days_from_civil, days_in_month}
use Rattle.jiff_core.specs.Date.{epoch_day}
use Rattle.sk_decimal.specs.Number.{padded_decimal}
use Rattle.sk_leap.specs.Digits.{last_digits}
use Rattle.sk_leap.proofs.LastDigits.{last_digits_padded}
use Rattle.sk_leap.specs.declared.utc.Utc.{Utc}
use Rattle.sk_leap.specs.declared.parts.ClockParts.{ClockParts}
use Rattle.sk_leap.specs.Kernel.{day_of}
use Rattle.sk_leap.specs.Meaning.{IsSecondOf}
use Rattle.sk_leap.specs.UtcText.{IsCalendarDate, IsClockTime, IsFraction, SpellsUtc, IsPrintedUtc}
use Rattle.sk_leap.proofs.Padded.{AreDigitsOf, padded_is, power_some}
use Rattle.sk_leap.proofs.Texts.{days_in_month_small}

-- one more digit
pub digit_step : (text new start bytes : List ℕ) (place number digit : ℕ) → 0 < place → new ≡ text ++ bytes → bytes ≡ digit ∷ [] → digit ≡ 48 + number / 10 ^ (place - 1) % 10
    → text ++ last_digits place number ≡ start → new ++ last_digits (place - 1) number ≡ start
digit_step text new start bytes zero number digit some is one digit_is whole = absurd (omega (arith, some))
digit_step text new start bytes (suc k) number digit some is one digit_is whole =
    let less : suc k - 1 ≡ k = omega arith in
    let same : digit ≡ 48 + number / 10 ^ k % 10 = digit_is ∙ ap (λ (j : ℕ). 48 + number / 10 ^ j % 10) less in
    let back : new ≡ text ++ (48 + number / 10 ^ k % 10) ∷ [] = is ∙ ap (λ (xs : List ℕ). text ++ xs) (one ∙ ap (λ (d : ℕ). d ∷ []) same) in
    ap (λ (j : ℕ). new ++ last_digits j number) less ∙ ap (λ (xs : List ℕ). xs ++ last_digits k number) back
    ∙ append_assoc text ((48 + number / 10 ^ k % 10) ∷ []) (last_digits k number) ∙ whole

up : (k : ℕ) → k ≤ 11 → suc k ≤ 12
up k p = omega arith

padded : (k n : ℕ) → k ≤ 11 → n < 10 ^ suc k → last_digits (suc k) n ≡ padded_decimal (suc k) n
padded k n le lt = last_digits_padded k n lt (omega (arith, lt, pow-le-pow_right {n = 10} (lit< tt) (up k le)))

date_bytes : (a b c : List ℕ) → a ++ 45 ∷ b ++ 45 ∷ c ≡ a ++ codes "-" ++ b ++ codes "-" ++ c
date_bytes a b c = simp append_assoc

clock_bytes : (a b c : List ℕ) → a ++ 58 ∷ b ++ 58 ∷ c ≡ a ++ codes ":" ++ b ++ codes ":" ++ c
clock_bytes a b c = simp append_assoc

-- the date that is printed
pub date_printed : (d : Date) (day : ℤ) (year : ℕ) → epoch_day d ≡ day +ℤ pos 10957 → pos 1 ≤ℤ d.year → d.year ≡ pos year → IsCalendarDate (last_digits 4 year ++ 45 ∷ last_digits 2 d.month ++ 45 ∷ last_digits 2 d.day) day
date_printed d day year is from year_is =
    let high : year < 10 ^ 4 = omega (arith, ints, d.year_in, year_is) in
    let month : d.month < 10 ^ 2 = omega (arith, d.month_in) in
    let date : d.day < 10 ^ 2 = omega (arith, d.day_in, days_in_month_small d.year d.month) in
    let length_is : days_in_month d.year d.month ≡ days_in_month (pos year) d.month = ap (λ (y : ℤ). days_in_month y d.month) year_is in
    let days : days_from_civil d.year d.month d.day ≡ days_from_civil (pos year) d.month d.day = ap (λ (y : ℤ). days_from_civil y d.month d.day) year_is in
    record {
      year = year;
      month = d.month;
      date = d.day;
      spelled = date_bytes (last_digits 4 year) (last_digits 2 d.month) (last_digits 2 d.day)
          ∙ ap (λ (xs : List ℕ). xs ++ codes "-" ++ last_digits 2 d.month ++ codes "-" ++ last_digits 2 d.day) (padded 3 year (lit≤ tt) high)
          ∙ ap (λ (xs : List ℕ). padded_decimal 4 year ++ codes "-" ++ xs ++ codes "-" ++ last_digits 2 d.day) (padded 1 d.month (lit≤ tt) month)
          ∙ ap (λ (xs : List ℕ). padded_decimal 4 year ++ codes "-" ++ padded_decimal 2 d.month ++ codes "-" ++ xs) (padded 1 d.day (lit≤ tt) date);
      in_range = (omega (arith, ints, from, year_is), omega (arith, high));
      real = ((omega (arith, ints, high), omega (arith, ints, high)), (omega (arith, ints, d.month_in), omega (arith, ints, d.month_in)), (omega (arith, ints, d.day_in), omega (arith, ints, d.day_in, length_is)));
      is_day = omega (arith, ints, is, days);
    }

seconds_small : (hour minute second : ℕ) → (second ≤ 59) ⊎ ((hour ≡ 23) × (minute ≡ 59) × (second ≡ 60)) → second < 10 ^ 2
seconds_small hour minute second (inl h) = omega arith
seconds_small hour minute second (inr h) = omega (arith, h)

pub clock_printed : (clock : ClockParts) (sod : ℕ) → IsSecondOf clock sod → IsClockTime (last_digits 2 clock.hour ++ 58 ∷ last_digits 2 clock.minute ++ 58 ∷ last_digits 2 clock.second) sod
clock_printed clock sod h = record {
  hour = clock.hour;
  minute = clock.minute;
  second = clock.second;
  spelled = clock_bytes (last_digits 2 clock.hour) (last_digits 2 clock.minute) (last_digits 2 clock.second)
      ∙ ap (λ (xs : List ℕ). xs ++ codes ":" ++ last_digits 2 clock.minute ++ codes ":" ++ last_digits 2 clock.second) (padded 1 clock.hour (lit≤ tt) (omega (arith, h.hours)))
      ∙ ap (λ (xs : List ℕ). padded_decimal 2 clock.hour ++ codes ":" ++ xs ++ codes ":" ++ last_digits 2 clock.second) (padded 1 clock.minute (lit≤ tt) (omega (arith, h.minutes)))
      ∙ ap (λ (xs : List ℕ). padded_decimal 2 clock.hour ++ codes ":" ++ padded_decimal 2 clock.minute ++ codes ":" ++ xs) (padded 1 clock.second (lit≤ tt) (seconds_small clock.hour clock.minute clock.second h.seconds));
  hours = h.hours;
  minutes = h.minutes;
  seconds = h.seconds;
  is_sod = h.is_sod;
}

text_bytes : (date clock fraction : List ℕ) → [] ++ date ++ (84 ∷ clock) ++ 46 ∷ [] ++ fraction ++ 90 ∷ [] ≡ date ++ codes "T" ++ clock ++ codes "." ++ fraction ++ codes "Z"
text_bytes date clock fraction = simp append_assoc

pub utc_printed : (text date clock : List ℕ) (utc : Utc) → text ≡ [] ++ date ++ (84 ∷ clock) ++ 46 ∷ [] ++ last_digits 12 utc.sub ++ 90 ∷ [] → IsCalendarDate date utc.day → IsClockTime clock utc.sod → IsPrintedUtc text utc
utc_printed text date clock utc is is_date is_clock = record {
  date = date;
  clock = clock;
  joined = is ∙ text_bytes date clock (last_digits 12 utc.sub) ∙ ap (λ (xs : List ℕ). date ++ codes "T" ++ clock ++ codes "." ++ xs ++ codes "Z") (padded 11 utc.sub (lit≤ tt) utc.sub_in_second);
  is_date = is_date;
  is_clock = is_clock;
}

fraction_bytes : (date clock fraction : List ℕ) → date ++ codes "T" ++ clock ++ codes "." ++ fraction ++ codes "Z" ≡ date ++ codes "T" ++ clock ++ (codes "." ++ fraction) ++ codes "Z"
fraction_bytes date clock fraction = simp append_assoc

-- what is printed is spelled
pub printed_spells : (text : List ℕ) (utc : Utc) → IsPrintedUtc text utc → SpellsUtc text utc
printed_spells text utc h =
    let digits = padded_decimal 12 utc.sub in
    let are = padded_is 11 utc.sub (lit≤ tt) utc.sub_in_second in
    let none : 12 - length digits ≡ 0 = omega (arith, are.long) in
    let scale : digits_value 10 digits * 10 ^ (12 - length digits) ≡ digits_value 10 digits * 10 ^ 0 = ap (λ (k : ℕ). digits_value 10 digits * 10 ^ k) none in
    record {
      date = h.date;
      clock = h.clock;
      fraction = codes "." ++ digits;
      zone = codes "Z";
      joined = h.joined ∙ fraction_bytes h.date h.clock digits;
      is_date = inl h.is_date;
      is_clock = h.is_clock;
      is_fraction = inr (digits, refl, (omega (arith, are.long), are.digits), omega (arith, are.long), omega (arith, scale, are.value));
      is_zone = inr refl;
    }

-- the text, piece by piece
pub all_printed : (t0 t1 t2 t3 t4 t5 dot zed : List ℕ) (d : Date) (year : ℕ) (clock : ClockParts) (utc : Utc) → t0 ≡ []
    → t1 ≡ t0 ++ (last_digits 4 year ++ 45 ∷ last_digits 2 d.month ++ 45 ∷ last_digits 2 d.day)
    → t2 ≡ t1 ++ (84 ∷ last_digits 2 clock.hour ++ 58 ∷ last_digits 2 clock.minute ++ 58 ∷ last_digits 2 clock.second)
    → t3 ≡ t2 ++ dot → dot ≡ 46 ∷ [] → t4 ≡ t3 ++ last_digits 12 utc.sub → t5 ≡ t4 ++ zed → zed ≡ 90 ∷ []
    → epoch_day d ≡ utc.day +ℤ pos 10957 → pos 1 ≤ℤ d.year → d.year ≡ pos year → IsSecondOf clock utc.sod → IsPrintedUtc t5 utc
all_printed t0 t1 t2 t3 t4 t5 dot zed d year clock utc none date time point point_is fraction end end_is day from year_is second =
    let date_text = last_digits 4 year ++ 45 ∷ last_digits 2 d.month ++ 45 ∷ last_digits 2 d.day in
    let clock_text = last_digits 2 clock.hour ++ 58 ∷ last_digits 2 clock.minute ++ 58 ∷ last_digits 2 clock.second in
    let whole : t5 ≡ [] ++ date_text ++ (84 ∷ clock_text) ++ 46 ∷ [] ++ last_digits 12 utc.sub ++ 90 ∷ [] =
    end ∙ ap (λ (z : List ℕ). t4 ++ z) end_is ∙ ap (λ (t : List ℕ). t ++ 90 ∷ []) fraction
    ∙ ap (λ (t : List ℕ). t ++ last_digits 12 utc.sub ++ 90 ∷ []) (point ∙ ap (λ (z : List ℕ). t2 ++ z) point_is)
    ∙ ap (λ (t : List ℕ). t ++ 46 ∷ [] ++ last_digits 12 utc.sub ++ 90 ∷ []) time
    ∙ ap (λ (t : List ℕ). t ++ (84 ∷ clock_text) ++ 46 ∷ [] ++ last_digits 12 utc.sub ++ 90 ∷ []) (date ∙ ap (λ (t : List ℕ). t ++ date_text) none) in
    utc_printed t5 date_text clock_text utc whole (date_printed d utc.day year day from year_is) (clock_printed clock utc.sod second)
