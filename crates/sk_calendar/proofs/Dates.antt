-- Dates in front of a text, read and spelled.
use Rattle.std.proofs.Common.{◌≡◌, ℕ, ◌≤◌, ◌⊎◌, inl, inr, cond, List, ◌∷◌, ◌++◌, Option, Some, None, option_map, nat_le, codes, refl, ap, sym, ◌∙◌, subst, arith, lit<, lit≤, append_assoc}
use Rattle.std.specs.Prelude.{ℤ, ◌==◌}
use Rattle.std.specs.Option.{option_and_then}
use Rattle.std.proofs.lemmas.Bool.{leb-true, eqb-true}
use Rattle.std.proofs.lemmas.Int.{ints}
use Rattle.std.proofs.lemmas.Option.{same_Some}
use Rattle.sk_leap.specs.Reading.{behind}
use Rattle.sk_leap.proofs.Padded.{behind_spelled, bound, mapped, guarded}
use Rattle.sk_calendar.specs.declared.date.DateParts.{DateParts}
use Rattle.sk_calendar.specs.declared.date.DateParts.TheVariants.{Civil, Ordinal}
use Rattle.sk_calendar.specs.Calendar.{IsNumber, IsShortNumber, IsMonth, AreCivil, IsCivilDate, IsOrdinalDate}
use Rattle.sk_calendar.specs.Meaning.{IsDayOf}
use Rattle.sk_calendar.specs.Reading.{run_at, number_at, short_at, month_at, marked_number, marked_short, marked_month, numeric_day, named_day, digits_behind_year, name_behind_year, in_year, behind_year, year_behind, behind_day, date_from, date_at}
use Rattle.sk_calendar.proofs.Runs.{branches, Stops, run_read, SpellsRun, run_spelled, marked, number_read, number_spelled, short_read, short_run, short_spelled}
use Rattle.sk_calendar.proofs.MonthNames.{month_read, month_no_run, month_spelled}

-- ---- what is spelled is read

pub record ReadsDate (bytes rest : List ℕ) (day : ℤ) : Type 0 where
  pub date : DateParts
  pub read : date_at bytes ≡ Some (date, rest)
  pub is_day : IsDayOf date day

joined_civil : (a b c rest : List ℕ) → (a ++ codes "-" ++ b ++ codes "-" ++ c) ++ rest ≡ a ++ 45 ∷ (b ++ 45 ∷ (c ++ rest))
joined_civil a b c rest = simp append_assoc

joined_ordinal : (a b rest : List ℕ) → (a ++ codes "-" ++ b) ++ rest ≡ a ++ 45 ∷ (b ++ rest)
joined_ordinal a b rest = simp append_assoc

civil_read : (a b c rest : List ℕ) (year month date : ℕ) → AreCivil a b c year month date → 1 ≤ month → Stops rest
    → date_at (a ++ 45 ∷ (b ++ 45 ∷ (c ++ rest))) ≡ Some (Civil year month date, rest)
civil_read a b c rest year month date (inl h) from stops =
    ap (option_and_then date_from) (run_read 4 year a (45 ∷ (b ++ 45 ∷ (c ++ rest))) h.0 (lit< tt) (lit≤ tt) refl)
    ∙ ap (in_year year (b ++ 45 ∷ (c ++ rest))) (run_read 2 month b (45 ∷ (c ++ rest)) h.1 (lit< tt) (lit≤ tt) refl)
    ∙ ap (option_map (λ (d : ℕ × List ℕ). (Civil year month d.0, d.1))) (number_read 2 date c rest h.2 (lit< tt) (lit≤ tt) stops)
civil_read a b c rest year month date (inr (inl h)) from stops =
    ap (option_and_then date_from) (run_read 4 year a (45 ∷ (b ++ 45 ∷ (c ++ rest))) h.0 (lit< tt) (lit≤ tt) refl)
    ∙ ap (in_year year (b ++ 45 ∷ (c ++ rest))) (month_no_run month b (45 ∷ (c ++ rest)) h.1)
    ∙ ap (option_and_then (named_day year)) (month_read month b (45 ∷ (c ++ rest)) h.1 from)
    ∙ ap (option_map (λ (d : ℕ × List ℕ). (Civil year month d.0, d.1))) (short_read date c rest h.2 stops)
civil_read a b c rest year month date (inr (inr h)) from stops = day_first a b c rest year month date h from stops
  where
    behind : (a b c rest : List ℕ) (year month date : ℕ) → IsMonth b month → IsNumber 4 c year → 1 ≤ month → Stops rest
        → behind_day date (45 ∷ (b ++ 45 ∷ (c ++ rest))) ≡ Some (Civil year month date, rest)
    behind a b c rest year month date name number from stops =
        ap (option_and_then (year_behind date)) (month_read month b (45 ∷ (c ++ rest)) name from)
        ∙ ap (option_map (λ (y : ℕ × List ℕ). (Civil y.0 month date, y.1))) (number_read 4 year c rest number (lit< tt) (lit≤ tt) stops)

    day_first : (a b c rest : List ℕ) (year month date : ℕ) → IsShortNumber a date × IsMonth b month × IsNumber 4 c year → 1 ≤ month → Stops rest
        → date_at (a ++ 45 ∷ (b ++ 45 ∷ (c ++ rest))) ≡ Some (Civil year month date, rest)
    day_first a b c rest year month date (inl one, name, number) from stops =
        ap (option_and_then date_from) (run_read 1 date a (45 ∷ (b ++ 45 ∷ (c ++ rest))) one (lit< tt) (lit≤ tt) refl) ∙ behind a b c rest year month date name number from stops
    day_first a b c rest year month date (inr two, name, number) from stops =
        ap (option_and_then date_from) (run_read 2 date a (45 ∷ (b ++ 45 ∷ (c ++ rest))) two (lit< tt) (lit≤ tt) refl) ∙ behind a b c rest year month date name number from stops

civil_is_read : (date rest : List ℕ) (day : ℤ) → IsCivilDate date day → Stops rest → ReadsDate (date ++ rest) rest day
civil_is_read date rest day h stops =
    let shape : date ++ rest ≡ h.first ++ 45 ∷ (h.second ++ 45 ∷ (h.third ++ rest)) = ap (λ (xs : List ℕ). xs ++ rest) h.joined ∙ joined_civil h.first h.second h.third rest in
    record {
      date = Civil h.year h.month h.date;
      read = ap date_at shape ∙ civil_read h.first h.second h.third rest h.year h.month h.date h.parts (omega (arith, ints, h.real)) stops;
      is_day = (h.in_range, h.real, h.is_day);
    }

ordinal_is_read : (date rest : List ℕ) (day : ℤ) → IsOrdinalDate date day → Stops rest → ReadsDate (date ++ rest) rest day
ordinal_is_read date rest day h stops =
    let shape : date ++ rest ≡ h.first ++ 45 ∷ (h.second ++ rest) = ap (λ (xs : List ℕ). xs ++ rest) h.joined ∙ joined_ordinal h.first h.second rest in
    record {
      date = Ordinal h.year h.place;
      read = ap date_at shape
          ∙ ap (option_and_then date_from) (run_read 4 h.year h.first (45 ∷ (h.second ++ rest)) h.is_year (lit< tt) (lit≤ tt) refl)
          ∙ ap (in_year h.year (h.second ++ rest)) (run_read 3 h.place h.second rest h.is_place (lit< tt) (lit≤ tt) stops);
      is_day = (h.in_range, h.real, h.is_day);
    }

pub date_is_read : (date rest : List ℕ) (day : ℤ) → IsCivilDate date day ⊎ IsOrdinalDate date day → Stops rest → ReadsDate (date ++ rest) rest day
date_is_read date rest day (inl h) stops = civil_is_read date rest day h stops
date_is_read date rest day (inr h) stops = ordinal_is_read date rest day h stops

-- ---- what is read is spelled

pub record SpellsDate (bytes rest : List ℕ) (day : ℤ) : Type 0 where
  pub date : List ℕ
  pub is : bytes ≡ date ++ rest
  pub is_date : IsCivilDate date day ⊎ IsOrdinalDate date day

-- a date by its month that stands in front, of these numbers
record SpellsCivil (bytes rest : List ℕ) (year month date : ℕ) : Type 0 where
  pub first : List ℕ
  pub second : List ℕ
  pub third : List ℕ
  pub is : bytes ≡ first ++ 45 ∷ (second ++ 45 ∷ (third ++ rest))
  pub parts : AreCivil first second third year month date

civil_spelled : (bytes rest : List ℕ) (year month date : ℕ) (day : ℤ) → SpellsCivil bytes rest year month date → IsDayOf (Civil year month date) day → SpellsDate bytes rest day
civil_spelled bytes rest year month date day h means = record {
  date = h.first ++ codes "-" ++ h.second ++ codes "-" ++ h.third;
  is = h.is ∙ sym (joined_civil h.first h.second h.third rest);
  is_date = inl (record {
    year = year;
    month = month;
    date = date;
    first = h.first;
    second = h.second;
    third = h.third;
    joined = refl;
    parts = h.parts;
    in_range = means.0;
    real = means.1;
    is_day = means.2;
  });
}

-- the parts of what a step gives
same_date : (f : ℕ × List ℕ → DateParts) (front : ℕ × List ℕ) (date : DateParts) (rest : List ℕ) → ◌≡◌ {A = DateParts × List ℕ} (f front, front.1) (date, rest) → (f front ≡ date) × (front.1 ≡ rest)
same_date f front date rest h = (ap (λ (x : DateParts × List ℕ). x.0) h, ap (λ (x : DateParts × List ℕ). x.1) h)

numeric_spelled : (bytes first tail rest : List ℕ) (year month : ℕ) (second : List ℕ) (date : DateParts) (day : ℤ)
    → bytes ≡ first ++ 45 ∷ (second ++ tail) → IsNumber 4 first year → IsNumber 2 second month
    → numeric_day year (month, tail) ≡ Some (date, rest) → IsDayOf date day → SpellsDate bytes rest day
numeric_spelled bytes first tail rest year month second date day is y m h means =
    let last = mapped (λ (d : ℕ × List ℕ). (Civil year month d.0, d.1)) (marked_number 45 2 tail) (date, rest) h in
    let d = marked (IsNumber 2) (number_at 2) (number_spelled 2) 45 tail last.0 last.1 in
    let same = same_date (λ (d : ℕ × List ℕ). Civil year month d.0) last.0 date rest last.2 in
    civil_spelled bytes rest year month last.0.0 day (record {
      first = first;
      second = second;
      third = d.text;
      is = is ∙ ap (λ (xs : List ℕ). first ++ 45 ∷ (second ++ xs)) d.is ∙ ap (λ (xs : List ℕ). first ++ 45 ∷ (second ++ 45 ∷ (d.text ++ xs))) same.1;
      parts = inl (y, m, d.has);
    }) (subst (λ (x : DateParts). IsDayOf x day) (sym same.0) means)

named_spelled : (bytes first tail rest : List ℕ) (year : ℕ) (date : DateParts) (day : ℤ) → bytes ≡ first ++ 45 ∷ tail → IsNumber 4 first year
    → name_behind_year year tail ≡ Some (date, rest) → IsDayOf date day → SpellsDate bytes rest day
named_spelled bytes first tail rest year date day is y h means =
    let month = bound (named_day year) (month_at tail) (date, rest) h in
    let m = month_spelled tail month.0 month.1 in
    let last = mapped (λ (d : ℕ × List ℕ). (Civil year month.0.0 d.0, d.1)) (marked_short 45 month.0.1) (date, rest) month.2 in
    let d = marked IsShortNumber short_at short_spelled 45 month.0.1 last.0 last.1 in
    let same = same_date (λ (d : ℕ × List ℕ). Civil year month.0.0 d.0) last.0 date rest last.2 in
    civil_spelled bytes rest year month.0.0 last.0.0 day (record {
      first = first;
      second = m.text;
      third = d.text;
      is = is ∙ ap (λ (xs : List ℕ). first ++ 45 ∷ xs) m.is ∙ ap (λ (xs : List ℕ). first ++ 45 ∷ (m.text ++ xs)) d.is ∙ ap (λ (xs : List ℕ). first ++ 45 ∷ (m.text ++ 45 ∷ (d.text ++ xs))) same.1;
      parts = inr (inl (y, m.has, d.has));
    }) (subst (λ (x : DateParts). IsDayOf x day) (sym same.0) means)

day_first_spelled : (bytes first tail rest : List ℕ) (date : ℕ) (parts : DateParts) (day : ℤ) → bytes ≡ first ++ tail → IsShortNumber first date
    → behind_day date tail ≡ Some (parts, rest) → IsDayOf parts day → SpellsDate bytes rest day
day_first_spelled bytes first tail rest date parts day is d h means =
    let month = bound (year_behind date) (marked_month 45 tail) (parts, rest) h in
    let m = marked IsMonth month_at month_spelled 45 tail month.0 month.1 in
    let last = mapped (λ (y : ℕ × List ℕ). (Civil y.0 month.0.0 date, y.1)) (marked_number 45 4 month.0.1) (parts, rest) month.2 in
    let y = marked (IsNumber 4) (number_at 4) (number_spelled 4) 45 month.0.1 last.0 last.1 in
    let same = same_date (λ (y : ℕ × List ℕ). Civil y.0 month.0.0 date) last.0 parts rest last.2 in
    civil_spelled bytes rest last.0.0 month.0.0 date day (record {
      first = first;
      second = m.text;
      third = y.text;
      is = is ∙ ap (λ (xs : List ℕ). first ++ xs) m.is ∙ ap (λ (xs : List ℕ). first ++ 45 ∷ (m.text ++ xs)) y.is ∙ ap (λ (xs : List ℕ). first ++ 45 ∷ (m.text ++ 45 ∷ (y.text ++ xs))) same.1;
      parts = inr (inr (d, m.has, y.has));
    }) (subst (λ (x : DateParts). IsDayOf x day) (sym same.0) means)

ordinal_spelled : (bytes first second rest : List ℕ) (year place : ℕ) (day : ℤ) → bytes ≡ first ++ 45 ∷ (second ++ rest) → IsNumber 4 first year → IsNumber 3 second place
    → IsDayOf (Ordinal year place) day → SpellsDate bytes rest day
ordinal_spelled bytes first second rest year place day is y p means = record {
  date = first ++ codes "-" ++ second;
  is = is ∙ sym (joined_ordinal first second rest);
  is_date = inr (record { year = year; place = place; first = first; second = second; joined = refl; is_year = y; is_place = p; in_range = means.0; real = means.1; is_day = means.2 });
}

digits_spelled : (bytes first tail rest : List ℕ) (year : ℕ) (run : ℕ × ℕ × List ℕ) (date : DateParts) (day : ℤ) → bytes ≡ first ++ 45 ∷ tail → IsNumber 4 first year
    → SpellsRun tail run → digits_behind_year year run ≡ Some (date, rest) → IsDayOf date day → SpellsDate bytes rest day
digits_spelled bytes first tail rest year run date day is y spelled h means =
    let shape : bytes ≡ first ++ 45 ∷ (spelled.digits ++ run.2) = is ∙ ap (λ (xs : List ℕ). first ++ 45 ∷ xs) spelled.is in
    elim (branches (run.0 == 3) (Some (Ordinal year run.1, run.2)) (cond (run.0 == 2) (numeric_day year (run.1, run.2)) None) (Some (date, rest)) h) [
      | inl three ↦
          let pair = same_Some (Ordinal year run.1, run.2) (date, rest) three.1 in
          let parts : Ordinal year run.1 ≡ date = ap (λ (x : DateParts × List ℕ). x.0) pair in
          let end : run.2 ≡ rest = ap (λ (x : DateParts × List ℕ). x.1) pair in
          let wide : IsNumber 3 spelled.digits run.1 = subst (λ (w : ℕ). IsNumber w spelled.digits run.1) (eqb-true run.0 3 three.0) spelled.number in
          ordinal_spelled bytes first spelled.digits rest year run.1 day (shape ∙ ap (λ (xs : List ℕ). first ++ 45 ∷ (spelled.digits ++ xs)) end) y wide
          (subst (λ (x : DateParts). IsDayOf x day) (sym parts) means)
      | inr other ↦
          let two = guarded (run.0 == 2) (numeric_day year (run.1, run.2)) (date, rest) other.1 in
          let wide : IsNumber 2 spelled.digits run.1 = subst (λ (w : ℕ). IsNumber w spelled.digits run.1) (eqb-true run.0 2 two.0) spelled.number in
          numeric_spelled bytes first run.2 rest year run.1 spelled.digits date day shape y wide two.1 means
    ]

in_year_spelled : (bytes first tail rest : List ℕ) (year : ℕ) (o : Option (ℕ × ℕ × List ℕ)) (date : DateParts) (day : ℤ) → bytes ≡ first ++ 45 ∷ tail → IsNumber 4 first year
    → run_at tail ≡ o → in_year year tail o ≡ Some (date, rest) → IsDayOf date day → SpellsDate bytes rest day
in_year_spelled bytes first tail rest year None date day is y run h means = named_spelled bytes first tail rest year date day is y h means
in_year_spelled bytes first tail rest year (Some run) date day is y found h means = digits_spelled bytes first tail rest year run date day is y (run_spelled tail run found) h means

pub date_spelled : (bytes rest : List ℕ) (date : DateParts) (day : ℤ) → date_at bytes ≡ Some (date, rest) → IsDayOf date day → SpellsDate bytes rest day
date_spelled bytes rest date day read means =
    let run = bound date_from (run_at bytes) (date, rest) read in
    let spelled = run_spelled bytes run.0 run.1 in
    elim (branches (run.0.0 == 4) (option_and_then (behind_year run.0.1) (behind 45 run.0.2)) (cond (nat_le run.0.0 2) (behind_day run.0.1 run.0.2) None) (Some (date, rest)) run.2) [
      | inl four ↦
          let tail = bound (behind_year run.0.1) (behind 45 run.0.2) (date, rest) four.1 in
          let wide : IsNumber 4 spelled.digits run.0.1 = subst (λ (w : ℕ). IsNumber w spelled.digits run.0.1) (eqb-true run.0.0 4 four.0) spelled.number in
          let shape : bytes ≡ spelled.digits ++ 45 ∷ tail.0 = spelled.is ∙ ap (λ (xs : List ℕ). spelled.digits ++ xs) (behind_spelled 45 run.0.2 tail.0 tail.1) in
          in_year_spelled bytes spelled.digits tail.0 rest run.0.1 (run_at tail.0) date day shape wide refl tail.2 means
      | inr other ↦
          let few = guarded (nat_le run.0.0 2) (behind_day run.0.1 run.0.2) (date, rest) other.1 in
          let short = short_run run.0.0 run.0.1 spelled.digits spelled.number spelled.some (leb-true run.0.0 2 few.0) in
          day_first_spelled bytes spelled.digits run.0.2 rest run.0.1 date day spelled.is short few.1 means
    ]
