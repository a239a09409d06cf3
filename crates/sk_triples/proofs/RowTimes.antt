-- Times of rows: one each, and how large.
use Rattle.std.proofs.Common.{◌≡◌, ℕ, ◌-◌, ◌<◌, ◌≤◌, ◌^◌, List, [], ◌∷◌, length, take, drop, get_or, Option, Some, None, sym, ap, subst, arith, ◌∙◌}
use Rattle.std.specs.Prelude.{ℤ, nat_abs, MatchOption}
use Rattle.std.proofs.lemmas.Grind.{common_steps}
use Rattle.sk_calendar.specs.Calendar.{SpellsCalendarTime}
use Rattle.sk_calendar.proofs.Texts.{one_time}
use Rattle.sk_triples.specs.Coefficients.{RowTime, Seconds, Calendar, SpellsTime, HasTime, HasNoForm, IsRowTime}
use Rattle.sk_triples.proofs.Decimals.{is_time, large_time}

-- a date has one time
pub date_one : (date : List ℕ) (x y : ℤ) → SpellsTime date x → SpellsTime date y → x ≡ y
date_one date x y h k =
    let same : h.0 ≡ k.0 = ap (drop 1) (sym h.1 ∙ k.1) in
    one_time k.0 x y (subst (λ (text : List ℕ). SpellsCalendarTime text x) same h.2) k.2

pub time_one : (row : RowTime) (x y : ℤ) → HasTime row x → HasTime row y → x ≡ y
time_one (Seconds number) x y h k = h.1 ∙ sym k.1
time_one (Calendar date) x y h k = date_one date x y h k

pub has_form : (row : RowTime) (time : ℤ) → HasTime row time → ¬ HasNoForm row
has_form (Seconds number) time h none = none
has_form (Calendar date) time h none = none time h

pub is_row_time : (row : RowTime) (time : ℤ) → HasTime row time → nat_abs time ≤ 10 ^ 28 → IsRowTime row
is_row_time (Seconds number) time h small = is_time number h.0 (subst (λ (z : ℤ). nat_abs z ≤ 10 ^ 28) h.1 small)
is_row_time (Calendar date) time h small = (time, h, small)

pub large_row_time : (row : RowTime) (time : ℤ) → HasTime row time → 10 ^ 28 < nat_abs time → ¬ IsRowTime row
large_row_time (Seconds number) time h large is = large_time number h.0 (subst (λ (z : ℤ). 10 ^ 28 < nat_abs z) h.1 large) is
large_row_time (Calendar date) time h large is =
    let small : nat_abs time ≤ 10 ^ 28 = subst (λ (z : ℤ). nat_abs z ≤ 10 ^ 28) (date_one date is.0 time is.1 h) is.2 in omega (arith, small, large)

-- the date is `@` and a text
pub at_sign : (date : List ℕ) (d : ℕ) → 1 ≤ length date → get_or date 0 d ≡ 64 → date ≡ 64 ∷ drop 1 date
at_sign [] d long first = absurd (omega arith)
at_sign (byte ∷ bytes) d long first = ap (λ (b : ℕ). b ∷ bytes) first

pub whole_rest : (date : List ℕ) → take (length date - 1) (drop 1 date) ≡ drop 1 date
whole_rest date = grind (arith, common_steps)

pub date_read : {F : Type 0} (units : F → ℤ) (date text : List ℕ) (o : Option F) → date ≡ 64 ∷ text
    → MatchOption o ((time : ℤ) → ¬ SpellsCalendarTime text time) (λ found. SpellsCalendarTime text (units found))
    → MatchOption o ((time : ℤ) → ¬ SpellsTime date time) (λ found. SpellsTime date (units found))
date_read units date text None is none = λ time h.
    let same : h.0 ≡ text = ap (drop 1) (sym h.1 ∙ is) in
    none time (subst (λ (t : List ℕ). SpellsCalendarTime t time) same h.2)
date_read units date text (Some found) is spelled = (text, is, spelled)
