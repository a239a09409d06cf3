-- Times of day behind a date, read and spelled.
use Rattle.std.proofs.Common.{◌≡◌, ℕ, ◌+◌, ◌-◌, ◌*◌, ◌^◌, inl, inr, Bool, true, false, cond, List, [], ◌∷◌, ◌++◌, length, Some, None, option_map, codes, refl, ap, sym, ◌∙◌, subst, arith, lit<, lit≤, append_assoc}
use Rattle.std.specs.Prelude.{◌==◌}
use Rattle.std.specs.Char.{is_ascii_digit}
use Rattle.std.specs.List.{prefix_len}
use Rattle.std.specs.Option.{option_and_then}
use Rattle.std.specs.Str.Parse.{digits_value}
use Rattle.std.proofs.lemmas.Bool.{eqb-true}
use Rattle.std.proofs.lemmas.Option.{same_Some}
use Rattle.sk_decimal.proofs.Numerals.{append-[]}
use Rattle.sk_leap.proofs.Padded.{bound, mapped, guarded}
use Rattle.sk_calendar.specs.declared.clock.ClockParts.{ClockParts}
use Rattle.sk_calendar.specs.Calendar.{IsNumber, IsFraction, AreSeconds, IsTimeOfDay, IsClock}
use Rattle.sk_calendar.specs.Meaning.{IsSecondOf}
use Rattle.sk_calendar.specs.Reading.{run_at, number_at, marked_number, fraction_of, fraction_at, seconds_at, minutes_at, is_separator, clock_at}
use Rattle.sk_calendar.proofs.Runs.{Stops, run_read, run_spelled, marked, number_read, number_spelled}

-- ---- fractions

fraction_stops : (text : List ℕ) (sub : ℕ) → IsFraction text sub → Stops text
fraction_stops text sub (inl h) = ap (prefix_len is_ascii_digit) h.0
fraction_stops text sub (inr h) = ap (prefix_len is_ascii_digit) h.1

fraction_read : (text : List ℕ) (sub : ℕ) → IsFraction text sub → fraction_at text ≡ Some sub
fraction_read text sub (inl h) = ap fraction_at h.0 ∙ ap Some (sym h.1)
fraction_read text sub (inr h) =
    let digits = h.0 in
    let number : IsNumber (length digits) digits (digits_value 10 digits) = record { long = refl; digits = h.2.1; value = refl } in
    let run : run_at digits ≡ Some (length digits, digits_value 10 digits, []) = ap run_at (sym (append-[] digits)) ∙ run_read (length digits) (digits_value 10 digits) digits [] number h.2.0 h.3 refl in
    ap fraction_at h.1 ∙ ap (option_and_then fraction_of) run ∙ ap Some (sym h.4)

no_bytes : (xs : List ℕ) → (length xs == 0) ≡ true → xs ≡ []
no_bytes [] h = refl
no_bytes (x ∷ xs) h = absurd (omega (arith, eqb-true (length (x ∷ xs)) 0 h))

fraction_spelled : (text : List ℕ) (sub : ℕ) → fraction_at text ≡ Some sub → IsFraction text sub
fraction_spelled [] sub h = inl (refl, sym (same_Some 0 sub h))
fraction_spelled (byte ∷ bytes) sub h =
    let point = guarded (byte == 46) (option_and_then fraction_of (run_at bytes)) sub h in
    let run = bound fraction_of (run_at bytes) sub point.1 in
    let last = guarded (length run.0.2 == 0) (Some (run.0.1 * 10 ^ (18 - run.0.0))) sub run.2 in
    let spelled = run_spelled bytes run.0 run.1 in
    let digits = spelled.digits in
    let long : length digits ≡ run.0.0 = spelled.number.long in
    let is : bytes ≡ digits = spelled.is ∙ ap (λ (xs : List ℕ). digits ++ xs) (no_bytes run.0.2 last.0) ∙ append-[] digits in
    let value : sub ≡ digits_value 10 digits * 10 ^ (18 - length digits) =
    sym (same_Some (run.0.1 * 10 ^ (18 - run.0.0)) sub last.1) ∙ ap (λ (n : ℕ). n * 10 ^ (18 - run.0.0)) spelled.number.value ∙ ap (λ (w : ℕ). digits_value 10 digits * 10 ^ (18 - w)) (sym long) in
    inr (
      digits,
      ap (λ (b : ℕ). b ∷ bytes) (eqb-true byte 46 point.0) ∙ ap (λ (xs : List ℕ). 46 ∷ xs) is,
      (omega (arith, spelled.some, long), spelled.number.digits),
      omega (arith, spelled.few, long),
      value,
    )

-- ---- seconds

seconds_stop : (text : List ℕ) (second sub : ℕ) → AreSeconds text second sub → Stops text
seconds_stop text second sub (inl h) = ap (prefix_len is_ascii_digit) h.0
seconds_stop text second sub (inr h) = ap (prefix_len is_ascii_digit) h.2

seconds_read : (text : List ℕ) (second sub : ℕ) → AreSeconds text second sub → seconds_at text ≡ Some (second, sub)
seconds_read text second sub (inl h) = ap seconds_at h.0 ∙ ap (λ (s : ℕ). Some (s, 0)) (sym h.1) ∙ ap (λ (u : ℕ). Some (second, u)) (sym h.2)
seconds_read text second sub (inr h) =
    ap seconds_at h.2
    ∙ ap (option_and_then (λ (s : ℕ × List ℕ). option_map (λ (u : ℕ). (s.0, u)) (fraction_at s.1))) (number_read 2 second h.0 h.1 h.3 (lit< tt) (lit≤ tt) (fraction_stops h.1 sub h.4))
    ∙ ap (option_map (λ (u : ℕ). (second, u))) (fraction_read h.1 sub h.4)

seconds_spelled : (text : List ℕ) (last : ℕ × ℕ) → seconds_at text ≡ Some last → AreSeconds text last.0 last.1
seconds_spelled [] last h = let same = same_Some (0, 0) last h in inl (refl, ap (λ (p : ℕ × ℕ). p.0) (sym same), ap (λ (p : ℕ × ℕ). p.1) (sym same))
seconds_spelled (byte ∷ bytes) last h =
    let second = bound (λ (s : ℕ × List ℕ). option_map (λ (u : ℕ). (s.0, u)) (fraction_at s.1)) (marked_number 58 2 (byte ∷ bytes)) last h in
    let sub = mapped (λ (u : ℕ). (second.0.0, u)) (fraction_at second.0.1) last second.2 in
    let s = marked (IsNumber 2) (number_at 2) (number_spelled 2) 58 (byte ∷ bytes) second.0 second.1 in
    subst (λ (p : ℕ × ℕ). AreSeconds (byte ∷ bytes) p.0 p.1) sub.2 (inr (s.text, second.0.1, s.is, s.has, fraction_spelled second.0.1 sub.0 sub.1))

-- ---- the time of day

pub record ReadsClock (text : List ℕ) (sod sub : ℕ) : Type 0 where
  pub clock : ClockParts
  pub read : clock_at text ≡ Some clock
  pub is_second : IsSecondOf clock sod
  pub is_sub : clock.sub ≡ sub

abbrev clock_of : ℕ → ℕ → ℕ → ℕ → ClockParts
clock_of hour minute second sub = record { hour = hour; minute = minute; second = second; sub = sub }

separator_stops : (byte : ℕ) (bytes : List ℕ) → is_separator byte ≡ true → Stops (byte ∷ bytes)
separator_stops byte bytes h =
    let other : is_ascii_digit byte ≡ false = grind (arith, h) in
    ap (λ (b : Bool). cond b (1 + prefix_len is_ascii_digit bytes) 0) other

pub clock_stops : (text : List ℕ) (sod sub : ℕ) → IsClock text sod sub → Stops text
clock_stops text sod sub (inl h) = ap (prefix_len is_ascii_digit) h.0
clock_stops text sod sub (inr h) = ap (prefix_len is_ascii_digit) h.2 ∙ separator_stops h.0 h.1 h.3

joined_time : (a b c : List ℕ) → a ++ codes ":" ++ b ++ c ≡ a ++ 58 ∷ (b ++ c)
joined_time a b c = simp append_assoc

time_read : (time : List ℕ) (sod sub : ℕ) (h : IsTimeOfDay time sod sub) → option_and_then minutes_at (number_at 2 time) ≡ Some (clock_of h.hour h.minute h.second sub)
time_read time sod sub h =
    ap (λ (xs : List ℕ). option_and_then minutes_at (number_at 2 xs)) (h.joined ∙ joined_time h.first h.middle h.last)
    ∙ ap (option_and_then minutes_at) (number_read 2 h.hour h.first (58 ∷ (h.middle ++ h.last)) h.is_hour (lit< tt) (lit≤ tt) refl)
    ∙ ap (option_and_then (λ (m : ℕ × List ℕ). option_map (λ (l : ℕ × ℕ). clock_of h.hour m.0 l.0 l.1) (seconds_at m.1)))
    (number_read 2 h.minute h.middle h.last h.is_minute (lit< tt) (lit≤ tt) (seconds_stop h.last h.second sub h.are_seconds))
    ∙ ap (option_map (λ (l : ℕ × ℕ). clock_of h.hour h.minute l.0 l.1)) (seconds_read h.last h.second sub h.are_seconds)

pub clock_is_read : (text : List ℕ) (sod sub : ℕ) → IsClock text sod sub → ReadsClock text sod sub
clock_is_read text sod sub (inl h) = record {
  clock = clock_of 0 0 0 0;
  read = ap clock_at h.0;
  is_second = record { hours = lit≤ tt; minutes = lit≤ tt; seconds = lit≤ tt; is_sod = h.1 };
  is_sub = sym h.2;
}
clock_is_read text sod sub (inr h) =
    let mark = h.0 in
    let time = h.1 in
    let day = h.4 in
    record {
      clock = clock_of day.hour day.minute day.second sub;
      read = ap clock_at h.2 ∙ ap (λ (b : Bool). cond b (option_and_then minutes_at (number_at 2 time)) None) h.3 ∙ time_read time sod sub day;
      is_second = record { hours = day.hours; minutes = day.minutes; seconds = day.seconds; is_sod = day.is_sod };
      is_sub = refl;
    }

time_spelled : (time : List ℕ) (clock : ClockParts) (sod : ℕ) → option_and_then minutes_at (number_at 2 time) ≡ Some clock → IsSecondOf clock sod → IsTimeOfDay time sod clock.sub
time_spelled time clock sod h means =
    let hour = bound minutes_at (number_at 2 time) clock h in
    let minute = bound (λ (m : ℕ × List ℕ). option_map (λ (l : ℕ × ℕ). clock_of hour.0.0 m.0 l.0 l.1) (seconds_at m.1)) (marked_number 58 2 hour.0.1) clock hour.2 in
    let last = mapped (λ (l : ℕ × ℕ). clock_of hour.0.0 minute.0.0 l.0 l.1) (seconds_at minute.0.1) clock minute.2 in
    let f = number_spelled 2 time hour.0 hour.1 in
    let m = marked (IsNumber 2) (number_at 2) (number_spelled 2) 58 hour.0.1 minute.0 minute.1 in
    let s = seconds_spelled minute.0.1 last.0 last.1 in
    let here : IsSecondOf (clock_of hour.0.0 minute.0.0 last.0.0 last.0.1) sod = subst (λ (c : ClockParts). IsSecondOf c sod) (sym last.2) means in
    let whole : IsTimeOfDay time sod last.0.1 = record {
      hour = hour.0.0;
      minute = minute.0.0;
      second = last.0.0;
      first = f.text;
      middle = m.text;
      last = minute.0.1;
      joined = f.is ∙ ap (λ (xs : List ℕ). f.text ++ xs) m.is ∙ sym (joined_time f.text m.text minute.0.1);
      is_hour = f.has;
      is_minute = m.has;
      are_seconds = s;
      hours = here.hours;
      minutes = here.minutes;
      seconds = here.seconds;
      is_sod = here.is_sod;
    } in
    subst (λ (c : ClockParts). IsTimeOfDay time sod c.sub) last.2 whole

pub clock_spelled : (text : List ℕ) (clock : ClockParts) (sod : ℕ) → clock_at text ≡ Some clock → IsSecondOf clock sod → IsClock text sod clock.sub
clock_spelled [] clock sod h means =
    let same = same_Some (clock_of 0 0 0 0) clock h in
    let here : IsSecondOf (clock_of 0 0 0 0) sod = subst (λ (c : ClockParts). IsSecondOf c sod) (sym same) means in
    inl (refl, here.is_sod, ap (λ (c : ClockParts). c.sub) (sym same))
clock_spelled (byte ∷ bytes) clock sod h means =
    let parts = guarded (is_separator byte) (option_and_then minutes_at (number_at 2 bytes)) clock h in
    inr (byte, bytes, refl, parts.0, time_spelled bytes clock sod parts.1 means)
