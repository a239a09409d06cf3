-- The tick of a clock word, its time and its UTC.
use Rattle.std.proofs.Common.{◌≡◌, ℕ, ◌+◌, ◌*◌, ◌^◌, List, [], ◌∷◌, ◌++◌, Result, Option, Some, None, Ok, Err, refl, ap, subst, inl, inr, ◌∙◌, append_assoc}
use Rattle.std.specs.Prelude.{ℤ, decimal, IfOk}
use Rattle.std.specs.List.{AllZip}
use Rattle.sk_checks.specs.Checks.{Check, ◌⇒◌, carried, Passes, NoneRefuses, FirstRefuses}
use Rattle.sk_decimal.specs.Fixed.{fixed_text}
use Rattle.sk_decimal.specs.Quotient.{floor_quotient}
use Rattle.sk_leap.specs.declared.pair.LeapPair.{LeapPair}
use Rattle.sk_leap.specs.declared.utc.Utc.{Utc}
use Rattle.sk_leap.specs.Leap.{tdt_of, utc_checks, tdt_checks}
use Rattle.sk_leap.specs.Kernel.{Entry, IsLeapDate}
use Rattle.sk_leap.specs.UtcText.{IsPrintedUtc}
use Rattle.sk_leap.proofs.LeapDays.{leap_day_bounds}
use Rattle.sk_clock.specs.Clock.{ClockView, clock_text}
use Rattle.sk_obs.specs.declared.fault.ClockWordStop.TheVariants.{Refused}
use Rattle.sk_obs.specs.Words.{word_checks, IsClockWord}
use Rattle.sk_line.specs.Triple.{TripleView}
use Rattle.sk_line.specs.Line.{line_over, covering}
use Rattle.sk_triples.specs.Kernel.{AreOf, range_checks}
use Rattle.sk_report.specs.declared.times.Timed.{Timed}
use Rattle.sk_report.specs.Line.{IsTimed}
use Rattle.sk_words.specs.Request.{Options}
use Rattle.sk_words.specs.declared.tables.OptionName.TheVariants as opt
use Rattle.sk_outcome.specs.Seen.{Source}
use Rattle.sk_outcome.specs.Files.{KernelRead, leap_named, leap_file}
use Rattle.sk_outcome.specs.Output.{line_of, time_by}
use Rattle.sk_outcome.specs.Time.{IsDated, IsUtcWord}
use Rattle.sk_outcome.specs.Outcome.{clock_tick, converted}

-- ---- the tick

none_refuses : {F : Type 0} (checks : List (Check F)) → ((fault : F) → FirstRefuses checks fault → ⊥) → NoneRefuses checks
none_refuses [] none = tt
none_refuses ((p ⇒ own) ∷ checks) none =
    let passes : Passes (p ⇒ own) = λ h. none own (inl (h, refl)) in
    (passes, none_refuses checks (λ fault later. none fault (inr (passes, later))))
none_refuses ((carried P own) ∷ checks) none =
    let passes : Passes (carried P own) = λ inner h. none (own inner) (inl (inner, h, refl)) in
    (passes, none_refuses checks (λ fault later. none fault (inr (passes, later))))

pub tick_read : (word bytes : List ℕ) (clock : ClockView) (tick : ℕ) → bytes ≡ word → NoneRefuses (carried (FirstRefuses (word_checks clock bytes)) Refused ∷ []) × IsClockWord clock bytes tick
    → clock_tick word clock (Ok tick)
tick_read word bytes clock tick same h =
    subst (λ (w : List ℕ). clock_tick w clock (Ok tick)) same (none_refuses (word_checks clock bytes) h.0.0, h.1)

-- ---- the time

-- the time of the tick is that of the triple over it
pub record HasTime (kernel : KernelRead) (tick : ℕ) (time : ℤ) : Type 0 where
  pub number : ℕ
  pub triple : TripleView
  pub covers : covering kernel.triples.triples tick ≡ Some (number, triple)
  pub is_time : time ≡ time_by kernel triple tick

pub timed_by : (kernel : KernelRead) (tick : ℕ) (t : Timed) → AreOf kernel.clock kernel.triples → IsTimed kernel.triples tick t → HasTime kernel tick t.time.units
timed_by kernel tick t of_clock is = record {
  number = t.place + 1;
  triple = is.triple;
  covers = is.covers;
  is_time = is.floored ∙ ap (λ (n : ℕ). floor_quotient (line_over n is.triple.anchor is.triple.rate tick) (10 ^ 6 * n)) of_clock.0;
}

-- ---- the UTC

zipped_dated : (pairs : List LeapPair) (entries : List Entry) → AllZip (λ (pair : LeapPair) (entry : Entry). (pair.value ≡ entry.number) × IsLeapDate entry.date pair.day) pairs entries → IsDated pairs
zipped_dated [] entries h = tt
zipped_dated (pair ∷ pairs) [] h = absurd h
zipped_dated (pair ∷ pairs) (entry ∷ entries) h = (leap_day_bounds entry.date pair.day h.0.1).0

named_dated : (source : Source) (name : Option (List ℕ)) (pairs : List LeapPair) → leap_named source name (Ok pairs) → IsDated pairs
named_dated source None pairs h = let none : [] ≡ pairs = cc in subst IsDated none tt
named_dated source (Some name) pairs h = zipped_dated pairs _ h.2.2.1

-- the table of a leap second kernel
pub file_dated : (source : Source) (options : Options) (pairs : List LeapPair) → leap_file source options (Ok pairs) → IsDated pairs
file_dated source options pairs h = named_dated source (options opt.Leap) pairs h

pub utc_printed : {X E : Type 0} (bytes : X → List ℕ) (pairs : List LeapPair) (time : ℤ) (utc : Utc) (r : Result X E)
    → NoneRefuses (tdt_checks pairs time) × (NoneRefuses (utc_checks pairs utc) × (tdt_of pairs utc ≡ time)) → IfOk r (λ text. IsPrintedUtc (bytes text) utc)
    → IfOk r (λ text. IsUtcWord pairs time (bytes text))
utc_printed bytes pairs time utc (Ok text) h printed = inr (utc, h.0, h.1.0, h.1.1, printed)
utc_printed bytes pairs time utc (Err fault) h printed = tt

-- ---- the line

pub four_fields : (none first second third fourth text number time utc : List ℕ) → none ≡ [] → first ≡ none ++ (text ++ 59 ∷ (number ++ 59 ∷ time))
    → second ≡ first ++ 59 ∷ [] → third ≡ second ++ utc → fourth ≡ third ++ 10 ∷ []
    → fourth ≡ (text ++ 59 ∷ (number ++ 59 ∷ (time ++ 59 ∷ utc))) ++ 10 ∷ []
four_fields none first second third fourth text number time utc e p q r s =
    let one : first ≡ text ++ 59 ∷ (number ++ 59 ∷ time) = p ∙ ap (λ (xs : List ℕ). xs ++ (text ++ 59 ∷ (number ++ 59 ∷ time))) e in
    s ∙ ap (λ (xs : List ℕ). xs ++ 10 ∷ []) (r ∙ ap (λ (xs : List ℕ). xs ++ utc) (q ∙ ap (λ (xs : List ℕ). xs ++ 59 ∷ []) one)) ∙ simp append_assoc

pub line_converted : (leap : List LeapPair) (kernel : KernelRead) (tick : ℕ) (time : ℤ) (utc line : List ℕ) → NoneRefuses (range_checks kernel.triples tick) → HasTime kernel tick time
    → IsUtcWord leap time utc → line ≡ line_of (clock_text kernel.clock tick ∷ decimal tick ∷ fixed_text 12 time ∷ utc ∷ []) → converted leap kernel tick (Ok line)
line_converted leap kernel tick time utc line none timed is_utc is = (
  timed.triple,
  (none, (timed.number, timed.covers)),
  (
    utc,
    subst (λ (t : ℤ). IsUtcWord leap t utc) timed.is_time is_utc,
    ap Ok (is ∙ ap (λ (t : ℤ). line_of (clock_text kernel.clock tick ∷ decimal tick ∷ fixed_text 12 t ∷ utc ∷ [])) timed.is_time),
  ),
)
