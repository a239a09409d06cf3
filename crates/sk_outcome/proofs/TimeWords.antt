-- The time of a time word.
use Rattle.std.proofs.Common.{◌≡◌, ℕ, ◌≤◌, ℤ, List, [], ◌∷◌, Option, Some, Result, Ok, Err, refl, sym, subst, inl, inr, option_map}
use Rattle.std.specs.Option.{SomeIff}
use Rattle.sk_checks.specs.Checks.{Check, ◌⇒◌, Judges, NoneRefuses, FirstRefuses}
use Rattle.sk_checks.proofs.ChecksLemmas.{FirstRefuses-some, FirstRefuses-front, FirstRefuses-rest, NoneRefuses-append}
use Rattle.sk_decimal.specs.Number.{DecimalView, SpellsDecimal}
use Rattle.sk_decimal.specs.Fixed.{FitsWide, units_of}
use Rattle.sk_decimal.specs.declared.fixed.Fixed.{Fixed}
use Rattle.sk_leap.specs.declared.pair.LeapPair.{LeapPair}
use Rattle.sk_leap.specs.declared.utc.Utc.{Utc}
use Rattle.sk_leap.specs.declared.utc.UtcFault.{UtcFault}
use Rattle.sk_leap.specs.Leap.{tdt_of, utc_checks}
use Rattle.sk_leap.specs.UtcText.{SpellsUtc}
use Rattle.sk_publishing.specs.Row.{IsObservedTime}
use Rattle.sk_obs.specs.Words.{TimeWord, time_word, TdtNumber, UtcCode, IsSent, SaysTime}
use Rattle.sk_obs.proofs.Times.{tdt_sent}
use Rattle.sk_obs.proofs.Laws.{SpellsUtc-one, utc_checks-same, SaysTime-one}
use Rattle.sk_status.specs.declared.status.TimeStop.{TimeStop}
use Rattle.sk_status.specs.declared.status.TimeStop.TheVariants.{Range, Utc as UtcRefused}
use Rattle.sk_outcome.specs.Time.{form_checks, time_stops}

-- what a reader of a word's time answers
abbrev pub IsAnswer : List LeapPair → TimeWord → Result (Option (Fixed 12)) TimeStop → Type 0
IsAnswer pairs word result = Judges (form_checks pairs word) (λ sent. IsSent pairs word (option_map (λ time. time.units) sent)) result

pub number_sent : (text : List ℕ) (d : DecimalView) (found : Option (Fixed 12)) → SpellsDecimal text d → d.scale ≤ 12
    → SomeIff found ((d.scale ≤ 12) × FitsWide (units_of 12 d)) (record { units = units_of 12 d }) → IsAnswer [] (TdtNumber text) (Ok found)
number_sent text d found spelled short is = ((λ none. none d (spelled, short), tt), (tdt_sent 0 text d found spelled short is).1)

pub utc_sent : (pairs : List LeapPair) (text : List ℕ) (utc : Utc) (time : Fixed 12) → SpellsUtc text utc → NoneRefuses (utc_checks pairs utc) → time.units ≡ tdt_of pairs utc
    → IsAnswer pairs (UtcCode text) (Ok (Some time))
utc_sent pairs text utc time spelled none is = (
  (λ no. no utc spelled, (λ fault h. FirstRefuses-some (utc_checks pairs utc) fault (utc_checks-same pairs h.0 utc fault (SpellsUtc-one text h.0 utc h.1 spelled) h.2) none, tt)),
  (time.units, (utc, spelled, is), refl),
)

pub utc_stopped : (pairs : List LeapPair) (text : List ℕ) (utc : Utc) (fault : UtcFault) → SpellsUtc text utc → FirstRefuses (utc_checks pairs utc) fault
    → FirstRefuses (form_checks pairs (UtcCode text)) (UtcRefused fault)
utc_stopped pairs text utc fault spelled h = inr (λ no. no utc spelled, inl (fault, (utc, spelled, h), refl))

-- the answer for the form that the word has is that for the word
pub of_form : (pairs : List LeapPair) (word : List ℕ) (form : TimeWord) (result : Result (Option (Fixed 12)) TimeStop)
    → time_word word ≡ form → IsAnswer pairs form result → IsAnswer pairs (time_word word) result
of_form pairs word form result e h = subst (λ (w : TimeWord). IsAnswer pairs w result) (sym e) h

-- a number has no leap seconds
pub of_number : (pairs : List LeapPair) (text : List ℕ) (result : Result (Option (Fixed 12)) TimeStop) → IsAnswer [] (TdtNumber text) result → IsAnswer pairs (TdtNumber text) result
of_number pairs text (Ok sent) h = h
of_number pairs text (Err stop) h = h

module _ (pairs : List LeapPair) (word : List ℕ) where
  abbrev range : List (Check TimeStop)
  range = ((time : ℤ) × SaysTime pairs (time_word word) time × ¬ IsObservedTime time) ⇒ Range ∷ []

  pub form_refused : (stop : TimeStop) → FirstRefuses (form_checks pairs (time_word word)) stop → FirstRefuses (time_stops pairs word) stop
  form_refused stop h = FirstRefuses-front (form_checks pairs (time_word word)) range stop h

  pub range_refused : (time : ℤ) → NoneRefuses (form_checks pairs (time_word word)) → SaysTime pairs (time_word word) time → ¬ IsObservedTime time → FirstRefuses (time_stops pairs word) Range
  range_refused time none says large = FirstRefuses-rest (form_checks pairs (time_word word)) range Range none (inl ((time, says, large), refl))

  pub is_taken : (time units : ℤ) → NoneRefuses (form_checks pairs (time_word word)) → SaysTime pairs (time_word word) time → units ≡ time → IsObservedTime time
      → NoneRefuses (time_stops pairs word) × SaysTime pairs (time_word word) units
  is_taken time units none says is small = (
    NoneRefuses-append (form_checks pairs (time_word word)) range none
        ((λ h. h.2 (subst (λ (t : ℤ). IsObservedTime t) (SaysTime-one pairs (time_word word) time h.0 says h.1) small)), tt),
    subst (λ (t : ℤ). SaysTime pairs (time_word word) t) (sym is) says,
  )
