-- What is refused of the time word and the delay of a record.
use Rattle.std.proofs.Common.{◌≡◌, ℕ, ◌*◌, ℤ, pos, List, refl, sym, ap, ◌∙◌, subst, inl, inr}
use Rattle.std.specs.Prelude.{◌-ℤ◌}
use Rattle.sk_checks.specs.Checks.{FirstRefuses, NoneRefuses}
use Rattle.sk_checks.proofs.ChecksLemmas.{FirstRefuses-front, FirstRefuses-rest, NoneRefuses-append}
use Rattle.sk_publishing.specs.Row.{IsObservedTime}
use Rattle.sk_leap.specs.declared.pair.LeapPair.{LeapPair}
use Rattle.sk_obs.specs.declared.fault.ObsFault.{ObsFault}
use Rattle.sk_obs.specs.declared.fault.ObsFault.TheVariants.{BadDelay, TimeRange}
use Rattle.sk_obs.specs.Words.{time_word, time_checks, SaysTime}
use Rattle.sk_obs.specs.File.{observed_checks, IsObserved, IsDelay, time_of, delay_of}
use Rattle.sk_obs.proofs.Laws.{SaysTime-one}

-- a record has one observed time
IsObserved-one : (pairs : List LeapPair) (fields : List (List ℕ)) (a b : ℤ) → IsObserved pairs fields a → IsObserved pairs fields b → a ≡ b
IsObserved-one pairs fields a b h k =
    let sent : h.0 ≡ k.0 = SaysTime-one pairs (time_word (time_of fields)) h.0 k.0 h.2 k.2 in
    let delay : h.1 ≡ k.1 = h.3.0.2 ∙ sym k.3.0.2 in
    h.4 ∙ (ap (λ s. s -ℤ pos (h.1 * 1000)) sent ∙ (ap (λ d. k.0 -ℤ pos (d * 1000)) delay ∙ sym k.4))

pub word_refused : (pairs : List LeapPair) (n : ℕ) (fields : List (List ℕ)) (fault : ObsFault) → FirstRefuses (time_checks pairs n (time_word (time_of fields))) fault
    → FirstRefuses (observed_checks pairs n fields) fault
word_refused pairs n fields fault h = FirstRefuses-front (time_checks pairs n (time_word (time_of fields))) _ fault h

pub delay_refused : (pairs : List LeapPair) (n : ℕ) (fields : List (List ℕ)) → NoneRefuses (time_checks pairs n (time_word (time_of fields)))
    → ((delay : ℕ) → ¬ IsDelay (delay_of fields) delay) → FirstRefuses (observed_checks pairs n fields) (BadDelay n)
delay_refused pairs n fields none h = FirstRefuses-rest (time_checks pairs n (time_word (time_of fields))) _ (BadDelay n) none (inl (h, refl))

-- a time that is no observed time is refused
pub range_refused : (pairs : List LeapPair) (n : ℕ) (fields : List (List ℕ)) (sent : ℤ) (delay : ℕ) → NoneRefuses (time_checks pairs n (time_word (time_of fields)))
    → SaysTime pairs (time_word (time_of fields)) sent → IsDelay (delay_of fields) delay → ¬ IsObservedTime (sent -ℤ pos (delay * 1000))
    → FirstRefuses (observed_checks pairs n fields) (TimeRange n)
range_refused pairs n fields sent delay none says is_delay far =
    FirstRefuses-rest (time_checks pairs n (time_word (time_of fields))) _ (TimeRange n) none
    (inr (λ no. no delay is_delay, inl ((sent -ℤ pos (delay * 1000), (sent, delay, says, is_delay, refl), far), refl)))

pub none_refused : (pairs : List LeapPair) (n : ℕ) (fields : List (List ℕ)) (sent time : ℤ) (delay : ℕ) → NoneRefuses (time_checks pairs n (time_word (time_of fields)))
    → SaysTime pairs (time_word (time_of fields)) sent → IsDelay (delay_of fields) delay → time ≡ sent -ℤ pos (delay * 1000) → IsObservedTime time
    → NoneRefuses (observed_checks pairs n fields) × IsObserved pairs fields time
none_refused pairs n fields sent time delay none says is_delay is near =
    let observed : IsObserved pairs fields time = (sent, delay, says, is_delay, is) in (
      NoneRefuses-append (time_checks pairs n (time_word (time_of fields))) _ none
          (λ no. no delay is_delay, (λ far. far.2 (subst IsObservedTime (IsObserved-one pairs fields time far.0 observed far.1) near), tt)),
      observed,
    )
