-- The time of a time word and the tick of a time are the only ones.
use Rattle.std.proofs.Common.{◌≡◌, ℕ, ℤ, pos, ◌*ℤ◌, ◌≤ℤ◌, ◌<ℤ◌, ◌^◌, List, [], ◌∷◌, Some, sym, ap, inl, inr, arith, ◌∙◌}
use Rattle.std.proofs.lemmas.Int.{ints}
use Rattle.std.proofs.lemmas.Bool.{cases_lt}
use Rattle.std.proofs.lemmas.Option.{some_pair_parts}
use Rattle.sk_checks.specs.Checks.{◌⇒◌, Judges, FirstRefuses}
use Rattle.sk_checks.proofs.ChecksLemmas.{AreSingle, plain-single, carried-single}
use Rattle.sk_leap.specs.declared.pair.LeapPair.{LeapPair}
use Rattle.sk_leap.specs.declared.utc.Utc.{Utc}
use Rattle.sk_leap.specs.declared.utc.UtcFault.{UtcFault}
use Rattle.sk_leap.specs.Leap.{utc_checks}
use Rattle.sk_leap.specs.UtcText.{SpellsUtc}
use Rattle.sk_publishing.specs.Row.{IsObservedTime}
use Rattle.sk_obs.specs.Words.{TimeWord, time_word, TdtNumber, UtcCode, CucHex, CdsHex, OtherWord, SaysTime}
use Rattle.sk_obs.proofs.Laws.{SaysTime-one}
use Rattle.sk_line.specs.Triple.{TripleView}
use Rattle.sk_line.specs.Line.{IsTimeAt, line_over}
use Rattle.sk_triples.specs.Kernel.{TriplesView}
use Rattle.sk_inverse.specs.Inverse.{IsTickOf, IsAfter, IsNotAfter, inverse_checks}
use Rattle.sk_status.specs.declared.status.TimeStop.TheVariants.{Range, Utc as UtcRefused}
use Rattle.sk_status.specs.declared.status.Status.TheVariants.{TimeRefused}
use Rattle.sk_outcome.specs.Stage.{IsDetermined}
use Rattle.sk_outcome.specs.Files.{KernelRead}
use Rattle.sk_outcome.specs.Time.{form_checks, time_stops}
use Rattle.sk_outcome.specs.Outcome.{TimeOf, said, ticked, status_of_time}
use Rattle.sk_headline.proofs.Determined.{IsOne, judged_determined, judges_one, single_append}
use Rattle.sk_headline.proofs.OneRecord.{utc_fault}

form_single : (pairs : List LeapPair) (word : TimeWord) → AreSingle (form_checks pairs word)
form_single pairs (TdtNumber bytes) = (plain-single _ _, tt)
form_single pairs (UtcCode text) =
    let refused = carried-single (λ (fault : UtcFault). (u : Utc) × SpellsUtc text u × FirstRefuses (utc_checks pairs u) fault) UtcRefused (utc_fault pairs text) in
    (plain-single _ _, (refused, tt))
form_single pairs (CucHex text) = (plain-single _ _, tt)
form_single pairs (CdsHex text) = (plain-single _ _, tt)
form_single pairs OtherWord = (plain-single _ _, tt)

stops_single : (pairs : List LeapPair) (word : List ℕ) → AreSingle (time_stops pairs word)
stops_single pairs word =
    single_append (form_checks pairs (time_word word)) (((time : ℤ) × SaysTime pairs (time_word word) time × ¬ IsObservedTime time) ⇒ Range ∷ [])
    (form_single pairs (time_word word)) (plain-single _ _, tt)

pub time_one : (word : List ℕ) (leap : List LeapPair) → IsOne (TimeOf word leap)
time_one word leap = judges_one (time_stops leap word) (SaysTime leap (time_word word)) (stops_single leap word) (SaysTime-one leap (time_word word))

pub said_determined : (word : List ℕ) (leap : List LeapPair) → IsDetermined (said word leap)
said_determined word leap = judged_determined (TimeOf word leap) TimeRefused (time_one word leap)

-- a tick has one time
one_time : (per_count : ℕ) (triples : List TripleView) (tick : ℕ) (a b : ℤ) → IsTimeAt per_count triples tick a → IsTimeAt per_count triples tick b → a ≡ b
one_time per_count triples tick a b h k =
    let e : Some (h.0, h.1) ≡ Some (k.0, k.1) = sym h.2 ∙ k.2 in
    let same : h.1 ≡ k.1 = (some_pair_parts h.0 k.0 h.1 k.1 e).1 in
    h.3 ∙ ap (λ (t : TripleView). line_over per_count t.anchor t.rate tick) same ∙ sym k.3

not_both : (k : TriplesView) (tick : ℕ) (time : ℤ) → IsNotAfter k tick time → IsAfter k tick time → ⊥
not_both k tick time h a = against _ _ _ (one_time k.per_count k.triples tick h.0 a.0 h.1 a.1) h.2 a.2
  where
    against : (x y z : ℤ) → x ≡ y → x ≤ℤ z → z <ℤ y → ⊥
    against x y z e p q = omega (arith, ints, e, p, q)

tick_one : (k : TriplesView) (time : ℤ) (a b : ℕ) → IsTickOf k time a → IsTickOf k time b → a ≡ b
tick_one k time a b h j = elim (cases_lt a b) [
  | inl less ↦ absurd (not_both k b time j.not_after (h.greatest b less j.within))
  | inr not_less ↦ (elim (cases_lt b a) [
    | inl less ↦ absurd (not_both k a time h.not_after (j.greatest a less h.within))
    | inr not_more ↦ (let same : a ≡ b = omega arith in same)
  ])
]

pub ticked_determined : (kernel : KernelRead) (time : ℤ) → IsDetermined (ticked kernel time)
ticked_determined kernel time =
    judged_determined (Judges (inverse_checks kernel.triples (time *ℤ pos (10 ^ 6))) (IsTickOf kernel.triples (time *ℤ pos (10 ^ 6)))) status_of_time
    (judges_one (inverse_checks kernel.triples (time *ℤ pos (10 ^ 6))) (IsTickOf kernel.triples (time *ℤ pos (10 ^ 6))) (plain-single _ _, (plain-single _ _, tt)) (tick_one kernel.triples (time *ℤ pos (10 ^ 6))))
