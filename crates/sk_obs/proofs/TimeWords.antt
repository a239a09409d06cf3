-- What is refused of a UTC or a code as a time word.
use Rattle.std.proofs.Common.{◌≡◌, ℕ, ℤ, List, Option, Some, Result, Ok, Err, MatchResult, option_map, drop, true, false, codes, refl, sym, subst, inl, inr}
use Rattle.sk_checks.specs.Checks.{Check, FirstRefuses, NoneRefuses, Judges, JudgesUnless}
use Rattle.sk_checks.proofs.ChecksLemmas.{FirstRefuses-some}
use Rattle.sk_decimal.specs.declared.fixed.Fixed.{Fixed}
use Rattle.sk_cds.specs.Code.{CdsView, SpellsCds, cds_checks}
use Rattle.sk_cds.specs.declared.fault.CdsFault.{CdsFault}
use Rattle.sk_leap.specs.declared.pair.LeapPair.{LeapPair}
use Rattle.sk_leap.specs.declared.utc.Utc.{Utc}
use Rattle.sk_leap.specs.declared.utc.UtcFault.{UtcFault}
use Rattle.sk_leap.specs.Leap.{tdt_of, utc_checks}
use Rattle.sk_leap.specs.UtcText.{SpellsUtc}
use Rattle.sk_obs.specs.declared.fault.ObsFault.{ObsFault}
use Rattle.sk_obs.specs.declared.fault.ObsFault.TheVariants.{UtcRefused, NoMemory}
use Rattle.sk_obs.specs.Words.{TimeWord, time_word, has_mark, TdtNumber, UtcCode, CucHex, CdsHex, time_checks, SaysTime, IsSent, IsUtcOf, IsHexOf, IsCdsHex}
use Rattle.sk_obs.proofs.Laws.{SpellsUtc-one, utc_checks-same, cds_utc, IsHexOf-one}

pub utc_ok : (pairs : List LeapPair) (n : ℕ) (text : List ℕ) (utc : Utc) (time : ℤ) → SpellsUtc text utc → NoneRefuses (utc_checks pairs utc) → time ≡ tdt_of pairs utc
    → NoneRefuses (time_checks pairs n (UtcCode text)) × SaysTime pairs (UtcCode text) time
utc_ok pairs n text utc time spelled none is =
    ((λ no. no utc spelled, (λ fault h. FirstRefuses-some (utc_checks pairs utc) fault (utc_checks-same pairs h.0 utc fault (SpellsUtc-one text h.0 utc h.1 spelled) h.2) none, tt)), (utc, spelled, is))

pub utc_err : (pairs : List LeapPair) (n : ℕ) (text : List ℕ) (utc : Utc) (fault : UtcFault) → SpellsUtc text utc → FirstRefuses (utc_checks pairs utc) fault
    → FirstRefuses (time_checks pairs n (UtcCode text)) (UtcRefused n fault)
utc_err pairs n text utc fault spelled h = inr (λ no. no utc spelled, inl (fault, (utc, spelled, h), refl))

-- the code of the octets is not refused
cds_passes : (text octets : List ℕ) → IsHexOf text octets → NoneRefuses (cds_checks octets)
    → (fault : CdsFault) → ((others : List ℕ) × IsHexOf text others × FirstRefuses (cds_checks others) fault) → ⊥
cds_passes text octets hex none fault h =
    FirstRefuses-some (cds_checks octets) fault (subst (λ (bytes : List ℕ). FirstRefuses (cds_checks bytes) fault) (IsHexOf-one text h.0 octets h.1 hex) h.2) none

pub cds_ok : (pairs : List LeapPair) (n : ℕ) (text octets : List ℕ) (code : CdsView) (utc : Utc) (time : ℤ) → IsHexOf text octets → NoneRefuses (cds_checks octets) → SpellsCds octets code
    → IsUtcOf code utc → NoneRefuses (utc_checks pairs utc) → time ≡ tdt_of pairs utc
    → NoneRefuses (time_checks pairs n (CdsHex text)) × SaysTime pairs (CdsHex text) time
cds_ok pairs n text octets code utc time hex passes spelled is_utc none is =
    let is_code : IsCdsHex text code = (octets, hex, spelled) in (
      (
        λ no. no octets hex,
        (
          cds_passes text octets hex passes,
          (
            λ fault h. FirstRefuses-some (utc_checks pairs utc) fault (utc_checks-same pairs h.1 utc fault (cds_utc text h.0 code h.1 utc h.2 is_code h.3 is_utc) h.4) none,
            tt,
          ),
        ),
      ),
      (code, utc, is_code, is_utc, is),
    )

pub cds_err : (pairs : List LeapPair) (n : ℕ) (text octets : List ℕ) (code : CdsView) (utc : Utc) (fault : UtcFault) → IsHexOf text octets → NoneRefuses (cds_checks octets) → SpellsCds octets code
    → IsUtcOf code utc → FirstRefuses (utc_checks pairs utc) fault
    → FirstRefuses (time_checks pairs n (CdsHex text)) (UtcRefused n fault)
cds_err pairs n text octets code utc fault hex passes spelled is_utc h =
    inr (λ no. no octets hex, inr (cds_passes text octets hex passes, inl (fault, (code, utc, (octets, hex, spelled), is_utc, h), refl)))

-- ---- which word it is

pub is_tdt : (word rest : List ℕ) → has_mark word (codes "tdt:") ≡ true → rest ≡ drop 4 word → time_word word ≡ TdtNumber rest
is_tdt word rest t e = rw (t, e) refl

pub is_utc : (word rest : List ℕ) → has_mark word (codes "tdt:") ≡ false → has_mark word (codes "utc:") ≡ true → rest ≡ drop 4 word → time_word word ≡ UtcCode rest
is_utc word rest a t e = rw (a, t, e) refl

pub is_cuc : (word rest : List ℕ) → has_mark word (codes "tdt:") ≡ false → has_mark word (codes "utc:") ≡ false → has_mark word (codes "cuc:") ≡ true → rest ≡ drop 4 word → time_word word ≡ CucHex rest
is_cuc word rest a b t e = rw (a, b, t, e) refl

pub is_cds : (word rest : List ℕ) → has_mark word (codes "tdt:") ≡ false → has_mark word (codes "utc:") ≡ false → has_mark word (codes "cuc:") ≡ false → has_mark word (codes "cds:") ≡ true
    → rest ≡ drop 4 word → time_word word ≡ CdsHex rest
is_cds word rest a b c t e = rw (a, b, c, t, e) refl

-- what a reader of a word's time answers
abbrev pub IsAnswer : List LeapPair → ℕ → TimeWord → Result (Option (Fixed 12)) ObsFault → Type 0
IsAnswer pairs n word result = JudgesUnless NoMemory (time_checks pairs n word) (λ sent. IsSent pairs word (option_map (λ time. time.units) sent)) result

-- where the time is counted, it says that time
pub counted_answer : (pairs : List LeapPair) (n : ℕ) (word : TimeWord) (time : Result (Fixed 12) ObsFault) (result : Result (Option (Fixed 12)) ObsFault)
    → JudgesUnless NoMemory (time_checks pairs n word) (λ time. SaysTime pairs word time.units) time
    → MatchResult time (λ time. result ≡ Ok (Some time)) (λ fault. result ≡ Err fault)
    → IsAnswer pairs n word result
counted_answer pairs n word (Ok time) result h is = rw is (h.0, (time.units, h.1, refl))
counted_answer pairs n word (Err fault) result h is = rw is h

-- a call that wants no memory
pub unless : {T : Type 0} (checks : List (Check ObsFault)) (P : T → Type 0) (result : Result T ObsFault) → Judges checks P result → JudgesUnless NoMemory checks P result
unless checks P (Ok value) h = h
unless checks P (Err fault) h = inr h

-- the answer for the form that the word has is that for the word
pub of_word : (pairs : List LeapPair) (n : ℕ) (word : List ℕ) (form : TimeWord) (result : Result (Option (Fixed 12)) ObsFault)
    → time_word word ≡ form → IsAnswer pairs n form result → IsAnswer pairs n (time_word word) result
of_word pairs n word form result e h = subst (λ (w : TimeWord). IsAnswer pairs n w result) (sym e) h
