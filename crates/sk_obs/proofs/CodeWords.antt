-- What is refused of a code as a clock word.
use Rattle.std.proofs.Common.{◌≡◌, ◌⊎◌, ℕ, List, [], ◌∷◌, Option, Result, drop, true, false, codes, refl, sym, subst, inl, inr}
use Rattle.sk_checks.specs.Checks.{FirstRefuses, NoneRefuses, JudgesUnless, carried}
use Rattle.sk_checks.proofs.ChecksLemmas.{FirstRefuses-some}
use Rattle.sk_cuc.specs.Code.{CucView, count, cuc_checks}
use Rattle.sk_cuc.specs.declared.fault.CucFault.{CucFault}
use Rattle.sk_clock.specs.Clock.{ClockView, Encodes}
use Rattle.sk_clock.specs.ClockText.{code_checks}
use Rattle.sk_clock.specs.declared.fault.ClockFault.{ClockFault}
use Rattle.sk_obs.specs.declared.fault.ClockWord.TheVariants.{Text, Cuc, Hex}
use Rattle.sk_obs.specs.declared.fault.ClockWordStop.{ClockWordStop}
use Rattle.sk_obs.specs.declared.fault.ClockWordStop.TheVariants.{Refused}
use Rattle.sk_obs.specs.declared.fault.ClockWordStop.TheVariants as word
use Rattle.sk_obs.specs.declared.fault.ObsFault.TheVariants.{NoMemory}
use Rattle.sk_obs.specs.declared.hex_text.CodeStop.{CodeStop}
use Rattle.sk_obs.specs.declared.hex_text.CodeStop.TheVariants as stop
use Rattle.sk_obs.specs.Words.{CodeBytes, form_checks, hex_checks, hex_part, IsNamed, IsCucHex, IsCodeWord, IsTickOf, IsHexOf, IsClockWord, ClockForm, clock_form, word_checks, ClockString, has_mark, word_stop, record_stop, time_checks, CucHex}
use Rattle.sk_obs.proofs.Laws.{IsCodeWord-named, IsCodeWord-code}

-- the code could not be read, so neither could the word
pub code_stopped : (clock : ClockView) (bytes : List ℕ) (named : Option ℕ) (why : CodeStop) → IsNamed bytes named
    → (why ≡ stop.NoMemory) ⊎ FirstRefuses (hex_checks (hex_part bytes)) why
    → (word_stop why ≡ word.NoMemory) ⊎ FirstRefuses (carried (FirstRefuses (form_checks clock (CodeBytes bytes))) Refused ∷ []) (word_stop why)
code_stopped clock bytes named stop.NoMemory is_named h = inl refl
code_stopped clock bytes named stop.Hex is_named h = elim h [
  | inl none ↦ cc none
  | inr refused ↦ elim refused [
    | inl here ↦ inr (inl (Hex, inr (λ no. no named is_named, inl (here.0, refl)), refl))
    | inr later ↦ elim later.1 [ inl here ↦ cc here.2 | inr none ↦ absurd none.1 ]
  ]
]
code_stopped clock bytes named (stop.Code fault) is_named h = elim h [
  | inl none ↦ cc none
  | inr refused ↦ elim refused [
    | inl here ↦ cc here.1
    | inr later ↦ elim later.1 [
      | inl here ↦ let same : here.0 ≡ fault = cc here.2 in
          let why = subst (λ (f : CucFault). (octets : List ℕ) × IsHexOf (hex_part bytes) octets × FirstRefuses (cuc_checks octets) f) same here.1 in
          inr (inl (Cuc fault, inr (λ no. no named is_named, inr (later.0, inl (fault, why, refl))), refl))
      | inr none ↦ absurd none.1
    ]
  ]
]

-- the same of a record's time
pub cuc_stopped : (n : ℕ) (text : List ℕ) (why : CodeStop)
    → (why ≡ stop.NoMemory) ⊎ FirstRefuses (hex_checks text) why
    → (record_stop n why ≡ NoMemory) ⊎ FirstRefuses (time_checks [] n (CucHex text)) (record_stop n why)
cuc_stopped n text stop.NoMemory h = inl refl
cuc_stopped n text stop.Hex h = elim h [
  | inl none ↦ cc none
  | inr refused ↦ elim refused [
    | inl here ↦ inr (inl (here.0, refl))
    | inr later ↦ elim later.1 [ inl here ↦ cc here.2 | inr none ↦ absurd none.1 ]
  ]
]
cuc_stopped n text (stop.Code fault) h = elim h [
  | inl none ↦ cc none
  | inr refused ↦ elim refused [
    | inl here ↦ cc here.1
    | inr later ↦ elim later.1 [
      | inl here ↦ let same : here.0 ≡ fault = cc here.2 in
          let why = subst (λ (f : CucFault). (octets : List ℕ) × IsHexOf text octets × FirstRefuses (cuc_checks octets) f) same here.1 in
          inr (inr (later.0, inl (fault, why, refl)))
      | inr none ↦ absurd none.1
    ]
  ]
]

-- the word is this partition or none, and this code
code_word : (bytes : List ℕ) (named : Option ℕ) (code : CucView) → IsNamed bytes named → IsCucHex (hex_part bytes) code → IsCodeWord bytes named code
code_word bytes named code is_named is_code = record { octets = is_code.0; is_named = is_named; is_hex = is_code.1; spelled = is_code.2 }

pub code_refused : (clock : ClockView) (bytes : List ℕ) (named : Option ℕ) (code : CucView) (fault : ClockFault) → IsNamed bytes named
    → NoneRefuses (hex_checks (hex_part bytes)) → IsCucHex (hex_part bytes) code → FirstRefuses (code_checks clock named code) fault
    → FirstRefuses (form_checks clock (CodeBytes bytes)) (Text fault)
code_refused clock bytes named code fault is_named none is_code h =
    inr (λ no. no named is_named, inr (none.0, inr (none.1.0, inl (fault, (named, code, code_word bytes named code is_named is_code, h), refl))))

-- the checks of one code are those of another that the bytes are
other_code : (clock : ClockView) (bytes : List ℕ) (a b : Option ℕ) (c d : CucView) (fault : ClockFault) → IsCodeWord bytes a c → IsCodeWord bytes b d
    → FirstRefuses (code_checks clock b d) fault → FirstRefuses (code_checks clock a c) fault
other_code clock bytes a b c d fault h k refused =
    let named = IsCodeWord-named bytes b a d c k h in
    let code = IsCodeWord-code bytes b a d c k h in
    subst (λ (e : CucView). FirstRefuses (code_checks clock a e) fault) code (subst (λ (n : Option ℕ). FirstRefuses (code_checks clock n d) fault) named refused)

pub code_ok : (clock : ClockView) (bytes : List ℕ) (named : Option ℕ) (code : CucView) (tick : ℕ) → IsNamed bytes named
    → NoneRefuses (hex_checks (hex_part bytes)) → IsCucHex (hex_part bytes) code → NoneRefuses (code_checks clock named code) → Encodes clock named (count code) tick
    → NoneRefuses (form_checks clock (CodeBytes bytes)) × IsTickOf clock (CodeBytes bytes) tick
code_ok clock bytes named code tick is_named none is_code pass is =
    let word = code_word bytes named code is_named is_code in (
      (
        λ no. no named is_named,
        (
          none.0,
          (
            none.1.0,
            (
              λ fault h. FirstRefuses-some (code_checks clock named code) fault (other_code clock bytes named h.0 code h.1 fault word h.2 h.3) pass,
              tt,
            ),
          ),
        ),
      ),
      (named, code, word, is),
    )

-- ---- which word it is

pub is_code : (bytes rest : List ℕ) → has_mark bytes (codes "tick:") ≡ false → has_mark bytes (codes "cuc:") ≡ true → rest ≡ drop 4 bytes → clock_form bytes ≡ CodeBytes rest
is_code bytes rest a t e = rw (a, t, e) refl

pub is_string : (bytes : List ℕ) → has_mark bytes (codes "tick:") ≡ false → has_mark bytes (codes "cuc:") ≡ false → clock_form bytes ≡ ClockString bytes
is_string bytes a b = rw (a, b) refl

-- the answer for the form that the word has is that for the word
pub of_form : (clock : ClockView) (bytes : List ℕ) (form : ClockForm) (result : Result ℕ ClockWordStop) → clock_form bytes ≡ form
    → JudgesUnless word.NoMemory (carried (FirstRefuses (form_checks clock form)) Refused ∷ []) (IsTickOf clock form) result
    → JudgesUnless word.NoMemory (carried (FirstRefuses (word_checks clock bytes)) Refused ∷ []) (IsClockWord clock bytes) result
of_form clock bytes form result e h =
    subst (λ (f : ClockForm). JudgesUnless word.NoMemory (carried (FirstRefuses (form_checks clock f)) Refused ∷ []) (IsTickOf clock f) result) (sym e) h
