-- The clock word and the time word of an observation.
use Rattle.std.specs.Prelude.{◌≡◌, ℕ, ◌+◌, ◌*◌, ◌/◌, ◌%◌, ◌^◌, ◌<◌, ◌≤◌, ℤ, pos, ◌-ℤ◌, Bool, List, [], ◌∷◌, drop, Option, Some, None, Ok, codes, nat_eq, ◌==◌, if◌then◌else◌, MatchOption}
use Rattle.std.specs.List.{starts_with, list_any, before_first, after_first}
use Rattle.hex.specs.Hex.{decode_of}
use Rattle.sk_decimal.specs.Number.{DecimalView, SpellsDecimal}
use Rattle.sk_decimal.specs.Fixed.{FitsWide, HasUnits}
use Rattle.sk_checks.specs.Checks.{Check, ◌⇒◌, carried, FirstRefuses}
use Rattle.sk_cuc.specs.Code.{CucView, SpellsCuc, cuc_checks, count, HasTaiEpoch, HasAgencyEpoch, IsCucTime}
use Rattle.sk_cds.specs.Code.{CdsView, SpellsCds, cds_checks, picoseconds_of}
use Rattle.sk_clock.specs.Clock.{ClockView, total, Encodes}
use Rattle.sk_clock.specs.ClockText.{SpellsDigits, StandsFor, text_checks, code_checks}
use Rattle.sk_clock.specs.declared.fault.ClockFault.TheVariants.{BadText, OutsidePartition}
use Rattle.sk_leap.specs.declared.pair.LeapPair.{LeapPair}
use Rattle.sk_leap.specs.declared.utc.Utc.{Utc}
use Rattle.sk_leap.specs.Leap.{tdt_of, utc_checks}
use Rattle.sk_leap.specs.UtcText.{SpellsUtc}
use Rattle.sk_obs.specs.declared.fault.ClockWord.{ClockWord}
use Rattle.sk_obs.specs.declared.fault.ClockWord.TheVariants.{Text, Hex, Cuc}
use Rattle.sk_obs.specs.declared.fault.CodeFault.TheVariants as code
use Rattle.sk_obs.specs.declared.hex_text.CodeStop.{CodeStop}
use Rattle.sk_obs.specs.declared.hex_text.CodeStop.TheVariants as stop
use Rattle.sk_obs.specs.declared.fault.ObsFault.{ObsFault}
use Rattle.sk_obs.specs.declared.fault.ObsFault.TheVariants.{TimeForm, CodeRefused, UtcRefused, NoMemory}
use Rattle.sk_obs.specs.declared.fault.ClockWordStop.{ClockWordStop}
use Rattle.sk_obs.specs.declared.fault.ClockWordStop.TheVariants.{Refused}
use Rattle.sk_obs.specs.declared.fault.ClockWordStop.TheVariants as word

-- the word begins with the mark
abbrev pub has_mark : List ℕ → List ℕ → Bool
has_mark word mark = starts_with nat_eq word mark

-- the hex text stands for these bytes
abbrev pub IsHexOf : List ℕ → List ℕ → Type 0
IsHexOf text bytes = decode_of text ≡ Ok bytes

-- what is refused of the hex text of a CUC code
abbrev pub hex_checks : List ℕ → List (Check CodeStop)
hex_checks text =
    ((octets : List ℕ) → ¬ IsHexOf text octets) ⇒ stop.Hex
    ∷ carried (λ fault. (octets : List ℕ) × IsHexOf text octets × FirstRefuses (cuc_checks octets) fault) stop.Code
    ∷ []

-- what a code that could not be read makes of a clock word
abbrev pub word_stop : CodeStop → ClockWordStop
word_stop stop.Hex = Refused Hex
word_stop (stop.Code fault) = Refused (Cuc fault)
word_stop stop.NoMemory = word.NoMemory

-- and of record n
abbrev pub record_stop : ℕ → CodeStop → ObsFault
record_stop n stop.Hex = CodeRefused n code.Hex
record_stop n (stop.Code fault) = CodeRefused n (code.Cuc fault)
record_stop n stop.NoMemory = NoMemory

-- ---- the clock word

-- a tick behind `tick:`, a code behind `cuc:`, or a clock string
pub data ClockForm : Type 0 where
  TickDigits : List ℕ → ClockForm
  CodeBytes : List ℕ → ClockForm
  ClockString : List ℕ → ClockForm

abbrev pub clock_form : List ℕ → ClockForm
clock_form word =
    if has_mark word (codes "tick:") then TickDigits (drop 5 word)
    else if has_mark word (codes "cuc:") then CodeBytes (drop 4 word)
    else ClockString word

abbrev pub is_slash : ℕ → Bool
is_slash byte = byte == 47

-- what stands before the first `/`, where there is one
abbrev pub partition_part : List ℕ → Option (List ℕ)
partition_part bytes = if list_any is_slash bytes then Some (before_first is_slash bytes) else None

-- the hex text: what stands behind the first `/`, or all where there is none
abbrev pub hex_part : List ℕ → List ℕ
hex_part bytes = if list_any is_slash bytes then after_first is_slash bytes else bytes

-- the partition that 1 to 4 digits before the first `/` name, or none where there is no `/`
abbrev pub IsNamed : List ℕ → Option ℕ → Type 0
IsNamed bytes named = MatchOption (partition_part bytes) (named ≡ None) (λ digits. (p : ℕ) × SpellsDigits 4 digits p × (named ≡ Some p))

-- the bytes behind `cuc:` are a partition or none, and this code in hex
pub record IsCodeWord (bytes : List ℕ) (named : Option ℕ) (cuc : CucView) : Type 0 where
  pub octets : List ℕ
  pub is_named : IsNamed bytes named
  pub is_hex : IsHexOf (hex_part bytes) octets
  pub spelled : SpellsCuc octets cuc

-- the word stands for this tick
abbrev pub IsTickOf : ClockView → ClockForm → ℕ → Type 0
IsTickOf clock (TickDigits digits) n = SpellsDigits 16 digits n × (n ≤ total clock)
IsTickOf clock (CodeBytes bytes) n = (named : Option ℕ) × (cuc : CucView) × IsCodeWord bytes named cuc × Encodes clock named (count cuc) n
IsTickOf clock (ClockString text) n = StandsFor clock text n

abbrev pub IsClockWord : ClockView → List ℕ → ℕ → Type 0
IsClockWord clock word n = IsTickOf clock (clock_form word) n

abbrev pub form_checks : ClockView → ClockForm → List (Check ClockWord)
form_checks clock (TickDigits digits) =
    ((n : ℕ) → ¬ SpellsDigits 16 digits n) ⇒ Text BadText
    ∷ ((n : ℕ) × SpellsDigits 16 digits n × (total clock < n)) ⇒ Text OutsidePartition
    ∷ []
form_checks clock (CodeBytes bytes) =
    ((named : Option ℕ) → ¬ IsNamed bytes named) ⇒ Text BadText
    ∷ ((octets : List ℕ) → ¬ IsHexOf (hex_part bytes) octets) ⇒ Hex
    ∷ carried (λ fault. (octets : List ℕ) × IsHexOf (hex_part bytes) octets × FirstRefuses (cuc_checks octets) fault) Cuc
    ∷ carried (λ fault. (named : Option ℕ) × (cuc : CucView) × IsCodeWord bytes named cuc × FirstRefuses (code_checks clock named cuc) fault) Text
    ∷ []
form_checks clock (ClockString text) = carried (FirstRefuses (text_checks clock text)) Text ∷ []

abbrev pub word_checks : ClockView → List ℕ → List (Check ClockWord)
word_checks clock word = form_checks clock (clock_form word)

-- ---- the time word

-- a number behind `tdt:`, an ASCII code behind `utc:`, hex text behind `cuc:` or `cds:`, or none of these
pub data TimeWord : Type 0 where
  TdtNumber : List ℕ → TimeWord
  UtcCode : List ℕ → TimeWord
  CucHex : List ℕ → TimeWord
  CdsHex : List ℕ → TimeWord
  OtherWord : TimeWord

abbrev pub time_word : List ℕ → TimeWord
time_word word =
    if has_mark word (codes "tdt:") then TdtNumber (drop 4 word)
    else if has_mark word (codes "utc:") then UtcCode (drop 4 word)
    else if has_mark word (codes "cuc:") then CucHex (drop 4 word)
    else if has_mark word (codes "cds:") then CdsHex (drop 4 word)
    else OtherWord

-- The UTC of a CDS code. Its days are counted from 1958-01-01, which is 15340 days before 2000-01-01.
pub record IsUtcOf (code : CdsView) (utc : Utc) : Type 0 where
  pub day : utc.day ≡ pos code.day -ℤ pos 15340
  pub sod : utc.sod ≡ code.ms / 1000
  pub sub : utc.sub ≡ code.ms % 1000 * 10 ^ 9 + picoseconds_of code

-- the bytes spell a number with at most twelve decimals
abbrev pub IsShortNumber : List ℕ → DecimalView → Type 0
IsShortNumber bytes number = SpellsDecimal bytes number × (number.scale ≤ 12)

-- hex text of a code, in either family
abbrev pub IsCucHex : List ℕ → CucView → Type 0
IsCucHex text cuc = (octets : List ℕ) × IsHexOf text octets × SpellsCuc octets cuc

abbrev pub IsCdsHex : List ℕ → CdsView → Type 0
IsCdsHex text cds = (octets : List ℕ) × IsHexOf text octets × SpellsCds octets cds

-- the word says this terrestrial dynamical time, in 10 ^ -12 s past J2000
abbrev pub SaysTime : List LeapPair → TimeWord → ℤ → Type 0
SaysTime pairs (TdtNumber bytes) time = (number : DecimalView) × IsShortNumber bytes number × HasUnits 12 number time
SaysTime pairs (UtcCode text) time = (u : Utc) × SpellsUtc text u × (time ≡ tdt_of pairs u)
SaysTime pairs (CucHex text) time = (c : CucView) × IsCucHex text c × HasTaiEpoch c.first × IsCucTime c time
SaysTime pairs (CdsHex text) time = (c : CdsView) × (u : Utc) × IsCdsHex text c × IsUtcOf c u × (time ≡ tdt_of pairs u)
SaysTime pairs OtherWord time = ⊥

-- The count of picoseconds, where an i128 holds it.
abbrev pub IsCounted : ℤ → Option ℤ → Type 0
IsCounted time None = ¬ FitsWide time
IsCounted time (Some units) = time ≡ units

-- the word says a time of this count
abbrev pub IsSent : List LeapPair → TimeWord → Option ℤ → Type 0
IsSent pairs word units = (time : ℤ) × SaysTime pairs word time × IsCounted time units

-- the time word of record n
abbrev pub time_checks : List LeapPair → ℕ → TimeWord → List (Check ObsFault)
time_checks pairs n (TdtNumber bytes) = ((number : DecimalView) → ¬ IsShortNumber bytes number) ⇒ TimeForm n ∷ []
time_checks pairs n (UtcCode text) =
    ((u : Utc) → ¬ SpellsUtc text u) ⇒ TimeForm n
    ∷ carried (λ fault. (u : Utc) × SpellsUtc text u × FirstRefuses (utc_checks pairs u) fault) (UtcRefused n)
    ∷ []
time_checks pairs n (CucHex text) =
    ((octets : List ℕ) → ¬ IsHexOf text octets) ⇒ CodeRefused n code.Hex
    ∷ carried (λ fault. (octets : List ℕ) × IsHexOf text octets × FirstRefuses (cuc_checks octets) fault) (λ fault. CodeRefused n (code.Cuc fault))
    ∷ ((c : CucView) × IsCucHex text c × HasAgencyEpoch c.first) ⇒ CodeRefused n code.CucAgencyEpoch
    ∷ []
time_checks pairs n (CdsHex text) =
    ((octets : List ℕ) → ¬ IsHexOf text octets) ⇒ CodeRefused n code.Hex
    ∷ carried (λ fault. (octets : List ℕ) × IsHexOf text octets × FirstRefuses (cds_checks octets) fault) (λ fault. CodeRefused n (code.Cds fault))
    ∷ carried (λ fault. (c : CdsView) × (u : Utc) × IsCdsHex text c × IsUtcOf c u × FirstRefuses (utc_checks pairs u) fault) (UtcRefused n)
    ∷ []
time_checks pairs n OtherWord = Unit {0} ⇒ TimeForm n ∷ []
