-- Words are read in one way.
use Rattle.std.proofs.Common.{◌≡◌, ◌≤◌, ℕ, ℤ, List, Option, Result, Ok, refl, sym, ap, ◌∙◌, subst, arith, ◌^◌}
use Rattle.sk_checks.specs.Checks.{FirstRefuses}
use Rattle.sk_decimal.specs.Fixed.{IsFloor, units_of}
use Rattle.sk_decimal.proofs.Exact.{one_decimal}
use Rattle.sk_cuc.specs.Code.{CucView, SpellsCuc, IsCucTime, count, fraction}
use Rattle.sk_cds.specs.Code.{CdsView, SpellsCds}
use Rattle.sk_clock.specs.Clock.{ClockView, Encodes, total}
use Rattle.sk_leap.specs.declared.pair.LeapPair.{LeapPair}
use Rattle.sk_leap.specs.declared.utc.Utc.{Utc}
use Rattle.sk_leap.specs.declared.utc.UtcFault.{UtcFault}
use Rattle.sk_leap.specs.Leap.{tdt_of, utc_checks}
use Rattle.sk_leap.specs.UtcText.{SpellsUtc}
use Rattle.sk_obs.specs.Words.{ClockForm, TickDigits, CodeBytes, ClockString, IsTickOf, IsClockWord, clock_form, IsCodeWord, IsCucHex, IsCdsHex, IsHexOf, hex_part, TimeWord, TdtNumber, UtcCode, CucHex, CdsHex, OtherWord, SaysTime, IsUtcOf}
use Rattle.std.specs.Prelude.{pos, ◌+ℤ◌, ◌*ℤ◌, ◌≤ℤ◌, ◌<ℤ◌}
use Rattle.std.proofs.lemmas.Int.{ints, by_lt_z}
use Rattle.std.proofs.lemmas.Option.{same_Some}
use Rattle.sk_decimal.proofs.Signed.{mul-le_right, ≤ℤ-antisym}
use Rattle.sk_cuc.proofs.CodeLemmas as cuc
use Rattle.sk_cds.proofs.CodeLemmas as cds
use Rattle.sk_leap.specs.Meaning.{IsDayOf}
use Rattle.sk_leap.specs.Meaning as meaning
use Rattle.sk_leap.specs.declared.parts.DateParts.{DateParts}
use Rattle.sk_leap.specs.declared.parts.DateParts.TheVariants.{Calendar, Ordinal}
use Rattle.sk_leap.specs.declared.parts.UtcParts.{UtcParts}
use Rattle.sk_leap.proofs.Texts.{spelled_is_read}
use Rattle.sk_obs.proofs.Slashes.{IsNamed-one}
use Rattle.sk_obs.proofs.Ticks.{StandsFor-one, StandsFor-within, Encodes-one, Encodes-within}

-- ---- UTC and codes

-- the numbers of two UTCs are the same
pub record SameUtc (u v : Utc) : Type 0 where
  pub day : u.day ≡ v.day
  pub sod : u.sod ≡ v.sod
  pub sub : u.sub ≡ v.sub

one_less : (a b c : ℤ) → a +ℤ pos 1 ≡ c → b +ℤ pos 1 ≡ c → a ≡ b
one_less a b c h k = omega (arith, ints)

day_one : (date : DateParts) (a b : ℤ) → IsDayOf date a → IsDayOf date b → a ≡ b
day_one (Calendar year month date) a b h k = h.2 ∙ sym k.2
day_one (Ordinal year place) a b h k = one_less a b _ h.2 k.2

pub SpellsUtc-one : (text : List ℕ) (u v : Utc) → SpellsUtc text u → SpellsUtc text v → SameUtc u v
SpellsUtc-one text u v h k =
    let a = spelled_is_read text u h in
    let b = spelled_is_read text v k in
    let parts : a.parts ≡ b.parts = same_Some a.parts b.parts (sym a.read ∙ b.read) in
    let is = subst (λ (p : UtcParts). meaning.IsUtcOf p u) parts a.is_utc in
    record {
      day = day_one b.parts.date u.day v.day is.day b.is_utc.day;
      sod = is.second.is_sod ∙ sym b.is_utc.second.is_sod;
      sub = is.sub ∙ sym b.is_utc.sub;
    }

IsFloor-below : (a p q : ℤ) (d : ℕ) → p <ℤ q → IsFloor a (pos d) p → IsFloor a (pos d) q → ⊥
IsFloor-below a p q d less h k =
    let next : (p +ℤ pos 1) ≤ℤ q = omega (arith, ints, less) in
    let product : ((p +ℤ pos 1) *ℤ pos d) ≤ℤ (q *ℤ pos d) = mul-le_right (p +ℤ pos 1) q d next in
    apart a ((p +ℤ pos 1) *ℤ pos d) (q *ℤ pos d) h.1 product k.0
  where
    apart : (n a b : ℤ) → n <ℤ a → a ≤ℤ b → b ≤ℤ n → ⊥
    apart n a b p q r = omega (arith, ints)

IsFloor-one : (a : ℤ) (d : ℕ) (p q : ℤ) → IsFloor a (pos d) p → IsFloor a (pos d) q → p ≡ q
IsFloor-one a d p q h k =
    by_lt_z p q (λ less. absurd (IsFloor-below a p q d less h k)) (λ le. by_lt_z q p (λ less. absurd (IsFloor-below a q p d less k h)) (λ other. ≤ℤ-antisym p q other le))

-- ---- hex texts

pub IsHexOf-one : (text a b : List ℕ) → IsHexOf text a → IsHexOf text b → a ≡ b
IsHexOf-one text a b h k = let both : ◌≡◌ {A = Result (List ℕ) _} (Ok a) (Ok b) = sym h ∙ k in cc

pub IsCucHex-one : (text : List ℕ) (a b : CucView) → IsCucHex text a → IsCucHex text b → a ≡ b
IsCucHex-one text a b h k =
    cuc.one_code h.0 a b h.2 (subst (λ (octets : List ℕ). SpellsCuc octets b) (IsHexOf-one text k.0 h.0 k.1 h.1) k.2)

pub IsCdsHex-one : (text : List ℕ) (a b : CdsView) → IsCdsHex text a → IsCdsHex text b → a ≡ b
IsCdsHex-one text a b h k =
    cds.one_code h.0 a b h.2 (subst (λ (octets : List ℕ). SpellsCds octets b) (IsHexOf-one text k.0 h.0 k.1 h.1) k.2)

-- ---- clock words

pub IsCodeWord-named : (bytes : List ℕ) (a b : Option ℕ) (c d : CucView) → IsCodeWord bytes a c → IsCodeWord bytes b d → a ≡ b
IsCodeWord-named bytes a b c d h k = IsNamed-one bytes a b h.is_named k.is_named

pub IsCodeWord-code : (bytes : List ℕ) (a b : Option ℕ) (c d : CucView) → IsCodeWord bytes a c → IsCodeWord bytes b d → c ≡ d
IsCodeWord-code bytes a b c d h k = IsCucHex-one (hex_part bytes) c d (h.octets, h.is_hex, h.spelled) (k.octets, k.is_hex, k.spelled)

IsTickOf-one : (clock : ClockView) (form : ClockForm) (a b : ℕ) → IsTickOf clock form a → IsTickOf clock form b → a ≡ b
IsTickOf-one clock (TickDigits digits) a b h k = h.0.2 ∙ sym k.0.2
IsTickOf-one clock (CodeBytes bytes) a b h k =
    let named = IsCodeWord-named bytes k.0 h.0 k.1 h.1 k.2 h.2 in
    let code = IsCodeWord-code bytes k.0 h.0 k.1 h.1 k.2 h.2 in
    let same = subst (λ (c : CucView). Encodes clock h.0 (count c) b) code (subst (λ (n : Option ℕ). Encodes clock n (count k.1) b) named k.3) in
    Encodes-one clock h.0 (count h.1) a b h.3 same
IsTickOf-one clock (ClockString text) a b h k = StandsFor-one clock text a b h k

-- a word stands for one tick
pub IsClockWord-one : (clock : ClockView) (word : List ℕ) (a b : ℕ) → IsClockWord clock word a → IsClockWord clock word b → a ≡ b
IsClockWord-one clock word a b h k = IsTickOf-one clock (clock_form word) a b h k

-- ---- time words

pub tdt_of-same : (pairs : List LeapPair) (u v : Utc) → SameUtc u v → tdt_of pairs u ≡ tdt_of pairs v
tdt_of-same pairs u v same = rw (same.day, same.sod, same.sub) refl

pub utc_checks-same : (pairs : List LeapPair) (u v : Utc) (fault : UtcFault) → SameUtc u v → FirstRefuses (utc_checks pairs u) fault → FirstRefuses (utc_checks pairs v) fault
utc_checks-same pairs u v fault same h = rw (same.day, same.sod) at h

pub IsUtcOf-same : (code : CdsView) (u v : Utc) → IsUtcOf code u → IsUtcOf code v → SameUtc u v
IsUtcOf-same code u v h k = record { day = h.day ∙ sym k.day; sod = h.sod ∙ sym k.sod; sub = h.sub ∙ sym k.sub }

-- the two UTCs of one CDS text
pub cds_utc : (text : List ℕ) (c d : CdsView) (u v : Utc) → IsCdsHex text c → IsCdsHex text d → IsUtcOf c u → IsUtcOf d v → SameUtc u v
cds_utc text c d u v h k a b = IsUtcOf-same d u v (subst (λ (e : CdsView). IsUtcOf e u) (IsCdsHex-one text c d h k) a) b

cuc_time : (code : CucView) (a b : ℤ) → IsCucTime code a → IsCucTime code b → a ≡ b
cuc_time code a b h k = IsFloor-one _ (256 ^ fraction code) a b h k

-- a word says one time
pub SaysTime-one : (pairs : List LeapPair) (word : TimeWord) (a b : ℤ) → SaysTime pairs word a → SaysTime pairs word b → a ≡ b
SaysTime-one pairs (TdtNumber bytes) a b h k =
    h.2.1 ∙ (ap (units_of 12) (one_decimal bytes h.0 k.0 h.1.0 k.1.0) ∙ sym k.2.1)
SaysTime-one pairs (UtcCode text) a b h k =
    h.2 ∙ (tdt_of-same pairs h.0 k.0 (SpellsUtc-one text h.0 k.0 h.1 k.1) ∙ sym k.2)
SaysTime-one pairs (CucHex text) a b h k =
    let code = IsCucHex-one text k.0 h.0 k.1 h.1 in
    cuc_time h.0 a b h.3 (subst (λ (c : CucView). IsCucTime c b) code k.3)
SaysTime-one pairs (CdsHex text) a b h k =
    h.4 ∙ (tdt_of-same pairs h.1 k.1 (cds_utc text h.0 k.0 h.1 k.1 h.2 k.2 h.3 k.3) ∙ sym k.4)
SaysTime-one pairs OtherWord a b h k = absurd h

IsTickOf-within : (clock : ClockView) (form : ClockForm) (tick : ℕ) → IsTickOf clock form tick → tick ≤ total clock
IsTickOf-within clock (TickDigits digits) tick h = h.1
IsTickOf-within clock (CodeBytes bytes) tick h = Encodes-within clock h.0 (count h.1) tick h.3
IsTickOf-within clock (ClockString text) tick h = StandsFor-within clock text tick h

pub IsClockWord-within : (clock : ClockView) (word : List ℕ) (tick : ℕ) → IsClockWord clock word tick → tick ≤ total clock
IsClockWord-within clock word tick h = IsTickOf-within clock (clock_form word) tick h
