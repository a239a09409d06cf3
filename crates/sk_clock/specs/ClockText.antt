-- How a clock string is spelled, and which tick it stands for.
use Rattle.std.specs.Prelude.{◌≡◌, ◌≢◌, ◌⊎◌, ℕ, ◌^◌, ◌<◌, ◌≤◌, List, [], ◌∷◌, ◌++◌, length, All, Option, Some, None, Contains, codes, ◌==◌, if◌then◌else◌, IsTrue}
use Rattle.std.specs.List.{list_all}
use Rattle.std.specs.Str.Parse.{digits_value}
use Rattle.sk_decimal.specs.Number.{AreDigits}
use Rattle.sk_checks.specs.Checks.{Check, ◌⇒◌}
use Rattle.sk_cuc.specs.Code.{CucView}
use Rattle.sk_cuc.specs.Code as cuc
use Rattle.sk_clock.specs.declared.fault.ClockFault.{ClockFault}
use Rattle.sk_clock.specs.declared.fault.ClockFault.TheVariants.{BadText, TooManyFields, BelowOffset, NoSuchPartition, OutsidePartition, WrongShape}
use Rattle.sk_clock.specs.Clock.{ClockView, count, ticks_per, IsNoPartition, IsPartitionFor, Encodes, count_checks}

-- what a clock string says: the partition where it names one, and the values of its fields
pub record Reading : Type 0 where
  pub partition : Option ℕ
  pub values : List ℕ

abbrev pub AreBlanks : List ℕ → Type 0
AreBlanks bytes = IsTrue (list_all (λ byte. byte == 32) bytes)

-- 1 to so many digits, and their number
abbrev pub SpellsDigits : ℕ → List ℕ → ℕ → Type 0
SpellsDigits most bytes n = AreDigits bytes × (length bytes ≤ most) × (n ≡ digits_value 10 bytes)

-- nothing, or 1 to 4 digits, blanks, `/` and blanks
abbrev pub SpellsPartition : List ℕ → Option ℕ → Type 0
SpellsPartition bytes None = bytes ≡ []
SpellsPartition bytes (Some p) =
    (digits : List ℕ) × (before : List ℕ) × (after : List ℕ)
    × (bytes ≡ digits ++ before ++ codes "/" ++ after)
    × SpellsDigits 4 digits p × AreBlanks before × AreBlanks after

-- between two fields: one of `.`, `:`, `-` and `,` with blanks on either side, or one or more blanks
abbrev pub IsFieldSeparator : List ℕ → Type 0
IsFieldSeparator bytes =
    ((0 < length bytes) × AreBlanks bytes)
    ⊎ ((before : List ℕ) × (mark : ℕ) × (after : List ℕ) × (bytes ≡ before ++ mark ∷ after) × Contains (codes ".:-,") mark × AreBlanks before × AreBlanks after)

-- one or more fields of 1 to 16 digits, with a separator between each two
abbrev pub SpellsFields : List ℕ → List ℕ → Type 0
SpellsFields bytes [] = ⊥
SpellsFields bytes (value ∷ []) = SpellsDigits 16 bytes value
SpellsFields bytes (value ∷ next ∷ values) =
    (first : List ℕ) × (separator : List ℕ) × (others : List ℕ)
    × (bytes ≡ first ++ separator ++ others)
    × SpellsDigits 16 first value × IsFieldSeparator separator × SpellsFields others (next ∷ values)

-- a partition part or none, and fields; blanks at both ends are ignored
pub record SpellsClock (text : List ℕ) (reading : Reading) : Type 0 where
  pub before : List ℕ
  pub part : List ℕ
  pub fields : List ℕ
  pub after : List ℕ
  pub joined : text ≡ before ++ part ++ fields ++ after
  pub is_before : AreBlanks before
  pub is_part : SpellsPartition part reading.partition
  pub are_fields : SpellsFields fields reading.values
  pub is_after : AreBlanks after

abbrev pub count_of : ClockView → Reading → ℕ
count_of clock reading = count clock.moduli clock.offsets reading.values

-- the text is a clock string that stands for this tick
abbrev pub StandsFor : ClockView → List ℕ → ℕ → Type 0
StandsFor clock text tick = (reading : Reading) × SpellsClock text reading × Encodes clock reading.partition (count_of clock reading) tick

-- ---- what is refused

-- the text spells a reading with this property
abbrev pub Reads : List ℕ → (Reading → Type 0) → Type 0
Reads text P = (reading : Reading) × SpellsClock text reading × P reading

-- a value is below its field's offset
abbrev pub HasLowValue : List ℕ → List ℕ → Type 0
HasLowValue (offset ∷ offsets) (value ∷ values) = (value < offset) ⊎ HasLowValue offsets values
HasLowValue _ _ = ⊥

abbrev pub text_checks : ClockView → List ℕ → List (Check ClockFault)
text_checks clock text =
    ((reading : Reading) → ¬ SpellsClock text reading) ⇒ BadText
    ∷ Reads text (λ reading. length clock.moduli < length reading.values) ⇒ TooManyFields
    ∷ Reads text (λ reading. HasLowValue clock.offsets reading.values) ⇒ BelowOffset
    ∷ Reads text (λ reading. IsNoPartition clock reading.partition) ⇒ NoSuchPartition
    ∷ Reads text (λ reading. (p : ℕ) → ¬ IsPartitionFor clock reading.partition (count_of clock reading) p) ⇒ OutsidePartition
    ∷ []

-- ---- CUC codes as clock readings

-- an offset is not 0, T is not 256 to the number of fraction octets, or the fields are not one, or two where
-- there are fraction octets
abbrev pub HasWrongShape : ClockView → CucView → Type 0
HasWrongShape clock code =
    (¬ All (λ offset. offset ≡ 0) clock.offsets)
    ⊎ (ticks_per clock ≢ 256 ^ cuc.fraction code)
    ⊎ (length clock.moduli ≢ (if cuc.fraction code == 0 then 1 else 2))

abbrev pub code_checks : ClockView → Option ℕ → CucView → List (Check ClockFault)
code_checks clock named code = HasWrongShape clock code ⇒ WrongShape ∷ count_checks clock named (cuc.count code)
