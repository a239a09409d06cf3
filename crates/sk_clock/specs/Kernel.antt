-- The clock that the variables of a kernel give, and what is refused of them.
use Rattle.std.specs.Prelude.{◌≡◌, ◌⊎◌, ℕ, ◌^◌, ◌≤◌, List, [], ◌∷◌, ◌++◌, length, All, map, Some, None, codes, decimal}
use Rattle.std.specs.Int.{IsInRange}
use Rattle.sk_checks.specs.Checks.{Check, ◌⇒◌}
use Rattle.sk_grammar.specs.Variables.{VariableView, values_at, whole}
use Rattle.sk_clock.specs.declared.partition.Partition.{Partition}
use Rattle.sk_clock.specs.declared.fault.ClockName.{ClockName}
use Rattle.sk_clock.specs.declared.fault.ClockName.TheVariants.{DataType, Fields, Moduli, Offsets, Delim, Start, End}
use Rattle.sk_clock.specs.declared.fault.ClockKernelFault.{ClockKernelFault}
use Rattle.sk_clock.specs.declared.fault.ClockKernelFault.TheVariants.{Missing, NotType1, Barycentric, BadTimeSystem, BadFields, BadModuli, BadOffsets, BadDelim, BadPartitions}
use Rattle.sk_clock.specs.Clock.{ClockView, AreModuli, ArePartitions}

-- the variable's name, for the spacecraft of this number
abbrev pub name_of : ClockName → ℕ → List ℕ
name_of DataType sc = codes "SCLK_DATA_TYPE_" ++ decimal sc
name_of Fields sc = codes "SCLK01_N_FIELDS_" ++ decimal sc
name_of Moduli sc = codes "SCLK01_MODULI_" ++ decimal sc
name_of Offsets sc = codes "SCLK01_OFFSETS_" ++ decimal sc
name_of Delim sc = codes "SCLK01_OUTPUT_DELIM_" ++ decimal sc
name_of Start sc = codes "SCLK_PARTITION_START_" ++ decimal sc
name_of End sc = codes "SCLK_PARTITION_END_" ++ decimal sc

abbrev pub time_system : ℕ → List ℕ
time_system sc = codes "SCLK01_TIME_SYSTEM_" ++ decimal sc

-- the variable is these whole numbers
abbrev pub AreWhole : List VariableView → List ℕ → List ℕ → Type 0
AreWhole pool name ns = values_at name pool ≡ Some (map whole ns)

-- the variable is this one whole number
abbrev pub IsWhole : List VariableView → List ℕ → ℕ → Type 0
IsWhole pool name n = AreWhole pool name (n ∷ [])

-- it is one whole number from low to high
abbrev pub IsOneFrom : List VariableView → List ℕ → ℕ → ℕ → Type 0
IsOneFrom pool name low high = (n : ℕ) × IsWhole pool name n × IsInRange low high n

-- the pool has as many moduli as fields
pub record HasModuli (pool : List VariableView) (sc : ℕ) (moduli : List ℕ) : Type 0 where
  pub as_many : IsWhole pool (name_of Fields sc) (length moduli)
  pub are_whole : AreWhole pool (name_of Moduli sc) moduli
  pub are_moduli : AreModuli moduli

pub record HasOffsets (pool : List VariableView) (sc : ℕ) (offsets : List ℕ) : Type 0 where
  pub as_many : IsWhole pool (name_of Fields sc) (length offsets)
  pub are_whole : AreWhole pool (name_of Offsets sc) offsets
  pub small : All (λ offset. offset ≤ 2 ^ 32) offsets

pub record HasPartitions (pool : List VariableView) (sc : ℕ) (partitions : List Partition) : Type 0 where
  pub starts : AreWhole pool (name_of Start sc) (map (λ p. p.start) partitions)
  pub ends : AreWhole pool (name_of End sc) (map (λ p. p.end) partitions)
  pub are_partitions : ArePartitions partitions

-- the first name of these that the pool has not
abbrev pub missing_checks : List VariableView → ℕ → List ClockName → List (Check ClockKernelFault)
missing_checks pool sc [] = []
missing_checks pool sc (name ∷ names) = (values_at (name_of name sc) pool ≡ None) ⇒ Missing name ∷ missing_checks pool sc names

abbrev pub clock_checks : List VariableView → ℕ → List (Check ClockKernelFault)
clock_checks pool sc =
    missing_checks pool sc (DataType ∷ Fields ∷ Moduli ∷ Offsets ∷ Delim ∷ Start ∷ End ∷ [])
    ++ (¬ IsWhole pool (name_of DataType sc) 1) ⇒ NotType1
    ∷ ((values_at (time_system sc) pool ≡ None) ⊎ IsWhole pool (time_system sc) 1) ⇒ Barycentric
    ∷ (¬ IsWhole pool (time_system sc) 2) ⇒ BadTimeSystem
    ∷ (¬ IsOneFrom pool (name_of Fields sc) 1 10) ⇒ BadFields
    ∷ ((moduli : List ℕ) → ¬ HasModuli pool sc moduli) ⇒ BadModuli
    ∷ ((offsets : List ℕ) → ¬ HasOffsets pool sc offsets) ⇒ BadOffsets
    ∷ (¬ IsOneFrom pool (name_of Delim sc) 1 5) ⇒ BadDelim
    ∷ ((partitions : List Partition) → ¬ HasPartitions pool sc partitions) ⇒ BadPartitions
    ∷ []

-- the clock has the numbers of the kernel
pub record IsClockOf (pool : List VariableView) (sc : ℕ) (clock : ClockView) : Type 0 where
  pub moduli : HasModuli pool sc clock.moduli
  pub offsets : HasOffsets pool sc clock.offsets
  pub delimiter : IsWhole pool (name_of Delim sc) clock.delimiter
  pub partitions : HasPartitions pool sc clock.partitions
