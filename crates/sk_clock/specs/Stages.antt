-- The checks of a clock kernel in three stages: what is missing, its kind, its numbers.
use Rattle.std.specs.Prelude.{◌≡◌, ◌⊎◌, ℕ, List, [], ◌∷◌, None}
use Rattle.sk_checks.specs.Checks.{Check, ◌⇒◌}
use Rattle.sk_grammar.specs.Variables.{VariableView, values_at}
use Rattle.sk_clock.specs.declared.partition.Partition.{Partition}
use Rattle.sk_clock.specs.declared.fault.ClockName.{ClockName}
use Rattle.sk_clock.specs.declared.fault.ClockName.TheVariants.{DataType, Fields, Moduli, Offsets, Delim, Start, End}
use Rattle.sk_clock.specs.declared.fault.ClockKernelFault.{ClockKernelFault}
use Rattle.sk_clock.specs.declared.fault.ClockKernelFault.TheVariants.{NotType1, Barycentric, BadTimeSystem, BadFields, BadModuli, BadOffsets, BadDelim, BadPartitions}
use Rattle.sk_clock.specs.Kernel.{name_of, time_system, IsWhole, IsOneFrom, HasModuli, HasOffsets, HasPartitions}

abbrev pub needed : List ClockName
needed = DataType ∷ Fields ∷ Moduli ∷ Offsets ∷ Delim ∷ Start ∷ End ∷ []

abbrev pub kind_checks : List VariableView → ℕ → List (Check ClockKernelFault)
kind_checks pool sc =
    (¬ IsWhole pool (name_of DataType sc) 1) ⇒ NotType1
    ∷ ((values_at (time_system sc) pool ≡ None) ⊎ IsWhole pool (time_system sc) 1) ⇒ Barycentric
    ∷ (¬ IsWhole pool (time_system sc) 2) ⇒ BadTimeSystem
    ∷ []

abbrev pub number_checks : List VariableView → ℕ → List (Check ClockKernelFault)
number_checks pool sc =
    (¬ IsOneFrom pool (name_of Fields sc) 1 10) ⇒ BadFields
    ∷ ((moduli : List ℕ) → ¬ HasModuli pool sc moduli) ⇒ BadModuli
    ∷ ((offsets : List ℕ) → ¬ HasOffsets pool sc offsets) ⇒ BadOffsets
    ∷ (¬ IsOneFrom pool (name_of Delim sc) 1 5) ⇒ BadDelim
    ∷ ((partitions : List Partition) → ¬ HasPartitions pool sc partitions) ⇒ BadPartitions
    ∷ []
