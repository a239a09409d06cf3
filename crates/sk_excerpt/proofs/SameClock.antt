-- Variables that hold the same under the names of a clock give the same clock.
use Rattle.std.proofs.Common.{◌≡◌, ℕ, List, Ok, sym, ◌∙◌, inl, inr}
use Rattle.sk_checks.specs.Checks.{Judges}
use Rattle.sk_grammar.specs.Variables.{VariableView, values_at}
use Rattle.sk_clock.specs.declared.fault.ClockName.{ClockName}
use Rattle.sk_clock.specs.declared.fault.ClockName.TheVariants.{DataType, Fields, Moduli, Offsets, Delim, Start, End}
use Rattle.sk_clock.specs.declared.partition.Partition.{Partition}
use Rattle.sk_clock.specs.Clock.{ClockView}
use Rattle.sk_clock.specs.Kernel.{name_of, time_system, HasModuli, HasOffsets, HasPartitions, clock_checks, IsClockOf}

module _ (sc : ℕ) (old new : List VariableView) (same : (name : ClockName) → values_at (name_of name sc) new ≡ values_at (name_of name sc) old)
    (system : values_at (time_system sc) new ≡ values_at (time_system sc) old) where
  moduli_stand : (moduli : List ℕ) → HasModuli old sc moduli → HasModuli new sc moduli
  moduli_stand moduli h = record { as_many = same Fields ∙ h.as_many; are_whole = same Moduli ∙ h.are_whole; are_moduli = h.are_moduli }

  offsets_stand : (offsets : List ℕ) → HasOffsets old sc offsets → HasOffsets new sc offsets
  offsets_stand offsets h = record { as_many = same Fields ∙ h.as_many; are_whole = same Offsets ∙ h.are_whole; small = h.small }

  partitions_stand : (partitions : List Partition) → HasPartitions old sc partitions → HasPartitions new sc partitions
  partitions_stand partitions h = record { starts = same Start ∙ h.starts; ends = same End ∙ h.ends; are_partitions = h.are_partitions }

  pub clock_stands : (clock : ClockView) → Judges (clock_checks old sc) (IsClockOf old sc) (Ok clock) → Judges (clock_checks new sc) (IsClockOf new sc) (Ok clock)
  clock_stands clock h = (
    (λ none. h.0.0 (sym (same DataType) ∙ none), (λ none. h.0.1.0 (sym (same Fields) ∙ none), (λ none. h.0.1.1.0 (sym (same Moduli) ∙ none), (λ none. h.0.1.1.1.0 (sym (same Offsets) ∙ none), (λ none. h.0.1.1.1.1.0 (sym (same Delim) ∙ none), (λ none. h.0.1.1.1.1.1.0 (sym (same Start) ∙ none), (λ none. h.0.1.1.1.1.1.1.0 (sym (same End) ∙ none), (λ no. h.0.1.1.1.1.1.1.1.0 (λ whole. no (same DataType ∙ whole)), (λ bad. h.0.1.1.1.1.1.1.1.1.0 (elim bad [ inl none ↦ inl (sym system ∙ none) | inr one ↦ inr (sym system ∙ one) ]), (λ no. h.0.1.1.1.1.1.1.1.1.1.0 (λ whole. no (system ∙ whole)), (λ no. h.0.1.1.1.1.1.1.1.1.1.1.0 (λ one. no (one.0, same Fields ∙ one.1, one.2)), (λ no. h.0.1.1.1.1.1.1.1.1.1.1.1.0 (λ moduli has. no moduli (moduli_stand moduli has)), (λ no. h.0.1.1.1.1.1.1.1.1.1.1.1.1.0 (λ offsets has. no offsets (offsets_stand offsets has)), (λ no. h.0.1.1.1.1.1.1.1.1.1.1.1.1.1.0 (λ one. no (one.0, same Delim ∙ one.1, one.2)), (λ no. h.0.1.1.1.1.1.1.1.1.1.1.1.1.1.1.0 (λ partitions has. no partitions (partitions_stand partitions has)), tt))))))))))))))),
    record {
      moduli = moduli_stand clock.moduli h.1.moduli;
      offsets = offsets_stand clock.offsets h.1.offsets;
      delimiter = same Delim ∙ h.1.delimiter;
      partitions = partitions_stand clock.partitions h.1.partitions;
    },
  )
