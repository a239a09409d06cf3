-- How a clock is kept: each field with the ticks that one of it counts, and the lengths before each partition.
use Rattle.std.specs.Prelude.{◌≡◌, ℕ, ◌+◌, ◌-◌, ◌/◌, ◌%◌, List, [], ◌∷◌, ◌++◌, length, map, sum_by, decimal}
use Rattle.sk_decimal.specs.Number.{padded_decimal}
use Rattle.sk_clock.specs.declared.field.Field.{Field}
use Rattle.sk_clock.specs.declared.partition.Partition.{Partition}
use Rattle.sk_clock.specs.Clock.{ClockView, IsClock, product, ticks_in}

abbrev pub moduli_of : List Field → List ℕ
moduli_of fields = map (λ field. field.modulus) fields

abbrev pub offsets_of : List Field → List ℕ
offsets_of fields = map (λ field. field.offset) fields

-- the unit of each field is the product of the later moduli
abbrev pub AreUnits : List Field → Type 0
AreUnits [] = Unit {0}
AreUnits (field ∷ fields) = (field.unit ≡ product (moduli_of fields)) × AreUnits fields

-- the lengths before each partition, where those before the first sum to before
abbrev pub lengths_before : ℕ → List Partition → List ℕ
lengths_before before [] = []
lengths_before before (partition ∷ partitions) = before ∷ lengths_before (before + ticks_in partition) partitions

abbrev pub view_of : List Field → ℕ → List Partition → ClockView
view_of fields delimiter partitions = record { moduli = moduli_of fields; offsets = offsets_of fields; delimiter = delimiter; partitions = partitions }

pub record IsKept (fields : List Field) (delimiter : ℕ) (partitions : List Partition) (earlier : List ℕ) (total : ℕ) : Type 0 where
  pub clock : IsClock (view_of fields delimiter partitions)
  pub units : AreUnits fields
  pub earlier_lengths : earlier ≡ lengths_before 0 partitions
  pub all_lengths : total ≡ sum_by ticks_in partitions

-- ---- the text of a count

-- what the field shows of a count of its units and less
abbrev pub field_text : Field → ℕ → List ℕ
field_text field n = padded_decimal (length (decimal (field.modulus + field.offset - 1))) (field.offset + n / field.unit)

-- the texts of later fields, each behind the delimiter
abbrev pub later_text : ℕ → List Field → ℕ → List ℕ
later_text delimiter [] n = []
later_text delimiter (field ∷ fields) n = delimiter ∷ field_text field n ++ later_text delimiter fields (n % field.unit)

-- the texts of all fields, with the delimiter between two
abbrev pub all_text : ℕ → List Field → ℕ → List ℕ
all_text delimiter [] n = []
all_text delimiter (field ∷ fields) n = field_text field n ++ later_text delimiter fields (n % field.unit)
