-- Partitions in which a count stands, by their places.
use Rattle.std.specs.Prelude.{ℕ, ◌+◌, ◌-◌, ◌*◌, ◌<◌, List, ◌∷◌, slice_index_or}
use Rattle.std.specs.Int.{IsInRange}
use Rattle.sk_clock.specs.declared.field.Field.{Field}
use Rattle.sk_clock.specs.declared.partition.Partition.{Partition}

abbrev pub HoldsAt : List Partition → ℕ → ℕ → Type 0
HoldsAt partitions count i =
    let partition = slice_index_or partitions i (record { start = 0; end = 0 }) in
    IsInRange partition.start partition.end count

-- it stands in none of the first n
abbrev pub HoldsNone : List Partition → ℕ → ℕ → Type 0
HoldsNone partitions count n = (k : ℕ) → k < n → ¬ HoldsAt partitions count k

-- the count of field values, by the units
abbrev pub counted : List Field → List ℕ → ℕ
counted (field ∷ fields) (value ∷ values) = (value - field.offset) * field.unit + counted fields values
counted _ _ = 0
