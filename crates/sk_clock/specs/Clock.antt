-- Clock counts, partitions and encoded ticks.
use Rattle.std.specs.Prelude.{◌≡◌, ℕ, ◌+◌, ◌-◌, ◌*◌, ◌/◌, ◌%◌, ◌^◌, ◌<◌, ◌≤◌, List, [], ◌∷◌, ◌++◌, length, take, drop, map, nat_le, All, sum_by, Option, Some, None, IsSomeAnd, slice_get, slice_index, codes, decimal, if◌then◌else◌}
use Rattle.std.specs.Int.{IsInRange}
use Rattle.std.specs.Option.{option_map_or}
use Rattle.std.specs.List.{join_with_byte}
use Rattle.sk_decimal.specs.Number.{padded_decimal}
use Rattle.sk_checks.specs.Checks.{Check, ◌⇒◌}
use Rattle.sk_clock.specs.declared.partition.Partition.{Partition}
use Rattle.sk_clock.specs.declared.fault.TextFault.{TextFault}
use Rattle.sk_clock.specs.declared.fault.TextFault.TheVariants.{PastPartitions}
use Rattle.sk_clock.specs.declared.fault.ClockFault.{ClockFault}
use Rattle.sk_clock.specs.declared.fault.ClockFault.TheVariants.{NoSuchPartition, OutsidePartition}

-- what contracts see of a clock; its fields have these moduli and offsets, the first field first
pub record ClockView : Type 0 where
  pub moduli : List ℕ
  pub offsets : List ℕ
  pub delimiter : ℕ
  pub partitions : List Partition

-- ---- counts

abbrev pub product : List ℕ → ℕ
product [] = 1
product (n ∷ ns) = n * product ns

-- T, the ticks per most significant count: the product of all moduli but the first
abbrev pub ticks_per : ClockView → ℕ
ticks_per clock = product (drop 1 clock.moduli)

-- The count of field values: the sum over the fields of (value - offset) × product of the later moduli. A missing
-- trailing field has its offset as value, and so adds nothing.
abbrev pub count : List ℕ → List ℕ → List ℕ → ℕ
count (modulus ∷ moduli) (offset ∷ offsets) (value ∷ values) = (value - offset) * product moduli + count moduli offsets values
count _ _ _ = 0

-- ---- partitions, numbered from 1

abbrev pub ticks_in : Partition → ℕ
ticks_in partition = partition.end - partition.start

-- the lengths of all partitions
abbrev pub total : ClockView → ℕ
total clock = sum_by ticks_in clock.partitions

-- the lengths of the partitions before partition p
abbrev pub earlier : ClockView → ℕ → ℕ
earlier clock p = sum_by ticks_in (take (p - 1) clock.partitions)

abbrev pub IsPartition : ClockView → ℕ → Type 0
IsPartition clock p = IsInRange 1 (length clock.partitions) p

-- the count stands in partition p, its start and end counted
abbrev pub IsInPartition : ClockView → ℕ → ℕ → Type 0
IsInPartition clock p count =
    IsPartition clock p × IsSomeAnd (slice_get clock.partitions (p - 1)) (λ partition. IsInRange partition.start partition.end count)

-- the encoded tick of a count in partition p: count - start + the lengths of all earlier partitions
abbrev pub IsTick : ClockView → ℕ → ℕ → ℕ → Type 0
IsTick clock p count tick =
    IsInPartition clock p count
    × IsSomeAnd (slice_get clock.partitions (p - 1)) (λ partition. tick ≡ count - partition.start + earlier clock p)

-- the partition of a count: the one that is named, else the first in which it stands
abbrev pub IsPartitionFor : ClockView → Option ℕ → ℕ → ℕ → Type 0
IsPartitionFor clock (Some named) count p = (p ≡ named) × IsInPartition clock p count
IsPartitionFor clock None count p = IsInPartition clock p count × ((q : ℕ) → q < p → ¬ IsInPartition clock q count)

-- the count, in the partition that is named or found, has this encoded tick
abbrev pub Encodes : ClockView → Option ℕ → ℕ → ℕ → Type 0
Encodes clock named count tick = (p : ℕ) × IsPartitionFor clock named count p × IsTick clock p count tick

-- the last partition whose earlier lengths sum to at most the tick, for a tick up to the total
pub record IsPartitionAt (clock : ClockView) (tick p : ℕ) : Type 0 where
  pub up_to_total : tick ≤ total clock
  pub is_partition : IsPartition clock p
  pub begun : earlier clock p ≤ tick
  pub last : (q : ℕ) → p < q → q ≤ length clock.partitions → tick < earlier clock q

-- the lengths of the partitions
abbrev pub lengths : ClockView → List ℕ
lengths clock = map ticks_in clock.partitions

-- The number, from 1, of the last partition whose earlier lengths sum to at most the tick; the lengths before these sum to before.
abbrev pub partition_from : ℕ → List ℕ → ℕ → ℕ
partition_from before [] tick = 0
partition_from before (len ∷ lens) tick = if nat_le before tick then 1 + partition_from (before + len) lens tick else 0

abbrev pub partition_at : ClockView → ℕ → ℕ
partition_at clock tick = partition_from 0 (lengths clock) tick

-- the named partition is none of the clock's
abbrev pub IsNoPartition : ClockView → Option ℕ → Type 0
IsNoPartition clock named = IsSomeAnd named (λ p. ¬ IsPartition clock p)

-- what is refused of a count
abbrev pub count_checks : ClockView → Option ℕ → ℕ → List (Check ClockFault)
count_checks clock named count =
    IsNoPartition clock named ⇒ NoSuchPartition
    ∷ ((p : ℕ) → ¬ IsPartitionFor clock named count p) ⇒ OutsidePartition
    ∷ []

-- ---- canonical text

-- one value for each field, from its offset on, and each but the first within its modulus
abbrev pub AreLaterDigits : List ℕ → List ℕ → List ℕ → Type 0
AreLaterDigits (modulus ∷ moduli) (offset ∷ offsets) (value ∷ values) = (offset ≤ value) × (value < offset + modulus) × AreLaterDigits moduli offsets values
AreLaterDigits [] [] [] = Unit {0}
AreLaterDigits _ _ _ = ⊥

abbrev pub AreDigitsOf : List ℕ → List ℕ → List ℕ → Type 0
AreDigitsOf (modulus ∷ moduli) (offset ∷ offsets) (value ∷ values) = (offset ≤ value) × AreLaterDigits moduli offsets values
AreDigitsOf _ _ _ = ⊥

-- each value, with zeros in front up to as many digits as modulus + offset - 1 has
abbrev pub padded_fields : List ℕ → List ℕ → List ℕ → List (List ℕ)
padded_fields (modulus ∷ moduli) (offset ∷ offsets) (value ∷ values) =
    padded_decimal (length (decimal (modulus + offset - 1))) value ∷ padded_fields moduli offsets values
padded_fields _ _ _ = []

-- `.`, `:`, `-`, `,` and blank are the delimiters 1 to 5
abbrev pub delimiter_byte : ClockView → ℕ
delimiter_byte clock = slice_index (codes ".:-, ") (clock.delimiter - 1)

-- the field values of a count: each field counts the product of the later moduli
abbrev pub field_values : List ℕ → List ℕ → ℕ → List ℕ
field_values (modulus ∷ moduli) (offset ∷ offsets) n = (offset + n / product moduli) ∷ field_values moduli offsets (n % product moduli)
field_values _ _ _ = []

-- the count of a tick in partition p
abbrev pub count_in : ClockView → ℕ → ℕ → ℕ
count_in clock p tick = tick - earlier clock p + option_map_or (λ partition. partition.start) (slice_get clock.partitions (p - 1)) 0

-- partition p, `/` and the fields of the count
abbrev pub text_in : ClockView → ℕ → ℕ → List ℕ
text_in clock p n = decimal p ++ codes "/"
    ++ join_with_byte (delimiter_byte clock) (padded_fields clock.moduli clock.offsets (field_values clock.moduli clock.offsets n))

-- The canonical text of a tick: the partition at it, `/`, and the fields of its count there.
abbrev pub clock_text : ClockView → ℕ → List ℕ
clock_text clock tick = text_in clock (partition_at clock tick) (count_in clock (partition_at clock tick) tick)

-- The same without division: the partition at it, `/`, and the one list of field values that has the right
-- count in that partition.
pub record IsCanonicalText (clock : ClockView) (tick : ℕ) (text : List ℕ) : Type 0 where
  pub partition : ℕ
  pub values : List ℕ
  pub is_at : IsPartitionAt clock tick partition
  pub has_tick : IsTick clock partition (count clock.moduli clock.offsets values) tick
  pub are_digits : AreDigitsOf clock.moduli clock.offsets values
  pub spelled : text ≡ decimal partition ++ codes "/" ++ join_with_byte (delimiter_byte clock) (padded_fields clock.moduli clock.offsets values)

-- what is refused of a tick that is to be a text
abbrev pub tick_checks : ClockView → ℕ → List (Check TextFault)
tick_checks clock tick = (total clock < tick) ⇒ PastPartitions ∷ []

-- ---- what a clock keeps

abbrev pub AreModuli : List ℕ → Type 0
AreModuli moduli = IsInRange 1 10 (length moduli) × All (IsInRange 1 (2 ^ 53 - 1)) moduli × (product (drop 1 moduli) ≤ 2 ^ 32)

pub record ArePartitions (partitions : List Partition) : Type 0 where
  pub some : IsInRange 1 9999 (length partitions)
  pub each : All (λ p. (p.start ≤ p.end) × (p.end < 2 ^ 53)) partitions
  pub together : sum_by ticks_in partitions < 2 ^ 53

pub record IsClock (clock : ClockView) : Type 0 where
  pub moduli : AreModuli clock.moduli
  pub as_many : length clock.offsets ≡ length clock.moduli
  pub offsets : All (λ offset. offset ≤ 2 ^ 32) clock.offsets
  pub delimiter : IsInRange 1 5 clock.delimiter
  pub partitions : ArePartitions clock.partitions
