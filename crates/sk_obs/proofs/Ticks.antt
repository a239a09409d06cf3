-- Counts and clock strings have one tick, and it is one of the clock's.
use Rattle.std.proofs.Common.{◌≡◌, ℕ, zero, suc, ◌+◌, ◌-◌, ◌<◌, ◌≤◌, List, [], ◌∷◌, take, Option, Some, None, sum_by, refl, sym, ◌∙◌, subst, arith}
use Rattle.std.specs.Prelude.{IsSomeAnd, slice_get}
use Rattle.std.specs.Int.{IsInRange}
use Rattle.std.proofs.lemmas.List.Sums.{sum_by-cons}
use Rattle.std.proofs.lemmas.Option.{same_Some}
use Rattle.sk_clock.specs.declared.partition.Partition.{Partition}
use Rattle.sk_clock.specs.Clock.{ClockView, Encodes, IsPartitionFor, IsTick, ticks_in, total, earlier}
use Rattle.sk_clock.specs.ClockText.{Reading, StandsFor, count_of}
use Rattle.sk_clock.proofs.SpelledLemmas.{clock_read}

-- ---- one tick

no_order : (p q : ℕ) → ¬ (p < q) → ¬ (q < p) → p ≡ q
no_order p q a b = omega (arith, a, b)

IsPartitionFor-one : (clock : ClockView) (named : Option ℕ) (n p q : ℕ) → IsPartitionFor clock named n p → IsPartitionFor clock named n q → p ≡ q
IsPartitionFor-one clock (Some name) n p q h k = h.0 ∙ sym k.0
IsPartitionFor-one clock None n p q h k = no_order p q (λ less. k.1 p less h.0) (λ less. h.1 q less k.0)

same_value : (found : Option Partition) (f : Partition → ℕ) (a b : ℕ) → IsSomeAnd found (λ partition. a ≡ f partition) → IsSomeAnd found (λ partition. b ≡ f partition) → a ≡ b
same_value None f a b h k = absurd h
same_value (Some partition) f a b h k = h ∙ sym k

pub Encodes-one : (clock : ClockView) (named : Option ℕ) (n a b : ℕ) → Encodes clock named n a → Encodes clock named n b → a ≡ b
Encodes-one clock named n a b h k =
    let same : k.0 ≡ h.0 = IsPartitionFor-one clock named n k.0 h.0 k.1 h.1 in
    let other = subst (λ (p : ℕ). IsTick clock p n b) same k.2 in
    same_value (slice_get clock.partitions (h.0 - 1)) (λ partition. n - partition.start + earlier clock h.0) a b h.2.1 other.1

pub StandsFor-one : (clock : ClockView) (text : List ℕ) (a b : ℕ) → StandsFor clock text a → StandsFor clock text b → a ≡ b
StandsFor-one clock text a b h k =
    let same : k.0 ≡ h.0 = same_Some k.0 h.0 (sym (clock_read text k.0 k.1) ∙ clock_read text h.0 h.1) in
    let other = subst (λ (r : Reading). Encodes clock r.partition (count_of clock r) b) same k.2 in
    Encodes-one clock h.0.partition (count_of clock h.0) a b h.2 other

-- ---- at most the total

shifted : (found : Option Partition) (tick a b : ℕ) → IsSomeAnd found (λ partition. tick ≤ ticks_in partition + (a + b)) → IsSomeAnd found (λ partition. tick - a ≤ ticks_in partition + b)
shifted None tick a b h = absurd h
shifted (Some partition) tick a b h = omega (arith, h)

-- what lies within a partition lies within all of them
within_all : (partitions : List Partition) (place tick : ℕ) → IsSomeAnd (slice_get partitions place) (λ partition. tick ≤ ticks_in partition + sum_by ticks_in (take place partitions)) → tick ≤ sum_by ticks_in partitions
within_all [] place tick h = absurd h
within_all (partition ∷ partitions) zero tick h =
    let all : sum_by ticks_in (partition ∷ partitions) ≡ ticks_in partition + sum_by ticks_in partitions = sum_by-cons ticks_in partition partitions in
    let none : sum_by ticks_in (take 0 (partition ∷ partitions)) ≡ 0 = refl in
    omega (arith, h, all, none)
within_all (partition ∷ partitions) (suc place) tick h =
    let front = subst (λ (n : ℕ). IsSomeAnd (slice_get partitions place) (λ other. tick ≤ ticks_in other + n)) (sum_by-cons ticks_in partition (take place partitions)) h in
    let less = shifted (slice_get partitions place) tick (ticks_in partition) (sum_by ticks_in (take place partitions)) front in
    let all : sum_by ticks_in (partition ∷ partitions) ≡ ticks_in partition + sum_by ticks_in partitions = sum_by-cons ticks_in partition partitions in
    omega (arith, within_all partitions place (tick - ticks_in partition) less, all)

in_partition : (found : Option Partition) (n tick before : ℕ) → IsSomeAnd found (λ partition. IsInRange partition.start partition.end n) → IsSomeAnd found (λ partition. tick ≡ n - partition.start + before)
    → IsSomeAnd found (λ partition. tick ≤ ticks_in partition + before)
in_partition None n tick before h k = absurd h
in_partition (Some partition) n tick before h k = omega (arith, h, k)

pub Encodes-within : (clock : ClockView) (named : Option ℕ) (n tick : ℕ) → Encodes clock named n tick → tick ≤ total clock
Encodes-within clock named n tick h =
    within_all clock.partitions (h.0 - 1) tick (in_partition (slice_get clock.partitions (h.0 - 1)) n tick (earlier clock h.0) h.2.0.1 h.2.1)

pub StandsFor-within : (clock : ClockView) (text : List ℕ) (tick : ℕ) → StandsFor clock text tick → tick ≤ total clock
StandsFor-within clock text tick h = Encodes-within clock h.0.partition (count_of clock h.0) tick h.2
