-- A tick has one canonical text.
use Rattle.std.proofs.Common.{◌≡◌, ℕ, ◌+◌, ◌-◌, ◌<◌, ◌≤◌, List, ◌++◌, length, take, sum_by, get_or, Option, IsSomeAnd, ap, sym, ◌∙◌, subst, codes, decimal, inl, inr, arith}
use Rattle.std.specs.Option.{option_map_or}
use Rattle.std.specs.List.{join_with_byte, slice_get}
use Rattle.std.proofs.lemmas.Bool.{cases_lt}
use Rattle.std.proofs.lemmas.Option.{slice_get-get_or}
use Rattle.std.proofs.lemmas.List.{take_all}
use Rattle.std.proofs.lemmas.List.Sums.{sum_by_more}
use Rattle.sk_clock.specs.declared.partition.Partition.{Partition}
use Rattle.sk_clock.specs.Clock.{ClockView, IsClock, IsCanonicalText, IsPartitionAt, IsTick, count, count_in, clock_text, delimiter_byte, earlier, field_values, padded_fields, partition_at, ticks_in, text_in, total}
use Rattle.sk_clock.specs.Ticks.{HoldsAt}
use Rattle.sk_clock.proofs.TickLemmas.{partition_at_is, partition_at_one, in_partition, holds_in}
use Rattle.sk_clock.proofs.RadixLemmas.{digits_are, digits_have}

abbrev no_partition : Partition
no_partition = record { start = 0; end = 0 }

start_of : (clock : ClockView) (p : ℕ) → ℕ
start_of clock p = option_map_or (λ (partition : Partition). partition.start) (slice_get clock.partitions (p - 1)) 0

-- a partition ends where the next one begins
ends_at : (clock : ClockView) (tick p : ℕ) → IsPartitionAt clock tick p → tick ≤ earlier clock p + ticks_in (get_or clock.partitions (p - 1) no_partition)
ends_at clock tick p at =
    let ps = clock.partitions in
    let low = at.is_partition.0 in
    let high = at.is_partition.1 in
    let up = at.up_to_total in
    let order : p - 1 + 1 ≡ p = omega arith in
    let more = sum_by_more ticks_in ps (p - 1) no_partition (omega arith) in
    let again = ap (λ (k : ℕ). sum_by ticks_in (take k ps)) order in
    elim (cases_lt p (length ps)) [
      | inl inside ↦
          let late = at.last (p + 1) (omega arith) (omega arith) in
          let place : p + 1 - 1 ≡ p = omega arith in
          let same = ap (λ (k : ℕ). sum_by ticks_in (take k ps)) place in
          omega arith
      | inr last ↦
          let all = ap (λ (xs : List Partition). sum_by ticks_in xs) (take_all p ps last) in
          omega arith
    ]

-- the count of a tick stands in its partition, and has the tick
pub count_has : (clock : ClockView) (tick p : ℕ) → IsClock clock → IsPartitionAt clock tick p → IsTick clock p (count_in clock p tick) tick
count_has clock tick p is at =
    let ps = clock.partitions in
    let low = at.is_partition.0 in
    let high = at.is_partition.1 in
    let begun = at.begun in
    let in_list : p - 1 < length ps = omega arith in
    let get = slice_get-get_or ps (p - 1) no_partition in_list in
    let start = ap (λ (o : Option Partition). option_map_or (λ (partition : Partition). partition.start) o 0) get in
    let end = ends_at clock tick p at in
    let each = is.partitions.each (p - 1) no_partition in_list in
    let holds : HoldsAt ps (count_in clock p tick) (p - 1) = (omega arith, omega arith) in
    let same : tick ≡ count_in clock p tick - (get_or ps (p - 1) no_partition).start + earlier clock p = omega arith in (
      in_partition clock p (count_in clock p tick) low high holds,
      subst (λ (o : Option Partition). IsSomeAnd o (λ partition. tick ≡ count_in clock p tick - partition.start + earlier clock p)) (sym get) same,
    )

-- and is the only one that has it
count_is : (clock : ClockView) (tick p n : ℕ) → IsTick clock p n tick → n ≡ count_in clock p tick
count_is clock tick p n has =
    let ps = clock.partitions in
    let low = has.0.0.0 in
    let high = has.0.0.1 in
    let in_list : p - 1 < length ps = omega arith in
    let get = slice_get-get_or ps (p - 1) no_partition in_list in
    let start = ap (λ (o : Option Partition). option_map_or (λ (partition : Partition). partition.start) o 0) get in
    let holds = holds_in clock p n has.0 in
    let same : tick ≡ n - (get_or ps (p - 1) no_partition).start + earlier clock p =
    subst (λ (o : Option Partition). IsSomeAnd o (λ partition. tick ≡ n - partition.start + earlier clock p)) get has.1 in
    let from = holds.0 in
    omega arith

abbrev text_of_values : ClockView → ℕ → List ℕ → List ℕ
text_of_values clock p values = decimal p ++ codes "/" ++ join_with_byte (delimiter_byte clock) (padded_fields clock.moduli clock.offsets values)

pub canonical_is : (clock : ClockView) (tick : ℕ) (text : List ℕ) → IsClock clock → tick ≤ total clock → IsCanonicalText clock tick text → text ≡ clock_text clock tick
canonical_is clock tick text is up canonical =
    let at = partition_at_is clock tick is up in
    let p = canonical.partition in
    let same = partition_at_one clock tick p (partition_at clock tick) canonical.is_at at in
    let values = digits_are clock.moduli clock.offsets canonical.values canonical.are_digits
    ∙ ap (λ (n : ℕ). field_values clock.moduli clock.offsets n) (count_is clock tick p (count clock.moduli clock.offsets canonical.values) canonical.has_tick) in
    canonical.spelled ∙ (ap (λ (vs : List ℕ). text_of_values clock p vs) values ∙ ap (λ (q : ℕ). text_in clock q (count_in clock q tick)) same)

pub is_canonical : (clock : ClockView) (tick : ℕ) (text : List ℕ) → IsClock clock → tick ≤ total clock → text ≡ clock_text clock tick → IsCanonicalText clock tick text
is_canonical clock tick text is up same =
    let at = partition_at_is clock tick is up in
    let p = partition_at clock tick in
    let n = count_in clock p tick in
    let digits = digits_have clock.moduli clock.offsets n is.moduli.1 is.as_many is.moduli.0.0 in
    record {
      partition = p;
      values = field_values clock.moduli clock.offsets n;
      is_at = at;
      has_tick = subst (λ (m : ℕ). IsTick clock p m tick) (sym digits.0) (count_has clock tick p is at);
      are_digits = digits.1;
      spelled = same;
    }
