-- Counts, their partitions and ticks.
use Rattle.std.proofs.Common.{◌≡◌, ℕ, ◌+◌, ◌-◌, ◌*◌, ◌<◌, ◌≤◌, List, [], ◌∷◌, length, sum_by, get_or, Option, Some, None, IsSomeAnd, Result, Ok, Err, refl, ap, sym, ◌∙◌, subst, inl, inr, true, false, ltb-true, ltb-false, length-take, arith}
use Rattle.std.specs.Int.{IsInRange}
use Rattle.std.proofs.lemmas.Option.{slice_get-get_or, same_Some}
use Rattle.std.proofs.lemmas.List.Sums.{sum_by_more_le}
use Rattle.sk_checks.specs.Checks.{Check, ◌⇒◌, NoneRefuses, FirstRefuses, Judges}
use Rattle.sk_clock.specs.declared.field.Field.{Field}
use Rattle.sk_clock.specs.declared.partition.Partition.{Partition}
use Rattle.sk_clock.specs.declared.fault.ClockFault.{ClockFault}
use Rattle.sk_clock.specs.declared.fault.ClockFault.TheVariants.{BadText, TooManyFields, BelowOffset, OutsidePartition}
use Rattle.sk_clock.specs.Clock.{ClockView, product, count, count_checks, ticks_in, earlier, IsInPartition, IsPartitionFor, IsTick, Encodes, IsNoPartition, IsClock, IsPartitionAt, partition_at, total}
use Rattle.sk_clock.specs.ClockText.{Reading, SpellsClock, Reads, StandsFor, HasLowValue, text_checks, count_of}
use Rattle.sk_clock.specs.Kept.{moduli_of, offsets_of, lengths_before, AreUnits}
use Rattle.std.proofs.lemmas.List.{take_all}
use Rattle.sk_clock.specs.declared.reading.Values.{Values}
use Rattle.sk_clock.specs.Values.{KeepsValues}
use Rattle.sk_clock.specs.Scan.{reading_of}
use Rattle.sk_clock.specs.Ticks.{HoldsAt, HoldsNone, counted}
use Rattle.sk_clock.proofs.PartitionLemmas.{length-lengths_before, get_or-lengths_before, partition_from-le, partition_from-some, partition_from-begun, partition_from-last}
use Rattle.std.proofs.lemmas.Bool.{cases_lt}
use Rattle.std.specs.List.{slice_get}
use Rattle.sk_clock.proofs.SpelledLemmas.{clock_read, clock_spelled}

-- ---- counts

pub HasLowValue-none : (offsets : List ℕ) → HasLowValue offsets [] → ⊥
HasLowValue-none [] low = low
HasLowValue-none (offset ∷ offsets) low = low

pub counted-none : (fields : List Field) → counted fields [] ≡ 0
counted-none [] = refl
counted-none (field ∷ fields) = refl

pub counted-count : (fields : List Field) (values : List ℕ) → AreUnits fields → counted fields values ≡ count (moduli_of fields) (offsets_of fields) values
counted-count [] values units = refl
counted-count (field ∷ fields) [] units = refl
counted-count (field ∷ fields) (value ∷ values) units =
    ap (λ (u : ℕ). (value - field.offset) * u + counted fields values) units.0
    ∙ ap (λ (n : ℕ). (value - field.offset) * product (moduli_of fields) + n) (counted-count fields values units.1)

-- ---- partitions

abbrev no_partition : Partition
no_partition = record { start = 0; end = 0 }

pub in_partition : (clock : ClockView) (p n : ℕ) → 1 ≤ p → p ≤ length clock.partitions → HoldsAt clock.partitions n (p - 1) → IsInPartition clock p n
in_partition clock p n low high holds =
    ((low, high), subst (λ (o : Option Partition). IsSomeAnd o (λ partition. IsInRange partition.start partition.end n)) (sym (slice_get-get_or clock.partitions (p - 1) no_partition (omega arith))) holds)

pub holds_in : (clock : ClockView) (p n : ℕ) → IsInPartition clock p n → HoldsAt clock.partitions n (p - 1)
holds_in clock p n within =
    subst (λ (o : Option Partition). IsSomeAnd o (λ partition. IsInRange partition.start partition.end n)) (slice_get-get_or clock.partitions (p - 1) no_partition (omega (arith, within.0.0, within.0.1))) within.1

-- no partition has the count
pub none_found : (clock : ClockView) (n : ℕ) → HoldsNone clock.partitions n (length clock.partitions) → (p : ℕ) → ¬ IsPartitionFor clock None n p
none_found clock n none p = λ is. none (p - 1) (omega (arith, is.0.0.0, is.0.0.1)) (holds_in clock p n is.0)

pub outside_all : (clock : ClockView) (ps : List Partition) (named : Option ℕ) (n : ℕ) → named ≡ None → ps ≡ clock.partitions → HoldsNone ps n (length ps) → FirstRefuses (count_checks clock named n) OutsidePartition
outside_all clock ps named n bare same none =
    let nowhere = subst (λ (xs : List Partition). HoldsNone xs n (length xs)) same none in
    subst (λ (o : Option ℕ). FirstRefuses (count_checks clock o n) OutsidePartition) (sym bare) (inr (λ unnamed. unnamed, inl (none_found clock n nowhere, refl)))

-- the first one that has it
pub first_found : (clock : ClockView) (n i : ℕ) → i < length clock.partitions → HoldsAt clock.partitions n i → HoldsNone clock.partitions n i
    → NoneRefuses (count_checks clock None n) × IsPartitionFor clock None n (i + 1)
first_found clock n i in_list holds none =
    let place : i ≡ i + 1 - 1 = omega arith in
    let within = in_partition clock (i + 1) n (omega arith) (omega arith) (subst (λ (k : ℕ). HoldsAt clock.partitions n k) place holds) in
    let is : IsPartitionFor clock None n (i + 1) = (within, λ q before in_q. none (q - 1) (omega (arith, in_q.0.0)) (holds_in clock q n in_q)) in
    ((λ named. named, (λ nowhere. nowhere (i + 1) is, tt)), is)

-- the named one
pub named_found : (clock : ClockView) (n p : ℕ) → 1 ≤ p → p ≤ length clock.partitions → HoldsAt clock.partitions n (p - 1)
    → NoneRefuses (count_checks clock (Some p) n) × IsPartitionFor clock (Some p) n p
named_found clock n p low high holds =
    let within = in_partition clock p n low high holds in
    ((λ not. not (low, high), (λ nowhere. nowhere p (refl, within), tt)), (refl, within))

pub found_first : (clock : ClockView) (ps : List Partition) (named : Option ℕ) (n i : ℕ) → named ≡ None → ps ≡ clock.partitions → i < length ps → HoldsAt ps n i → HoldsNone ps n i
    → NoneRefuses (count_checks clock named n) × IsPartitionFor clock named n (i + 1)
found_first clock ps named n i bare same in_list holds none =
    subst (λ (o : Option ℕ). NoneRefuses (count_checks clock o n) × IsPartitionFor clock o n (i + 1)) (sym bare)
    (first_found clock n i (omega (arith, ap length same)) (subst (λ (xs : List Partition). HoldsAt xs n i) same holds) (subst (λ (xs : List Partition). HoldsNone xs n i) same none))

pub found_named : (clock : ClockView) (ps : List Partition) (named : Option ℕ) (n p : ℕ) → named ≡ Some p → ps ≡ clock.partitions → 1 ≤ p → p ≤ length ps → HoldsAt ps n (p - 1)
    → NoneRefuses (count_checks clock named n) × IsPartitionFor clock named n p
found_named clock ps named n p is same low high holds =
    subst (λ (o : Option ℕ). NoneRefuses (count_checks clock o n) × IsPartitionFor clock o n p) (sym is)
    (named_found clock n p low (omega (arith, ap length same)) (subst (λ (xs : List Partition). HoldsAt xs n (p - 1)) same holds))

pub partition_for_in : (clock : ClockView) (named : Option ℕ) (n p : ℕ) → IsPartitionFor clock named n p → IsInPartition clock p n
partition_for_in clock None n p is = is.0
partition_for_in clock (Some named) n p is = is.1

-- the tick of a count in its partition
pub record IsPlacedTick (clock : ClockView) (ps : List Partition) (lengths : List ℕ) (p n : ℕ) : Type 0 where
  pub in_lengths : p - 1 < length lengths
  pub small : n - (get_or ps (p - 1) no_partition).start + get_or lengths (p - 1) 0 ≤ sum_by ticks_in clock.partitions
  pub is_tick : IsTick clock p n (n - (get_or ps (p - 1) no_partition).start + get_or lengths (p - 1) 0)

pub placed_tick : (clock : ClockView) (inside ps : List Partition) (kept lengths : List ℕ) (p n : ℕ)
    → inside ≡ clock.partitions → ps ≡ inside → lengths ≡ kept → kept ≡ lengths_before 0 inside → IsInPartition clock p n
    → IsPlacedTick clock ps lengths p n
placed_tick clock inside ps kept lengths p n is_inside is_ps is_lengths is_kept within =
    let all = clock.partitions in
    let in_list : p - 1 < length all = omega (arith, within.0.0, within.0.1) in
    let lengths_are : lengths ≡ lengths_before 0 all = is_lengths ∙ (is_kept ∙ ap (λ (xs : List Partition). lengths_before 0 xs) is_inside) in
    let before = ap (λ (xs : List ℕ). get_or xs (p - 1) 0) lengths_are ∙ get_or-lengths_before 0 all (p - 1) 0 in_list in
    let same = ap (λ (xs : List Partition). (get_or xs (p - 1) no_partition).start) (is_ps ∙ is_inside) in
    let holds = holds_in clock p n within in
    let more = sum_by_more_le ticks_in all (p - 1) no_partition in_list in
    let tick : n - (get_or ps (p - 1) no_partition).start + get_or lengths (p - 1) 0 ≡ n - (get_or all (p - 1) no_partition).start + earlier clock p = omega (arith, before, same) in
    record {
      in_lengths = omega (arith, ap length lengths_are, length-lengths_before 0 all);
      small = omega (arith, before, same, more, holds.0, holds.1);
      is_tick = (within, subst (λ (o : Option Partition). IsSomeAnd o (λ partition. n - (get_or ps (p - 1) no_partition).start + get_or lengths (p - 1) 0 ≡ n - partition.start + earlier clock p)) (sym (slice_get-get_or all (p - 1) no_partition in_list)) tick);
    }

-- ---- readings

pub spelled_one : (text : List ℕ) (a b : Reading) → SpellsClock text a → SpellsClock text b → a ≡ b
spelled_one text a b spells_a spells_b = same_Some a b (sym (clock_read text a spells_a) ∙ clock_read text b spells_b)

-- what a text reads, its one reading has
reads_is : (text : List ℕ) (reading : Reading) (P : Reading → Type 0) → SpellsClock text reading → Reads text P → P reading
reads_is text reading P spells reads = subst P (spelled_one text reads.0 reading reads.1 spells) reads.2

pub bad_text : (clock : ClockView) (text : List ℕ) → reading_of text ≡ None → FirstRefuses (text_checks clock text) BadText
bad_text clock text none = inl (λ reading spells. let is = sym none ∙ clock_read text reading spells in cc, refl)

pub too_many : (clock : ClockView) (text : List ℕ) (reading : Reading) → reading_of text ≡ Some reading → length clock.moduli < length reading.values → FirstRefuses (text_checks clock text) TooManyFields
too_many clock text reading is many =
    let spells = clock_spelled text reading is in
    inr (λ none. none reading spells, inl ((reading, spells, many), refl))

pub below_offset : (clock : ClockView) (text : List ℕ) (reading : Reading) → reading_of text ≡ Some reading → length reading.values ≤ length clock.moduli → HasLowValue clock.offsets reading.values → FirstRefuses (text_checks clock text) BelowOffset
below_offset clock text reading is few low =
    let spells = clock_spelled text reading is in
    inr (
      λ none. none reading spells,
      inr (
        λ reads. let many = reads_is text reading (λ r. length clock.moduli < length r.values) spells reads in omega arith,
        inl ((reading, spells, low), refl),
      ),
    )

judged_reading : (clock : ClockView) (text : List ℕ) (reading : Reading) (result : Result ℕ ClockFault) → SpellsClock text reading → length reading.values ≤ length clock.moduli → ¬ HasLowValue clock.offsets reading.values
    → Judges (count_checks clock reading.partition (count_of clock reading)) (Encodes clock reading.partition (count_of clock reading)) result → Judges (text_checks clock text) (StandsFor clock text) result
judged_reading clock text reading (Ok tick) spells few not_low judged = (
  (
    λ none. none reading spells,
    (
      λ reads. let many = reads_is text reading (λ r. length clock.moduli < length r.values) spells reads in omega arith,
      (
        λ reads. not_low (reads_is text reading (λ r. HasLowValue clock.offsets r.values) spells reads),
        (
          λ reads. judged.0.0 (reads_is text reading (λ r. IsNoPartition clock r.partition) spells reads),
          (λ reads. judged.0.1.0 (reads_is text reading (λ r. (p : ℕ) → ¬ IsPartitionFor clock r.partition (count_of clock r) p) spells reads), tt),
        ),
      ),
    ),
  ),
  (reading, spells, judged.1),
)
judged_reading clock text reading (Err fault) spells few not_low judged =
    inr (
      λ none. none reading spells,
      inr (
        λ reads. let many = reads_is text reading (λ r. length clock.moduli < length r.values) spells reads in omega arith,
        inr (
          λ reads. not_low (reads_is text reading (λ r. HasLowValue clock.offsets r.values) spells reads),
          elim judged [
            | inl unnamed ↦ inl ((reading, spells, unnamed.0), unnamed.1)
            | inr rest ↦ inr (
              λ reads. rest.0 (reads_is text reading (λ r. IsNoPartition clock r.partition) spells reads),
              elim rest.1 [
                | inl nowhere ↦ inl ((reading, spells, nowhere.0), nowhere.1)
                | inr last ↦ absurd last.1
              ],
            )
          ],
        ),
      ),
    )

pub judged_text : (clock : ClockView) (text : List ℕ) (reading : Reading) (n : ℕ) (result : Result ℕ ClockFault) → reading_of text ≡ Some reading → length reading.values ≤ length clock.moduli → ¬ HasLowValue clock.offsets reading.values
    → n ≡ count_of clock reading → Judges (count_checks clock reading.partition n) (Encodes clock reading.partition n) result → Judges (text_checks clock text) (StandsFor clock text) result
judged_text clock text reading n result is few not_low count_is judged = judged_reading clock text reading result (clock_spelled text reading is) few not_low
    (subst (λ (m : ℕ). Judges (count_checks clock reading.partition m) (Encodes clock reading.partition m) result) count_is judged)

-- ---- what is kept of a reading

pub some_and : {A : Type 0} (o : Option A) (P : A → Type 0) → IsSomeAnd o P → (x : A) × (o ≡ Some x) × P x
some_and None P is = absurd is
some_and (Some x) P is = (x, refl, is)

pub kept_more : (all : List ℕ) (values : Values) → KeepsValues all values → values.more ≡ true → 10 < length all
kept_more all values kept more = ltb-true 10 (length all) (sym kept.more ∙ more)

pub kept_all : (all : List ℕ) (values : Values) → KeepsValues all values → values.more ≡ false → values.first.items ≡ all
kept_all all values kept few =
    let short : length all ≤ 10 = ltb-false 10 (length all) (sym kept.more ∙ few) in
    kept.first ∙ take_all 10 all short

pub kept_many : (all : List ℕ) (values : Values) → KeepsValues all values → length values.first.items ≤ length all
kept_many all values kept = omega (arith, ap length kept.first, length-take 10 all)

-- ---- one partition, one tick

partition_for_one : (clock : ClockView) (named : Option ℕ) (n p q : ℕ) → IsPartitionFor clock named n p → IsPartitionFor clock named n q → p ≡ q
partition_for_one clock (Some named) n p q a b = a.0 ∙ sym b.0
partition_for_one clock None n p q a b = elim (cases_lt p q) [
  | inl before ↦ absurd (b.1 p before a.0)
  | inr from ↦ elim (cases_lt q p) [ inl before ↦ absurd (a.1 q before b.0) | inr also ↦ omega arith ]
]

tick_one : (clock : ClockView) (p n a b : ℕ) → IsTick clock p n a → IsTick clock p n b → a ≡ b
tick_one clock p n a b is also =
    let found = some_and (slice_get clock.partitions (p - 1)) (λ partition. a ≡ n - partition.start + earlier clock p) is.1 in
    let other : b ≡ n - found.0.start + earlier clock p = subst (λ (o : Option Partition). IsSomeAnd o (λ partition. b ≡ n - partition.start + earlier clock p)) found.1 also.1 in
    found.2 ∙ sym other

encodes_one : (clock : ClockView) (named : Option ℕ) (n a b : ℕ) → Encodes clock named n a → Encodes clock named n b → a ≡ b
encodes_one clock named n a b is also =
    let same = partition_for_one clock named n also.0 is.0 also.1 is.1 in
    tick_one clock is.0 n a b is.2 (subst (λ (p : ℕ). IsTick clock p n b) same also.2)

pub stands_for_one : (clock : ClockView) (text : List ℕ) (a b : ℕ) → StandsFor clock text a → StandsFor clock text b → a ≡ b
stands_for_one clock text a b is also =
    let same = spelled_one text also.0 is.0 also.1 is.1 in
    encodes_one clock is.0.partition (count_of clock is.0) a b is.2 (subst (λ (r : Reading). Encodes clock r.partition (count_of clock r) b) same also.2)

-- the partition at a tick is the last one that has begun
pub partition_at_is : (clock : ClockView) (tick : ℕ) → IsClock clock → tick ≤ total clock → IsPartitionAt clock tick (partition_at clock tick)
partition_at_is clock tick is up =
    let ps = clock.partitions in
    let many = is.partitions.some in
    let some = partition_from-some 0 tick ps (omega arith) (omega arith) in
    let few = partition_from-le 0 tick ps in
    let begun = partition_from-begun 0 tick ps (partition_at clock tick - 1) (omega arith) in
    record {
      up_to_total = up;
      is_partition = (omega arith, few);
      begun = omega arith;
      last = λ q past within. let later = partition_from-last 0 tick ps (q - 1) (omega arith) (omega arith) in omega arith;
    }

pub partition_at_one : (clock : ClockView) (tick p q : ℕ) → IsPartitionAt clock tick p → IsPartitionAt clock tick q → p ≡ q
partition_at_one clock tick p q a b = elim (cases_lt p q) [
  | inl before ↦ absurd (let late = a.last q before b.is_partition.1 in let begun = b.begun in omega arith)
  | inr from ↦ elim (cases_lt q p) [
    | inl before ↦ absurd (let late = b.last p before a.is_partition.1 in let begun = a.begun in omega arith)
    | inr also ↦ omega arith
  ]
]

-- a check that passes stands before others
pub judged_behind : (p : Type 0) (own : ClockFault) (checks : List (Check ClockFault)) (P : ℕ → Type 0) (r : Result ℕ ClockFault) → ¬ p → Judges checks P r → Judges (p ⇒ own ∷ checks) P r
judged_behind p own checks P (Ok value) not judged = ((not, judged.0), judged.1)
judged_behind p own checks P (Err fault) not judged = inr (not, judged)
