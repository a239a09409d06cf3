-- The number of the partition at a tick, by the lengths before each partition.
use Rattle.std.proofs.Common.{◌≡◌, ℕ, zero, suc, zero-add, ◌+◌, ◌-◌, ◌<◌, ◌≤◌, Bool, true, false, if◌then◌else◌, leb, List, [], ◌∷◌, length, map, take, sum_by, get_or, refl, ap, sym, ◌∙◌, inl, inr, arith}
use Rattle.std.proofs.lemmas.Bool.Decides.{leb_tells, nat_tests}
use Rattle.std.specs.List.{AllWithin}
use Rattle.std.proofs.lemmas.List.Sums.{sum_by-cons}
use Rattle.std.specs.List.Sorted.{IsNonDecreasingBy}
use Rattle.sk_clock.specs.declared.partition.Partition.{Partition}
use Rattle.sk_clock.specs.Clock.{ticks_in, partition_from}
use Rattle.sk_clock.specs.Kept.{lengths_before}

pub length-lengths_before : (before : ℕ) (ps : List Partition) → length (lengths_before before ps) ≡ length ps
length-lengths_before before [] = refl
length-lengths_before before (p ∷ ps) = ap suc (length-lengths_before (before + ticks_in p) ps)

-- no partition begins before the lengths before the first
lengths_before-ge : (before : ℕ) (ps : List Partition) (k d : ℕ) → k < length (lengths_before before ps) → before ≤ get_or (lengths_before before ps) k d
lengths_before-ge before [] k d h = absurd (omega arith)
lengths_before-ge before (p ∷ ps) zero d h = omega arith
lengths_before-ge before (p ∷ ps) (suc k) d h =
    let rest = lengths_before-ge (before + ticks_in p) ps k d (omega arith) in omega arith

pub lengths_before-rises : (before : ℕ) (ps : List Partition) → IsNonDecreasingBy (λ (n : ℕ). n) (lengths_before before ps)
lengths_before-rises before [] i j d up in_list = absurd (omega arith)
lengths_before-rises before (p ∷ ps) zero zero d up in_list = omega arith
lengths_before-rises before (p ∷ ps) zero (suc j) d up in_list =
    let rest = lengths_before-ge (before + ticks_in p) ps j d (omega arith) in omega arith
lengths_before-rises before (p ∷ ps) (suc i) zero d up in_list = absurd (omega arith)
lengths_before-rises before (p ∷ ps) (suc i) (suc j) d up in_list =
    lengths_before-rises (before + ticks_in p) ps i j d (omega arith) (omega arith)

-- where the lengths before each are at most the tick, and those from i on are not
pub partition_from-point : (before tick : ℕ) (ps : List Partition) (i : ℕ) → i ≤ length (lengths_before before ps)
    → AllWithin (λ n. leb n tick ≡ true) (lengths_before before ps) 0 i
    → AllWithin (λ n. leb n tick ≡ false) (lengths_before before ps) i (length (lengths_before before ps))
    → i ≡ partition_from before (map ticks_in ps) tick
partition_from-point before tick [] i most low high = omega arith
partition_from-point before tick (p ∷ ps) zero most low high =
    sym (ap (λ (b : Bool). if b then 1 + partition_from (before + ticks_in p) (map ticks_in ps) tick else 0) (high 0 0 (omega arith) (omega arith)))
partition_from-point before tick (p ∷ ps) (suc i) most low high =
    let rest = partition_from-point (before + ticks_in p) tick ps i (omega arith) (λ k d from to. low (suc k) d (omega arith) (omega arith)) (λ k d from to. high (suc k) d (omega arith) (omega arith)) in
    let first = ap (λ (b : Bool). if b then 1 + partition_from (before + ticks_in p) (map ticks_in ps) tick else 0) (low 0 0 (omega arith) (omega arith)) in
    omega (arith, first, rest)

sum_by-take-cons : (p : Partition) (ps : List Partition) (m : ℕ) → sum_by ticks_in (take (suc m) (p ∷ ps)) ≡ ticks_in p + sum_by ticks_in (take m ps)
sum_by-take-cons p ps m = sum_by-cons ticks_in p (take m ps)

-- the lengths before a partition
pub get_or-lengths_before : (before : ℕ) (ps : List Partition) (k d : ℕ) → k < length ps → get_or (lengths_before before ps) k d ≡ before + sum_by ticks_in (take k ps)
get_or-lengths_before before [] k d h = absurd (omega arith)
get_or-lengths_before before (p ∷ ps) zero d h = omega arith
get_or-lengths_before before (p ∷ ps) (suc k) d h =
    let rest = get_or-lengths_before (before + ticks_in p) ps k d (omega arith) in omega (arith, sum_by-take-cons p ps k)

pub partition_from-le : (before tick : ℕ) (ps : List Partition) → partition_from before (map ticks_in ps) tick ≤ length ps
partition_from-le before tick [] = omega arith
partition_from-le before tick (p ∷ ps) =
    let rest = partition_from-le (before + ticks_in p) tick ps in grind (arith, nat_tests)

-- there is a partition at a tick from the first one's on
pub partition_from-some : (before tick : ℕ) (ps : List Partition) → 0 < length ps → before ≤ tick → 0 < partition_from before (map ticks_in ps) tick
partition_from-some before tick [] some low = absurd (omega arith)
partition_from-some before tick (p ∷ ps) some low = grind (arith, nat_tests)

-- it has begun
pub partition_from-begun : (before tick : ℕ) (ps : List Partition) (m : ℕ) → partition_from before (map ticks_in ps) tick ≡ suc m → before + sum_by ticks_in (take m ps) ≤ tick
partition_from-begun before tick [] m is = absurd (omega arith)
partition_from-begun before tick (p ∷ ps) zero is =
    let low : before ≤ tick = grind (arith, nat_tests) in omega arith
partition_from-begun before tick (p ∷ ps) (suc m) is =
    let here : partition_from (before + ticks_in p) (map ticks_in ps) tick ≡ suc m = grind (arith, nat_tests) in
    let rest = partition_from-begun (before + ticks_in p) tick ps m here in omega (arith, sum_by-take-cons p ps m)

-- no later one has
pub partition_from-last : (before tick : ℕ) (ps : List Partition) (m : ℕ) → partition_from before (map ticks_in ps) tick ≤ m → m < length ps → tick < before + sum_by ticks_in (take m ps)
partition_from-last before tick [] m past in_list = absurd (omega arith)
partition_from-last before tick (p ∷ ps) zero past in_list =
    let low : tick < before = grind (arith, nat_tests) in omega arith
partition_from-last before tick (p ∷ ps) (suc m) past in_list =
    elim (leb_tells before tick) [
      | inl w ↦ let here : partition_from (before + ticks_in p) (map ticks_in ps) tick ≤ m = grind (arith, nat_tests) in
          let rest = partition_from-last (before + ticks_in p) tick ps m here (omega arith) in omega (arith, sum_by-take-cons p ps m)
      | inr w ↦ let low = w.1 in omega arith
    ]

-- the place of the partition at a tick
pub record IsPlaceAt (ps : List Partition) (earlier : List ℕ) (tick p : ℕ) : Type 0 where
  pub some : 0 < p
  pub in_list : p - 1 < length ps
  pub in_earlier : p - 1 < length earlier
  pub before : get_or earlier (p - 1) 0 ≡ sum_by ticks_in (take (p - 1) ps)
  pub begun : sum_by ticks_in (take (p - 1) ps) ≤ tick

pub place_at : (ps : List Partition) (earlier : List ℕ) (tick p : ℕ) → earlier ≡ lengths_before 0 ps → 0 < length ps → p ≡ partition_from 0 (map ticks_in ps) tick → IsPlaceAt ps earlier tick p
place_at ps earlier tick p is_earlier some is =
    let low = partition_from-some 0 tick ps some (omega arith) in
    let high = partition_from-le 0 tick ps in
    let in_list : p - 1 < length ps = omega arith in
    record {
      some = omega arith;
      in_list = in_list;
      in_earlier = omega (arith, ap length is_earlier, length-lengths_before 0 ps);
      before = ap (λ (xs : List ℕ). get_or xs (p - 1) 0) is_earlier ∙ (get_or-lengths_before 0 ps (p - 1) 0 in_list ∙ zero-add _);
      begun = omega (arith, partition_from-begun 0 tick ps (p - 1) (sym is ∙ omega arith));
    }
