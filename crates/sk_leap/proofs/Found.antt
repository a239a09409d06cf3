-- The UTC of a time: the last pair by its start, and day and second behind it.
use Rattle.std.proofs.Common.{◌≡◌, ◌≢◌, ℕ, zero, suc, ◌+◌, ◌-◌, ◌*◌, ◌^◌, ◌<◌, ◌≤◌, ◌⊎◌, inl, inr, Bool, true, false, cond, ◌||◌, List, [], ◌∷◌, drop, take, get_or, length, All, Option, Some, None, refl, ap, sym, ◌∙◌, subst, arith, SFits, to_z, of_z, w32, w64}
use Rattle.std.specs.Int.{w128}
use lib.Signed.{lt_z}
use Rattle.std.specs.Prelude.{ℤ, pos, negsuc, neg_ℤ, ◌+ℤ◌, ◌-ℤ◌, ◌*ℤ◌, ◌<ℤ◌, ◌≤ℤ◌, int_le, int_lt}
use Rattle.std.specs.List.{list_any}
use Rattle.std.specs.Ordering.{int_eq}
use Rattle.std.specs.Option.{ForSome}
use Rattle.std.proofs.lemmas.Bool.{cases_Bool, false≢true, or_right}
use Rattle.std.proofs.lemmas.Int.{ints, by_lt_z, to_z-of_z}
use Rattle.std.proofs.lemmas.Option.{none-some, same_Some}
use Rattle.std.proofs.lemmas.List.Elements.{All-head, All-tail}
use Rattle.sk_checks.specs.Checks.{NoneRefuses}
use Rattle.sk_leap.specs.declared.pair.LeapPair.{LeapPair}
use Rattle.sk_leap.specs.declared.utc.Utc.{Utc}
use Rattle.sk_leap.specs.Leap.{leap_value, day_seconds, tdt_of, utc_checks, tdt_checks, AreInStep, IsLeapTable}
use Rattle.std.proofs.Math.Seq.{take-length}
use Rattle.sk_leap.specs.Steps.{start_of, pair_at, EndsBefore, IsBetween, IsClockOf}
use Rattle.sk_leap.proofs.Rising.{current, current_here, current_later, value_is}

-- ---- which pair has begun

-- the pair that has begun by a second, of a table from this pair on
pub record HasBegun (pair : LeapPair) (later : List LeapPair) (second : ℤ) (at : LeapPair × Option LeapPair) : Type 0 where
  pub begun : start_of at.0 ≤ℤ second
  pub from : pair.day ≤ℤ at.0.day
  pub between : ForSome at.1 (λ (next : LeapPair). IsBetween at.0 next second)

before_next : (pair next : LeapPair) (later : List LeapPair) (second : ℤ) → second <ℤ start_of next → pair_at pair (next ∷ later) second ≡ (pair, Some next)
before_next pair next later second before = ap (λ (b : Bool). cond b (pair, Some next) (pair_at next later second)) (int_lt-true second (start_of next) before)
  where
    int_lt-true : (a b : ℤ) → a <ℤ b → int_lt a b ≡ true
    int_lt-true a b h = grind (arith, ints)

behind_next : (pair next : LeapPair) (later : List LeapPair) (second : ℤ) → start_of next ≤ℤ second → pair_at pair (next ∷ later) second ≡ pair_at next later second
behind_next pair next later second after = ap (λ (b : Bool). cond b (pair, Some next) (pair_at next later second)) (int_lt-false second (start_of next) after)
  where
    int_lt-false : (a b : ℤ) → b ≤ℤ a → int_lt a b ≡ false
    int_lt-false a b h = grind (arith, ints)

pub has_begun : (pair : LeapPair) (later : List LeapPair) (second : ℤ) → AreInStep (pair ∷ later) → start_of pair ≤ℤ second → HasBegun pair later second (pair_at pair later second)
has_begun pair [] second steps begun = record { begun = begun; from = omega (arith, ints); between = λ (x : LeapPair) is. absurd (none-some x is) }
has_begun pair (next ∷ later) second steps begun =
    by_lt_z second (start_of next)
    (λ before.
    let P : LeapPair × Option LeapPair → Type 0 = HasBegun pair (next ∷ later) second in
    subst P (sym (before_next pair next later second before)) (record {
      begun = begun;
      from = omega (arith, ints);
      between = λ (x : LeapPair) is. subst (λ (n : LeapPair). IsBetween pair n second) (same_Some next x is) (record { day = steps.0; value = steps.1; before = before });
    }))
    (λ after.
    let P : LeapPair × Option LeapPair → Type 0 = HasBegun pair (next ∷ later) second in
    let h = has_begun next later second steps.2 after in
    subst P (sym (behind_next pair next later second after)) (record { begun = h.begun; from = omega (arith, ints, h.from, steps.0); between = h.between }))

-- the pair that has begun is one of the table
pub at_one : (P : LeapPair → Type 0) (pair : LeapPair) (later : List LeapPair) (second : ℤ) → P pair → All P later → P (pair_at pair later second).0
at_one P pair [] second here all = here
at_one P pair (next ∷ later) second here all =
    elim (cases_Bool (int_lt second (start_of next))) [
      | inl before ↦ subst (λ (at : LeapPair × Option LeapPair). P at.0) (sym (ap (λ (b : Bool). cond b (pair, Some next) (pair_at next later second)) before)) here
      | inr after ↦ subst (λ (at : LeapPair × Option LeapPair). P at.0) (sym (ap (λ (b : Bool). cond b (pair, Some next) (pair_at next later second)) after))
          (at_one P next later second (All-head P next later all) (All-tail P next later all))
    ]

-- ---- the day behind it

abbrev seconds_behind : List LeapPair → ℤ → ℕ
seconds_behind later day = cond (list_any (λ (p : LeapPair). int_eq p.day (day +ℤ pos 1)) later) 86401 86400

pub record IsFound (pair : LeapPair) (later : List LeapPair) (at : LeapPair × Option LeapPair) (day : ℤ) (sod : ℕ) : Type 0 where
  pub from : pair.day ≤ℤ day
  pub value : (current pair later day).value ≡ at.0.value
  pub inside : sod < seconds_behind later day

plain_inside : (later : List LeapPair) (day : ℤ) (sod : ℕ) → sod < 86400 → sod < seconds_behind later day
plain_inside later day sod lt = elim (cases_Bool (list_any (λ (p : LeapPair). int_eq p.day (day +ℤ pos 1)) later)) [
  | inl long ↦ omega (arith, lt, ap {B = ℕ} (λ (b : Bool). cond b 86401 86400) long)
  | inr plain ↦ omega (arith, lt, ap {B = ℕ} (λ (b : Bool). cond b 86401 86400) plain)
]

more_inside : (next : LeapPair) (later : List LeapPair) (day : ℤ) (sod : ℕ) → sod < seconds_behind later day → sod < seconds_behind (next ∷ later) day
more_inside next later day sod h = elim (cases_Bool (list_any (λ (p : LeapPair). int_eq p.day (day +ℤ pos 1)) later)) [
  | inl long ↦
      let all : list_any (λ (p : LeapPair). int_eq p.day (day +ℤ pos 1)) (next ∷ later) ≡ true = or_right (int_eq next.day (day +ℤ pos 1)) _ long in
      omega (arith, h, ap {B = ℕ} (λ (b : Bool). cond b 86401 86400) long, ap {B = ℕ} (λ (b : Bool). cond b 86401 86400) all)
  | inr plain ↦ plain_inside (next ∷ later) day sod (omega (arith, h, ap {B = ℕ} (λ (b : Bool). cond b 86401 86400) plain))
]

leap_inside : (next : LeapPair) (later : List LeapPair) (day : ℤ) → day +ℤ pos 1 ≡ next.day → 86400 < seconds_behind (next ∷ later) day
leap_inside next later day is =
    let here : int_eq next.day (day +ℤ pos 1) ≡ true = int_eq-from next.day (day +ℤ pos 1) (sym is) in
    let any : list_any (λ (p : LeapPair). int_eq p.day (day +ℤ pos 1)) (next ∷ later) ≡ true = ap (λ (b : Bool). b || list_any (λ (p : LeapPair). int_eq p.day (day +ℤ pos 1)) later) here in
    omega (arith, ap {B = ℕ} (λ (b : Bool). cond b 86401 86400) any)
  where
    int_eq-from : (a b : ℤ) → a ≡ b → int_eq a b ≡ true
    int_eq-from a b h = grind (arith, ints, h)

here_found : (pair next : LeapPair) (later : List LeapPair) (second day : ℤ) (sod : ℕ) → start_of pair ≤ℤ second → pair.day <ℤ next.day → day *ℤ pos 86400 +ℤ pos (sod + pair.value) ≡ second
    → ((day <ℤ next.day) × (sod < 86400)) ⊎ ((day +ℤ pos 1 ≡ next.day) × (sod ≡ 86400)) → IsFound pair (next ∷ later) (pair, Some next) day sod
here_found pair next later second day sod begun step sum (inl plain) = record {
  from = omega (arith, ints, begun, sum, plain.1);
  value = ap (λ (p : LeapPair). p.value) (current_here pair next later day plain.0);
  inside = plain_inside (next ∷ later) day sod plain.1;
}
here_found pair next later second day sod begun step sum (inr leap) =
    let before : day <ℤ next.day = omega (arith, ints, leap.0) in
    record {
      from = omega (arith, ints, leap.0, step);
      value = ap (λ (p : LeapPair). p.value) (current_here pair next later day before);
      inside = subst (λ (s : ℕ). s < seconds_behind (next ∷ later) day) (sym leap.1) (leap_inside next later day leap.0);
    }

pub found : (pair : LeapPair) (later : List LeapPair) (second day : ℤ) (sod : ℕ) → AreInStep (pair ∷ later) → start_of pair ≤ℤ second
    → IsClockOf (pair_at pair later second).0 (pair_at pair later second).1 second day sod → IsFound pair later (pair_at pair later second) day sod
found pair [] second day sod steps begun clock = record {
  from = omega (arith, ints, begun, clock.sum, clock.ends);
  value = refl;
  inside = plain_inside [] day sod clock.ends;
}
found pair (next ∷ later) second day sod steps begun clock =
    by_lt_z second (start_of next)
    (λ before.
    let e = before_next pair next later second before in
    let here : IsClockOf pair (Some next) second day sod = subst (λ (at : LeapPair × Option LeapPair). IsClockOf at.0 at.1 second day sod) e clock in
    subst (λ (at : LeapPair × Option LeapPair). IsFound pair (next ∷ later) at day sod) (sym e) (here_found pair next later second day sod begun steps.0 here.sum here.ends))
    (λ after.
    let e = behind_next pair next later second after in
    let there : IsClockOf (pair_at next later second).0 (pair_at next later second).1 second day sod = subst (λ (at : LeapPair × Option LeapPair). IsClockOf at.0 at.1 second day sod) e clock in
    let h = found next later second day sod steps.2 after there in
    subst (λ (at : LeapPair × Option LeapPair). IsFound pair (next ∷ later) at day sod) (sym e) (record {
      from = omega (arith, ints, h.from, steps.0);
      value = ap (λ (p : LeapPair). p.value) (current_later pair next later day h.from) ∙ h.value;
      inside = more_inside next later day sod h.inside;
    }))

-- ---- the whole

-- a UTC that was found is not refused, and its time is the one it was found from
pub found_utc : (pair : LeapPair) (later : List LeapPair) (second : ℤ) (utc : Utc) (units : ℤ) → AreInStep (pair ∷ later) → start_of pair ≤ℤ second
    → IsClockOf (pair_at pair later second).0 (pair_at pair later second).1 second utc.day utc.sod
    → units ≡ (second -ℤ pos 43200) *ℤ pos (10 ^ 12) +ℤ pos (utc.sub + 32184 * 10 ^ 9)
    → NoneRefuses (utc_checks (pair ∷ later) utc) × (tdt_of (pair ∷ later) utc ≡ units)
found_utc pair later second utc units steps begun clock sum =
    let h = found pair later second utc.day utc.sod steps begun clock in
    let value : leap_value (pair ∷ later) utc.day ≡ (pair_at pair later second).0.value = value_is pair later utc.day steps h.from ∙ h.value in
    let seconds : utc.day *ℤ pos 86400 -ℤ pos 43200 +ℤ pos (utc.sod + leap_value (pair ∷ later) utc.day) ≡ second -ℤ pos 43200 = omega (arith, ints, clock.sum, value) in (
      ((λ before. omega (arith, ints, before, h.from)), ((λ past. omega (arith, past, h.inside)), tt)),
      ap (λ (z : ℤ). z *ℤ pos (10 ^ 12) +ℤ pos (utc.sub + 32184 * 10 ^ 9)) seconds ∙ sym sum,
    )

-- the first pair has begun where the time is not before it
pub first_begun : (pair : LeapPair) (second units : ℤ) (sub : ℕ) → ((pair.day *ℤ pos 86400 -ℤ pos 43200 +ℤ pos pair.value) *ℤ pos (10 ^ 12) +ℤ pos (32184 * 10 ^ 9)) ≤ℤ units
    → units ≡ (second -ℤ pos 43200) *ℤ pos (10 ^ 12) +ℤ pos (sub + 32184 * 10 ^ 9) → sub < 10 ^ 12 → start_of pair ≤ℤ second
first_begun pair second units sub after sum small = omega (arith, ints, after, sum, small)

-- ---- what the code knows of a time

-- the time is in range, and these are its seconds and its part of one
pub record IsSplit (first : LeapPair) (units second : ℤ) (sub : ℕ) : Type 0 where
  pub after : ((first.day *ℤ pos 86400 -ℤ pos 43200 +ℤ pos first.value) *ℤ pos (10 ^ 12) +ℤ pos (32184 * 10 ^ 9)) ≤ℤ units
  pub upto : units ≤ℤ pos (9 * 10 ^ 21)
  pub sum : units ≡ (second -ℤ pos 43200) *ℤ pos (10 ^ 12) +ℤ pos (sub + 32184 * 10 ^ 9)
  pub small : sub < 10 ^ 12

pub split_end : (first : LeapPair) (units second : ℤ) (sub : ℕ) → IsSplit first units second sub → second ≤ℤ pos (10 ^ 10)
split_end first units second sub h = omega (arith, ints, h.upto, h.sum)

pub split_begun : (first : LeapPair) (units second : ℤ) (sub : ℕ) → IsSplit first units second sub → start_of first ≤ℤ second
split_begun first units second sub h = first_begun first second units sub h.after h.sum h.small

-- the least time of a table's first pair
pub least_time : (day noon : ℤ) (value : ℕ) (atomic : ℤ) → neg_ℤ (pos 15340) ≤ℤ day → day ≤ℤ pos 73048 → value ≤ 1000
    → atomic ≡ to_z w32 (of_z w32 day) *ℤ pos 86400 -ℤ pos 43200 +ℤ pos (0 + value)
    → noon ≡ to_z w64 (of_z w64 atomic) *ℤ pos 1000000000000 +ℤ pos 32184000000000
    → (noon ≡ (day *ℤ pos 86400 -ℤ pos 43200 +ℤ pos value) *ℤ pos 1000000000000 +ℤ pos 32184000000000) × SFits w128 noon × (neg_ℤ (pos (10 ^ 22)) ≤ℤ noon)
least_time day noon value atomic low high small a n =
    let cast : to_z w32 (of_z w32 day) ≡ day = omega (arith, ints, low, high) in
    let seconds : atomic ≡ day *ℤ pos 86400 -ℤ pos 43200 +ℤ pos value = omega (arith, ints, a, cast) in
    let wide : to_z w64 (of_z w64 atomic) ≡ atomic = omega (arith, ints, seconds, low, high, small) in
    let units : noon ≡ (day *ℤ pos 86400 -ℤ pos 43200 +ℤ pos value) *ℤ pos 1000000000000 +ℤ pos 32184000000000 = omega (arith, ints, n, wide, seconds) in
    (units, omega (arith, ints, units, low, high, small), omega (arith, ints, units, low, high, small))

pub not_less : (a b : ℤ) → SFits w128 a → SFits w128 b → lt_z (to_z w128 (of_z w128 a)) (to_z w128 (of_z w128 b)) ≡ false → b ≤ℤ a
not_less a b f g h =
    let test : lt_z a b ≡ false = ap {B = Bool} (λ (z : ℤ). lt_z z b) (sym (to_z-of_z w128 a f)) ∙ ap {B = Bool} (lt_z (to_z w128 (of_z w128 a))) (sym (to_z-of_z w128 b g)) ∙ h in
    by_lt_z a b (λ less. absurd (false≢true (sym test ∙ lt_z-true a b less))) (λ ge. ge)
  where
    lt_z-true : (x y : ℤ) → x <ℤ y → lt_z x y ≡ true
    lt_z-true x y less = grind (arith, ints)

first_facts : (first : LeapPair) (later : List LeapPair) → IsLeapTable (first ∷ later) → (neg_ℤ (pos 15340) ≤ℤ first.day) × (first.day ≤ℤ pos 73048) × (first.value ≤ 1000)
first_facts first later table =
    let days = All-head (λ (p : LeapPair). (neg_ℤ (pos 15340) ≤ℤ p.day) × (p.day ≤ℤ pos 73048)) first later table.days in
    (days.0, days.1, All-head (λ (p : LeapPair). p.value ≤ 1000) first later table.values)

pub units_from : (first : LeapPair) (later : List LeapPair) (units atomic noon : ℤ) → IsLeapTable (first ∷ later) → SFits w128 units
    → atomic ≡ to_z w32 (of_z w32 first.day) *ℤ pos 86400 -ℤ pos 43200 +ℤ pos (0 + first.value)
    → noon ≡ to_z w64 (of_z w64 atomic) *ℤ pos 1000000000000 +ℤ pos 32184000000000
    → lt_z (to_z w128 (of_z w128 units)) (to_z w128 (of_z w128 noon)) ≡ false
    → (((first.day *ℤ pos 86400 -ℤ pos 43200 +ℤ pos first.value) *ℤ pos (10 ^ 12) +ℤ pos (32184 * 10 ^ 9)) ≤ℤ units) × (neg_ℤ (pos (10 ^ 22)) ≤ℤ to_z w128 (of_z w128 units))
units_from first later units atomic noon table fits a n test =
    let facts = first_facts first later table in
    let least = least_time first.day noon first.value atomic facts.0 facts.1 facts.2 a n in
    let after : noon ≤ℤ units = not_less units noon fits least.1 test in
    (omega (arith, ints, after, least.0), omega (arith, ints, after, least.2, to_z-of_z w128 units fits))

pub split_of : (first : LeapPair) (units second : ℤ) (sub : ℕ)
    → ((first.day *ℤ pos 86400 -ℤ pos 43200 +ℤ pos first.value) *ℤ pos (10 ^ 12) +ℤ pos (32184 * 10 ^ 9)) ≤ℤ units → units ≤ℤ pos (9 * 10 ^ 21) → SFits w128 units → SFits w64 second
    → to_z w128 (of_z w128 units) ≡ (second -ℤ pos 43200) *ℤ pos 1000000000000 +ℤ pos (sub + 32184000000000) → sub < 10 ^ 12 → IsSplit first units (to_z w64 (of_z w64 second)) sub
split_of first units second sub after upto fits wide sum small = record {
  after = after;
  upto = upto;
  small = small;
  sum = sym (to_z-of_z w128 units fits) ∙ sum ∙ ap (λ (z : ℤ). (z -ℤ pos 43200) *ℤ pos 1000000000000 +ℤ pos (sub + 32184000000000)) (sym (to_z-of_z w64 second wide));
}

-- the pair and the next one that the code goes on with
pub record IsAt (first : LeapPair) (later : List LeapPair) (second : ℤ) (at : LeapPair × Option LeapPair) : Type 0 where
  pub is : at ≡ pair_at first later second
  pub has : HasBegun first later second at
  pub low : neg_ℤ (pos 15340) ≤ℤ at.0.day
  pub small : at.0.value ≤ 1000

pub at_of : (first : LeapPair) (later : List LeapPair) (units second : ℤ) (sub : ℕ) (at : LeapPair × Option LeapPair) → IsLeapTable (first ∷ later) → IsSplit first units second sub → at ≡ pair_at first later second
    → IsAt first later second at
at_of first later units second sub at table split is =
    let facts = first_facts first later table in
    let begun = split_begun first units second sub split in
    let h = has_begun first later second table.in_step begun in
    let value = at_one (λ (p : LeapPair). p.value ≤ 1000) first later second facts.2 (All-tail (λ (p : LeapPair). p.value ≤ 1000) first later table.values) in
    record {
      is = is;
      has = subst (HasBegun first later second) (sym is) h;
      low = subst (λ (x : LeapPair × Option LeapPair). neg_ℤ (pos 15340) ≤ℤ x.0.day) (sym is) (omega (arith, ints, h.from, facts.0));
      small = subst (λ (x : LeapPair × Option LeapPair). x.0.value ≤ 1000) (sym is) value;
    }

pub utc_of_time : (first : LeapPair) (later : List LeapPair) (units second : ℤ) (sub : ℕ) (at : LeapPair × Option LeapPair) (day : ℤ) (utc : Utc) → IsLeapTable (first ∷ later) → IsSplit first units second sub
    → at ≡ pair_at first later second → IsClockOf at.0 at.1 second day utc.sod → utc.day ≡ day → utc.sub ≡ sub
    → NoneRefuses (tdt_checks (first ∷ later) units) × (NoneRefuses (utc_checks (first ∷ later) utc) × (tdt_of (first ∷ later) utc ≡ units))
utc_of_time first later units second sub at day utc table split is clock day_is sub_is =
    let here : IsClockOf (pair_at first later second).0 (pair_at first later second).1 second utc.day utc.sod =
    subst (λ (d : ℤ). IsClockOf (pair_at first later second).0 (pair_at first later second).1 second d utc.sod) (sym day_is)
    (subst (λ (x : LeapPair × Option LeapPair). IsClockOf x.0 x.1 second day utc.sod) is clock) in
    let sum = split.sum ∙ ap (λ (n : ℕ). (second -ℤ pos 43200) *ℤ pos (10 ^ 12) +ℤ pos (n + 32184 * 10 ^ 9)) (sym sub_is) in (
      ((λ before. omega (arith, ints, before, split.after)), ((λ past. omega (arith, ints, past, split.upto)), tt)),
      found_utc first later second utc units table.in_step (split_begun first units second sub split) here sum,
    )

-- a table by its first pair and the others
pub table_parts : (pairs : List LeapPair) (d : LeapPair) → 1 ≤ length pairs → IsLeapTable pairs → IsLeapTable (get_or pairs 0 d ∷ take (length pairs - 1) (drop 1 pairs))
table_parts [] d some table = absurd (omega (arith, some))
table_parts (x ∷ xs) d some table =
    let less : length (x ∷ xs) - 1 ≡ length xs = omega arith in
    let rest : take (length (x ∷ xs) - 1) xs ≡ xs = ap (λ (k : ℕ). take k xs) less ∙ take-length xs in
    subst (λ (ys : List LeapPair). IsLeapTable (x ∷ ys)) (sym rest) table

pub same_parts : (pairs : List LeapPair) (d : LeapPair) → 1 ≤ length pairs → get_or pairs 0 d ∷ take (length pairs - 1) (drop 1 pairs) ≡ pairs
same_parts [] d some = absurd (omega (arith, some))
same_parts (x ∷ xs) d some =
    let less : length (x ∷ xs) - 1 ≡ length xs = omega arith in
    let rest : take (length (x ∷ xs) - 1) xs ≡ xs = ap (λ (k : ℕ). take k xs) less ∙ take-length xs in
    ap (λ (ys : List LeapPair). x ∷ ys) rest
