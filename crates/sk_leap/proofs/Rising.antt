-- The leap value along the days, and why times rise.
use Rattle.std.proofs.Common.{◌≡◌, ◌≢◌, ℕ, zero, suc, ◌+◌, ◌-◌, ◌*◌, ◌^◌, ◌<◌, ◌≤◌, ◌⊎◌, inl, inr, Bool, true, false, cond, ◌||◌, List, [], ◌∷◌, ◌++◌, filter, drop, Option, Some, None, refl, ap, sym, ◌∙◌, subst, arith}
use Rattle.std.specs.Prelude.{ℤ, pos, negsuc, ◌+ℤ◌, ◌-ℤ◌, ◌*ℤ◌, ◌<ℤ◌, ◌≤ℤ◌, int_le}
use Rattle.std.specs.List.{last_or, list_any}
use Rattle.std.specs.Option.{option_map_or}
use Rattle.std.specs.Ordering.{int_eq}
use Rattle.std.proofs.lemmas.Bool.{cases_Bool, cases_lt, or_cases}
use Rattle.std.proofs.lemmas.Int.{ints, by_lt_z}
use Rattle.sk_checks.specs.Checks.{NoneRefuses}
use Rattle.sk_leap.specs.declared.pair.LeapPair.{LeapPair}
use Rattle.sk_leap.specs.declared.utc.Utc.{Utc}
use Rattle.sk_leap.specs.Leap.{leap_value, day_seconds, tdt_of, utc_checks, AreInStep, IsLeapTable, IsEarlier, TimesRise}
use Rattle.sk_leap.proofs.Lookups.{int_le-true, int_le-false}

-- the last pair whose date is not after the day, behind a pair that is not
abbrev pub current : LeapPair → List LeapPair → ℤ → LeapPair
current pair [] day = pair
current pair (next ∷ later) day = cond (int_le next.day day) (current next later day) pair

int_eq-true : (a b : ℤ) → int_eq a b ≡ true → a ≡ b
int_eq-true a b h = grind (arith, ints, h)

none_later : (pair : LeapPair) (later : List LeapPair) (day : ℤ) → AreInStep (pair ∷ later) → day <ℤ pair.day → filter (λ (p : LeapPair). int_le p.day day) later ≡ []
none_later pair [] day steps before = refl
none_later pair (next ∷ later) day steps before =
    let after : day <ℤ next.day = omega (arith, ints, steps.0, before) in
    ap (λ (b : Bool). cond b (next ∷ filter (λ (p : LeapPair). int_le p.day day) later) (filter (λ (p : LeapPair). int_le p.day day) later)) (int_le-false next.day day after)
    ∙ none_later next later day steps.2 after

last_is_current : (pair : LeapPair) (later : List LeapPair) (day : ℤ) → AreInStep (pair ∷ later)
    → last_or (Some pair) (filter (λ (p : LeapPair). int_le p.day day) later) ≡ Some (current pair later day)
last_is_current pair [] day steps = refl
last_is_current pair (next ∷ later) day steps =
    let rest = filter (λ (p : LeapPair). int_le p.day day) later in
    by_lt_z day next.day
    (λ before.
    ap (λ (b : Bool). last_or (Some pair) (cond b (next ∷ rest) rest)) (int_le-false next.day day before)
    ∙ ap (last_or (Some pair)) (none_later next later day steps.2 before)
    ∙ ap (λ (b : Bool). Some (cond b (current next later day) pair)) (sym (int_le-false next.day day before)))
    (λ after.
    ap (λ (b : Bool). last_or (Some pair) (cond b (next ∷ rest) rest)) (int_le-true next.day day after)
    ∙ last_is_current next later day steps.2
    ∙ ap (λ (b : Bool). Some (cond b (current next later day) pair)) (sym (int_le-true next.day day after)))

-- the leap value is that pair's
pub value_is : (pair : LeapPair) (later : List LeapPair) (day : ℤ) → AreInStep (pair ∷ later) → pair.day ≤ℤ day → leap_value (pair ∷ later) day ≡ (current pair later day).value
value_is pair later day steps after =
    let rest = filter (λ (p : LeapPair). int_le p.day day) later in
    ap (λ (b : Bool). option_map_or (λ (p : LeapPair). p.value) (last_or None (cond b (pair ∷ rest) rest)) 0) (int_le-true pair.day day after)
    ∙ ap (λ (o : Option LeapPair). option_map_or (λ (p : LeapPair). p.value) o 0) (last_is_current pair later day steps)

-- where the next date is later, the pair counts; else the next one
pub current_here : (pair next : LeapPair) (later : List LeapPair) (day : ℤ) → day <ℤ next.day → current pair (next ∷ later) day ≡ pair
current_here pair next later day before = ap (λ (b : Bool). cond b (current next later day) pair) (int_le-false next.day day before)

pub current_later : (pair next : LeapPair) (later : List LeapPair) (day : ℤ) → next.day ≤ℤ day → current pair (next ∷ later) day ≡ current next later day
current_later pair next later day after = ap (λ (b : Bool). cond b (current next later day) pair) (int_le-true next.day day after)

-- ---- values rise

value_from : (pair : LeapPair) (later : List LeapPair) (day : ℤ) → AreInStep (pair ∷ later) → pair.value ≤ (current pair later day).value
value_from pair [] day steps = omega arith
value_from pair (next ∷ later) day steps =
    by_lt_z day next.day
    (λ before. omega (arith, ap (λ (p : LeapPair). p.value) (current_here pair next later day before)))
    (λ after. omega (arith, ap (λ (p : LeapPair). p.value) (current_later pair next later day after), value_from next later day steps.2, steps.1))

-- on a later day it is not less
value_rises : (pair : LeapPair) (later : List LeapPair) (d e : ℤ) → AreInStep (pair ∷ later) → d ≤ℤ e → (current pair later d).value ≤ (current pair later e).value
value_rises pair [] d e steps le = omega arith
value_rises pair (next ∷ later) d e steps le =
    by_lt_z d next.day
    (λ before. omega (arith, ap (λ (p : LeapPair). p.value) (current_here pair next later d before), value_from pair (next ∷ later) e steps))
    (λ after.
    let far : next.day ≤ℤ e = omega (arith, ints, after, le) in
    omega (arith, ap (λ (p : LeapPair). p.value) (current_later pair next later d after), ap (λ (p : LeapPair). p.value) (current_later pair next later e far), value_rises next later d e steps.2 le))

-- a day on which a later pair begins is after the pair
begins_after : (pair : LeapPair) (later : List LeapPair) (day : ℤ) → AreInStep (pair ∷ later) → list_any (λ (p : LeapPair). int_eq p.day day) later ≡ true → pair.day <ℤ day
begins_after pair [] day steps h = absurd (cc (h))
begins_after pair (next ∷ later) day steps h = elim (or_cases (int_eq next.day day) (list_any (λ (p : LeapPair). int_eq p.day day) later) h) [
  | inl here ↦ let is : next.day ≡ day = int_eq-true next.day day here in omega (arith, ints, steps.0, is)
  | inr there ↦ omega (arith, ints, steps.0, begins_after next later day steps.2 there)
]

-- where a later pair begins it is one more than the day before
value_steps : (pair : LeapPair) (later : List LeapPair) (d : ℤ) → AreInStep (pair ∷ later) → list_any (λ (p : LeapPair). int_eq p.day (d +ℤ pos 1)) later ≡ true
    → (current pair later d).value + 1 ≤ (current pair later (d +ℤ pos 1)).value
value_steps pair [] d steps h = absurd (cc (h))
value_steps pair (next ∷ later) d steps h = elim (or_cases (int_eq next.day (d +ℤ pos 1)) (list_any (λ (p : LeapPair). int_eq p.day (d +ℤ pos 1)) later) h) [
  | inl here ↦
      let is : next.day ≡ d +ℤ pos 1 = int_eq-true next.day (d +ℤ pos 1) here in
      let before : d <ℤ next.day = omega (arith, ints, is) in
      let after : next.day ≤ℤ (d +ℤ pos 1) = omega (arith, ints, is) in
      omega (
        arith,
        ap (λ (p : LeapPair). p.value) (current_here pair next later d before),
        ap (λ (p : LeapPair). p.value) (current_later pair next later (d +ℤ pos 1) after),
        value_from next later (d +ℤ pos 1) steps.2,
        steps.1,
      )
  | inr there ↦
      let from : next.day <ℤ (d +ℤ pos 1) = begins_after next later (d +ℤ pos 1) steps.2 there in
      let here : next.day ≤ℤ d = omega (arith, ints, from) in
      let after : next.day ≤ℤ (d +ℤ pos 1) = omega (arith, ints, from) in
      omega (
        arith,
        ap (λ (p : LeapPair). p.value) (current_later pair next later d here),
        ap (λ (p : LeapPair). p.value) (current_later pair next later (d +ℤ pos 1) after),
        value_steps next later d steps.2 there,
      )
]

-- a day's end is not after the next day's start
day_ends : (pair : LeapPair) (later : List LeapPair) (d : ℤ) → AreInStep (pair ∷ later)
    → day_seconds (pair ∷ later) d + (current pair later d).value ≤ 86400 + (current pair later (d +ℤ pos 1)).value
day_ends pair later d steps = elim (cases_Bool (list_any (λ (p : LeapPair). int_eq p.day (d +ℤ pos 1)) later)) [
  | inl long ↦
      let seconds : day_seconds (pair ∷ later) d ≡ 86401 = ap (λ (b : Bool). cond b 86401 86400) long in
      omega (arith, seconds, value_steps pair later d steps long)
  | inr plain ↦
      let seconds : day_seconds (pair ∷ later) d ≡ 86400 = ap (λ (b : Bool). cond b 86401 86400) plain in
      let le : d ≤ℤ (d +ℤ pos 1) = omega (arith, ints) in
      omega (arith, seconds, value_rises pair later d (d +ℤ pos 1) steps le)
]

-- ---- times rise

-- more seconds are a later time, whatever the parts of a second are
pub later_second : (a b : ℤ) (x y : ℕ) → x < 10 ^ 12 → a <ℤ b → (a *ℤ pos (10 ^ 12) +ℤ pos (x + 32184 * 10 ^ 9)) <ℤ (b *ℤ pos (10 ^ 12) +ℤ pos (y + 32184 * 10 ^ 9))
later_second a b x y small less = omega (arith, ints)

later_part : (a b : ℤ) (x y : ℕ) → a ≡ b → x < y → (a *ℤ pos (10 ^ 12) +ℤ pos (x + 32184 * 10 ^ 9)) <ℤ (b *ℤ pos (10 ^ 12) +ℤ pos (y + 32184 * 10 ^ 9))
later_part a b x y same less = omega (arith, ints, same)

abbrev second_of : List LeapPair → Utc → ℤ
second_of pairs utc = utc.day *ℤ pos 86400 -ℤ pos 43200 +ℤ pos (utc.sod + leap_value pairs utc.day)

next_day : (pair : LeapPair) (later : List LeapPair) (a b : Utc) → AreInStep (pair ∷ later) → pair.day ≤ℤ a.day → a.sod < day_seconds (pair ∷ later) a.day → a.day <ℤ b.day
    → second_of (pair ∷ later) a <ℤ second_of (pair ∷ later) b
next_day pair later a b steps from inside less =
    let next : (a.day +ℤ pos 1) ≤ℤ b.day = omega (arith, ints, less) in
    let here = value_is pair later a.day steps from in
    let there = value_is pair later b.day steps (omega (arith, ints, from, less)) in
    let ends = day_ends pair later a.day steps in
    let rises = value_rises pair later (a.day +ℤ pos 1) b.day steps next in
    omega (arith, ints, here, there, ends, rises, inside, next)

pub rising : (pairs : List LeapPair) → IsLeapTable pairs → TimesRise pairs
rising [] table a b none_a none_b earlier = absurd (none_a.0 tt)
rising (pair ∷ later) table a b none_a none_b (inl day) =
    let from : pair.day ≤ℤ a.day = by_lt_z a.day pair.day (λ early. absurd (none_a.0 early)) (λ late. late) in
    let inside : a.sod < day_seconds (pair ∷ later) a.day = below a.sod (day_seconds (pair ∷ later) a.day) none_a.1.0 in
    later_second (second_of (pair ∷ later) a) (second_of (pair ∷ later) b) a.sub b.sub a.sub_in_second (next_day pair later a b table.in_step from inside day)
  where
    below : (m n : ℕ) → ¬ (n ≤ m) → m < n
    below m n h = elim (cases_lt m n) [ inl lt ↦ lt | inr ge ↦ absurd (h ge) ]
rising (pair ∷ later) table a b none_a none_b (inr (day, inl second)) =
    let same : leap_value (pair ∷ later) a.day ≡ leap_value (pair ∷ later) b.day = ap (leap_value (pair ∷ later)) day in
    later_second (second_of (pair ∷ later) a) (second_of (pair ∷ later) b) a.sub b.sub a.sub_in_second (omega (arith, ints, day, same, second))
rising (pair ∷ later) table a b none_a none_b (inr (day, inr (second, part))) =
    let same : leap_value (pair ∷ later) a.day ≡ leap_value (pair ∷ later) b.day = ap (leap_value (pair ∷ later)) day in
    later_part (second_of (pair ∷ later) a) (second_of (pair ∷ later) b) a.sub b.sub (omega (arith, ints, day, same, second)) part
