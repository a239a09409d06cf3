-- The leap value along a list of pairs.
use Rattle.std.proofs.Common.{◌≡◌, ℕ, ◌+◌, ◌<◌, ℤ, Bool, true, false, cond, List, [], ◌∷◌, ◌++◌, length, take, filter, get_or, Option, Some, None, refl, ap, sym, ◌∙◌, arith}
use Rattle.std.specs.Prelude.{int_le, ◌≤ℤ◌, ◌<ℤ◌}
use Rattle.std.proofs.lemmas.Int.{ints}
use Rattle.std.specs.List.{last_or}
use Rattle.std.proofs.lemmas.List.Elements.{filter_more}
use Rattle.sk_leap.specs.declared.pair.LeapPair.{LeapPair}
use Rattle.sk_leap.specs.Leap.{leap_value}
use Rattle.std.specs.Option.{option_map_or}

pub int_le-true : (a b : ℤ) → a ≤ℤ b → int_le a b ≡ true
int_le-true a b le = grind (arith, ints)

pub int_le-false : (a b : ℤ) → b <ℤ a → int_le a b ≡ false
int_le-false a b later = grind (arith, ints)

pub last_or-push : {A : Type 0} (o : Option A) (xs : List A) (x : A) → last_or o (xs ++ x ∷ []) ≡ Some x
last_or-push o [] x = refl
last_or-push o (y ∷ xs) x = last_or-push (Some y) xs x

append-nil : {A : Type 0} (xs : List A) → xs ++ [] ≡ xs
append-nil [] = refl
append-nil (x ∷ xs) = ap (λ ys. x ∷ ys) (append-nil xs)

abbrev value_in : List LeapPair → ℕ
value_in passing = option_map_or (λ pair. pair.value) (last_or None passing) 0

-- a pair that is not after the day gives the value
pub leap_value_taken : (pairs : List LeapPair) (day : ℤ) (i : ℕ) (d : LeapPair) → i < length pairs → (get_or pairs i d).day ≤ℤ day
    → leap_value (take (i + 1) pairs) day ≡ (get_or pairs i d).value
leap_value_taken pairs day i d in' le =
    let more = filter_more (λ (p : LeapPair). int_le p.day day) pairs i d in' in
    let passes : int_le (get_or pairs i d).day day ≡ true = int_le-true _ _ le in
    let front = filter (λ (p : LeapPair). int_le p.day day) (take i pairs) in
    let e : filter (λ (p : LeapPair). int_le p.day day) (take (i + 1) pairs) ≡ front ++ get_or pairs i d ∷ [] =
    more ∙ ap (λ (b : Bool). front ++ cond b (get_or pairs i d ∷ []) []) passes in
    ap value_in e ∙ ap (λ (o : Option LeapPair). option_map_or (λ p. p.value) o 0) (last_or-push None front (get_or pairs i d))

-- a later one leaves it
pub leap_value_left : (pairs : List LeapPair) (day : ℤ) (i : ℕ) (d : LeapPair) → i < length pairs → day <ℤ (get_or pairs i d).day
    → leap_value (take (i + 1) pairs) day ≡ leap_value (take i pairs) day
leap_value_left pairs day i d in' later =
    let more = filter_more (λ (p : LeapPair). int_le p.day day) pairs i d in' in
    let fails : int_le (get_or pairs i d).day day ≡ false = int_le-false _ _ later in
    let front = filter (λ (p : LeapPair). int_le p.day day) (take i pairs) in
    ap value_in (more ∙ ap (λ (b : Bool). front ++ cond b (get_or pairs i d ∷ []) []) fails ∙ append-nil front)
