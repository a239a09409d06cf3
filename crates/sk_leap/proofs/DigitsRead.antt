-- Numbers of digits, read from the left.
use Rattle.std.proofs.Common.{◌≡◌, ℕ, ◌+◌, ◌-◌, ◌*◌, ◌^◌, ◌<◌, ◌≤◌, Bool, true, false, List, [], ◌∷◌, ◌++◌, length, take, get_or, refl, ap, sym, ◌∙◌, subst, arith, lit<, add-one}
use Rattle.std.specs.Char.{is_ascii_digit, digit_value}
use Rattle.std.specs.List.{list_all}
use Rattle.std.specs.Str.Parse.{digits_value}
use Rattle.std.proofs.lemmas.Grind.{common_steps}
use Rattle.std.proofs.lemmas.Bool.{and_parts, and_from, leb-true}
use Rattle.std.proofs.lemmas.List.{take_more, length-take}
use Rattle.std.proofs.lemmas.List.Folds.{list_all-append}
use Rattle.std.proofs.lemmas.Int.Digits.{digits_value_push}
use Rattle.std.proofs.Math.Nat.{pow-suc, pow-le-pow_right, one-le-pow, mul-lt-mul_of_pos_right}
use Rattle.std.proofs.Common.{length-append, pow-add}

-- the bytes are digits, and write this number
pub record IsReadTo (front : List ℕ) (number : ℕ) : Type 0 where
  pub digits : list_all is_ascii_digit front ≡ true
  pub value : number ≡ digits_value 10 front
  pub small : number < 10 ^ length front

pub record IsDigit (byte : ℕ) : Type 0 where
  pub low : 48 ≤ byte
  pub high : byte ≤ 57
  pub value : digit_value byte ≡ byte - 48

pub digit_is : (byte : ℕ) → is_ascii_digit byte ≡ true → IsDigit byte
digit_is byte h =
    let low : 48 ≤ byte = grind (arith, h) in
    let high : byte ≤ 57 = grind (arith, h) in
    record { low = low; high = high; value = grind (arith, low, high) }

pub read_none : IsReadTo [] 0
read_none = record { digits = refl; value = refl; small = lit< tt }

read_push : (front : List ℕ) (number byte : ℕ) → IsReadTo front number → is_ascii_digit byte ≡ true → IsReadTo (front ++ byte ∷ []) (number * 10 + (byte - 48))
read_push front number byte h digit =
    let d = digit_is byte digit in
    let long : length (front ++ byte ∷ []) ≡ length front + 1 = length-append front (byte ∷ []) in
    let power : 10 ^ (length front + 1) ≡ 10 ^ length front * 10 = rw add-one (pow-suc 10 (length front)) in
    let all : list_all is_ascii_digit (front ++ byte ∷ []) ≡ true = list_all-append is_ascii_digit front (byte ∷ []) ∙ and_from _ _ h.digits (and_from _ _ digit refl) in
    let below : number * 10 + (byte - 48) < 10 ^ (length front + 1) = omega (arith, power, h.small, d.high, d.low) in
    record {
      digits = all;
      value = omega (arith, digits_value_push 10 front byte, d.value, h.value);
      small = ap-lt below long;
    }
  where
    ap-lt : number * 10 + (byte - 48) < 10 ^ (length front + 1) → length (front ++ byte ∷ []) ≡ length front + 1 → number * 10 + (byte - 48) < 10 ^ length (front ++ byte ∷ [])
    ap-lt below long = let P : ℕ → Type 0 = λ n. number * 10 + (byte - 48) < 10 ^ n in subst P (sym long) below

-- one more digit
pub read_more : (digits : List ℕ) (i number byte : ℕ) → i < length digits → IsReadTo (take i digits) number → byte ≡ get_or digits i 0 → is_ascii_digit byte ≡ true
    → IsReadTo (take (i + 1) digits) (number * 10 + (byte - 48))
read_more digits i number byte in' h is digit =
    let e : take (i + 1) digits ≡ take i digits ++ byte ∷ [] = take_more digits i 0 in' ∙ ap (λ (b : ℕ). take i digits ++ b ∷ []) (sym is) in
    let P : List ℕ → Type 0 = λ front. IsReadTo front (number * 10 + (byte - 48)) in
    subst P (sym e) (read_push (take i digits) number byte h digit)

-- so far the number is short
pub read_room : (digits : List ℕ) (i number : ℕ) → i < length digits → length digits ≤ 12 → IsReadTo (take i digits) number → number < 10 ^ 11
read_room digits i number in' le h =
    let long : length (take i digits) ≤ 11 = simp length-take (omega arith) in
    let power : 10 ^ length (take i digits) ≤ 10 ^ 11 = pow-le-pow_right (lit< tt) long in
    omega (arith, power, h.small)

-- digits behind a point, brought to twelve places
pub scaled_small : (number len power : ℕ) → number < 10 ^ len → len ≤ 12 → power ≡ 10 ^ (12 - len) → number * power < 10 ^ 12
scaled_small number len power small le is =
    let some : 0 < 10 ^ (12 - len) = one-le-pow (12 - len) 10 (lit< tt) in
    let product : number * 10 ^ (12 - len) < 10 ^ len * 10 ^ (12 - len) = mul-lt-mul_of_pos_right small some in
    let places : len + (12 - len) ≡ 12 = omega arith in
    let all : 10 ^ len * 10 ^ (12 - len) ≡ 10 ^ 12 = sym (pow-add 10 len (12 - len)) ∙ ap (λ (n : ℕ). 10 ^ n) places in
    let scaled : number * power ≡ number * 10 ^ (12 - len) = ap (λ (p : ℕ). number * p) is in
    omega (arith, product, all, scaled)
