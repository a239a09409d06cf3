-- Numbers of few digits.
use Rattle.std.proofs.Common.{◌≡◌, ℕ, ◌+◌, ◌-◌, ◌*◌, ◌%◌, ◌^◌, ◌<◌, ◌≤◌, suc, Bool, List, length, get_or, drop, drop-cons, ap, sym, ◌∙◌, arith, Some}
use Rattle.std.specs.Prelude.{ℤ, nat_abs}
use Rattle.std.specs.Char.{digit_value}
use Rattle.std.specs.Str.Parse.{digits_value_after}
use Rattle.std.proofs.Math.Nat.{one-le-pow}
use Rattle.std.proofs.lemmas.Nat.{mul-le, pow-add}
use Rattle.sk_decimal.specs.Number.{DecimalView, Numeral, signed}
use Rattle.sk_decimal.specs.Reading.{decimal_of}
use Rattle.sk_decimal.specs.Significant.{IsPlaced}
use Rattle.sk_decimal.proofs.Deciding.{placed_is, number_of_digits}
use Rattle.sk_decimal.proofs.Reduced.{IsReduced, is_decimal}
use Rattle.sk_decimal.proofs.Values.{nat_abs-signed}
use Rattle.sk_decimal.proofs.Wide.{pow_le, power_step}

-- one more digit, and room for the others
pub room_left : (value digit left most : ℕ) → digit < 10 → (value + 1) * 10 ^ (left + 1) ≤ most → (value * 10 + digit + 1) * 10 ^ left ≤ most
room_left value digit left most small room =
    let more : (value * 10 + digit + 1) * 10 ^ left ≤ (value + 1) * 10 * 10 ^ left = mul-le (value * 10 + digit + 1) (10 ^ left) ((value + 1) * 10) (10 ^ left) (omega arith) (omega arith) in
    let step : (value + 1) * 10 ^ (left + 1) ≡ (value + 1) * 10 * 10 ^ left = power_step (value + 1) left ∙ regroup (value + 1) (10 ^ left) in
    omega (arith, more, step, room)
  where
    regroup : (a p : ℕ) → a * p * 10 ≡ a * 10 * p
    regroup a p = omega arith

-- where room is left, one digit more does not pass 18
pub digit_fits : (value left most : ℕ) → (value + 1) * 10 ^ (left + 1) ≤ most → most ≤ 10 ^ 18 → (value + 1) * 10 ≤ 10 ^ 18
digit_fits value left most room bound =
    let some : 1 ≤ 10 ^ left = one-le-pow left 10 (omega arith) in
    let more : (value + 1) * 10 * 1 ≤ (value + 1) * 10 * 10 ^ left = mul-le ((value + 1) * 10) 1 ((value + 1) * 10) (10 ^ left) (omega arith) some in
    let step : (value + 1) * 10 ^ (left + 1) ≡ (value + 1) * 10 * 10 ^ left = power_step (value + 1) left ∙ regroup (value + 1) (10 ^ left) in
    omega (arith, more, step, room, bound)
  where
    regroup : (a p : ℕ) → a * p * 10 ≡ a * 10 * p
    regroup a p = omega arith

-- digits behind few digits
pub both_few : (value front behind : ℕ) → value + 1 ≤ (0 + 1) * 10 ^ front → front + behind ≤ 18 → (value + 1) * 10 ^ behind ≤ 10 ^ 18
both_few value front behind few sum =
    let more : (value + 1) * 10 ^ behind ≤ 10 ^ front * 10 ^ behind = mul-le (value + 1) (10 ^ behind) (10 ^ front) (10 ^ behind) (omega (arith, few)) (omega arith) in
    omega (arith, more, pow-add 10 front behind, pow_le (front + behind) 18 sum)

-- the decimal with reduced places
pub placed_down : (negative : Bool) (k raise lower size scale : ℕ) (v : DecimalView) → raise ≤ lower → lower ≤ 36 → k < 2 ^ 127 → IsReduced (lower - raise) k size scale → v.coefficient ≡ signed negative size → v.scale ≡ scale → IsPlaced negative k raise lower v
placed_down negative k raise lower size scale v order few narrow left coefficient scaled =
    let abs_is : nat_abs v.coefficient ≡ size = ap nat_abs coefficient ∙ nat_abs-signed negative size in
    let places = lower - raise in
    let sum : lower ≡ (places - scale) + (raise + scale) = omega (arith, left.less) in
    let split : size * 10 ^ lower ≡ size * 10 ^ (places - scale) * 10 ^ (raise + scale) = ap (λ (n : ℕ). size * 10 ^ n) sum ∙ ap (λ (n : ℕ). size * n) (pow-add 10 (places - scale) (raise + scale)) ∙ regroup size (10 ^ (places - scale)) (10 ^ (raise + scale)) in
    record {
      decimal = record {
        coefficient = omega (arith, abs_is, left.small, narrow);
        scale = omega (arith, left.less, scaled);
        reduced = λ some none. left.last (omega (arith, scaled, some)) (ap (λ (n : ℕ). n % 10) (sym abs_is) ∙ none);
      };
      sign = coefficient ∙ ap (signed negative) (sym abs_is);
      size = ap (λ (n : ℕ). k * 10 ^ (raise + n)) scaled ∙ ap (λ (n : ℕ). n * 10 ^ (raise + scale)) left.value ∙ sym split ∙ ap (λ (n : ℕ). n * 10 ^ lower) (sym abs_is);
    }
  where
    regroup : (a b c : ℕ) → a * (b * c) ≡ a * b * c
    regroup a b c = omega arith

-- what is placed is the numeral's decimal
pub short_is : (n : Numeral) (d : DecimalView) (size raise lower : ℕ) → size ≡ number_of_digits n → raise ≡ n.up → lower ≡ n.down + length n.fraction → IsPlaced n.negative size raise lower d → decimal_of n ≡ Some d
short_is n d size raise lower is up down p =
    placed_is n size 0 d (sym is ∙ once) (record { decimal = p.decimal; sign = p.sign; size = ap (λ (r : ℕ). size * 10 ^ (r + d.scale)) (sym none ∙ sym up) ∙ p.size ∙ ap (λ (l : ℕ). nat_abs d.coefficient * 10 ^ l) down })
  where
    once : size ≡ size * 10 ^ 0
    once = omega arith

    none : n.up ≡ 0 + n.up
    none = omega arith

-- one more digit of the number
pub one_more : (front value digit i : ℕ) (digits : List ℕ) → i < length digits → digit ≡ digit_value (get_or digits i 0) → digits_value_after 10 front digits ≡ digits_value_after 10 value (drop i digits) → digits_value_after 10 front digits ≡ digits_value_after 10 (value * 10 + digit) (drop (i + 1) digits)
one_more front value digit i digits within is so =
    let next : suc i ≡ i + 1 = omega arith in
    so ∙ ap (digits_value_after 10 value) (drop-cons digits i 0 within)
    ∙ ap (λ (d : ℕ). digits_value_after 10 (value * 10 + d) (drop (suc i) digits)) (sym is)
    ∙ ap (λ (n : ℕ). digits_value_after 10 (value * 10 + digit) (drop n digits)) next
