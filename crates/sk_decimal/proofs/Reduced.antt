-- What is left of a number without the zeros at its end.
use Rattle.std.proofs.Common.{◌≡◌, ◌≢◌, ℕ, ◌-◌, ◌*◌, ◌/◌, ◌%◌, ◌^◌, ◌<◌, ◌≤◌, zero, suc, Bool, true, false, cond, refl, ap, sym, ◌∙◌, subst, arith, inl, inr}
use Rattle.std.specs.Prelude.{ℤ, pos, negsuc, nat_abs, ◌*ℤ◌, ◌==◌}
use lib.Signed.{lt_z}
use Rattle.std.proofs.lemmas.Bool.{cases_Bool, le-ltb}
use Rattle.std.proofs.lemmas.Nat.{pow-add, mul-le}
use Rattle.sk_decimal.specs.Number.{DecimalView, IsDecimal, signed}
use Rattle.sk_decimal.specs.Fixed.{HasUnits}
use Rattle.sk_decimal.specs.Reading.{reduced}
use Rattle.sk_decimal.proofs.Values.{reduced_value, reduced_last, cancel_ten, ten_pos, nat_abs-signed}
use Rattle.sk_decimal.proofs.Quotients.{neg-mul}

reduced_le : (scale m : ℕ) → (reduced scale m).1 ≤ scale
reduced_le zero m = omega arith
reduced_le (suc scale) m =
    elim (cases_Bool (m % 10 == 0)) [
      | inl whole ↦ subst (λ (b : Bool). (cond b (reduced scale (m / 10)) (m, suc scale)).1 ≤ suc scale) (sym whole) (omega (arith, reduced_le scale (m / 10)))
      | inr rest ↦ subst (λ (b : Bool). (cond b (reduced scale (m / 10)) (m, suc scale)).1 ≤ suc scale) (sym rest) (omega arith)
    ]

-- the size and the scale that are left of m / 10 ^ places
pub record IsReduced (places m size scale : ℕ) : Type 0 where
  pub less : scale ≤ places
  pub value : m ≡ size * 10 ^ (places - scale)
  pub small : size ≤ m
  pub last : 0 < scale → size % 10 ≢ 0

power_split : (places scale : ℕ) → scale ≤ places → 10 ^ places ≡ 10 ^ (places - scale) * 10 ^ scale
power_split places scale le = ap (λ (n : ℕ). 10 ^ n) (omega arith) ∙ pow-add 10 (places - scale) scale

kept_small : (m size k : ℕ) → m ≡ size * 10 ^ k → size ≤ m
kept_small m size k e = omega (arith, e, mul-le size 1 size (10 ^ k) (omega arith) (ten_pos k))

pub reduced_is : (places m size scale : ℕ) → (size, scale) ≡ reduced places m → IsReduced places m size scale
reduced_is places m size scale e =
    let is_size : size ≡ (reduced places m).0 = ap (λ (p : ℕ × ℕ). p.0) e in
    let is_scale : scale ≡ (reduced places m).1 = ap (λ (p : ℕ × ℕ). p.1) e in
    let less : scale ≤ places = omega (arith, is_scale, reduced_le places m) in
    let product : m * 10 ^ scale ≡ size * 10 ^ places = ap (λ (s : ℕ). m * 10 ^ s) is_scale ∙ reduced_value places m ∙ ap (λ (n : ℕ). n * 10 ^ places) (sym is_size) in
    let value : m ≡ size * 10 ^ (places - scale) = cancel_ten m (size * 10 ^ (places - scale)) scale (product ∙ regroup (10 ^ places) (10 ^ (places - scale)) (10 ^ scale) (power_split places scale less)) in
    record {
      less = less;
      value = value;
      small = kept_small m size (places - scale) value;
      last = λ some none. reduced_last places m (omega (arith, is_scale)) (ap (λ (n : ℕ). n % 10) (sym is_size) ∙ none);
    }
  where
    regroup : (p q r : ℕ) → p ≡ q * r → size * p ≡ size * q * r
    regroup p q r h = ap (λ (n : ℕ). size * n) h ∙ omega arith

signed-mul : (negative : Bool) (n k : ℕ) → signed negative n *ℤ pos k ≡ signed negative (n * k)
signed-mul true n k = neg-mul (pos n) k
signed-mul false n k = refl

-- a number is its size with its sign
pub signed_whole : (z : ℤ) → signed (lt_z z (pos 0)) (nat_abs z) ≡ z
signed_whole (pos n) = ap (λ (b : Bool). signed b n) (le-ltb n 0 (omega arith))
signed_whole (negsuc n) = refl

-- what is left with a sign is a decimal
pub is_decimal : (negative : Bool) (places m size scale : ℕ) (z : ℤ) → IsReduced places m size scale → m < 2 ^ 127 → places ≤ 38 → z ≡ signed negative size → IsDecimal (record { coefficient = z; scale = scale })
is_decimal negative places m size scale z left small places_small e =
    let abs : nat_abs z ≡ size = ap nat_abs e ∙ nat_abs-signed negative size in
    record {
      coefficient = omega (arith, abs, left.small);
      scale = omega (arith, left.less);
      reduced = λ some none. left.last some (ap (λ (n : ℕ). n % 10) (sym abs) ∙ none);
    }

-- of the same value
pub has_units : (negative : Bool) (places m size scale : ℕ) (d : DecimalView) → IsReduced places m size scale → d.coefficient ≡ signed negative size → d.scale ≡ scale → HasUnits places d (signed negative m)
has_units negative places m size scale d left is_coefficient is_scale = (
  omega (arith, left.less, is_scale),
  ap (signed negative) left.value ∙ sym (signed-mul negative size (10 ^ (places - scale)))
      ∙ ap (λ (z : ℤ). z *ℤ pos (10 ^ (places - scale))) (sym is_coefficient)
      ∙ ap (λ (s : ℕ). d.coefficient *ℤ pos (10 ^ (places - s))) (sym is_scale),
)
