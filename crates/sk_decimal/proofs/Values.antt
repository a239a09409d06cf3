-- The decimal that has a value is the one that is computed.
use Rattle.std.proofs.Common.{◌≡◌, ◌≢◌, ℕ, ◌+◌, ◌-◌, ◌*◌, ◌/◌, ◌%◌, ◌^◌, ◌<◌, ◌≤◌, zero, suc, Bool, true, false, ◌&&◌, ◌++◌, length, refl, ap, sym, ◌∙◌, arith, inl, inr, subst, Some, None}
use Rattle.std.specs.Prelude.{◌==◌, nat_lt, nat_le, nat_abs}
use Rattle.std.proofs.lemmas.Bool.{cases_Bool, eqb-true, eqb-false, cases_lt, and_from, and_parts, lt-ltb, le-leb, ltb-true, leb-true}
use Rattle.std.proofs.lemmas.Nat.{pow-add}
use Rattle.std.proofs.Math.Nat.{pow-suc, mul-div_cancel, one-le-pow}
use Rattle.std.specs.Str.Parse.{digits_value}
use Rattle.sk_decimal.specs.Number.{DecimalView, IsDecimal, HasValue, Numeral, signed}
use Rattle.sk_decimal.specs.Reading.{reduced, bounded, decimal_of}

pub ten_pos : (n : ℕ) → 0 < 10 ^ n
ten_pos n = one-le-pow n 10 (omega arith)

pub cancel_ten : (a b n : ℕ) → a * 10 ^ n ≡ b * 10 ^ n → a ≡ b
cancel_ten a b n h = sym (mul-div_cancel a (ten_pos n)) ∙ ap (λ (x : ℕ). x / 10 ^ n) h ∙ mul-div_cancel b (ten_pos n)

tens : (m x : ℕ) → (m * (x * 10)) % 10 ≡ 0
tens m x = omega arith

ten_mod : (m e : ℕ) → (m * 10 ^ suc e) % 10 ≡ 0
ten_mod m e = rw (pow-suc 10 e) (tens m (10 ^ e))

tenfold : (m q t m' p : ℕ) → m ≡ q * 10 → q * t ≡ m' * p → m * t ≡ m' * (p * 10)
tenfold m q t m' p m_is h = rw m_is (omega (arith, h))

whole_tens : (m : ℕ) → m % 10 ≡ 0 → m ≡ m / 10 * 10
whole_tens m h = omega arith

pub reduced_value : (scale m : ℕ) → m * 10 ^ (reduced scale m).1 ≡ (reduced scale m).0 * 10 ^ scale
reduced_value zero m = refl
reduced_value (suc scale) m =
    elim (cases_Bool (m % 10 == 0)) [
      | inl tens_is ↦
          rw (tens_is, pow-suc 10 scale) (tenfold m (m / 10) (10 ^ (reduced scale (m / 10)).1) (reduced scale (m / 10)).0 (10 ^ scale) (whole_tens m (eqb-true (m % 10) 0 tens_is)) (reduced_value scale (m / 10)))
      | inr other ↦ rw other refl
    ]

pub reduced_last : (scale m : ℕ) → 0 < (reduced scale m).1 → (reduced scale m).0 % 10 ≡ 0 → ⊥
reduced_last zero m some tens_is = omega arith
reduced_last (suc scale) m some tens_is =
    elim (cases_Bool (m % 10 == 0)) [
      | inl more ↦ reduced_last scale (m / 10) (rw more at some) (rw more at tens_is)
      | inr other ↦ eqb-false (m % 10) 0 other (rw other at tens_is)
    ]

further_form : (m d s e c c' : ℕ) → m * 10 ^ s ≡ c * 10 ^ d → m * 10 ^ (s + e) ≡ c' * 10 ^ d → c * 10 ^ e ≡ c'
further_form m d s e c c' h h' =
    let more : m * 10 ^ (s + e) ≡ (m * 10 ^ s) * 10 ^ e = rw (pow-add 10 s e) (omega arith) in
    let same : (c * 10 ^ e) * 10 ^ d ≡ (c * 10 ^ d) * 10 ^ e = omega arith in
    cancel_ten (c * 10 ^ e) c' d (same ∙ ap (λ (x : ℕ). x * 10 ^ e) (sym h) ∙ sym more ∙ h')

no_further : (m d s c c' e : ℕ) → m * 10 ^ s ≡ c * 10 ^ d → m * 10 ^ (s + e) ≡ c' * 10 ^ d → (0 < s + e → c' % 10 ≢ 0) → (e ≡ 0) × (c ≡ c')
no_further m d s c c' zero h h' r = (refl, (omega arith) ∙ further_form m d s 0 c c' h h')
no_further m d s c c' (suc e) h h' r = absurd (r (omega arith) (ap (λ (x : ℕ). x % 10) (sym (further_form m d s (suc e) c c' h h')) ∙ ten_mod c e))

-- one value has one reduced form
pub one_form : (m d s c s' c' : ℕ) → m * 10 ^ s ≡ c * 10 ^ d → m * 10 ^ s' ≡ c' * 10 ^ d → (0 < s → c % 10 ≢ 0) → (0 < s' → c' % 10 ≢ 0) → (s ≡ s') × (c ≡ c')
one_form m d s c s' c' h h' r r' =
    elim (cases_lt s s') [
      | inl less ↦
          let e = s' - s in
          let sum : s' ≡ s + e = omega arith in
          let none = no_further m d s c c' e h (subst (λ (x : ℕ). m * 10 ^ x ≡ c' * 10 ^ d) sum h') (subst (λ (x : ℕ). 0 < x → c' % 10 ≢ 0) sum r') in
          absurd (omega (arith, none.0))
      | inr most ↦
          let e = s - s' in
          let sum : s ≡ s' + e = omega arith in
          let none = no_further m d s' c' c e h' (subst (λ (x : ℕ). m * 10 ^ x ≡ c * 10 ^ d) sum h) (subst (λ (x : ℕ). 0 < x → c % 10 ≢ 0) sum r) in
          (omega (arith, none.0), sym none.1)
    ]

pub nat_abs-signed : (negative : Bool) (n : ℕ) → nat_abs (signed negative n) ≡ n
nat_abs-signed true zero = refl
nat_abs-signed true (suc n) = refl
nat_abs-signed false n = refl

pub same_decimal : (a b : DecimalView) → a.coefficient ≡ b.coefficient → a.scale ≡ b.scale → a ≡ b
same_decimal a b c s = λ i. record { coefficient = c i; scale = s i }

-- what the bounds let through
pub record Within (negative : Bool) (part : ℕ × ℕ) (d : DecimalView) : Type 0 where
  pub narrow : part.0 < 2 ^ 127
  pub short : part.1 ≤ 38
  pub is : record { coefficient = signed negative part.0; scale = part.1 } ≡ d

bounded_some : (negative : Bool) (part : ℕ × ℕ) (d : DecimalView) → bounded negative part ≡ Some d → Within negative part d
bounded_some negative part d h =
    elim (cases_Bool (nat_lt part.0 (2 ^ 127) && nat_le part.1 38)) [
      | inl within ↦
          let both = and_parts (nat_lt part.0 (2 ^ 127)) (nat_le part.1 38) within in
          record { narrow = ltb-true _ _ both.0; short = leb-true _ _ both.1; is = let h' : Some (record { coefficient = signed negative part.0; scale = part.1 }) ≡ Some d = rw within at h in cc h' }
      | inr outside ↦ absurd (let h' : None ≡ Some d = rw outside at h in cc h')
    ]

bounded_is : (negative : Bool) (part : ℕ × ℕ) (d : DecimalView) → Within negative part d → bounded negative part ≡ Some d
bounded_is negative part d w =
    let test : (nat_lt part.0 (2 ^ 127) && nat_le part.1 38) ≡ true = and_from _ _ (lt-ltb _ _ w.narrow) (le-leb _ _ w.short) in
    rw test (ap (λ (x : DecimalView). Some x) w.is)

scaled : (n up s c d : ℕ) → n * 10 ^ (up + s) ≡ c * 10 ^ d → n * 10 ^ up * 10 ^ s ≡ c * 10 ^ d
scaled n up s c d h = let split : n * 10 ^ (up + s) ≡ n * 10 ^ up * 10 ^ s = rw (pow-add 10 up s) (omega arith) in sym split ∙ h

unscaled : (n up s c d : ℕ) → n * 10 ^ up * 10 ^ s ≡ c * 10 ^ d → n * 10 ^ (up + s) ≡ c * 10 ^ d
unscaled n up s c d h = let split : n * 10 ^ (up + s) ≡ n * 10 ^ up * 10 ^ s = rw (pow-add 10 up s) (omega arith) in split ∙ h

-- what is computed has the value
pub decimal_has : (n : Numeral) (d : DecimalView) → decimal_of n ≡ Some d → IsDecimal d × HasValue n d
decimal_has n d h =
    let number = digits_value 10 (n.whole ++ n.fraction) in
    let below = n.down + length n.fraction in
    let part = reduced below (number * 10 ^ n.up) in
    let w = bounded_some n.negative part d h in
    let abs_is : nat_abs d.coefficient ≡ part.0 = ap (λ (x : DecimalView). nat_abs x.coefficient) (sym w.is) ∙ nat_abs-signed n.negative part.0 in
    let scale_is : d.scale ≡ part.1 = ap (λ (x : DecimalView). x.scale) (sym w.is) in (
      record {
        coefficient = omega (arith, abs_is, w.narrow);
        scale = omega (arith, scale_is, w.short);
        reduced = λ some tens_is. reduced_last below (number * 10 ^ n.up) (omega (arith, scale_is, some)) (ap (λ (x : ℕ). x % 10) (sym abs_is) ∙ tens_is);
      },
      record {
        sign = ap (λ (x : DecimalView). x.coefficient) (sym w.is) ∙ ap (signed n.negative) (sym abs_is);
        size = unscaled number n.up d.scale (nat_abs d.coefficient) below
            (ap (λ (x : ℕ). number * 10 ^ n.up * 10 ^ x) scale_is ∙ reduced_value below (number * 10 ^ n.up) ∙ ap (λ (x : ℕ). x * 10 ^ below) (sym abs_is));
      },
    )

-- what has the value is computed
pub decimal_is : (n : Numeral) (d : DecimalView) → IsDecimal d → HasValue n d → decimal_of n ≡ Some d
decimal_is n d is_decimal value =
    let number = digits_value 10 (n.whole ++ n.fraction) in
    let below = n.down + length n.fraction in
    let part = reduced below (number * 10 ^ n.up) in
    let form = one_form (number * 10 ^ n.up) below part.1 part.0 d.scale (nat_abs d.coefficient) (reduced_value below (number * 10 ^ n.up)) (scaled number n.up d.scale (nat_abs d.coefficient) below value.size) (reduced_last below (number * 10 ^ n.up)) is_decimal.reduced in
    bounded_is n.negative part d (record {
      narrow = omega (arith, form.1, is_decimal.coefficient);
      short = omega (arith, form.0, is_decimal.scale);
      is = same_decimal _ d (ap (signed n.negative) form.1 ∙ sym value.sign) form.0;
    })
