-- Decimals as numbers of units.
use Rattle.std.proofs.Common.{◌≡◌, ℕ, suc, ◌+◌, ◌-◌, ◌*◌, ◌<◌, ◌≤◌, ◌^◌, sym, ap, subst, inl, inr, arith, ◌∙◌}
use Rattle.std.proofs.lemmas.Int.{ints, by_lt_z, unsigned_abs-mul, fits_signed_from_abs}
use Rattle.std.proofs.lemmas.Nat.{pow-add}
use Rattle.std.proofs.lemmas.Bool.{cases_lt}
use Rattle.std.proofs.Math.Nat.{mul-le-mul_right, mul_assoc, mul_comm, one-le-mul, one-mul, zero-mul}
use Rattle.std.specs.Prelude.{ℤ, pos, negsuc, neg_ℤ, ◌+ℤ◌, ◌*ℤ◌, ◌≤ℤ◌, ◌<ℤ◌, nat_abs}
use Rattle.std.specs.Int.{w128}
use Rattle.sk_decimal.specs.Number.{DecimalView}
use Rattle.sk_decimal.specs.Fixed.{FitsWide, units_of}
use Rattle.sk_triples.specs.Coefficients.{IsLess, HasSizeUpTo, IsRowTime, Seconds, IsRowRate}
use Rattle.sk_decimal.proofs.Signed.{mul-le_right, ≤ℤ-<ℤ, add-mul}
use Rattle.sk_line.proofs.Products.{power_positive, twice}

-- ten to a scale and to what is left of eighteen
pub power_left : (scale : ℕ) → scale ≤ 18 → 10 ^ scale * 10 ^ (18 - scale) ≡ 10 ^ 18
power_left scale h = let e : scale + (18 - scale) ≡ 18 = omega arith in sym (pow-add 10 scale (18 - scale)) ∙ ap (λ (k : ℕ). 10 ^ k) e

cancel : (a b k : ℕ) → 0 < k → a * k ≤ b * k → a ≤ b
cancel a b k h p = elim (cases_lt b a) [ inl q ↦ absurd (above q) | inr q ↦ q ]
  where
    above : b < a → ⊥
    above q = let more : suc b * k ≤ a * k = mul-le-mul_right k q in omega arith

-- how large the units are
units_size : (d : DecimalView) → nat_abs (units_of 18 d) ≡ nat_abs d.coefficient * 10 ^ (18 - d.scale)
units_size d = unsigned_abs-mul d.coefficient (pos (10 ^ (18 - d.scale)))

most_units : (n : ℕ) (d : DecimalView) → d.scale ≤ 18 → n * 10 ^ d.scale * 10 ^ (18 - d.scale) ≡ n * 10 ^ 18
most_units n d h = mul_assoc n (10 ^ d.scale) (10 ^ (18 - d.scale)) ∙ ap (λ (k : ℕ). n * k) (power_left d.scale h)

pub small_units : (n : ℕ) (d : DecimalView) → d.scale ≤ 18 → HasSizeUpTo n d → nat_abs (units_of 18 d) ≤ n * 10 ^ 18
small_units n d h s =
    let more : nat_abs d.coefficient * 10 ^ (18 - d.scale) ≤ n * 10 ^ d.scale * 10 ^ (18 - d.scale) = mul-le-mul_right (10 ^ (18 - d.scale)) s in
    omega (arith, units_size d, most_units n d h)

pub small_size : (n : ℕ) (d : DecimalView) → d.scale ≤ 18 → nat_abs (units_of 18 d) ≤ n * 10 ^ 18 → HasSizeUpTo n d
small_size n d h s =
    cancel (nat_abs d.coefficient) (n * 10 ^ d.scale) (10 ^ (18 - d.scale)) (power_positive (18 - d.scale)) (omega (arith, units_size d, most_units n d h))

-- what no i128 holds is no time and no rate
pub small_fits : (n : ℕ) (d : DecimalView) → n ≤ 10 ^ 10 → d.scale ≤ 18 → HasSizeUpTo n d → FitsWide (units_of 18 d)
small_fits n d few h s = fits_signed_from_abs w128 (units_of 18 d) (let le = small_units n d h s in omega arith)

-- ---- signs

times_less : (a b : ℤ) (k : ℕ) → 0 < k → a <ℤ b → (a *ℤ pos k) <ℤ (b *ℤ pos k)
times_less a b k h p =
    let more : ((a +ℤ pos 1) *ℤ pos k) ≤ℤ (b *ℤ pos k) = mul-le_right (a +ℤ pos 1) b k (next a b p) in
    let one : pos 1 *ℤ pos k ≡ pos k = ap (λ (n : ℕ). pos n) (one-mul k) in
    close (a *ℤ pos k) (b *ℤ pos k) ((a +ℤ pos 1) *ℤ pos k) (add-mul a (pos 1) k ∙ ap (λ (x : ℤ). (a *ℤ pos k) +ℤ x) one) more
  where
    next : (a b : ℤ) → a <ℤ b → (a +ℤ pos 1) ≤ℤ b
    next a b p = omega (arith, ints)

    close : (x y z : ℤ) → z ≡ x +ℤ pos k → z ≤ℤ y → x <ℤ y
    close x y z e q = omega (arith, ints)

by_less : (a b : ℤ) (k : ℕ) → (a *ℤ pos k) <ℤ (b *ℤ pos k) → a <ℤ b
by_less a b k p = by_lt_z a b (λ q. q) (λ q. absurd (≤ℤ-<ℤ (b *ℤ pos k) (a *ℤ pos k) (mul-le_right b a k q) p))

nothing : (k : ℕ) → pos 0 *ℤ pos k ≡ pos 0
nothing k = ap (λ (n : ℕ). pos n) (zero-mul k)

times_positive : (z : ℤ) (k : ℕ) → 0 < k → pos 0 <ℤ z → pos 0 <ℤ (z *ℤ pos k)
times_positive z k h p = subst (λ (x : ℤ). x <ℤ (z *ℤ pos k)) (nothing k) (times_less (pos 0) z k h p)

by_positive : (z : ℤ) (k : ℕ) → pos 0 <ℤ (z *ℤ pos k) → pos 0 <ℤ z
by_positive z k p = by_less (pos 0) z k (subst (λ (x : ℤ). x <ℤ (z *ℤ pos k)) (sym (nothing k)) p)

-- a number above 0 times a power is above 0, and only such a number
pub positive_units : (d : DecimalView) → pos 0 <ℤ d.coefficient → pos 0 <ℤ units_of 18 d
positive_units d h = times_positive d.coefficient (10 ^ (18 - d.scale)) (power_positive (18 - d.scale)) h

pub positive_number : (d : DecimalView) → pos 0 <ℤ units_of 18 d → pos 0 <ℤ d.coefficient
positive_number d h = by_positive d.coefficient (10 ^ (18 - d.scale)) h

-- ---- times and rates

pub no_time : (d : DecimalView) → ¬ ((d.scale ≤ 18) × FitsWide (units_of 18 d)) → ¬ IsRowTime (Seconds d)
no_time d none h = none (h.0, small_fits (10 ^ 10) d (omega arith) h.0 h.1)

pub no_rate : (d : DecimalView) → ¬ ((d.scale ≤ 18) × FitsWide (units_of 18 d)) → ¬ IsRowRate d
no_rate d none h = none (h.0, small_fits 1000 d (omega arith) h.0 h.1)

pub is_time : (d : DecimalView) → d.scale ≤ 18 → nat_abs (units_of 18 d) ≤ 10 ^ 28 → IsRowTime (Seconds d)
is_time d h s = (h, small_size (10 ^ 10) d h s)

pub large_time : (d : DecimalView) → d.scale ≤ 18 → 10 ^ 28 < nat_abs (units_of 18 d) → ¬ IsRowTime (Seconds d)
large_time d h s r = let most : nat_abs (units_of 18 d) ≤ 10 ^ 28 = small_units (10 ^ 10) d h r.1 in omega arith

abs_of : (z : ℤ) (n : ℕ) → pos 0 <ℤ z → z ≤ℤ pos n → nat_abs z ≤ n
abs_of (pos m) n p q = omega (arith, ints)
abs_of (negsuc m) n p q = absurd (omega (arith, ints))

abs_within : (z : ℤ) (n : ℕ) → nat_abs z ≤ n → z ≤ℤ pos n
abs_within (pos m) n p = omega (arith, ints)
abs_within (negsuc m) n p = omega (arith, ints)

pub is_rate : (d : DecimalView) → d.scale ≤ 18 → pos 0 <ℤ units_of 18 d → units_of 18 d ≤ℤ pos (1000 * 10 ^ 18) → IsRowRate d
is_rate d h p q = (h, small_size 1000 d h (abs_of (units_of 18 d) (1000 * 10 ^ 18) p q), positive_number d p)

pub low_rate : (d : DecimalView) → units_of 18 d ≤ℤ pos 0 → ¬ IsRowRate d
low_rate d p r = let some = positive_units d r.2 in apart (units_of 18 d) some p
  where
    apart : (z : ℤ) → pos 0 <ℤ z → z ≤ℤ pos 0 → ⊥
    apart z p q = omega (arith, ints)

pub large_rate : (d : DecimalView) → d.scale ≤ 18 → pos (1000 * 10 ^ 18) <ℤ units_of 18 d → ¬ IsRowRate d
large_rate d h p r = apart (units_of 18 d) (abs_within (units_of 18 d) (1000 * 10 ^ 18) (small_units 1000 d h r.1)) p
  where
    apart : (z : ℤ) → z ≤ℤ pos (1000 * 10 ^ 18) → pos (1000 * 10 ^ 18) <ℤ z → ⊥
    apart z p q = omega (arith, ints)

pub abs_from : (z : ℤ) (n : ℕ) → nat_abs z ≤ n → neg_ℤ (pos n) ≤ℤ z
abs_from (pos m) n p = omega (arith, ints)
abs_from (negsuc m) n p = omega (arith, ints)

pub abs_to : (z : ℤ) (n : ℕ) → nat_abs z ≤ n → z ≤ℤ pos n
abs_to z n p = abs_within z n p
