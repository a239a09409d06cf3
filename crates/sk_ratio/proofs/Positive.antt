-- Products of numbers above 0, and sums that fit.
use Rattle.std.proofs.Common.{◌≡◌, ℕ, ◌*◌, ◌<◌, ◌^◌, sym, subst, arith}
use Rattle.std.specs.Prelude.{ℤ, pos, negsuc, ◌+ℤ◌, ◌*ℤ◌, ◌<ℤ◌}
use Rattle.sk_decimal.specs.Fixed.{FitsWide}
use Rattle.std.proofs.Math.Nat.{one-le-pow}
use Rattle.std.proofs.lemmas.Int.{ints}
use Rattle.std.proofs.lemmas.Nat.{mul-le}

pub product_positive : (a b c : ℤ) → pos 0 <ℤ a → pos 0 <ℤ b → c ≡ a *ℤ b → pos 0 <ℤ c
product_positive (pos a) (pos b) c p q e = subst (λ (z : ℤ). pos 0 <ℤ z) (sym e) (above (omega (arith, ints)) (omega (arith, ints)))
  where
    above : 0 < a → 0 < b → pos 0 <ℤ pos (a * b)
    above m n = omega (arith, ints, mul-le 1 1 a b m n)
product_positive (pos a) (negsuc b) c p q e = absurd (omega (arith, ints))
product_positive (negsuc a) b c p q e = absurd (omega (arith, ints))

pub power_positive : (k : ℕ) → pos 0 <ℤ pos (10 ^ k)
power_positive k = omega (arith, ints, one-le-pow k 10 (omega arith))

-- a sum of the same numbers fits too
pub sum_fits : {x y p q : ℤ} → p ≡ x → q ≡ y → FitsWide (x +ℤ y) → FitsWide (p +ℤ q)
sum_fits {x} {y} {p} {q} e f fits = subst (λ (z : ℤ). FitsWide (z +ℤ q)) (sym e) (subst (λ (z : ℤ). FitsWide (x +ℤ z)) (sym f) fits)
