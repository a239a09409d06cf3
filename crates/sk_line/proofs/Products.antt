-- Products of whole numbers, and powers of ten.
use Rattle.std.proofs.Common.{◌≡◌, ℕ, ◌*◌, ◌<◌, ◌^◌, ap, arith, zero, suc, ◌∙◌, pow-suc}
use Rattle.std.proofs.Math.Nat.{mul_assoc}
use Rattle.std.specs.Prelude.{ℤ, pos, negsuc, neg_ℤ, ◌*ℤ◌}
use Rattle.sk_decimal.proofs.Quotients.{neg-mul}

-- a product with two factors, one after the other
pub twice : (z : ℤ) (a b : ℕ) → (z *ℤ pos a) *ℤ pos b ≡ z *ℤ pos (a * b)
twice (pos n) a b = ap pos (mul_assoc n a b)
twice (negsuc n) a b = neg-mul (pos (suc n * a)) b ∙ ap (λ (x : ℕ). neg_ℤ (pos x)) (mul_assoc (suc n) a b)

pub power_positive : (n : ℕ) → 0 < 10 ^ n
power_positive zero = omega arith
power_positive (suc n) = omega (arith, power_positive n, pow-suc 10 n)
