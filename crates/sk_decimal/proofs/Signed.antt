-- Laws of signed numbers.
use Rattle.std.proofs.Common.{◌≡◌, ℕ, zero, suc, ◌*◌, refl, ap, ◌∙◌, arith}
use Rattle.std.proofs.lemmas.Int.{ints, by_lt_z}
use Rattle.std.proofs.Math.Nat.{mul-le-mul_right}
use Rattle.std.specs.Prelude.{ℤ, pos, negsuc, neg_ℤ, ◌+ℤ◌, ◌-ℤ◌, ◌*ℤ◌, ◌≤ℤ◌, ◌<ℤ◌}
use borrow.Author.Differences.{le_out, sum_is_lem}

pub ≤ℤ-antisym : (a b : ℤ) → a ≤ℤ b → b ≤ℤ a → a ≡ b
≤ℤ-antisym a b p q = omega (arith, ints)

pub mul-le_right : (a b : ℤ) (d : ℕ) → a ≤ℤ b → (a *ℤ pos d) ≤ℤ (b *ℤ pos d)
mul-le_right a b d p = omega (arith, ints, mul-le-mul_right d (le_out a b p))

pub ≤ℤ-<ℤ : (a b : ℤ) → a ≤ℤ b → b <ℤ a → ⊥
≤ℤ-<ℤ a b p q = omega (arith, ints)

pub <ℤ-or-≤ℤ : (a b : ℤ) → ¬ (a <ℤ b) → b ≤ℤ a
<ℤ-or-≤ℤ a b n = by_lt_z a b (λ h. absurd (n h)) (λ h. h)

pub add-mul : (a b : ℤ) (c : ℕ) → (a +ℤ b) *ℤ pos c ≡ (a *ℤ pos c) +ℤ (b *ℤ pos c)
add-mul a b c = omega (arith, ints, ap (λ (n : ℕ). n * c) (sum_is_lem a b))

pub sub-mul : (a b : ℤ) (c : ℕ) → (a -ℤ b) *ℤ pos c ≡ (a *ℤ pos c) -ℤ (b *ℤ pos c)
sub-mul a b c = add-mul a (neg_ℤ b) c ∙ ap (λ (x : ℤ). (a *ℤ pos c) +ℤ x) (neg-mul b c)
  where
    neg-mul : (q : ℤ) (d : ℕ) → neg_ℤ q *ℤ pos d ≡ neg_ℤ (q *ℤ pos d)
    neg-mul (pos zero) d = omega (arith, ints)
    neg-mul (pos (suc n)) d = refl
    neg-mul (negsuc n) d = omega (arith, ints)
