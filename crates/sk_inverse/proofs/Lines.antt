-- The line of a triple with a rate above 0 rises.
use Rattle.std.proofs.Common.{◌≡◌, ℕ, zero, suc, ◌-◌, ◌<◌, ◌≤◌, sym, subst, arith}
use Rattle.std.proofs.lemmas.Int.{ints}
use Rattle.std.proofs.Math.Nat.{mul-le-mul_right}
use Rattle.std.specs.Prelude.{ℤ, pos, negsuc, ◌+ℤ◌, ◌-ℤ◌, ◌*ℤ◌, ◌≤ℤ◌, ◌<ℤ◌}
use Rattle.sk_decimal.proofs.Signed.{sub-mul}
use Rattle.sk_line.specs.Triple.{TripleView}
use Rattle.sk_line.specs.Line.{line_over}

pub gain_up : (rate : ℤ) (a b : ℕ) → pos 0 <ℤ rate → a < b → (rate *ℤ pos a) <ℤ (rate *ℤ pos b)
gain_up (pos zero) a b p q = absurd (omega (arith, ints, p))
gain_up (pos (suc r)) a b p q = omega (arith, ints, mul-le-mul_right (suc r) q)
gain_up (negsuc r) a b p q = absurd (omega (arith, ints, p))

pub gain_level : (rate : ℤ) (a b : ℕ) → pos 0 <ℤ rate → a ≤ b → (rate *ℤ pos a) ≤ℤ (rate *ℤ pos b)
gain_level (pos zero) a b p q = absurd (omega (arith, ints, p))
gain_level (pos (suc r)) a b p q = omega (arith, ints, mul-le-mul_right (suc r) q)
gain_level (negsuc r) a b p q = absurd (omega (arith, ints, p))

pub gain_some : (rate : ℤ) (a : ℕ) → pos 0 <ℤ rate → pos 0 ≤ℤ (rate *ℤ pos a)
gain_some (pos zero) a p = absurd (omega (arith, ints, p))
gain_some (pos (suc r)) a p = omega (arith, ints)
gain_some (negsuc r) a p = absurd (omega (arith, ints, p))

-- times of so many ticks per count keep their order
pub counts_up : (a b : ℤ) (n : ℕ) → 0 < n → a <ℤ b → (a *ℤ pos n) <ℤ (b *ℤ pos n)
counts_up a b n some less = moved _ _ _ (sub-mul b a n) (positive (b -ℤ a) n some (apart a b less))
  where
    apart : (a b : ℤ) → a <ℤ b → pos 0 <ℤ (b -ℤ a)
    apart a b p = omega (arith, ints)

    moved : (x y z : ℤ) → z ≡ (y -ℤ x) → pos 0 <ℤ z → x <ℤ y
    moved x y z e p = omega (arith, ints, p, e)

    positive : (z : ℤ) (n : ℕ) → 0 < n → pos 0 <ℤ z → pos 0 <ℤ (z *ℤ pos n)
    positive (pos zero) n q p = absurd (omega (arith, ints, p))
    positive (pos (suc z)) n q p = omega (arith, ints)
    positive (negsuc z) n q p = absurd (omega (arith, ints, p))

module _ (per_count : ℕ) (triple : TripleView) (positive : pos 0 <ℤ triple.rate) where
  abbrev pub line : ℕ → ℤ
  line tick = line_over per_count triple.anchor triple.rate tick

  pub line_up : (m n : ℕ) → triple.anchor.ticks ≤ m → m < n → line m <ℤ line n
  line_up m n from up = more (triple.anchor.time *ℤ pos per_count) _ _ (gain_up triple.rate (m - triple.anchor.ticks) (n - triple.anchor.ticks) positive (omega arith))
    where
      more : (a b c : ℤ) → b <ℤ c → (a +ℤ b) <ℤ (a +ℤ c)
      more a b c p = omega (arith, ints)

  -- it is not before the triple's time
  pub line_from : (m : ℕ) → (triple.anchor.time *ℤ pos per_count) ≤ℤ line m
  line_from m = more (triple.anchor.time *ℤ pos per_count) _ (gain_some triple.rate (m - triple.anchor.ticks) positive)
    where
      more : (a b : ℤ) → pos 0 ≤ℤ b → a ≤ℤ (a +ℤ b)
      more a b p = omega (arith, ints)

  -- it is after a time exactly where it gains more than has elapsed
  pub by_elapsed : (time : ℤ) (tick : ℕ) → ((time -ℤ triple.anchor.time) *ℤ pos per_count) <ℤ (triple.rate *ℤ pos (tick - triple.anchor.ticks))
      → (time *ℤ pos per_count) <ℤ line tick
  by_elapsed time tick less = more _ _ _ (subst (λ (x : ℤ). x <ℤ (triple.rate *ℤ pos (tick - triple.anchor.ticks))) (sub-mul time triple.anchor.time per_count) less)
    where
      more : (a b c : ℤ) → (a -ℤ b) <ℤ c → a <ℤ (b +ℤ c)
      more a b c p = omega (arith, ints)

  pub within_elapsed : (time : ℤ) (tick : ℕ) → (triple.rate *ℤ pos (tick - triple.anchor.ticks)) ≤ℤ ((time -ℤ triple.anchor.time) *ℤ pos per_count)
      → line tick ≤ℤ (time *ℤ pos per_count)
  within_elapsed time tick most = more _ _ _ (subst (λ (x : ℤ). (triple.rate *ℤ pos (tick - triple.anchor.ticks)) ≤ℤ x) (sub-mul time triple.anchor.time per_count) most)
    where
      more : (a b c : ℤ) → c ≤ℤ (a -ℤ b) → (b +ℤ c) ≤ℤ a
      more a b c p = omega (arith, ints)

  pub past_elapsed : (time : ℤ) (tick : ℕ) → (triple.rate *ℤ pos (tick - triple.anchor.ticks)) <ℤ ((time -ℤ triple.anchor.time) *ℤ pos per_count)
      → line tick <ℤ (time *ℤ pos per_count)
  past_elapsed time tick less = more _ _ _ (subst (λ (x : ℤ). (triple.rate *ℤ pos (tick - triple.anchor.ticks)) <ℤ x) (sub-mul time triple.anchor.time per_count) less)
    where
      more : (a b c : ℤ) → c <ℤ (a -ℤ b) → (b +ℤ c) <ℤ a
      more a b c p = omega (arith, ints)

  pub elapsed_past : (time : ℤ) (tick : ℕ) → line tick <ℤ (time *ℤ pos per_count)
      → (triple.rate *ℤ pos (tick - triple.anchor.ticks)) <ℤ ((time -ℤ triple.anchor.time) *ℤ pos per_count)
  elapsed_past time tick less = subst (λ (x : ℤ). (triple.rate *ℤ pos (tick - triple.anchor.ticks)) <ℤ x) (sym (sub-mul time triple.anchor.time per_count)) (more _ _ _ less)
    where
      more : (a b c : ℤ) → (b +ℤ c) <ℤ a → c <ℤ (a -ℤ b)
      more a b c p = omega (arith, ints)
