-- The greatest tick that a line reaches, by one division.
use Rattle.std.proofs.Common.{◌≡◌, ℕ, ◌+◌, ◌-◌, ◌≤◌, subst, arith}
use Rattle.std.proofs.lemmas.Int.{ints}
use Rattle.std.specs.Prelude.{ℤ, pos, negsuc, nat_abs, ◌+ℤ◌, ◌*ℤ◌, ◌≤ℤ◌, ◌<ℤ◌}
use Rattle.sk_decimal.specs.Fixed.{IsFloor}
use Rattle.sk_decimal.proofs.Signed.{mul-le_right}
use Rattle.sk_line.specs.Triple.{TripleView}
use Rattle.sk_triples.specs.Kernel.{IsTriple}
use Rattle.sk_inverse.specs.Search.{IsReached}
use Rattle.sk_inverse.proofs.Lines.{gain_level}

swapped : (a : ℤ) (n : ℕ) → pos n *ℤ a ≡ a *ℤ pos n
swapped (pos a) n = omega (arith, ints)
swapped (negsuc a) n = omega (arith, ints)

-- so many ticks are reached where the quotient is not below them
runs_to : (rate elapsed : ℤ) (m n : ℕ) → pos 0 <ℤ rate → n ≤ m → IsFloor elapsed rate (pos m) → (rate *ℤ pos n) ≤ℤ elapsed
runs_to rate elapsed m n positive most floor =
    through _ _ _ (gain_level rate n m positive most) (subst (λ (x : ℤ). x ≤ℤ elapsed) (swapped rate m) floor.0)
  where
    through : (x y z : ℤ) → x ≤ℤ y → y ≤ℤ z → x ≤ℤ z
    through x y z p q = omega (arith, ints)

runs_no_further : (rate elapsed : ℤ) (m n : ℕ) → n ≡ m + 1 → IsFloor elapsed rate (pos m) → elapsed <ℤ (rate *ℤ pos n)
runs_no_further rate elapsed m n e floor =
    subst (λ (x : ℤ). elapsed <ℤ x) (swapped rate n) (subst (λ (x : ℤ). elapsed <ℤ (x *ℤ rate)) same floor.1)
  where
    same : pos m +ℤ pos 1 ≡ pos n
    same = omega (arith, ints, e)

pub reached_end : (triple : TripleView) (elapsed ahead : ℤ) (end : ℕ) → IsTriple end triple → IsFloor elapsed triple.rate ahead → pos (end - triple.anchor.ticks) ≤ℤ ahead
    → IsReached triple elapsed end end
reached_end triple elapsed (pos m) end is floor most = record {
  from = is.ticks;
  to = omega arith;
  reached = runs_to triple.rate elapsed m (end - triple.anchor.ticks) is.positive (omega (arith, ints, most)) floor;
  greatest = λ less. absurd (omega arith);
}
reached_end triple elapsed (negsuc m) end is floor most = absurd (omega (arith, ints, most))

pub reached_ahead : (triple : TripleView) (elapsed ahead : ℤ) (end : ℕ) → IsTriple end triple → pos 0 ≤ℤ elapsed → IsFloor elapsed triple.rate ahead
    → ahead <ℤ pos (end - triple.anchor.ticks) → IsReached triple elapsed end (triple.anchor.ticks + nat_abs ahead)
reached_ahead triple elapsed (pos m) end is some floor less = record {
  from = omega arith;
  to = omega (arith, ints, less);
  reached = runs_to triple.rate elapsed m (triple.anchor.ticks + m - triple.anchor.ticks) is.positive (omega arith) floor;
  greatest = λ before. runs_no_further triple.rate elapsed m (triple.anchor.ticks + m + 1 - triple.anchor.ticks) (omega arith) floor;
}
reached_ahead triple elapsed (negsuc m) end is some floor less = absurd (below triple.rate m is.positive floor.1 some)
  where
    below : (rate : ℤ) (m : ℕ) → pos 0 <ℤ rate → elapsed <ℤ ((negsuc m +ℤ pos 1) *ℤ rate) → pos 0 ≤ℤ elapsed → ⊥
    below (pos r) m p q e = against _ _ (mul-le_right (negsuc m +ℤ pos 1) (pos 0) r (not_positive m)) q e
      where
        not_positive : (m : ℕ) → (negsuc m +ℤ pos 1) ≤ℤ pos 0
        not_positive m = omega (arith, ints)

        against : (x : ℤ) (n : ℕ) → x ≤ℤ (pos 0 *ℤ pos n) → elapsed <ℤ x → pos 0 ≤ℤ elapsed → ⊥
        against x n p q e = omega (arith, ints, p, q, e)
    below (negsuc r) m p q e = omega (arith, ints, p)
