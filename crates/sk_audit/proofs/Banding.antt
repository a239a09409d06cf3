-- The band of allowed rates is usable.
use Rattle.std.proofs.Common.{◌≡◌, ℕ, ◌-◌, ◌*◌, ◌^◌, ◌<◌, ◌≤◌, ap, ◌∙◌, arith}
use Rattle.sk_audit.proofs.Quotients.{through}
use Rattle.std.proofs.lemmas.Int.{ints, by_lt_z}
use Rattle.std.proofs.Math.Nat.{mul_assoc}
use Rattle.std.specs.Prelude.{ℤ, pos, ◌+ℤ◌, ◌*ℤ◌, ◌≤ℤ◌, ◌<ℤ◌}
use Rattle.sk_decimal.proofs.Signed.{mul-le_right, add-mul}
use Rattle.sk_publishing.specs.Terms.{Terms, grid}
use Rattle.sk_publishing.specs.Rates.{BandView, IsBand, on_grid}
use Rattle.sk_publishing.specs.Chain.{IsAllowedStep}
use Rattle.sk_line.proofs.Products.{power_positive}
use Rattle.sk_triples.proofs.Decimals.{power_left}
use Rattle.sk_audit.specs.Given.{IsUsableBand}

-- a share of a rate above 0 is above 0
share_positive : (old : ℤ) (share : ℕ) → pos 0 <ℤ old → 0 < share → pos 1 ≤ℤ (old *ℤ pos share)
share_positive old share h k = through (pos 1) (pos 1 *ℤ pos share) (old *ℤ pos share) (omega (arith, ints)) (mul-le_right (pos 1) old share (omega (arith, ints)))

-- so the least allowed number of steps is
least_positive : (n : ℤ) (g : ℕ) → pos 1 ≤ℤ ((n *ℤ pos g) *ℤ pos (10 ^ 6)) → pos 1 ≤ℤ n
least_positive n g h = by_lt_z (pos 0) n (λ less. (omega (arith, ints)))
    (λ le. (let zero : (n *ℤ pos g) ≤ℤ (pos 0 *ℤ pos g) = mul-le_right n (pos 0) g le in absurd (omega (arith, ints))))

-- at most 1000 s is at most so many steps
steps_slow : (n : ℤ) (d : ℕ) → d ≤ 18 → on_grid d n ≤ℤ pos (1000 * 10 ^ 18) → n ≤ℤ pos (1000 * 10 ^ d)
steps_slow n d few h = by_lt_z (pos (1000 * 10 ^ d)) n
    (λ less. absurd (apart (on_grid d n) (pos (1000 * 10 ^ d) *ℤ pos (grid d)) (pos 1 *ℤ pos (grid d)) ((pos (1000 * 10 ^ d) +ℤ pos 1) *ℤ pos (grid d))
    (mul-le_right (pos (1000 * 10 ^ d) +ℤ pos 1) n (grid d) (next (pos (1000 * 10 ^ d)) n less))
    (add-mul (pos (1000 * 10 ^ d)) (pos 1) (grid d)) (ap pos (mul_assoc 1000 (10 ^ d) (grid d) ∙ ap (λ (k : ℕ). 1000 * k) (power_left d few))) (positive (grid d) (power_positive (18 - d))) h))
    (λ le. le)
  where
    next : (a b : ℤ) → a <ℤ b → (a +ℤ pos 1) ≤ℤ b
    next a b p = omega (arith, ints)

    positive : (m : ℕ) → 0 < m → pos 0 <ℤ (pos 1 *ℤ pos m)
    positive m k = omega (arith, ints)

    apart : (a b c e : ℤ) → e ≤ℤ a → e ≡ b +ℤ c → b ≡ pos (1000 * 10 ^ 18) → pos 0 <ℤ c → a ≤ℤ pos (1000 * 10 ^ 18) → ⊥
    apart a b c e p q r s u = omega (arith, ints)

pub usable : (t : Terms) (band : BandView) → pos 0 <ℤ t.old.rate → t.band ≤ 100000 → t.gauge.rate_decimals ≤ 15 → IsBand (IsAllowedStep t) band
    → IsUsableBand t.gauge.rate_decimals band
usable t band rate narrow few b = record {
  positive = least_positive band.least (grid t.gauge.rate_decimals)
      (through (pos 1) (t.old.rate *ℤ pos (10 ^ 6 - t.band)) (on_grid t.gauge.rate_decimals band.least *ℤ pos (10 ^ 6)) (share_positive t.old.rate (10 ^ 6 - t.band) rate (omega arith)) b.least.has.low);
  not_empty = b.greatest.greatest band.least b.least.has;
  slow = steps_slow band.greatest t.gauge.rate_decimals (omega arith) b.greatest.has.most;
}
