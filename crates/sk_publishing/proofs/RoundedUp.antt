-- The rounding law.
use Rattle.std.proofs.Common.{◌≡◌, ℕ, ◌-◌, ◌*◌, ◌<◌, ◌^◌, sym, ap, subst, arith, zero, suc, ◌∙◌, pow-suc}
use Rattle.std.proofs.Math.Nat.{mul_assoc, one-le-mul}
use Rattle.std.specs.Prelude.{ℤ, pos, negsuc, neg_ℤ, ◌+ℤ◌, ◌*ℤ◌, ◌≤ℤ◌}
use Rattle.sk_decimal.specs.Quotient.{ceiling_quotient}
use Rattle.sk_publishing.specs.Terms.{unit}
use Rattle.sk_publishing.specs.Meets.{line_at}
use Rattle.sk_publishing.specs.Laws.{RoundingLaw}
use Rattle.sk_decimal.proofs.Signed.{mul-le_right}
use Rattle.sk_decimal.proofs.Quotients.{ceiling_above, ceiling_least}
use Rattle.sk_line.proofs.Products.{twice, power_positive}

pub rounding_law : RoundingLaw
rounding_law = record {
  order = λ t s tick h. subst (λ (x : ℤ). line_at t.gauge s.anchor s.rate tick ≤ℤ x)
      (sym (twice (ceiling_quotient (line_at t.gauge s.anchor s.rate tick) (unit t.gauge * t.gauge.per_count)) (unit t.gauge) t.gauge.per_count))
      (ceiling_above (line_at t.gauge s.anchor s.rate tick) (unit t.gauge * t.gauge.per_count) (positive (18 - t.gauge.decimals) t.gauge.per_count h));
  tolerance = λ t s tick o h k.
      let z : ℤ = o.time +ℤ t.gauge.tolerance in
      let c : ℤ = ceiling_quotient (line_at t.gauge s.anchor s.rate tick) (unit t.gauge * t.gauge.per_count) in
      let k' : line_at t.gauge s.anchor s.rate tick ≤ℤ (z *ℤ pos (unit t.gauge * t.gauge.per_count)) =
      subst (λ (x : ℤ). line_at t.gauge s.anchor s.rate tick ≤ℤ x) (twice z (unit t.gauge) t.gauge.per_count) k in
      let least : c ≤ℤ z = ceiling_least (line_at t.gauge s.anchor s.rate tick) (unit t.gauge * t.gauge.per_count) z (positive (18 - t.gauge.decimals) t.gauge.per_count h) k' in
      mul-le_right (c *ℤ pos (unit t.gauge)) (z *ℤ pos (unit t.gauge)) t.gauge.per_count (mul-le_right c z (unit t.gauge) least);
}
  where
    positive : (n m : ℕ) → 0 < m → 0 < 10 ^ n * m
    positive n m h = one-le-mul (power_positive n) h
