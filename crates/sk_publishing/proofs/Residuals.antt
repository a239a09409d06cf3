-- The residual that the table shows of an observation within the tolerance is at most the tolerance in size.
use Rattle.std.proofs.Common.{◌≡◌, ℕ, ◌-◌, ◌*◌, ◌^◌, ◌<◌, sym, ap, subst, arith, ◌∙◌}
use Rattle.std.proofs.lemmas.Int.{ints, by_lt_z}
use Rattle.std.proofs.Math.Nat.{one-le-mul}
use Rattle.std.specs.Prelude.{ℤ, pos, neg_ℤ, ◌+ℤ◌, ◌-ℤ◌, ◌*ℤ◌, ◌≤ℤ◌, ◌<ℤ◌}
use Rattle.sk_decimal.specs.Quotient.{floor_quotient}
use Rattle.sk_decimal.proofs.Quotients.{floor_below, floor_greatest}
use Rattle.sk_decimal.proofs.Signed.{mul-le_right, add-mul}
use Rattle.sk_line.specs.Triple.{TripleView}
use Rattle.sk_line.specs.Line.{line_over}
use Rattle.sk_line.proofs.Products.{twice, power_positive}
use Rattle.sk_publishing.specs.Terms.{Sight, Gauge, unit}
use Rattle.sk_publishing.specs.Meets.{IsWithinTolerance, scaled}
use Rattle.sk_publishing.specs.Table.{KernelView, floored_time}
use Rattle.sk_publishing.specs.Told.{HasSmallResidual, ResidualLaw}

-- a quotient rounded down lies between whole bounds of what is divided
floor_within : (n a b : ℤ) (u per d : ℕ) → d ≡ u * per → 0 < d → ((a *ℤ pos u) *ℤ pos per) ≤ℤ n → n ≤ℤ ((b *ℤ pos u) *ℤ pos per)
    → (a ≤ℤ floor_quotient n d) × (floor_quotient n d ≤ℤ b)
floor_within n a b u per d e some low high =
    let same : (z : ℤ) → (z *ℤ pos u) *ℤ pos per ≡ z *ℤ pos d = λ z. twice z u per ∙ ap (λ (k : ℕ). z *ℤ pos k) (sym e) in (
      floor_greatest n d a some (subst (λ (x : ℤ). x ≤ℤ n) (same a) low),
      by_lt_z b (floor_quotient n d) (λ above. absurd (past n b (floor_quotient n d) d some above (floor_below n d some) (subst (λ (x : ℤ). n ≤ℤ x) (same b) high))) (λ le. le),
    )
  where
    one_times : (k : ℕ) → (pos 1 *ℤ pos k) ≡ pos k
    one_times k = omega (arith, ints)

    clash : (x y z w n : ℤ) (d : ℕ) → y ≡ x +ℤ z → z ≡ pos d → 0 < d → y ≤ℤ w → w ≤ℤ n → n ≤ℤ x → ⊥
    clash x y z w n d e f some h k l = omega (arith, ints, e, f, some, h, k, l)

    past : (n b q : ℤ) (d : ℕ) → 0 < d → b <ℤ q → (q *ℤ pos d) ≤ℤ n → n ≤ℤ (b *ℤ pos d) → ⊥
    past n b q d some above below high =
        let step : ((b +ℤ pos 1) *ℤ pos d) ≤ℤ (q *ℤ pos d) = mul-le_right (b +ℤ pos 1) q d (omega (arith, ints)) in
        clash (b *ℤ pos d) ((b +ℤ pos 1) *ℤ pos d) (pos 1 *ℤ pos d) (q *ℤ pos d) n d (add-mul b (pos 1) d) (one_times d) some step below high

small : (time tolerance floored : ℤ) → (time -ℤ tolerance) ≤ℤ floored → floored ≤ℤ (time +ℤ tolerance)
    → (neg_ℤ tolerance ≤ℤ (time -ℤ floored)) × ((time -ℤ floored) ≤ℤ tolerance)
small time tolerance floored h k = (omega (arith, ints, k), omega (arith, ints, h))

pub residual_law : ResidualLaw
residual_law k g o same_decimals same_count some within =
    let found : ℕ × TripleView = (within.1.0, within.1.1) in
    let over : ℤ = line_over k.per_count found.1.anchor found.1.rate o.tick in
    let at : within.0 ≡ over = within.1.3 ∙ ap (λ (n : ℕ). line_over n found.1.anchor found.1.rate o.tick) (sym same_count) in
    let divisor : 10 ^ (18 - k.decimals) * k.per_count ≡ 10 ^ (18 - g.decimals) * g.per_count =
    ap (λ (n : ℕ). 10 ^ (18 - n) * k.per_count) same_decimals ∙ ap (λ (n : ℕ). 10 ^ (18 - g.decimals) * n) same_count in
    let positive : 0 < 10 ^ (18 - k.decimals) * k.per_count = subst (λ (n : ℕ). 0 < n) (sym divisor) (one-le-mul (power_positive (18 - g.decimals)) some) in
    let both = floor_within over (o.time -ℤ g.tolerance) (o.time +ℤ g.tolerance) (unit g) g.per_count (10 ^ (18 - k.decimals) * k.per_count) divisor positive
    (subst (λ (x : ℤ). scaled g (o.time -ℤ g.tolerance) ≤ℤ x) at within.2) (subst (λ (x : ℤ). x ≤ℤ scaled g (o.time +ℤ g.tolerance)) at within.3) in
    let sizes = small o.time g.tolerance (floored_time k found.1 o.tick) both.0 both.1 in
    record { found = found; covers = within.1.2; from = sizes.0; to = sizes.1 }
