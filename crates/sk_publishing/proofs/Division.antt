-- The least rate of a band by one division.
use Rattle.std.proofs.Common.{◌≡◌, ◌⊎◌, ℕ, ◌-◌, ◌*◌, ◌<◌, sym, subst, inl, inr, arith}
use Rattle.std.proofs.lemmas.Int.{ints}
use Rattle.std.specs.Prelude.{ℤ, pos, ◌+ℤ◌, ◌-ℤ◌, ◌*ℤ◌, ◌≤ℤ◌, ◌<ℤ◌}
use Rattle.sk_decimal.specs.Quotient.{ceiling_quotient}
use Rattle.sk_publishing.specs.Terms.{Sight, Gauge, grid}
use Rattle.sk_line.specs.Triple.{Anchor}
use Rattle.sk_publishing.specs.Meets.{scaled, IsTooSmall}
use Rattle.sk_publishing.specs.Rates.{on_grid, IsLeastRate, BandView, InBand}
use Rattle.sk_decimal.proofs.Signed.{mul-le_right, <ℤ-or-≤ℤ}
use Rattle.sk_decimal.proofs.Quotients.{ceiling_above, ceiling_least}
use Rattle.sk_line.proofs.Products.{twice}

-- what a rate has to gain from the anchor to the observation, and by how much one step of the grid gains
abbrev pub wanted : Gauge → Anchor → Sight → ℤ
wanted g anchor o = scaled g (o.time -ℤ g.tolerance) -ℤ (anchor.time *ℤ pos g.per_count)

abbrev pub step_gain : Gauge → Anchor → Sight → ℕ
step_gain g anchor o = grid g.rate_decimals * (o.tick - anchor.ticks)

abbrev pub least_step : Gauge → Anchor → Sight → ℤ
least_step g anchor o = ceiling_quotient (wanted g anchor o) (step_gain g anchor o)

-- a step is not too small exactly from the quotient on
pub from_quotient : (g : Gauge) (anchor : Anchor) (o : Sight) (n : ℤ) → 0 < step_gain g anchor o
    → ¬ IsTooSmall g anchor (on_grid g.rate_decimals n) o → least_step g anchor o ≤ℤ n
from_quotient g anchor o n h s =
    ceiling_least (wanted g anchor o) (step_gain g anchor o) n h (subst (λ (x : ℤ). wanted g anchor o ≤ℤ x) (twice n (grid g.rate_decimals) (o.tick - anchor.ticks))
    (moved _ _ _ (<ℤ-or-≤ℤ _ _ s)))
  where
    moved : (a b c : ℤ) → a ≤ℤ (b +ℤ c) → (a -ℤ b) ≤ℤ c
    moved a b c p = omega (arith, ints)

pub to_quotient : (g : Gauge) (anchor : Anchor) (o : Sight) (n : ℤ) → 0 < step_gain g anchor o
    → least_step g anchor o ≤ℤ n → ¬ IsTooSmall g anchor (on_grid g.rate_decimals n) o
to_quotient g anchor o n h k s =
    let up = ceiling_above (wanted g anchor o) (step_gain g anchor o) h in
    let more = mul-le_right (least_step g anchor o) n (step_gain g anchor o) k in
    let all : wanted g anchor o ≤ℤ ((n *ℤ pos (grid g.rate_decimals)) *ℤ pos (o.tick - anchor.ticks)) =
    subst (λ (x : ℤ). wanted g anchor o ≤ℤ x) (sym (twice n (grid g.rate_decimals) (o.tick - anchor.ticks))) (through _ _ _ up more) in
    against _ _ _ all s
  where
    through : (a b c : ℤ) → a ≤ℤ b → b ≤ℤ c → a ≤ℤ c
    through a b c p q = omega (arith, ints)

    against : (a b c : ℤ) → (a -ℤ b) ≤ℤ c → (b +ℤ c) <ℤ a → ⊥
    against a b c p q = omega (arith, ints)

module _ (g : Gauge) (anchor : Anchor) (o : Sight) (band : BandView) (filled : band.least ≤ℤ band.greatest) (positive : 0 < step_gain g anchor o) where
  -- the quotient, brought into the band or one above it
  pub least_in_band : least_step g anchor o ≤ℤ band.greatest → (n : ℤ) → (band.least ≤ℤ n) × (least_step g anchor o ≤ℤ n) × (n ≤ℤ band.greatest)
      → ((n ≡ band.least) ⊎ (n ≡ least_step g anchor o)) → IsLeastRate (InBand band) g anchor o n
  least_in_band h n w e = inl (record {
    has = (record { low = w.0; high = w.2 }, to_quotient g anchor o n positive w.1);
    least = λ m f. below m f.0.low (from_quotient g anchor o m positive f.1) e;
  })
    where
      below : (m : ℤ) → band.least ≤ℤ m → least_step g anchor o ≤ℤ m → ((n ≡ band.least) ⊎ (n ≡ least_step g anchor o)) → n ≤ℤ m
      below m p q (inl e) = subst (λ (x : ℤ). x ≤ℤ m) (sym e) p
      below m p q (inr e) = subst (λ (x : ℤ). x ≤ℤ m) (sym e) q

  pub least_above_band : band.greatest <ℤ least_step g anchor o → IsLeastRate (InBand band) g anchor o (band.greatest +ℤ pos 1)
  least_above_band h = inr (
    (λ m f. (let q = from_quotient g anchor o m positive f.1 in let b = f.0.high in apart m q b)),
    record { has = record { low = rises band.least band.greatest filled; high = same band.greatest }; greatest = λ m b. lower m band.greatest b.high },
  )
    where
      apart : (m : ℤ) → least_step g anchor o ≤ℤ m → m ≤ℤ band.greatest → ⊥
      apart m q b = two (least_step g anchor o) m band.greatest q b h
        where
          two : (a b c : ℤ) → a ≤ℤ b → b ≤ℤ c → c <ℤ a → ⊥
          two a b c p q r = omega (arith, ints)

      rises : (a b : ℤ) → a ≤ℤ b → a ≤ℤ ((b +ℤ pos 1) -ℤ pos 1)
      rises a b p = omega (arith, ints)

      same : (b : ℤ) → ((b +ℤ pos 1) -ℤ pos 1) ≤ℤ b
      same b = omega (arith, ints)

      lower : (m b : ℤ) → m ≤ℤ b → m ≤ℤ ((b +ℤ pos 1) -ℤ pos 1)
      lower m b p = omega (arith, ints)
