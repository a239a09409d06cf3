-- Bounds of a band by quotients.
use Rattle.std.proofs.Common.{◌≡◌, ℕ, ◌+◌, ◌-◌, ◌*◌, ◌<◌, ◌≤◌, ◌^◌, ◌↔◌, refl, sym, ap, subst, inl, inr, arith, ◌∙◌}
use Rattle.std.proofs.lemmas.Int.{ints, to_z-of_z}
use mir.Syntax.{w128}
use mir.Val.{to_z, of_z}
use lib.Signed.{mag}
use Rattle.std.proofs.Math.Nat.{pow-le-pow_right}
use Rattle.std.specs.Prelude.{ℤ, pos, negsuc, neg_ℤ, nat_abs, ◌+ℤ◌, ◌-ℤ◌, ◌*ℤ◌, ◌≤ℤ◌, ◌<ℤ◌}
use Rattle.sk_decimal.specs.Quotient.{floor_quotient, ceiling_quotient}
use Rattle.sk_publishing.specs.Terms.{Sight, Gauge, grid}
use Rattle.sk_line.specs.Triple.{Anchor}
use Rattle.sk_publishing.specs.Meets.{scaled, IsTooSmall, IsTooLarge, Meets}
use Rattle.sk_publishing.specs.Rates.{IsLeast, IsGreatest, IsAllowed, IsBand, on_grid, IsLeastRate, IsGreatestRate, BandView, InBand}
use Rattle.sk_decimal.proofs.Signed.{mul-le_right, <ℤ-or-≤ℤ}
use Rattle.sk_decimal.proofs.Quotients.{floor_below, floor_greatest, ceiling_above, ceiling_least}
use Rattle.sk_line.proofs.Products.{twice}
use Rattle.sk_audit.specs.Gains.{Gains, Keeps, IsLeastGain, IsGreatestGain}

pub through : (a b c : ℤ) → a ≤ℤ b → b ≤ℤ c → a ≤ℤ c
through a b c p q = omega (arith, ints)

apart : (a b : ℤ) → a ≤ℤ b → b <ℤ a → ⊥
apart a b p q = omega (arith, ints)

no_step : (z : ℤ) → z *ℤ pos 0 ≡ pos 0
no_step z = omega (arith, ints)

-- a step gains what is wanted exactly from the quotient on, and keeps to the room exactly up to it
pub from_ceiling : (wanted n : ℤ) (step : ℕ) → 0 < step → ceiling_quotient wanted step ≤ℤ n → wanted ≤ℤ (n *ℤ pos step)
from_ceiling wanted n step h k = through wanted (ceiling_quotient wanted step *ℤ pos step) (n *ℤ pos step) (ceiling_above wanted step h) (mul-le_right (ceiling_quotient wanted step) n step k)

pub to_floor : (room n : ℤ) (step : ℕ) → 0 < step → n ≤ℤ floor_quotient room step → (n *ℤ pos step) ≤ℤ room
to_floor room n step h k = through (n *ℤ pos step) (floor_quotient room step *ℤ pos step) room (mul-le_right n (floor_quotient room step) step k) (floor_below room step h)

module _ (band : BandView) (filled : band.least ≤ℤ band.greatest) where
  at_low : InBand band band.least
  at_low = record { low = omega (arith, ints); high = filled }

  at_high : InBand band band.greatest
  at_high = record { low = filled; high = omega (arith, ints) }

  -- where the observation is at the anchor every rate gains nothing
  pub wants_none : (wanted : ℤ) → wanted ≤ℤ pos 0 → IsLeastGain band wanted 0 band.least
  wants_none wanted h = inl (record {
    has = (at_low, subst (λ (x : ℤ). wanted ≤ℤ x) (sym (no_step band.least)) h);
    least = λ m f. f.0.low;
  })

  pub wants_more : (wanted : ℤ) → pos 0 <ℤ wanted → IsLeastGain band wanted 0 (band.greatest +ℤ pos 1)
  wants_more wanted h = inr ((λ m f. apart wanted (pos 0) (subst (λ (x : ℤ). wanted ≤ℤ x) (no_step m) f.1) h), refl)

  pub leaves_room : (room : ℤ) → pos 0 ≤ℤ room → IsGreatestGain band room 0 band.greatest
  leaves_room room h = inl (record {
    has = (at_high, subst (λ (x : ℤ). x ≤ℤ room) (sym (no_step band.greatest)) h);
    greatest = λ m f. f.0.high;
  })

  pub leaves_none : (room : ℤ) → room <ℤ pos 0 → IsGreatestGain band room 0 (band.least -ℤ pos 1)
  leaves_none room h = inr ((λ m f. apart (pos 0) room (subst (λ (x : ℤ). x ≤ℤ room) (no_step m) f.1) h), refl)

  module _ (wanted : ℤ) (step : ℕ) (positive : 0 < step) where
    above : (m : ℤ) → Gains band wanted step m → ceiling_quotient wanted step ≤ℤ m
    above m f = ceiling_least wanted step m positive f.1

    pub least_over : band.greatest <ℤ ceiling_quotient wanted step → IsLeastGain band wanted step (band.greatest +ℤ pos 1)
    least_over h = inr ((λ m f. apart (ceiling_quotient wanted step) band.greatest (through (ceiling_quotient wanted step) m band.greatest (above m f) f.0.high) h), refl)

    pub least_inside : ceiling_quotient wanted step ≤ℤ band.greatest → band.least ≤ℤ ceiling_quotient wanted step
        → IsLeastGain band wanted step (ceiling_quotient wanted step)
    least_inside h k = inl (record {
      has = (record { low = k; high = h }, ceiling_above wanted step positive);
      least = λ m f. above m f;
    })

    pub least_under : ceiling_quotient wanted step ≤ℤ band.least → IsLeastGain band wanted step band.least
    least_under h = inl (record {
      has = (at_low, from_ceiling wanted band.least step positive h);
      least = λ m f. f.0.low;
    })

  module _ (room : ℤ) (step : ℕ) (positive : 0 < step) where
    below : (m : ℤ) → Keeps band room step m → m ≤ℤ floor_quotient room step
    below m f = floor_greatest room step m positive f.1

    pub greatest_under : floor_quotient room step <ℤ band.least → IsGreatestGain band room step (band.least -ℤ pos 1)
    greatest_under h = inr ((λ m f. apart band.least (floor_quotient room step) (through band.least m (floor_quotient room step) f.0.low (below m f)) h), refl)

    pub greatest_inside : band.least ≤ℤ floor_quotient room step → floor_quotient room step ≤ℤ band.greatest
        → IsGreatestGain band room step (floor_quotient room step)
    greatest_inside h k = inl (record {
      has = (record { low = h; high = k }, floor_below room step positive);
      greatest = λ m f. below m f;
    })

    pub greatest_over : band.greatest ≤ℤ floor_quotient room step → IsGreatestGain band room step band.greatest
    greatest_over h = inl (record {
      has = (at_high, to_floor room band.greatest step positive h);
      greatest = λ m f. f.0.high;
    })

-- ---- what is wanted at an observation, and the room there

abbrev pub wanted_at : Gauge → Anchor → Sight → ℤ
wanted_at g anchor o = scaled g (o.time -ℤ g.tolerance) -ℤ (anchor.time *ℤ pos g.per_count)

abbrev pub room_at : Gauge → Anchor → Sight → ℤ
room_at g anchor o = scaled g (o.time +ℤ g.tolerance) -ℤ (anchor.time *ℤ pos g.per_count)

abbrev pub step_at : Gauge → Anchor → Sight → ℕ
step_at g anchor o = grid g.rate_decimals * (o.tick - anchor.ticks)

module _ (g : Gauge) (anchor : Anchor) (o : Sight) where
  gained : (n : ℤ) → (on_grid g.rate_decimals n *ℤ pos (o.tick - anchor.ticks)) ≡ (n *ℤ pos (step_at g anchor o))
  gained n = twice n (grid g.rate_decimals) (o.tick - anchor.ticks)

  not_small : (n : ℤ) → wanted_at g anchor o ≤ℤ (n *ℤ pos (step_at g anchor o)) → ¬ IsTooSmall g anchor (on_grid g.rate_decimals n) o
  not_small n h s = against _ _ _ (subst (λ (x : ℤ). wanted_at g anchor o ≤ℤ x) (sym (gained n)) h) s
    where
      against : (a b c : ℤ) → (a -ℤ b) ≤ℤ c → (b +ℤ c) <ℤ a → ⊥
      against a b c p q = omega (arith, ints)

  wants : (n : ℤ) → ¬ IsTooSmall g anchor (on_grid g.rate_decimals n) o → wanted_at g anchor o ≤ℤ (n *ℤ pos (step_at g anchor o))
  wants n s = subst (λ (x : ℤ). wanted_at g anchor o ≤ℤ x) (gained n) (moved _ _ _ (<ℤ-or-≤ℤ _ _ s))
    where
      moved : (a b c : ℤ) → a ≤ℤ (b +ℤ c) → (a -ℤ b) ≤ℤ c
      moved a b c p = omega (arith, ints)

  not_large : (n : ℤ) → (n *ℤ pos (step_at g anchor o)) ≤ℤ room_at g anchor o → ¬ IsTooLarge g anchor (on_grid g.rate_decimals n) o
  not_large n h s = against _ _ _ (subst (λ (x : ℤ). x ≤ℤ room_at g anchor o) (sym (gained n)) h) s
    where
      against : (a b c : ℤ) → c ≤ℤ (a -ℤ b) → a <ℤ (b +ℤ c) → ⊥
      against a b c p q = omega (arith, ints)

  keeps : (n : ℤ) → ¬ IsTooLarge g anchor (on_grid g.rate_decimals n) o → (n *ℤ pos (step_at g anchor o)) ≤ℤ room_at g anchor o
  keeps n s = subst (λ (x : ℤ). x ≤ℤ room_at g anchor o) (gained n) (moved _ _ _ (<ℤ-or-≤ℤ _ _ s))
    where
      moved : (a b c : ℤ) → (b +ℤ c) ≤ℤ a → c ≤ℤ (a -ℤ b)
      moved a b c p = omega (arith, ints)

  more_less : (z : ℤ) → z ≡ (z +ℤ pos 1) -ℤ pos 1
  more_less z = omega (arith, ints)

  less_more : (z : ℤ) → z ≡ (z -ℤ pos 1) +ℤ pos 1
  less_more z = omega (arith, ints)

  module _ (band : BandView) (filled : band.least ≤ℤ band.greatest) where
    highest : (n : ℤ) → n ≡ band.greatest +ℤ pos 1 → IsGreatest (InBand band) (n -ℤ pos 1)
    highest n e = subst (IsGreatest (InBand band)) (more_less band.greatest ∙ ap (λ (x : ℤ). x -ℤ pos 1) (sym e))
        (record { has = at_high band filled; greatest = λ m b. b.high })

    lowest : (n : ℤ) → n ≡ band.least -ℤ pos 1 → IsLeast (InBand band) (n +ℤ pos 1)
    lowest n e = subst (IsLeast (InBand band)) (less_more band.least ∙ ap (λ (x : ℤ). x +ℤ pos 1) (sym e))
        (record { has = at_low band filled; least = λ m b. b.low })

    pub least_rate_of : (n : ℤ) → IsLeastGain band (wanted_at g anchor o) (step_at g anchor o) n → IsLeastRate (InBand band) g anchor o n
    least_rate_of n (inl h) = inl (record {
      has = (h.has.0, not_small n h.has.1);
      least = λ m f. h.least m (f.0, wants m f.1);
    })
    least_rate_of n (inr h) = inr ((λ m f. h.0 m (f.0, wants m f.1)), highest n h.1)

    pub greatest_rate_of : (n : ℤ) → IsGreatestGain band (room_at g anchor o) (step_at g anchor o) n → IsGreatestRate (InBand band) g anchor o n
    greatest_rate_of n (inl h) = inl (record {
      has = (h.has.0, not_large n h.has.1);
      greatest = λ m f. h.greatest m (f.0, keeps m f.1);
    })
    greatest_rate_of n (inr h) = inr ((λ m f. h.0 m (f.0, keeps m f.1)), lowest n h.1)

    -- the same, of what the code computes
    pub least_rate_from : (wanted : ℤ) (step : ℕ) (n : ℤ) → wanted ≡ wanted_at g anchor o → step ≡ step_at g anchor o
        → IsLeastGain band wanted step n → IsLeastRate (InBand band) g anchor o n
    least_rate_from wanted step n e f h = least_rate_of n (subst (λ (x : ℤ). IsLeastGain band x (step_at g anchor o) n) e (subst (λ (x : ℕ). IsLeastGain band wanted x n) f h))

    pub greatest_rate_from : (room : ℤ) (step : ℕ) (n : ℤ) → room ≡ room_at g anchor o → step ≡ step_at g anchor o
        → IsGreatestGain band room step n → IsGreatestRate (InBand band) g anchor o n
    greatest_rate_from room step n e f h = greatest_rate_of n (subst (λ (x : ℤ). IsGreatestGain band x (step_at g anchor o) n) e (subst (λ (x : ℕ). IsGreatestGain band room x n) f h))

  -- a rate meets the observation exactly where its gain is between these
  pub meets_by : (rate low gained high : ℤ) → low ≡ wanted_at g anchor o → high ≡ room_at g anchor o
      → gained ≡ (rate *ℤ pos (o.tick - anchor.ticks))
      → ((low ≤ℤ gained) × (gained ≤ℤ high)) ↔ Meets g anchor rate o
  meets_by rate low gained high e f h = (
    (λ p. record {
      low = up _ _ _ (subst (λ (x : ℤ). x ≤ℤ (rate *ℤ pos (o.tick - anchor.ticks))) e (subst (λ (x : ℤ). low ≤ℤ x) h p.0));
      high = down _ _ _ (subst (λ (x : ℤ). (rate *ℤ pos (o.tick - anchor.ticks)) ≤ℤ x) f (subst (λ (x : ℤ). x ≤ℤ high) h p.1));
    }),
    (λ m. (
      subst (λ (x : ℤ). low ≤ℤ x) (sym h) (subst (λ (x : ℤ). x ≤ℤ (rate *ℤ pos (o.tick - anchor.ticks))) (sym e) (up' _ _ _ m.low)),
      subst (λ (x : ℤ). x ≤ℤ high) (sym h) (subst (λ (x : ℤ). (rate *ℤ pos (o.tick - anchor.ticks)) ≤ℤ x) (sym f) (down' _ _ _ m.high)),
    )),
  )
    where
      up : (a b c : ℤ) → (a -ℤ b) ≤ℤ c → a ≤ℤ (b +ℤ c)
      up a b c p = omega (arith, ints)

      down : (a b c : ℤ) → c ≤ℤ (a -ℤ b) → (b +ℤ c) ≤ℤ a
      down a b c p = omega (arith, ints)

      up' : (a b c : ℤ) → a ≤ℤ (b +ℤ c) → (a -ℤ b) ≤ℤ c
      up' a b c p = omega (arith, ints)

      down' : (a b c : ℤ) → (b +ℤ c) ≤ℤ a → c ≤ℤ (a -ℤ b)
      down' a b c p = omega (arith, ints)

-- ---- allowed rates

pub slow_band : (d : ℕ) (z : ℤ) → d ≤ 15 → z ≤ℤ pos (1000 * 10 ^ d) → z ≤ℤ pos (10 ^ 18)
slow_band d z h k = let p : 10 ^ d ≤ 10 ^ 15 = pow-le-pow_right (omega arith) {i = d} {j = 15} h in omega (arith, ints)

-- the steps from a share of the old rate on, and up to a share
pub from_share : (share n : ℤ) (grid : ℕ) → 0 < grid * 10 ^ 6
    → (share ≤ℤ ((n *ℤ pos grid) *ℤ pos (10 ^ 6))) ↔ (ceiling_quotient share (grid * 10 ^ 6) ≤ℤ n)
from_share share n grid h = (
  (λ p. ceiling_least share (grid * 10 ^ 6) n h (subst (λ (x : ℤ). share ≤ℤ x) (twice n grid (10 ^ 6)) p)),
  (λ p. subst (λ (x : ℤ). share ≤ℤ x) (sym (twice n grid (10 ^ 6))) (from_ceiling share n (grid * 10 ^ 6) h p)),
)

pub to_share : (share n : ℤ) (grid : ℕ) → 0 < grid * 10 ^ 6
    → (((n *ℤ pos grid) *ℤ pos (10 ^ 6)) ≤ℤ share) ↔ (n ≤ℤ floor_quotient share (grid * 10 ^ 6))
to_share share n grid h = (
  (λ p. floor_greatest share (grid * 10 ^ 6) n h (subst (λ (x : ℤ). x ≤ℤ share) (twice n grid (10 ^ 6)) p)),
  (λ p. subst (λ (x : ℤ). x ≤ℤ share) (sym (twice n grid (10 ^ 6))) (to_floor share n (grid * 10 ^ 6) h p)),
)

pub to_limit : (limit n : ℤ) (grid : ℕ) → 0 < grid → ((n *ℤ pos grid) ≤ℤ limit) ↔ (n ≤ℤ floor_quotient limit grid)
to_limit limit n grid h = ((λ p. floor_greatest limit grid n h p), (λ p. to_floor limit n grid h p))

-- ---- what code passes on

pub passed_on : (z : ℤ) → mag z < 2 ^ 127 → to_z w128 (of_z w128 z) ≡ z
passed_on z h = to_z-of_z w128 z (record { sfits = h })

-- a number of this size lies between these
pub sized_from : (z : ℤ) (n : ℕ) → nat_abs z ≤ n → neg_ℤ (pos n) ≤ℤ z
sized_from (pos m) n h = omega (arith, ints)
sized_from (negsuc m) n h = omega (arith, ints)

pub sized_to : (z : ℤ) (n : ℕ) → nat_abs z ≤ n → z ≤ℤ pos n
sized_to (pos m) n h = omega (arith, ints)
sized_to (negsuc m) n h = omega (arith, ints)

pub passed_small : (z : ℤ) → neg_ℤ (pos (10 ^ 38)) ≤ℤ z → z ≤ℤ pos (10 ^ 38) → to_z w128 (of_z w128 z) ≡ z
passed_small z h k = omega (arith, ints)

-- ---- the band

-- a rate is allowed exactly between the least and the greatest number of steps
pub allowed_between : (d b : ℕ) (old old' least fast fast' most most' greatest : ℤ) (step : ℕ)
    → step ≡ grid d → old' ≡ old → fast' ≡ fast → most' ≡ most
    → ((n : ℤ) → ((old' *ℤ pos (10 ^ 6 - b)) ≤ℤ ((n *ℤ pos step) *ℤ pos (10 ^ 6))) ↔ (least ≤ℤ n))
    → ((n : ℤ) → (((n *ℤ pos step) *ℤ pos (10 ^ 6)) ≤ℤ (old' *ℤ pos (10 ^ 6 + b))) ↔ (n ≤ℤ fast))
    → ((n : ℤ) → ((n *ℤ pos step) ≤ℤ pos (1000 * 10 ^ 18)) ↔ (n ≤ℤ most))
    → ((n : ℤ) → (n ≤ℤ greatest) ↔ ((n ≤ℤ fast') × (n ≤ℤ most')))
    → (n : ℤ) → IsAllowed d b old n ↔ ((least ≤ℤ n) × (n ≤ℤ greatest))
allowed_between d b old old' least fast fast' most most' greatest step e o f m lows highs mosts lessers n =
    let low : ((old *ℤ pos (10 ^ 6 - b)) ≤ℤ ((n *ℤ pos (grid d)) *ℤ pos (10 ^ 6))) ↔ (least ≤ℤ n) =
    subst (λ (x : ℤ). ((x *ℤ pos (10 ^ 6 - b)) ≤ℤ ((n *ℤ pos (grid d)) *ℤ pos (10 ^ 6))) ↔ (least ≤ℤ n)) o
    (subst (λ (x : ℕ). ((old' *ℤ pos (10 ^ 6 - b)) ≤ℤ ((n *ℤ pos x) *ℤ pos (10 ^ 6))) ↔ (least ≤ℤ n)) e (lows n)) in
    let high : (((n *ℤ pos (grid d)) *ℤ pos (10 ^ 6)) ≤ℤ (old *ℤ pos (10 ^ 6 + b))) ↔ (n ≤ℤ fast') =
    subst (λ (x : ℤ). (((n *ℤ pos (grid d)) *ℤ pos (10 ^ 6)) ≤ℤ (old *ℤ pos (10 ^ 6 + b))) ↔ (n ≤ℤ x)) (sym f)
    (subst (λ (x : ℤ). (((n *ℤ pos (grid d)) *ℤ pos (10 ^ 6)) ≤ℤ (x *ℤ pos (10 ^ 6 + b))) ↔ (n ≤ℤ fast)) o
    (subst (λ (x : ℕ). (((n *ℤ pos x) *ℤ pos (10 ^ 6)) ≤ℤ (old' *ℤ pos (10 ^ 6 + b))) ↔ (n ≤ℤ fast)) e (highs n))) in
    let limit : ((n *ℤ pos (grid d)) ≤ℤ pos (1000 * 10 ^ 18)) ↔ (n ≤ℤ most') =
    subst (λ (x : ℤ). ((n *ℤ pos (grid d)) ≤ℤ pos (1000 * 10 ^ 18)) ↔ (n ≤ℤ x)) (sym m)
    (subst (λ (x : ℕ). ((n *ℤ pos x) ≤ℤ pos (1000 * 10 ^ 18)) ↔ (n ≤ℤ most)) e (mosts n)) in (
      (λ a. (low.0 a.low, (lessers n).1 (high.0 a.high, limit.0 a.most))),
      (λ w. record { low = low.1 w.0; high = high.1 ((lessers n).0 w.1).0; most = limit.1 ((lessers n).0 w.1).1 }),
    )

pub band_between : (d b : ℕ) (old least greatest : ℤ) (band : BandView) → band.least ≡ least → band.greatest ≡ greatest
    → ((n : ℤ) → IsAllowed d b old n ↔ ((least ≤ℤ n) × (n ≤ℤ greatest))) → least ≤ℤ greatest → IsBand (IsAllowed d b old) band
band_between d b old least greatest band e f law h = record {
  least = record {
    has = (law band.least).1 (omega (arith, ints), omega (arith, ints));
    least = λ m a. (let w = (law m).0 a in let p = w.0 in omega (arith, ints));
  };
  greatest = record {
    has = (law band.greatest).1 (omega (arith, ints), omega (arith, ints));
    greatest = λ m a. (let w = (law m).0 a in let p = w.1 in omega (arith, ints));
  };
}

-- an observed time is passed on as it is
pub passed_seen : (z : ℤ) → nat_abs z ≤ 9 * 10 ^ 21 → to_z w128 (of_z w128 z) ≡ z
passed_seen z h = passed_small z (through _ _ _ (omega (arith, ints)) (sized_from z (9 * 10 ^ 21) h)) (through _ _ _ (sized_to z (9 * 10 ^ 21) h) (omega (arith, ints)))
