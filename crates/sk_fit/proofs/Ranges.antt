-- Allowed rates as a band, partitions between ticks, and the sizes that arithmetic needs.
use Rattle.std.proofs.Common.{◌≡◌, ℕ, ◌+◌, ◌*◌, ◌^◌, ◌<◌, ◌≤◌, Bool, List, [], ◌∷◌, ◌++◌, ◌-◌, sym, ap, subst, inl, inr, ◌∙◌, arith, if◌then◌else◌}
use Rattle.sk_fit.proofs.Quotients.{through}
use Rattle.std.proofs.lemmas.Int.{ints, by_lt_z}
use Rattle.std.proofs.lemmas.Bool.Decides.{leb_tells}
use Rattle.std.proofs.Math.Nat.{mul-le-mul_left, one-le-mul}
use Rattle.std.specs.Prelude.{ℤ, pos, neg_ℤ, ◌+ℤ◌, ◌-ℤ◌, ◌*ℤ◌, ◌≤ℤ◌, ◌<ℤ◌, nat_le}
use Rattle.sk_clock.specs.Clock.{ticks_per, partition_from}
use Rattle.sk_publishing.specs.Terms.{Sight, Gauge, Terms, partition_at, unit, in_seconds}
use Rattle.sk_line.specs.Triple.{Anchor}
use Rattle.sk_publishing.specs.Meets.{Meets, line_at, scaled}
use Rattle.sk_line.specs.Line.{line_over}
use Rattle.sk_publishing.specs.Rates.{BandView, InBand, IsBand, IsLeastRate, IsGreatestRate}
use Rattle.sk_publishing.specs.Chain.{SegmentView, IsAllowedStep, rounded_up}
use Rattle.sk_publishing.proofs.Fitting.{between}
use Rattle.sk_publishing.proofs.RoundedUp.{rounding_law}
use Rattle.sk_line.proofs.Products.{twice, power_positive}
use Rattle.sk_decimal.proofs.Quotients.{ceiling_above, ceiling_least}
use Rattle.sk_decimal.specs.Quotient.{ceiling_quotient}
use Rattle.std.specs.List.{AllByRecursion}
use Rattle.sk_decimal.proofs.Signed.{mul-le_right, ≤ℤ-antisym, add-mul}
use Rattle.sk_fit.specs.Given.{sight_at}
use Rattle.sk_fit.specs.State.{HoldsDue}
use Rattle.sk_fit.specs.Context.{FitView, IsNext, terms}
use Rattle.sk_publishing.specs.Row.{RowView}

-- ---- partitions

pub partition_rises : (before : ℕ) (lens : List ℕ) (a b : ℕ) → a ≤ b → partition_from before lens a ≤ partition_from before lens b
partition_rises before [] a b h = omega arith
partition_rises before (len ∷ lens) a b h = elim (leb_tells before a) [
  | inl w ↦ elim (leb_tells before b) [
    | inl v ↦ subst (λ (x : Bool). (if x then 1 + partition_from (before + len) lens a else 0) ≤ (if nat_le before b then 1 + partition_from (before + len) lens b else 0)) (sym w.0)
        (subst (λ (x : Bool). (1 + partition_from (before + len) lens a) ≤ (if x then 1 + partition_from (before + len) lens b else 0)) (sym v.0)
        (let r = partition_rises (before + len) lens a b h in omega arith))
    | inr v ↦ absurd (let p = w.1 in let q = v.1 in omega arith)
  ]
  | inr w ↦ subst (λ (x : Bool). (if x then 1 + partition_from (before + len) lens a else 0) ≤ (if nat_le before b then 1 + partition_from (before + len) lens b else 0)) (sym w.0) (omega arith)
]

-- a tick between two of one partition is in it
pub between_ticks : (t : Terms) (a m b : ℕ) → a ≤ m → m ≤ b → partition_at t b ≡ partition_at t a → partition_at t m ≡ partition_at t a
between_ticks t a m b p q e =
    let low = partition_rises 0 t.lengths a m p in
    let high = partition_rises 0 t.lengths m b q in
    omega arith

-- ---- allowed rates

module _ (t : Terms) (band : BandView) (b : IsBand (IsAllowedStep t) band) where
  pub in_band : (n : ℤ) → IsAllowedStep t n → InBand band n
  in_band n a = record { low = b.least.least n a; high = b.greatest.greatest n a }

  pub of_band : (n : ℤ) → InBand band n → IsAllowedStep t n
  of_band n i = between t band.least band.greatest n b.least.has b.greatest.has i.low i.high

  pub least_allowed_rate : (g : Gauge) (anchor : Anchor) (o : Sight) (n : ℤ) → IsLeastRate (InBand band) g anchor o n → IsLeastRate (IsAllowedStep t) g anchor o n
  least_allowed_rate g anchor o n (inl h) = inl (record { has = (of_band n h.has.0, h.has.1); least = λ m f. h.least m (in_band m f.0, f.1) })
  least_allowed_rate g anchor o n (inr h) = inr (
    (λ m f. h.0 m (in_band m f.0, f.1)),
    record { has = of_band (n -ℤ pos 1) h.1.has; greatest = λ m a. h.1.greatest m (in_band m a) },
  )

  pub greatest_allowed_rate : (g : Gauge) (anchor : Anchor) (o : Sight) (n : ℤ) → IsGreatestRate (InBand band) g anchor o n → IsGreatestRate (IsAllowedStep t) g anchor o n
  greatest_allowed_rate g anchor o n (inl h) = inl (record { has = (of_band n h.has.0, h.has.1); greatest = λ m f. h.greatest m (in_band m f.0, f.1) })
  greatest_allowed_rate g anchor o n (inr h) = inr (
    (λ m f. h.0 m (in_band m f.0, f.1)),
    record { has = of_band (n +ℤ pos 1) h.1.has; least = λ m a. h.1.least m (in_band m a) },
  )

-- ---- sizes

pub scaled_to : (z : ℤ) (per_count : ℕ) → z ≤ℤ pos (91 * 10 ^ 20) → per_count ≤ 2 ^ 32 → ((z *ℤ pos (10 ^ 6)) *ℤ pos per_count) ≤ℤ pos (6 * 10 ^ 37)
scaled_to z per_count h k =
    let seconds : (z *ℤ pos (10 ^ 6)) ≤ℤ pos (91 * 10 ^ 26) = mul-le_right z (pos (91 * 10 ^ 20)) (10 ^ 6) h in
    let all : ((z *ℤ pos (10 ^ 6)) *ℤ pos per_count) ≤ℤ (pos (91 * 10 ^ 26) *ℤ pos per_count) = mul-le_right (z *ℤ pos (10 ^ 6)) (pos (91 * 10 ^ 26)) per_count seconds in
    through _ _ _ all (omega (arith, ints, mul-le-mul_left (91 * 10 ^ 26) k))

pub scaled_from : (z : ℤ) (per_count : ℕ) → neg_ℤ (pos (91 * 10 ^ 20)) ≤ℤ z → per_count ≤ 2 ^ 32 → neg_ℤ (pos (6 * 10 ^ 37)) ≤ℤ ((z *ℤ pos (10 ^ 6)) *ℤ pos per_count)
scaled_from z per_count h k =
    let seconds : neg_ℤ (pos (91 * 10 ^ 26)) ≤ℤ (z *ℤ pos (10 ^ 6)) = mul-le_right (neg_ℤ (pos (91 * 10 ^ 20))) z (10 ^ 6) h in
    let all : (neg_ℤ (pos (91 * 10 ^ 26)) *ℤ pos per_count) ≤ℤ ((z *ℤ pos (10 ^ 6)) *ℤ pos per_count) = mul-le_right (neg_ℤ (pos (91 * 10 ^ 26))) (z *ℤ pos (10 ^ 6)) per_count seconds in
    through _ _ _ (omega (arith, ints, mul-le-mul_left (91 * 10 ^ 26) k)) all

-- where the rate meets an observation, the anchor due there is small
pub due_holds : (t : Terms) (s : SegmentView) (o : Sight) → 0 < t.gauge.per_count → Meets t.gauge s.anchor s.rate o
    → neg_ℤ (pos (6 * 10 ^ 37)) ≤ℤ scaled t.gauge (o.time -ℤ t.gauge.tolerance) → scaled t.gauge (o.time +ℤ t.gauge.tolerance) ≤ℤ pos (6 * 10 ^ 37)
    → HoldsDue t s o.tick
due_holds t s o some m from to = record {
  from = through _ _ _ (through _ _ _ from m.low) (rounding_law.order t s o.tick some);
  to = through _ _ _ (rounding_law.tolerance t s o.tick o some m.high) to;
}

pub due_near : (fit : FitView) (n : ℕ) (row : RowView) → IsNext fit n row → (s : SegmentView)
    → Meets (terms fit).gauge s.anchor s.rate (sight_at n row) → HoldsDue (terms fit) s row.tick
due_near fit n row next s met =
    let a = next.given.ranges.tolerance_from in
    let b = next.given.ranges.tolerance_to in
    let from = next.from in
    let to = next.to in
    due_holds (terms fit) s (sight_at n row) next.given.clocked.some met
    (scaled_from (row.time -ℤ fit.settings.tolerance.units) (ticks_per fit.clock) (omega (arith, ints)) next.given.clocked.few)
    (scaled_to (row.time +ℤ fit.settings.tolerance.units) (ticks_per fit.clock) (omega (arith, ints)) next.given.clocked.few)

-- ---- a segment that covers nothing past its anchor

-- whole units are their own rounded-up time
whole_ceiling : (u : ℤ) (d : ℕ) → 0 < d → ceiling_quotient (u *ℤ pos d) d ≡ u
whole_ceiling u d h = ≤ℤ-antisym (ceiling_quotient (u *ℤ pos d) d) u (ceiling_least (u *ℤ pos d) d u h (same (u *ℤ pos d)))
    (by_lt_z (ceiling_quotient (u *ℤ pos d) d) u (λ less. absurd (apart less)) (λ le. le))
  where
    same : (a : ℤ) → a ≤ℤ a
    same a = omega (arith, ints)

    next : (a b : ℤ) → a <ℤ b → (a +ℤ pos 1) ≤ℤ b
    next a b p = omega (arith, ints)

    over : (a b c e : ℤ) → b ≤ℤ a → (a +ℤ c) ≤ℤ b → e ≡ a +ℤ c → pos 0 <ℤ c → ⊥
    over a b c e p q r s = omega (arith, ints)

    positive : (m : ℕ) → 0 < m → pos 0 <ℤ (pos 1 *ℤ pos m)
    positive m k = omega (arith, ints)

    apart : ceiling_quotient (u *ℤ pos d) d <ℤ u → ⊥
    apart less =
        let c : ℤ = ceiling_quotient (u *ℤ pos d) d in
        over (c *ℤ pos d) (u *ℤ pos d) (pos 1 *ℤ pos d) ((c +ℤ pos 1) *ℤ pos d) (ceiling_above (u *ℤ pos d) d h)
        (subst (λ (x : ℤ). x ≤ℤ (u *ℤ pos d)) (add-mul c (pos 1) d) (mul-le_right (c +ℤ pos 1) u d (next c u less))) (add-mul c (pos 1) d) (positive d h)

-- the line at the anchor is the anchor's time, whatever the rate
at_anchor : (per_count : ℕ) (a : Anchor) (rate : ℤ) (tick : ℕ) → tick ≤ a.ticks → line_over per_count a rate tick ≡ (a.time *ℤ pos per_count)
at_anchor per_count a rate tick h = ap (λ (x : ℤ). (a.time *ℤ pos per_count) +ℤ x) (none rate (tick - a.ticks) (omega arith)) ∙ same (a.time *ℤ pos per_count)
  where
    none : (rate : ℤ) (n : ℕ) → n ≡ 0 → (rate *ℤ pos n) ≡ pos 0
    none rate n e = subst (λ (m : ℕ). (rate *ℤ pos m) ≡ pos 0) (sym e) (omega (arith, ints))

    same : (a : ℤ) → a +ℤ pos 0 ≡ a
    same a = omega (arith, ints)

-- then the anchor that is left is its own
pub left_is_anchor : (t : Terms) (s : SegmentView) (units : ℤ) → 0 < t.gauge.per_count → s.anchor.time ≡ in_seconds t.gauge units
    → rounded_up t s s.anchor.ticks ≡ s.anchor.time
left_is_anchor t s units some e =
    let line : line_at t.gauge s.anchor s.rate s.anchor.ticks ≡ (units *ℤ pos (unit t.gauge * t.gauge.per_count)) =
    at_anchor t.gauge.per_count s.anchor s.rate s.anchor.ticks (omega arith) ∙ ap (λ (x : ℤ). x *ℤ pos t.gauge.per_count) e ∙ twice units (unit t.gauge) t.gauge.per_count in
    ap (λ (x : ℤ). in_seconds t.gauge (ceiling_quotient x (unit t.gauge * t.gauge.per_count))) line
    ∙ ap (in_seconds t.gauge) (whole_ceiling units (unit t.gauge * t.gauge.per_count) (one-le-mul (power_positive (18 - t.gauge.decimals)) some)) ∙ sym e

-- and a rate that meets the next one from there meets all that is covered too
pub meets_stuck : (g : Gauge) (a : Anchor) (rate rate' : ℤ) (c : List Sight) (o : Sight) → AllByRecursion (λ x. x.tick ≤ a.ticks) c
    → AllByRecursion (Meets g a rate) c → Meets g a rate' o → AllByRecursion (Meets g a rate') (c ++ o ∷ [])
meets_stuck g a rate rate' [] o h w m = (m, tt)
meets_stuck g a rate rate' (x ∷ c) o h w m = (
  record {
    low = subst (λ (y : ℤ). scaled g (x.time -ℤ g.tolerance) ≤ℤ y) (at_anchor g.per_count a rate x.tick h.0 ∙ sym (at_anchor g.per_count a rate' x.tick h.0)) w.0.low;
    high = subst (λ (y : ℤ). y ≤ℤ scaled g (x.time +ℤ g.tolerance)) (at_anchor g.per_count a rate x.tick h.0 ∙ sym (at_anchor g.per_count a rate' x.tick h.0)) w.0.high;
  },
  meets_stuck g a rate rate' c o h.1 w.1 m,
)
