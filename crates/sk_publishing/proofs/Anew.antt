-- The anchor of a segment that begins in a later partition.
use Rattle.std.proofs.Common.{◌≡◌, ◌⊎◌, ℕ, ◌-◌, ◌*◌, ◌<◌, refl, sym, subst, inl, inr, arith}
use Rattle.std.proofs.lemmas.Int.{ints, clamps, by_lt_z}
use Rattle.std.specs.Prelude.{ℤ, pos, ◌+ℤ◌, ◌-ℤ◌, ◌*ℤ◌, ◌≤ℤ◌}
use Rattle.std.specs.Int.{int_max}
use Rattle.sk_decimal.specs.Quotient.{ceiling_quotient}
use Rattle.sk_line.specs.Triple.{Anchor}
use Rattle.sk_line.specs.Line.{line_over}
use Rattle.sk_publishing.specs.Terms.{Sight, Terms, unit, in_seconds}
use Rattle.sk_publishing.specs.Meets.{Meets, line_at, scaled}
use Rattle.sk_publishing.specs.Chain.{SegmentView, rounded_up, time_anew, IsNotLater}
use Rattle.sk_publishing.proofs.RoundedUp.{rounding_law}
use Rattle.sk_decimal.proofs.Signed.{mul-le_right}

max_left : (a b : ℤ) → a ≤ℤ int_max a b
max_left a b = omega (arith, ints, clamps)

max_right : (a b : ℤ) → b ≤ℤ int_max a b
max_right a b = omega (arith, ints, clamps)

max_is : (a b : ℤ) → (int_max a b ≡ a) ⊎ (int_max a b ≡ b)
max_is a b = by_lt_z a b (λ less. inr (omega (arith, ints, clamps))) (λ le. inl (omega (arith, ints, clamps)))

through : (a b c : ℤ) → a ≤ℤ b → b ≤ℤ c → a ≤ℤ c
through a b c p q = omega (arith, ints)

-- the time at an anchor is the anchor's
pub at_anchor : (per : ℕ) (a : Anchor) (r : ℤ) (tick : ℕ) → tick ≡ a.ticks → line_over per a r tick ≡ a.time *ℤ pos per
at_anchor per a r tick e = none (tick - a.ticks) (omega arith)
  where
    none : (d : ℕ) → d ≡ 0 → (a.time *ℤ pos per) +ℤ (r *ℤ pos d) ≡ a.time *ℤ pos per
    none d z = subst (λ (k : ℕ). (a.time *ℤ pos per) +ℤ (r *ℤ pos k) ≡ a.time *ℤ pos per) (sym z) (omega (arith, ints))

module _ (t : Terms) (before : SegmentView) (o : Sight) where
  -- time does not fall there
  pub anew_in_order : 0 < t.gauge.per_count → line_at t.gauge before.anchor before.rate o.tick ≤ℤ (time_anew t before o *ℤ pos t.gauge.per_count)
  anew_in_order some = through _ _ _ (rounding_law.order t before o.tick some)
      (mul-le_right (rounded_up t before o.tick) (time_anew t before o) t.gauge.per_count (max_right (in_seconds t.gauge o.time) (rounded_up t before o.tick)))

  -- it counts whole time units
  pub anew_whole : (units : ℤ) × (time_anew t before o ≡ in_seconds t.gauge units)
  anew_whole = elim (max_is (in_seconds t.gauge o.time) (rounded_up t before o.tick)) [
    | inl e ↦ (o.time, e)
    | inr e ↦ (ceiling_quotient (line_at t.gauge before.anchor before.rate o.tick) (unit t.gauge * t.gauge.per_count), e)
  ]

  -- and it is within the tolerance
  pub anew_from : scaled t.gauge o.time ≤ℤ (time_anew t before o *ℤ pos t.gauge.per_count)
  anew_from = mul-le_right (in_seconds t.gauge o.time) (time_anew t before o) t.gauge.per_count (max_left (in_seconds t.gauge o.time) (rounded_up t before o.tick))

  abbrev Small : ℤ → Type 0
  Small z = (z *ℤ pos t.gauge.per_count) ≤ℤ scaled t.gauge (o.time +ℤ t.gauge.tolerance)

  pub anew_to : 0 < t.gauge.per_count → pos 0 ≤ℤ t.gauge.tolerance → IsNotLater t before o
      → (time_anew t before o *ℤ pos t.gauge.per_count) ≤ℤ scaled t.gauge (o.time +ℤ t.gauge.tolerance)
  anew_to some positive not_later = elim (max_is (in_seconds t.gauge o.time) (rounded_up t before o.tick)) [
    | inl e ↦ subst Small (sym e) (mul-le_right (in_seconds t.gauge o.time) (in_seconds t.gauge (o.time +ℤ t.gauge.tolerance)) t.gauge.per_count
        (mul-le_right o.time (o.time +ℤ t.gauge.tolerance) (unit t.gauge) (more o.time t.gauge.tolerance positive)))
    | inr e ↦ subst Small (sym e) (rounding_law.tolerance t before o.tick o some not_later)
  ]
    where
      more : (a b : ℤ) → pos 0 ≤ℤ b → a ≤ℤ (a +ℤ b)
      more a b k = omega (arith, ints)

  -- so every rate meets the observation from there
  pub anew_meets : 0 < t.gauge.per_count → pos 0 ≤ℤ t.gauge.tolerance → IsNotLater t before o → (rate : ℤ)
      → Meets t.gauge (record { ticks = o.tick; time = time_anew t before o }) rate o
  anew_meets some positive not_later rate =
      let there = at_anchor t.gauge.per_count (record { ticks = o.tick; time = time_anew t before o }) rate o.tick refl in
      record {
        low = subst (λ (x : ℤ). scaled t.gauge (o.time -ℤ t.gauge.tolerance) ≤ℤ x) (sym there)
            (through _ _ _ (mul-le_right (in_seconds t.gauge (o.time -ℤ t.gauge.tolerance)) (in_seconds t.gauge o.time) t.gauge.per_count
            (mul-le_right (o.time -ℤ t.gauge.tolerance) o.time (unit t.gauge) (less o.time t.gauge.tolerance positive))) anew_from);
        high = subst (λ (x : ℤ). x ≤ℤ scaled t.gauge (o.time +ℤ t.gauge.tolerance)) (sym there) (anew_to some positive not_later);
      }
    where
      less : (a b : ℤ) → pos 0 ≤ℤ b → (a -ℤ b) ≤ℤ a
      less a b k = omega (arith, ints)
