-- Lines that meet all observations give a cover.
use Rattle.std.proofs.Common.{◌≡◌, ℕ, ◌+◌, ◌-◌, ◌*◌, ◌<◌, ◌≤◌, List, [], ◌∷◌, ◌++◌, length, refl, ap, subst, arith, ◌∙◌}
use Rattle.std.proofs.lemmas.Int.{ints}
use Rattle.std.proofs.Math.Nat.{one-le-mul}
use Rattle.std.specs.Prelude.{ℤ, pos, ◌+ℤ◌, ◌-ℤ◌, ◌*ℤ◌, ◌≤ℤ◌}
use Rattle.std.specs.List.{AllByRecursion}
use Rattle.sk_decimal.proofs.Signed.{add-mul, sub-mul}
use Rattle.sk_line.specs.Triple.{Anchor}
use Rattle.sk_line.proofs.Products.{twice, power_positive}
use Rattle.sk_line.proofs.Lists.{all_map, all_both}
use Rattle.sk_publishing.specs.Terms.{Sight, Gauge, unit}
use Rattle.sk_publishing.specs.Meets.{Meets, line_at}
use Rattle.sk_publishing.specs.Chain.{SegmentView, covered_by}
use Rattle.sk_least.specs.Cover.{IsNear, IsStraight, IsInOnePartition, IsStretch}
use Rattle.sk_least.specs.Lines.{IsLineOf, one_if_some, lines_used, LineLaw}
use Rattle.sk_least.proofs.Covers.{joined}
use Rattle.sk_least.proofs.Slopes.{less-mul}

module _ (g : Gauge) (some : 0 < g.per_count) where
  -- the line of an anchor and a rate as p + q × tick over c
  near : (anchor : Anchor) (rate : ℤ) (o : Sight) → anchor.ticks ≤ o.tick → Meets g anchor rate o
      → IsNear g.tolerance ((anchor.time *ℤ pos g.per_count) -ℤ (rate *ℤ pos anchor.ticks)) rate (unit g * g.per_count) o
  near anchor rate o h m =
      let ahead = less-mul rate o.tick anchor.ticks (o.tick - anchor.ticks) (omega arith) in
      let low : ((o.time *ℤ pos (unit g * g.per_count)) -ℤ (g.tolerance *ℤ pos (unit g * g.per_count))) ≤ℤ line_at g anchor rate o.tick =
      subst (λ (x : ℤ). x ≤ℤ line_at g anchor rate o.tick) (twice (o.time -ℤ g.tolerance) (unit g) g.per_count ∙ sub-mul o.time g.tolerance (unit g * g.per_count)) m.low in
      let high : line_at g anchor rate o.tick ≤ℤ ((o.time *ℤ pos (unit g * g.per_count)) +ℤ (g.tolerance *ℤ pos (unit g * g.per_count))) =
      subst (λ (x : ℤ). line_at g anchor rate o.tick ≤ℤ x) (twice (o.time +ℤ g.tolerance) (unit g) g.per_count ∙ add-mul o.time g.tolerance (unit g * g.per_count)) m.high in
      record { low = lower _ _ _ _ _ _ ahead high; high = higher _ _ _ _ _ _ ahead low }
    where
      lower : (begun per_tick before ahead time tol : ℤ) → ahead ≡ per_tick -ℤ before → (begun +ℤ ahead) ≤ℤ (time +ℤ tol) → (((begun -ℤ before) +ℤ per_tick) -ℤ tol) ≤ℤ time
      lower begun per_tick before ahead time tol e p = omega (arith, ints)

      higher : (begun per_tick before ahead time tol : ℤ) → ahead ≡ per_tick -ℤ before → (time -ℤ tol) ≤ℤ (begun +ℤ ahead) → time ≤ℤ (((begun -ℤ before) +ℤ per_tick) +ℤ tol)
      higher begun per_tick before ahead time tol e p = omega (arith, ints)

  positive : 0 < unit g * g.per_count
  positive = one-le-mul (power_positive (18 - g.decimals)) some

  straight : (anchor : Anchor) (rate : ℤ) (os : List Sight) → AllByRecursion (λ o. anchor.ticks ≤ o.tick) os → AllByRecursion (Meets g anchor rate) os → IsStraight g.tolerance os
  straight anchor rate os h m = record {
    p = (anchor.time *ℤ pos g.per_count) -ℤ (rate *ℤ pos anchor.ticks);
    q = rate;
    c = unit g * g.per_count;
    positive = positive;
    near = all_map (λ o. (anchor.ticks ≤ o.tick) × Meets g anchor rate o) _ (λ o t. near anchor rate o t.0 t.1) os (all_both (λ o. anchor.ticks ≤ o.tick) (Meets g anchor rate) os h m);
  }

-- what each line covers, where it covers some
abbrev with_run : List Sight → List (List Sight) → List (List Sight)
with_run [] runs = runs
with_run (o ∷ os) runs = (o ∷ os) ∷ runs

abbrev runs_of : List SegmentView → List (List Sight)
runs_of [] = []
runs_of (s ∷ segments) = with_run s.covered (runs_of segments)

counted : (segments : List SegmentView) → length (runs_of segments) ≡ lines_used segments
counted [] = refl
counted (s ∷ segments) = one s.covered (runs_of segments) ∙ ap (λ (n : ℕ). one_if_some s.covered + n) (counted segments)
  where
    one : (os : List Sight) (runs : List (List Sight)) → length (with_run os runs) ≡ one_if_some os + length runs
    one [] runs = omega arith
    one (o ∷ os) runs = omega arith

joins : (segments : List SegmentView) → joined (runs_of segments) ≡ covered_by segments
joins [] = refl
joins (s ∷ segments) = one s.covered (runs_of segments) ∙ ap (λ (os : List Sight). s.covered ++ os) (joins segments)
  where
    one : (os : List Sight) (runs : List (List Sight)) → joined (with_run os runs) ≡ os ++ joined runs
    one [] runs = refl
    one (o ∷ os) runs = refl

each : (g : Gauge) (lengths : List ℕ) → 0 < g.per_count → (segments : List SegmentView) → AllByRecursion (IsLineOf g lengths) segments → AllByRecursion (IsStretch lengths g.tolerance) (runs_of segments)
each g lengths some [] h = tt
each g lengths some (s ∷ segments) h = one s.covered (h.0.partition) (straight g some s.anchor s.rate s.covered h.0.ahead h.0.meets) (each g lengths some segments h.1)
  where
    one : (os : List Sight) → IsInOnePartition lengths os → IsStraight g.tolerance os → AllByRecursion (IsStretch lengths g.tolerance) (runs_of segments)
        → AllByRecursion (IsStretch lengths g.tolerance) (with_run os (runs_of segments))
    one [] p t rest = rest
    one (o ∷ os) p t rest = (record { not_empty = omega arith; straight = t; partition = p }, rest)

pub no_fewer_lines : LineLaw
no_fewer_lines g lengths all runs segments some shortest covered lines =
    subst (λ (n : ℕ). length runs ≤ n) (counted segments)
    (shortest.least (runs_of segments) (record { joined = joins segments ∙ covered; each = each g lengths some segments lines }))
