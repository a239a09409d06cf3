-- Where a new triple begins within a partition, time rises by less than the time unit.
use Rattle.std.proofs.Common.{◌≡◌, ℕ, ◌-◌, ◌*◌, ◌^◌, ◌<◌, List, [], ◌∷◌, length, refl, sym, ap, subst, inl, inr, ◌∙◌, arith}
use Rattle.std.proofs.lemmas.Int.{ints, by_lt_z}
use Rattle.std.proofs.lemmas.Bool.Decides.{eqb_tells}
use Rattle.std.proofs.Math.Nat.{one-le-mul}
use Rattle.std.specs.Prelude.{ℤ, pos, ◌+ℤ◌, ◌-ℤ◌, ◌*ℤ◌, ◌≤ℤ◌, ◌<ℤ◌, Option, Some, None}
use Rattle.std.specs.List.{AllByRecursion}
use Rattle.sk_decimal.specs.Quotient.{ceiling_quotient}
use Rattle.sk_decimal.proofs.Quotients.{ceiling_least}
use Rattle.sk_decimal.proofs.Signed.{<ℤ-or-≤ℤ, sub-mul}
use Rattle.sk_line.specs.Triple.{Anchor}
use Rattle.sk_line.specs.Line.{line_over}
use Rattle.sk_line.proofs.Products.{twice, power_positive}
use Rattle.sk_publishing.specs.Terms.{Sight, Terms, partition_at, unit, in_seconds}
use Rattle.sk_publishing.specs.Meets.{line_at}
use Rattle.sk_publishing.specs.Chain.{SegmentView, first_of, EachJoined, ForNext, IsInPartition, StayInPartition, anchor_due, left_at, rounded_up, IsNotLater, IsChain}
use Rattle.sk_publishing.specs.Promises.{IsSmallStep, StepLaw}
use Rattle.sk_publishing.proofs.Chains.{due_of, starts}
use Rattle.sk_publishing.proofs.NewKernel.{due_within}
use Rattle.sk_publishing.proofs.NewKernel.{due_within}

-- a number rounded up to whole units is less than a unit above it
module _ (n : ℤ) (u per : ℕ) (some : 0 < u * per) where
  abbrev up : ℤ
  up = ceiling_quotient n (u * per)

  above_before : ((up -ℤ pos 1) *ℤ pos (u * per)) <ℤ n
  above_before = by_lt_z ((up -ℤ pos 1) *ℤ pos (u * per)) n (λ less. less)
      (λ le. absurd (one_less up (ceiling_least n (u * per) (up -ℤ pos 1) some le)))
    where
      one_less : (z : ℤ) → z ≤ℤ (z -ℤ pos 1) → ⊥
      one_less z h = omega (arith, ints)

  pub rises_little : ((up *ℤ pos u) *ℤ pos per) <ℤ (n +ℤ pos (u * per))
  rises_little = moved _ _ _ (pos (u * per)) (twice up u per) (sub-mul up (pos 1) (u * per)) (one_times (u * per)) above_before
    where
      one_times : (k : ℕ) → (pos 1 *ℤ pos k) ≡ pos k
      one_times k = omega (arith, ints)

      moved : (a b c d : ℤ) → a ≡ b → ((up -ℤ pos 1) *ℤ pos (u * per)) ≡ (b -ℤ c) → c ≡ d → ((up -ℤ pos 1) *ℤ pos (u * per)) <ℤ n → a <ℤ (n +ℤ d)
      moved a b c d e f g below = less a b c d n ((up -ℤ pos 1) *ℤ pos (u * per)) e f g below
        where
          less : (a b c d n x : ℤ) → a ≡ b → x ≡ (b -ℤ c) → c ≡ d → x <ℤ n → a <ℤ (n +ℤ d)
          less a b c d n x e f g below = omega (arith, ints, e, f, g, below)

module _ (t : Terms) (some : 0 < t.gauge.per_count) where
  abbrev Within : SegmentView → SegmentView → Type 0
  Within before s = ForNext (first_of s.covered) (λ o. IsInPartition t before o → s.anchor ≡ anchor_due t before o)

  abbrev Anew : SegmentView → SegmentView → Type 0
  Anew before s = ForNext (first_of s.covered) (λ o. ¬ IsInPartition t before o → (s.anchor ≡ anchor_due t before o) × IsNotLater t before o)

  abbrev Small : SegmentView → Anchor → Type 0
  Small before a = (a.time *ℤ pos t.gauge.per_count) <ℤ (line_over t.gauge.per_count before.anchor before.rate a.ticks +ℤ pos (unit t.gauge * t.gauge.per_count))

  small_step : (before s : SegmentView) (o : Sight) (m : List Sight) → s.covered ≡ o ∷ m → AllByRecursion (IsInPartition t s) s.covered
      → Within before s → Anew before s → IsSmallStep t before s
  small_step before s o m e stays within anew same =
      let here : IsInPartition t s o = (subst (AllByRecursion (IsInPartition t s)) e stays).0 in
      let inside : IsInPartition t before o = here ∙ same in
      subst (Small before) (sym (due_of t before s o m e within anew ∙ due_within t before o inside))
      (rises_little (line_at t.gauge before.anchor before.rate (left_at t before)) (unit t.gauge) t.gauge.per_count (one-le-mul (power_positive (18 - t.gauge.decimals)) some))

  small_steps : (before : SegmentView) (later : List SegmentView) → AllByRecursion (λ l. 0 < length l.covered) later
      → AllByRecursion (λ s. AllByRecursion (IsInPartition t s) s.covered) later
      → EachJoined Within (before ∷ later) → EachJoined Anew (before ∷ later) → EachJoined (IsSmallStep t) (before ∷ later)
  small_steps before [] covers stays within anew = tt
  small_steps before (s ∷ later) covers stays within anew =
      let b = starts s.covered covers.0 in
      (small_step before s b.0 b.1 b.2 stays.0 within.0 anew.0, small_steps s later covers.1 stays.1 within.1 anew.1)

pub step_law : StepLaw
step_law t kept next [] some p = tt
step_law t kept next (s ∷ later) some p = small_steps t some s later p.runs.later p.partition.1 p.anchor_within p.anchor_anew
