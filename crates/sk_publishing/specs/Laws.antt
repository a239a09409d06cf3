-- What is proved of these definitions by themselves.
use Rattle.std.specs.Prelude.{◌≡◌, ◌⊎◌, ◌↔◌, ℕ, ◌<◌, ℤ, pos, ◌+ℤ◌, ◌-ℤ◌, ◌*ℤ◌, ◌≤ℤ◌, List, [], ◌∷◌, ◌++◌, Option}
use Rattle.std.specs.List.{AllByRecursion}
use Rattle.sk_publishing.specs.Terms.{Sight, Gauge, Terms, partition_at, seam}
use Rattle.sk_line.specs.Triple.{Anchor, TripleView}
use Rattle.sk_publishing.specs.Meets.{Meets, line_at, scaled}
use Rattle.sk_line.specs.Line.{line_over, IsTimeAt}
use Rattle.sk_publishing.specs.Meets.{IsWithinTolerance}
use Rattle.sk_publishing.specs.Rates.{on_grid, BandView, InBand, IsFirstGreatest, IsFirstLeast, Blocks}
use Rattle.sk_publishing.specs.Chain.{SegmentView, IsChain, rounded_up, new_triples, EachJoined}
use Rattle.sk_publishing.specs.Kept.{IsPublication, StopsAtNoRate, StopsAtTimeFall}

-- A rate of the band meets every observation of a run exactly where it lies between the greatest of their least
-- rates and the least of their greatest rates.
abbrev pub IntervalLaw : Type 0
IntervalLaw = (g : Gauge) (band : BandView) (anchor : Anchor) (run : List Sight) (low high : Sight) (least greatest : ℤ)
    → IsFirstGreatest (InBand band) g anchor run low least → IsFirstLeast (InBand band) g anchor run high greatest
    → (n : ℤ) → InBand band n
    → AllByRecursion (Meets g anchor (on_grid g.rate_decimals n)) run ↔ ((least ≤ℤ n) × (n ≤ℤ greatest))

-- where no rate of the band meets all, the pair blocks
abbrev pub PairLaw : Type 0
PairLaw = (g : Gauge) (band : BandView) (anchor : Anchor) (run : List Sight) (low high : Sight) (least greatest : ℤ)
    → IsFirstGreatest (InBand band) g anchor run low least → IsFirstLeast (InBand band) g anchor run high greatest
    → ((n : ℤ) → InBand band n → ¬ AllByRecursion (Meets g anchor (on_grid g.rate_decimals n)) run)
    → Blocks (InBand band) g anchor low high

-- An anchor whose time is rounded up is not before the line, so time does not fall there; and it is after no observed time
-- and tolerance that the line is not after.
pub record RoundingLaw : Type 0 where
  pub order : (t : Terms) (s : SegmentView) (tick : ℕ) → 0 < t.gauge.per_count
      → line_at t.gauge s.anchor s.rate tick ≤ℤ (rounded_up t s tick *ℤ pos t.gauge.per_count)
  pub tolerance : (t : Terms) (s : SegmentView) (tick : ℕ) (o : Sight) → 0 < t.gauge.per_count
      → line_at t.gauge s.anchor s.rate tick ≤ℤ scaled t.gauge (o.time +ℤ t.gauge.tolerance)
      → (rounded_up t s tick *ℤ pos t.gauge.per_count) ≤ℤ scaled t.gauge (o.time +ℤ t.gauge.tolerance)

-- ---- the new kernel

-- ticks rise from each to all later ones
abbrev pub SightsRise : List Sight → Type 0
SightsRise [] = Unit {0}
SightsRise (o ∷ os) = AllByRecursion (λ p. o.tick < p.tick) os × SightsRise os

abbrev pub TriplesRise : List TripleView → Type 0
TriplesRise [] = Unit {0}
TriplesRise (a ∷ triples) = AllByRecursion (λ b. a.anchor.ticks < b.anchor.ticks) triples × TriplesRise triples

-- each kept observation is within the tolerance by the old triples and the new ones
abbrev pub ToleranceLaw : Type 0
ToleranceLaw = (t : Terms) (front : List TripleView) (kept : List Sight) (next : Option Sight) (chain : List SegmentView)
    → 0 < t.gauge.per_count
    → TriplesRise ((front ++ t.old ∷ []) ++ new_triples chain)
    → SightsRise kept → AllByRecursion (λ o. t.old.anchor.ticks < o.tick) kept
    → AllByRecursion (λ o. partition_at t o.tick ≡ partition_at t t.old.anchor.ticks → seam t < o.tick) kept
    → IsChain t kept next chain
    → AllByRecursion (IsWithinTolerance t.gauge ((front ++ t.old ∷ []) ++ new_triples chain)) kept

-- time does not fall where a new triple begins
abbrev pub NoFallLaw : Type 0
NoFallLaw = (t : Terms) (kept : List Sight) (next : Option Sight) (chain : List SegmentView) → 0 < t.gauge.per_count
    → IsChain t kept next chain
    → EachJoined (λ before s. line_over t.gauge.per_count before.anchor before.rate s.anchor.ticks ≤ℤ (s.anchor.time *ℤ pos t.gauge.per_count)) chain

-- there is at most one chain so far at an observation, and one chain of all
abbrev pub OneChain : Type 0
OneChain = (t : Terms) (kept : List Sight) (next : Option Sight) (a b : List SegmentView)
    → IsChain t kept next a → IsChain t kept next b → a ≡ b

-- two publications of the same observations are equal
abbrev pub OnePublication : Type 0
OnePublication = (t : Terms) (all d e : List Sight) (a b : List SegmentView)
    → IsPublication t all d a → IsPublication t all e b → (d ≡ e) × (a ≡ b)

-- an observation stops the publication, for either reason
abbrev pub Stops : Terms → List Sight → Sight → Type 0
Stops t all o = StopsAtNoRate t all o ⊎ StopsAtTimeFall t all o

-- What stops a publication is one observation, for one reason, and then there is no publication.
pub record OneStop : Type 0 where
  pub none : (t : Terms) (all : List Sight) (o : Sight) (dropped : List Sight) (chain : List SegmentView)
      → Stops t all o → ¬ IsPublication t all dropped chain
  pub one : (t : Terms) (all : List Sight) (o o' : Sight) → Stops t all o → Stops t all o' → o ≡ o'
  pub apart : (t : Terms) (all : List Sight) (o o' : Sight) → StopsAtNoRate t all o → ¬ StopsAtTimeFall t all o'
