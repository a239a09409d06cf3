-- Lines of a kernel, and how few can meet all observations.
use Rattle.std.specs.Prelude.{◌≡◌, ℕ, ◌+◌, ◌<◌, ◌≤◌, List, [], ◌∷◌, length, Option}
use Rattle.std.specs.List.{AllByRecursion}
use Rattle.sk_publishing.specs.Terms.{Sight, Gauge, Terms, partition_at, seam}
use Rattle.sk_publishing.specs.Meets.{Meets}
use Rattle.sk_publishing.specs.Chain.{SegmentView, covered_by, IsChain}
use Rattle.sk_publishing.specs.Laws.{SightsRise}
use Rattle.sk_least.specs.Cover.{IsInOnePartition, IsShortestCover}

-- From its anchor on and in one partition the line meets the observations that it covers.
pub record IsLineOf (g : Gauge) (lengths : List ℕ) (s : SegmentView) : Type 0 where
  pub ahead : AllByRecursion (λ o. s.anchor.ticks ≤ o.tick) s.covered
  pub meets : AllByRecursion (Meets g s.anchor s.rate) s.covered
  pub partition : IsInOnePartition lengths s.covered

-- how many of the lines cover an observation
abbrev pub one_if_some : List Sight → ℕ
one_if_some [] = 0
one_if_some (o ∷ os) = 1

abbrev pub lines_used : List SegmentView → ℕ
lines_used [] = 0
lines_used (s ∷ segments) = one_if_some s.covered + lines_used segments

-- Whatever the anchors and the rates of lines that together meet all observations: no fewer of them cover one than
-- the runs of a shortest cover.
abbrev pub LineLaw : Type 0
LineLaw = (g : Gauge) (lengths : List ℕ) (all : List Sight) (runs : List (List Sight)) (segments : List SegmentView) → 0 < g.per_count
    → IsShortestCover lengths g.tolerance all runs → covered_by segments ≡ all → AllByRecursion (IsLineOf g lengths) segments
    → length runs ≤ lines_used segments

-- So it is of the chain of a publication, the old last triple among its segments, and the new observations that it keeps.
abbrev pub SegmentLaw : Type 0
SegmentLaw = (t : Terms) (kept : List Sight) (next : Option Sight) (chain : List SegmentView) (runs : List (List Sight)) → 0 < t.gauge.per_count
    → SightsRise kept → AllByRecursion (λ o. t.old.anchor.ticks < o.tick) kept
    → AllByRecursion (λ o. partition_at t o.tick ≡ partition_at t t.old.anchor.ticks → seam t < o.tick) kept
    → IsChain t kept next chain → IsShortestCover t.lengths t.gauge.tolerance kept runs → length runs ≤ lines_used chain
