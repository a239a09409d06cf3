-- What a user of a published kernel may assume of its times, and what each ended segment names.
use Rattle.std.specs.Prelude.{◌≡◌, ◌⊎◌, ℕ, ◌*◌, ◌<◌, ◌≤◌, ℤ, pos, ◌+ℤ◌, ◌*ℤ◌, ◌<ℤ◌, List, [], ◌∷◌, ◌++◌, Option, Some, slice_get}
use Rattle.std.specs.List.{AllByRecursion}
use Rattle.sk_line.specs.Triple.{TripleView}
use Rattle.sk_line.specs.Line.{line_over, IsTimeAt, FallsOver}
use Rattle.sk_publishing.specs.Terms.{Sight, Terms, partition_at, unit}
use Rattle.sk_publishing.specs.Meets.{IsTooSmall, IsTooLarge}
use Rattle.sk_publishing.specs.Laws.{TriplesRise}
use Rattle.sk_publishing.specs.Chain.{SegmentView, EndView, FixedEnd, BlockedEnd, ForNext, FirstAndLater, EachJoined, IsInPartition, IsOldRate, IsGridRate, IsChain}

-- ---- times

-- no join falls that stands above the tick a and at most at b
abbrev pub StandBetween : ℕ → List TripleView → ℕ → ℕ → Type 0
StandBetween per_count triples a b = (i : ℕ) → (triple : TripleView) → slice_get triples i ≡ Some triple
    → a < triple.anchor.ticks → triple.anchor.ticks ≤ b → ¬ FallsOver per_count triples (pos 0) i

-- Of two ticks with no falling join above the first and up to the second, the later one has the later time.
abbrev pub OrderLaw : Type 0
OrderLaw = (per_count : ℕ) (triples : List TripleView) (a b : ℕ) (over_a over_b : ℤ) → 0 < per_count
    → TriplesRise triples → AllByRecursion (λ triple. pos 0 <ℤ triple.rate) triples → a < b → StandBetween per_count triples a b
    → IsTimeAt per_count triples a over_a → IsTimeAt per_count triples b over_b → over_a <ℤ over_b

-- where a new triple begins in the partition of the segment before, time rises by less than the time unit
abbrev pub IsSmallStep : Terms → SegmentView → SegmentView → Type 0
IsSmallStep t before s = partition_at t s.anchor.ticks ≡ partition_at t before.anchor.ticks
    → (s.anchor.time *ℤ pos t.gauge.per_count) <ℤ (line_over t.gauge.per_count before.anchor before.rate s.anchor.ticks +ℤ pos (unit t.gauge * t.gauge.per_count))

abbrev pub StepLaw : Type 0
StepLaw = (t : Terms) (kept : List Sight) (next : Option Sight) (chain : List SegmentView) → 0 < t.gauge.per_count
    → IsChain t kept next chain → EachJoined (IsSmallStep t) chain

-- ---- the ends of segments

abbrev pub IsAmong : Sight → List Sight → Type 0
IsAmong x xs = (front : List Sight) × (back : List Sight) × (xs ≡ front ++ x ∷ back)

-- Two observations exclude every allowed rate: each is too small at the one, or too large at the other.
pub record IsBarred (allowed : ℤ → Type 0) (t : Terms) (s : SegmentView) (o low high : Sight) : Type 0 where
  pub has_low : IsAmong low (s.covered ++ o ∷ [])
  pub has_high : IsAmong high (s.covered ++ o ∷ [])
  pub excludes : (rate : ℤ) → allowed rate → IsTooSmall t.gauge s.anchor rate low ⊎ IsTooLarge t.gauge s.anchor rate high

-- the next observation alone excludes the one allowed rate of the first segment, whose end is told as fixed
abbrev pub IsBarredFirst : Terms → SegmentView → Option Sight → Type 0
IsBarredFirst t s next = ForNext next (λ o. IsInPartition t s o
    → (s.ended ≡ FixedEnd) × IsBarred (IsOldRate t) t s o o o)

-- the end of a later segment tells the pair
abbrev pub IsBarredLater : Terms → SegmentView → Option Sight → Type 0
IsBarredLater t s next = ForNext next (λ o. IsInPartition t s o
    → (low : Sight) × (high : Sight) × (s.ended ≡ BlockedEnd low.place high.place) × IsBarred (IsGridRate t) t s o low high)

-- A segment ends within its partition only where observations exclude every allowed rate, and its end tells which.
abbrev pub BarredLaw : Type 0
BarredLaw = (t : Terms) (kept : List Sight) (next : Option Sight) (chain : List SegmentView)
    → IsChain t kept next chain → FirstAndLater (IsBarredFirst t) (IsBarredLater t) chain next
