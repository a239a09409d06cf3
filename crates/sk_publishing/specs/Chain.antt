-- Segments, and the lists of segments that make a publication.
use Rattle.std.specs.Prelude.{◌≡◌, ℕ, ◌*◌, ◌<◌, ℤ, ◌+ℤ◌, ◌≤ℤ◌, ◌==◌, List, [], ◌∷◌, ◌++◌, length, flat_map, Option, Some, None, if◌then◌else◌}
use Rattle.std.specs.Int.{int_max}
use Rattle.std.specs.List.{Any, AllByRecursion}
use Rattle.sk_decimal.specs.Quotient.{ceiling_quotient}
use Rattle.sk_publishing.specs.Terms.{Sight, Terms, unit, in_seconds, partition_at, seam}
use Rattle.sk_line.specs.Triple.{Anchor, TripleView}
use Rattle.sk_publishing.specs.Meets.{line_at, scaled, Meets}
use Rattle.sk_publishing.specs.Rates.{IsAllowed, on_grid, IsMiddleRate, IsFirstGreatest, IsFirstLeast}

-- why a segment ends; a blocking pair is named by its places
pub data EndView : Type 0 where
  LastEnd : EndView
  PartitionEnd : EndView
  FixedEnd : EndView
  BlockedEnd : (low high : ℕ) → EndView

-- a line, and the observations that it covers
pub record SegmentView : Type 0 where
  pub anchor : Anchor
  pub rate : ℤ
  pub covered : List Sight
  pub ended : EndView

-- ---- lists

abbrev pub first_of : List Sight → Option Sight
first_of [] = None
first_of (o ∷ os) = Some o

abbrev pub last_of : List Sight → Option Sight
last_of [] = None
last_of (o ∷ []) = Some o
last_of (o ∷ p ∷ os) = last_of (p ∷ os)

-- all that these segments cover
abbrev pub covered_by : List SegmentView → List Sight
covered_by segments = flat_map (λ s. s.covered) segments

-- the first of these, or else that
abbrev pub first_or : List Sight → Option Sight → Option Sight
first_or [] other = other
first_or (o ∷ os) other = Some o

-- each segment, with the observation that follows its run: the first that later segments cover, or next
abbrev pub EachFollowed : (SegmentView → Option Sight → Type 0) → List SegmentView → Option Sight → Type 0
EachFollowed P [] next = Unit {0}
EachFollowed P (s ∷ later) next = P s (first_or (covered_by later) next) × EachFollowed P later next

-- the same, where another fact holds of the first segment
abbrev pub FirstAndLater : (SegmentView → Option Sight → Type 0) → (SegmentView → Option Sight → Type 0) → List SegmentView → Option Sight → Type 0
FirstAndLater First Later [] next = Unit {0}
FirstAndLater First Later (s ∷ later) next = First s (first_or (covered_by later) next) × EachFollowed Later later next

-- each segment and the one before it
abbrev pub EachJoined : (SegmentView → SegmentView → Type 0) → List SegmentView → Type 0
EachJoined R [] = Unit {0}
EachJoined R (s ∷ []) = Unit {0}
EachJoined R (s ∷ next ∷ later) = R s next × EachJoined R (next ∷ later)

-- ---- one segment

-- a fact that needs an observation
abbrev pub ForNext : Option Sight → (Sight → Type 0) → Type 0
ForNext None P = Unit {0}
ForNext (Some o) P = P o

abbrev pub IsInPartition : Terms → SegmentView → Sight → Type 0
IsInPartition t s o = partition_at t o.tick ≡ partition_at t s.anchor.ticks

-- steps of the grid that are allowed rates of later segments
abbrev pub IsAllowedStep : Terms → ℤ → Type 0
IsAllowedStep t n = IsAllowed t.gauge.rate_decimals t.band t.old.rate n

-- the rates allowed for the first segment, and those for a later one
abbrev pub IsOldRate : Terms → ℤ → Type 0
IsOldRate t rate = rate ≡ t.old.rate

abbrev pub IsGridRate : Terms → ℤ → Type 0
IsGridRate t rate = (n : ℤ) × IsAllowedStep t n × (rate ≡ on_grid t.gauge.rate_decimals n)

-- the rate is allowed and meets each observation that is covered
abbrev pub HasRate : (ℤ → Type 0) → Terms → SegmentView → Type 0
HasRate allowed t s = allowed s.rate × AllByRecursion (Meets t.gauge s.anchor s.rate) s.covered

-- no allowed rate meets all that are covered and the next one, where that is in the segment's partition
abbrev pub IsMaximal : (ℤ → Type 0) → Terms → SegmentView → Option Sight → Type 0
IsMaximal allowed t s next = ForNext next (λ o. IsInPartition t s o →
    (rate : ℤ) → allowed rate → ¬ AllByRecursion (Meets t.gauge s.anchor rate) (s.covered ++ o ∷ []))

-- ---- the anchor of a further segment

-- where the line of a segment is left in its partition: its last covered tick, or the seam where it covers none
abbrev pub left_at : Terms → SegmentView → ℕ
left_at t s = elim (last_of s.covered) [ None ↦ seam t | Some o ↦ o.tick ]

-- the line at a tick, rounded up to the time unit
abbrev pub rounded_up : Terms → SegmentView → ℕ → ℤ
rounded_up t s tick = in_seconds t.gauge (ceiling_quotient (line_at t.gauge s.anchor s.rate tick) (unit t.gauge * t.gauge.per_count))

-- the later of two times: that of o, and the line at its tick, rounded up
abbrev pub time_anew : Terms → SegmentView → Sight → ℤ
time_anew t before o = int_max (in_seconds t.gauge o.time) (rounded_up t before o.tick)

-- The anchor due for a segment that begins with o: where the line was left, and in a later partition at o.
abbrev pub anchor_due : Terms → SegmentView → Sight → Anchor
anchor_due t before o =
    if partition_at t o.tick == partition_at t before.anchor.ticks
    then record { ticks = left_at t before; time = rounded_up t before (left_at t before) }
    else record { ticks = o.tick; time = time_anew t before o }

-- the line is later than the observation by at most the tolerance
abbrev pub IsNotLater : Terms → SegmentView → Sight → Type 0
IsNotLater t before o = line_at t.gauge before.anchor before.rate o.tick ≤ℤ scaled t.gauge (o.time +ℤ t.gauge.tolerance)

-- ---- the parts of a publication

-- the first segment is the old last triple
abbrev pub BeginsWithOld : Terms → List SegmentView → Type 0
BeginsWithOld t [] = ⊥
BeginsWithOld t (s ∷ later) = (s.anchor ≡ t.old.anchor) × (s.rate ≡ t.old.rate)

-- only the first segment may cover none
abbrev pub LaterCover : List SegmentView → Type 0
LaterCover [] = Unit {0}
LaterCover (s ∷ later) = AllByRecursion (λ l. 0 < length l.covered) later

-- The old last triple, and runs that together are the kept observations.
pub record AreRuns (t : Terms) (kept : List Sight) (chain : List SegmentView) : Type 0 where
  pub begins : BeginsWithOld t chain
  pub joined : covered_by chain ≡ kept
  pub later : LaterCover chain

-- a segment covers observations of its anchor's partition alone
abbrev pub StayInPartition : Terms → List SegmentView → Type 0
StayInPartition t chain = AllByRecursion (λ s. AllByRecursion (IsInPartition t s) s.covered) chain

-- each rate is allowed and meets what is covered
abbrev pub HaveRates : Terms → List SegmentView → Type 0
HaveRates t chain = FirstAndLater (λ s _. HasRate (IsOldRate t) t s) (λ s _. HasRate (IsGridRate t) t s) chain None

-- each later segment in its predecessor's partition has the anchor where that one's line was left
abbrev pub AreAnchored : Terms → List SegmentView → Type 0
AreAnchored t chain = EachJoined (λ before s. ForNext (first_of s.covered) (λ o. IsInPartition t before o →
    s.anchor ≡ anchor_due t before o)) chain

-- each later segment in another partition has the anchor due at its first observation, and no line too late for it
abbrev pub AreAnchoredAnew : Terms → List SegmentView → Type 0
AreAnchoredAnew t chain = EachJoined (λ before s. ForNext (first_of s.covered) (λ o. ¬ IsInPartition t before o →
    (s.anchor ≡ anchor_due t before o) × IsNotLater t before o)) chain

-- in its predecessor's partition a segment covers an observation past its anchor, and anchors rise
abbrev pub GoPastAnchors : Terms → List SegmentView → Type 0
GoPastAnchors t chain = EachJoined (λ before s. (before.anchor.ticks < s.anchor.ticks)
    × (partition_at t s.anchor.ticks ≡ partition_at t before.anchor.ticks → Any (λ o. s.anchor.ticks < o.tick) s.covered)) chain

-- a later segment's rate is the middle one
abbrev pub HaveMiddleRates : Terms → List SegmentView → Type 0
HaveMiddleRates t chain = FirstAndLater (λ _ _. Unit {0}) (λ s _. IsMiddleRate (IsAllowedStep t) t.gauge s.anchor s.covered s.rate) chain None

-- no segment could have gone on
abbrev pub AreMaximal : Terms → List SegmentView → Option Sight → Type 0
AreMaximal t chain next = FirstAndLater (IsMaximal (IsOldRate t) t) (IsMaximal (IsGridRate t) t) chain next

-- the end of a segment that is ended within its partition: fixed for the first one, blocked for a later one
abbrev pub IsFixed : Terms → SegmentView → Sight → Type 0
IsFixed t s o = s.ended ≡ FixedEnd

-- The pair is that of the covered observations and the next one.
pub record IsBlocked (t : Terms) (s : SegmentView) (o : Sight) : Type 0 where
  pub low : Sight
  pub high : Sight
  pub least : ℤ
  pub greatest : ℤ
  pub is_low : IsFirstGreatest (IsAllowedStep t) t.gauge s.anchor (s.covered ++ o ∷ []) low least
  pub is_high : IsFirstLeast (IsAllowedStep t) t.gauge s.anchor (s.covered ++ o ∷ []) high greatest
  pub named : s.ended ≡ BlockedEnd low.place high.place

-- Last where none follows, Partition where the next one is in another partition, and else as told.
abbrev pub IsEnded : (Terms → SegmentView → Sight → Type 0) → Terms → SegmentView → Option Sight → Type 0
IsEnded Within t s None = s.ended ≡ LastEnd
IsEnded Within t s (Some o) = (IsInPartition t s o → Within t s o) × (¬ IsInPartition t s o → s.ended ≡ PartitionEnd)

abbrev pub HaveEnds : Terms → List SegmentView → Option Sight → Type 0
HaveEnds t chain next = FirstAndLater (IsEnded IsFixed t) (IsEnded IsBlocked t) chain next

-- A list of segments over the kept observations, before the next one.
pub record IsChain (t : Terms) (kept : List Sight) (next : Option Sight) (chain : List SegmentView) : Type 0 where
  pub runs : AreRuns t kept chain
  pub partition : StayInPartition t chain
  pub meets : HaveRates t chain
  pub anchor_within : AreAnchored t chain
  pub anchor_anew : AreAnchoredAnew t chain
  pub past_anchor : GoPastAnchors t chain
  pub middle : HaveMiddleRates t chain
  pub maximal : AreMaximal t chain next
  pub ends : HaveEnds t chain next

-- a chain so far at o, over what is kept before it
abbrev pub IsChainSoFar : Terms → List Sight → Sight → List SegmentView → Type 0
IsChainSoFar t kept o chain = IsChain t kept (Some o) chain

-- the triples of a chain's later segments
abbrev pub new_triples : List SegmentView → List TripleView
new_triples [] = []
new_triples (s ∷ later) = flat_map (λ l. record { anchor = l.anchor; rate = l.rate } ∷ []) later
