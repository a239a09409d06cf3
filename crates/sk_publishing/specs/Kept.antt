-- Which observations are new, which of these are dropped, and what a publication is.
use Rattle.std.specs.Prelude.{◌≡◌, ◌⊎◌, ◌<◌, ℤ, None, Bool, true, false, ◌||◌, nat_lt, List, [], ◌∷◌, ◌++◌, length}
use Rattle.sk_publishing.specs.Terms.{Sight, Terms, partition_at, seam}
use Rattle.sk_publishing.specs.Meets.{Meets, IsTooLarge}
use Rattle.sk_publishing.specs.Rates.{on_grid}
use Rattle.sk_publishing.specs.Chain.{IsAllowedStep, SegmentView, IsChainSoFar, IsChain, IsInPartition, anchor_due}

-- its partition is later than that of the old last triple, or its tick is above the seam
abbrev pub is_new : Terms → Sight → Bool
is_new t o = nat_lt (partition_at t t.old.anchor.ticks) (partition_at t o.tick) || nat_lt (seam t) o.tick

-- the segment stands last
abbrev pub EndsWith : List SegmentView → SegmentView → Type 0
EndsWith chain s = (front : List SegmentView) × (chain ≡ front ++ s ∷ [])

-- no allowed rate from the anchor due at o meets it
pub record HasNoRate (t : Terms) (kept : List Sight) (o : Sight) : Type 0 where
  pub chain : List SegmentView
  pub last : SegmentView
  pub so_far : IsChainSoFar t kept o chain
  pub is_last : EndsWith chain last
  pub same_partition : IsInPartition t last o
  pub none : (n : ℤ) → IsAllowedStep t n → ¬ Meets t.gauge (anchor_due t last o) (on_grid t.gauge.rate_decimals n) o

-- o is in a later partition, and the last line is later than its time and the tolerance there
pub record HasTimeFall (t : Terms) (kept : List Sight) (o : Sight) : Type 0 where
  pub chain : List SegmentView
  pub last : SegmentView
  pub so_far : IsChainSoFar t kept o chain
  pub is_last : EndsWith chain last
  pub later_partition : ¬ IsInPartition t last o
  pub falls : IsTooLarge t.gauge last.anchor last.rate o

-- o is dropped, where these are kept and dropped before it
pub record IsDropped (t : Terms) (kept dropped : List Sight) (o : Sight) : Type 0 where
  pub is_new : is_new t o ≡ true
  pub room : length dropped < t.reject
  pub no_rate : HasNoRate t kept o

-- One more observation: it is old, or it is dropped, or it is kept.
abbrev pub SortsNext : Terms → List Sight → List Sight → Sight → List Sight → List Sight → Type 0
SortsNext t kept dropped o kept' dropped' =
    ((is_new t o ≡ false) × (kept' ≡ kept) × (dropped' ≡ dropped))
    ⊎ (IsDropped t kept dropped o × (kept' ≡ kept) × (dropped' ≡ dropped ++ o ∷ []))
    ⊎ ((is_new t o ≡ true) × (¬ IsDropped t kept dropped o) × (kept' ≡ kept ++ o ∷ []) × (dropped' ≡ dropped))

-- From these kept and dropped so far, the observations in order leave those.
abbrev pub SortsFrom : Terms → List Sight → List Sight → List Sight → List Sight → List Sight → Type 0
SortsFrom t kept dropped [] kept' dropped' = (kept' ≡ kept) × (dropped' ≡ dropped)
SortsFrom t kept dropped (o ∷ rest) kept' dropped' =
    (k : List Sight) × (d : List Sight) × SortsNext t kept dropped o k d × SortsFrom t k d rest kept' dropped'

-- of these observations those are kept, and those are dropped
abbrev pub Sorts : Terms → List Sight → List Sight → List Sight → Type 0
Sorts t all kept dropped = SortsFrom t [] [] all kept dropped

-- The segments of a publication of the observations, and the observations that it drops.
pub record IsPublication (t : Terms) (all dropped : List Sight) (chain : List SegmentView) : Type 0 where
  pub kept : List Sight
  pub sorts : Sorts t all kept dropped
  pub is_chain : IsChain t kept None chain

-- ---- why there is no publication

-- no allowed rate from the anchor due meets o, and no more may be dropped
pub record StopsAtNoRate (t : Terms) (all : List Sight) (o : Sight) : Type 0 where
  pub before : List Sight
  pub after : List Sight
  pub here : all ≡ before ++ o ∷ after
  pub is_new : is_new t o ≡ true
  pub kept : List Sight
  pub dropped : List Sight
  pub sorts : Sorts t before kept dropped
  pub used_up : length dropped ≡ t.reject
  pub no_rate : HasNoRate t kept o

-- the last line is too late for o, which is in a later partition
pub record StopsAtTimeFall (t : Terms) (all : List Sight) (o : Sight) : Type 0 where
  pub before : List Sight
  pub after : List Sight
  pub here : all ≡ before ++ o ∷ after
  pub is_new : is_new t o ≡ true
  pub kept : List Sight
  pub dropped : List Sight
  pub sorts : Sorts t before kept dropped
  pub falls : HasTimeFall t kept o
