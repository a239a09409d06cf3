-- A chain over so many observations: where its places stand.
use Rattle.std.specs.Prelude.{ℕ, ◌<◌, ◌≤◌, List, [], ◌∷◌}
use Rattle.std.specs.List.{AllByRecursion}
use Rattle.sk_fit.specs.declared.chain.Chain.{Chain}
use Rattle.sk_fit.specs.declared.chain.Segment.{Segment}
use Rattle.sk_fit.specs.declared.chain.End.{End}
use Rattle.sk_fit.specs.declared.chain.End.TheVariants.{Last, Partition, Fixed, Blocked}

-- the places of a blocking pair are observations
abbrev pub IsEndOver : ℕ → End → Type 0
IsEndOver count Last = Unit {0}
IsEndOver count Partition = Unit {0}
IsEndOver count Fixed = Unit {0}
IsEndOver count (Blocked low high) = (low < count) × (high < count)

pub record IsSegmentWithin (count : ℕ) (s : Segment) : Type 0 where
  pub from : s.first ≤ s.past
  pub to : s.past ≤ count
  pub ended : IsEndOver count s.ended

-- each segment begins where the one before it is past, or later
abbrev pub FollowOn : List Segment → Type 0
FollowOn [] = Unit {0}
FollowOn (s ∷ []) = Unit {0}
FollowOn (s ∷ next ∷ later) = (s.past ≤ next.first) × FollowOn (next ∷ later)

pub record IsChainOver (count : ℕ) (chain : Chain) : Type 0 where
  pub first_new : chain.first_new ≤ count
  pub within : AllByRecursion (IsSegmentWithin count) chain.segments
  pub follow : FollowOn chain.segments
