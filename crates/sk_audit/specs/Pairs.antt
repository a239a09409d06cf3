-- The running interval of the open segment with one more observation, by the places that set it.
use Rattle.std.specs.Prelude.{◌≡◌, ℕ, ℤ, List, [], ◌∷◌, ◌++◌, ◌<◌, length, Some}
use Rattle.std.specs.List.{AllByRecursion}
use Rattle.sk_publishing.specs.Terms.{Sight, Terms}
use Rattle.sk_publishing.specs.Rates.{on_grid, IsFirstGreatest, IsFirstLeast}
use Rattle.sk_publishing.specs.Chain.{IsAllowedStep, IsChain, SegmentView, EndView}
use Rattle.sk_audit.specs.declared.interval.Running.{Running}
use Rattle.sk_publishing.specs.Meets.{Meets}
use Rattle.sk_audit.specs.Walking.{WalkView, open_of, IsWalk}

-- the segment with another end
abbrev pub ended_with : SegmentView → EndView → SegmentView
ended_with s e = record { anchor = s.anchor; rate = s.rate; covered = s.covered; ended = e }

-- the interval over what is covered and the next observation
pub record IsRunning (t : Terms) (w : WalkView) (covered : List Sight) (o : Sight) (r : Running) : Type 0 where
  pub first : Sight
  pub second : Sight
  pub low_place : r.least_place ≡ first.place
  pub high_place : r.greatest_place ≡ second.place
  pub is_low : IsFirstGreatest (IsAllowedStep t) t.gauge (open_of w covered).anchor (covered ++ o ∷ []) first r.bounds.least
  pub is_high : IsFirstLeast (IsAllowedStep t) t.gauge (open_of w covered).anchor (covered ++ o ∷ []) second r.bounds.greatest

-- Ended so, the open segment makes a chain so far at the next observation; and no allowed rate meets all with that one, where it is a later segment.
pub record CanEnd (t : Terms) (all : List Sight) (n : ℕ) (w : WalkView) (o : Sight) (ended : EndView) : Type 0 where
  pub so_far : (kept dropped : List Sight) → (h : IsWalk t all n w kept dropped) → IsChain t kept (Some o) (h.front ++ ended_with (open_of w h.covered) ended ∷ [])
  pub none : 0 < length w.closed → (kept dropped : List Sight) → (h : IsWalk t all n w kept dropped) → (m : ℤ) → IsAllowedStep t m
      → ¬ AllByRecursion (Meets t.gauge (open_of w h.covered).anchor (on_grid t.gauge.rate_decimals m)) (h.covered ++ o ∷ [])
