-- What is built of a publication so far: a publication of what came, its last segment by itself.
use Rattle.std.specs.Prelude.{◌<◌, ℤ, ◌+ℤ◌, ◌≤ℤ◌, List, [], ◌∷◌, ◌++◌, length, None}
use Rattle.sk_decimal.specs.Quotient.{floor_quotient}
use Rattle.sk_publishing.specs.Terms.{Sight, Terms}
use Rattle.sk_line.specs.Triple.{Anchor}
use Rattle.sk_publishing.specs.Rates.{on_grid, IsFirstGreatest, IsFirstLeast}
use Rattle.sk_publishing.specs.Chain.{LastEnd, SegmentView, IsAllowedStep, IsChain}

-- the running interval of the last segment, where it is not the first
pub record Interval (t : Terms) (last : SegmentView) (low high : Sight) (least greatest : ℤ) : Type 0 where
  pub is_low : IsFirstGreatest (IsAllowedStep t) t.gauge last.anchor last.covered low least
  pub is_high : IsFirstLeast (IsAllowedStep t) t.gauge last.anchor last.covered high greatest
  pub filled : least ≤ℤ greatest

-- A publication of all that came so far, its last segment by itself.
pub record Built (t : Terms) (kept : List Sight) (front : List SegmentView) (last : SegmentView) (low high : Sight) (least greatest : ℤ) : Type 0 where
  pub chain : IsChain t kept None (front ++ last ∷ [])
  pub covers : 0 < length front → 0 < length last.covered
  pub interval : 0 < length front → Interval t last low high least greatest

-- the middle of an interval, as a rate
abbrev pub middle_rate : Terms → ℤ → ℤ → ℤ
middle_rate t least greatest = on_grid t.gauge.rate_decimals (floor_quotient (least +ℤ greatest) 2)

-- the last segment with one more observation
abbrev pub longer : SegmentView → Sight → ℤ → SegmentView
longer s o rate = record { anchor = s.anchor; rate = rate; covered = s.covered ++ o ∷ []; ended = LastEnd }

-- a segment that begins with an observation
abbrev pub beginning : Anchor → Sight → ℤ → SegmentView
beginning anchor o rate = record { anchor = anchor; rate = rate; covered = o ∷ []; ended = LastEnd }
