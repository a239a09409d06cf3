-- What a publication is made from. Times of anchors and rates count 10 ^ -18 s; other times count time units.
use Rattle.std.specs.Prelude.{ℕ, ◌+◌, ◌-◌, ◌^◌, ℤ, pos, ◌*ℤ◌, List, [], ◌∷◌, max, Option, unwrap_or}
use Rattle.sk_publishing.specs.Row.{RowView}
use Rattle.sk_clock.specs.Clock.{partition_from}
use Rattle.sk_line.specs.Triple.{TripleView}

-- an observation: its place in the list, its tick, and its time
pub record Sight : Type 0 where
  pub place : ℕ
  pub tick : ℕ
  pub time : ℤ

-- the observations, each with its place, counted on from place
abbrev pub sights_from : ℕ → List RowView → List Sight
sights_from place [] = []
sights_from place (row ∷ rows) = record { place = place; tick = row.tick; time = row.time } ∷ sights_from (place + 1) rows

-- the observations, each with its place from 0
abbrev pub sights : List RowView → List Sight
sights rows = sights_from 0 rows

-- How lines are compared with observations, and which steps rates have.
pub record Gauge : Type 0 where
  -- decimals of the time unit
  pub decimals : ℕ
  -- ticks of one most significant count
  pub per_count : ℕ
  pub tolerance : ℤ
  -- decimals of the rate grid
  pub rate_decimals : ℕ

pub record Terms : Type 0 where
  pub gauge : Gauge
  -- the lengths of the partitions
  pub lengths : List ℕ
  -- the last triple of the old kernel
  pub old : TripleView
  -- the band, in parts of a million
  pub band : ℕ
  pub hold : Option ℕ
  -- how many observations may be dropped
  pub reject : ℕ

-- the time unit, and one step of the rate grid, in 10 ^ -18 s
abbrev pub unit : Gauge → ℕ
unit g = 10 ^ (18 - g.decimals)

abbrev pub grid : ℕ → ℕ
grid rate_decimals = 10 ^ (18 - rate_decimals)

-- time units as 10 ^ -18 s
abbrev pub in_seconds : Gauge → ℤ → ℤ
in_seconds g time = time *ℤ pos (unit g)

-- the partition of a tick
abbrev pub partition_at : Terms → ℕ → ℕ
partition_at t tick = partition_from 0 t.lengths tick

-- the hold, which is at the old last triple where no setting gives it, and the seam
abbrev pub hold_of : Terms → ℕ
hold_of t = unwrap_or t.hold t.old.anchor.ticks

abbrev pub seam : Terms → ℕ
seam t = max (hold_of t) (t.old.anchor.ticks + 1)
