-- When a rate meets an observation, and when triples do.
use Rattle.std.specs.Prelude.{◌≡◌, ℕ, ◌-◌, ◌<◌, ℤ, pos, ◌+ℤ◌, ◌-ℤ◌, ◌*ℤ◌, ◌≤ℤ◌, ◌<ℤ◌, List}
use Rattle.sk_line.specs.Triple.{Anchor, TripleView}
use Rattle.sk_line.specs.Line.{line_over, IsTimeAt}
use Rattle.sk_publishing.specs.Terms.{Sight, Gauge, in_seconds}

-- the line at a tick, and a time, both as 10 ^ -18 s times ticks per count
abbrev pub line_at : Gauge → Anchor → ℤ → ℕ → ℤ
line_at g anchor rate tick = line_over g.per_count anchor rate tick

abbrev pub scaled : Gauge → ℤ → ℤ
scaled g time = in_seconds g time *ℤ pos g.per_count

-- the line is before the observed time by more than the tolerance
abbrev pub IsTooSmall : Gauge → Anchor → ℤ → Sight → Type 0
IsTooSmall g anchor rate o = line_at g anchor rate o.tick <ℤ scaled g (o.time -ℤ g.tolerance)

-- the line is after it by more than the tolerance
abbrev pub IsTooLarge : Gauge → Anchor → ℤ → Sight → Type 0
IsTooLarge g anchor rate o = scaled g (o.time +ℤ g.tolerance) <ℤ line_at g anchor rate o.tick

-- the line differs from the observed time by at most the tolerance
pub record Meets (g : Gauge) (anchor : Anchor) (rate : ℤ) (o : Sight) : Type 0 where
  pub low : scaled g (o.time -ℤ g.tolerance) ≤ℤ line_at g anchor rate o.tick
  pub high : line_at g anchor rate o.tick ≤ℤ scaled g (o.time +ℤ g.tolerance)

-- the time of the observation's tick by these triples differs from its time by at most the tolerance
abbrev pub IsWithinTolerance : Gauge → List TripleView → Sight → Type 0
IsWithinTolerance g triples o = (over : ℤ) × IsTimeAt g.per_count triples o.tick over
    × (scaled g (o.time -ℤ g.tolerance) ≤ℤ over) × (over ≤ℤ scaled g (o.time +ℤ g.tolerance))
