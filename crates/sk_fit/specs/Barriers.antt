-- Why the line before an observation could not go on to it, by record numbers and distances from that line.
use Rattle.std.specs.Prelude.{◌≡◌, ℕ, ◌*◌, ◌<◌, ℤ, ◌-ℤ◌, List, slice_get, Some}
use Rattle.sk_decimal.specs.Quotient.{floor_quotient}
use Rattle.sk_publishing.specs.Row.{RowView}
use Rattle.sk_publishing.specs.Terms.{Sight, Gauge, unit}
use Rattle.sk_publishing.specs.Meets.{line_at}
use Rattle.sk_publishing.specs.Chain.{SegmentView, EndView, FixedEnd, BlockedEnd}
use Rattle.sk_fit.specs.declared.chain.End.{End}
use Rattle.sk_fit.specs.declared.chain.End.TheVariants.{Last, Partition, Fixed, Blocked}
use Rattle.sk_fit.specs.declared.fault.Miss.{Miss}
use Rattle.sk_fit.specs.declared.fault.Barrier.{Barrier}
use Rattle.sk_fit.specs.declared.fault.Barrier.TheVariants.{OldLine, Pair}

-- the residual of a reading: its time less that of the segment's line, which is rounded down to the time unit
abbrev pub distance_of : Gauge → SegmentView → ℕ → ℤ → ℤ
distance_of g s tick time = time -ℤ floor_quotient (line_at g s.anchor s.rate tick) (unit g * g.per_count)

-- the record number of the observation in a place, and its distance from the segment's line
abbrev pub IsMiss : Gauge → SegmentView → List RowView → ℕ → Miss → Type 0
IsMiss g s rows place miss = (seen : RowView) × (slice_get rows place ≡ Some seen) × (miss.number ≡ seen.number)
    × (miss.distance.units ≡ distance_of g s seen.tick seen.time)

-- what an end of the segment at o tells: the old line's is fixed, and a later one names the pair that blocks
abbrev pub IsEndTold : Gauge → List RowView → Sight → SegmentView → EndView → Barrier → Type 0
IsEndTold g rows o s FixedEnd (OldLine distance) = distance.units ≡ distance_of g s o.tick o.time
IsEndTold g rows o s (BlockedEnd low high) (Pair first second) = IsMiss g s rows low first × IsMiss g s rows high second
IsEndTold g rows o s _ _ = ⊥

-- why the segment, which ends at o, could not go on to it
abbrev pub IsBarrier : Gauge → List RowView → Sight → SegmentView → Barrier → Type 0
IsBarrier g rows o s barrier = IsEndTold g rows o s s.ended barrier

-- the end is one within a partition, and its places are among so many
abbrev pub IsEndWithin : ℕ → End → Type 0
IsEndWithin number Fixed = Unit {0}
IsEndWithin number (Blocked low high) = (low < number) × (high < number)
IsEndWithin number Last = ⊥
IsEndWithin number Partition = ⊥
