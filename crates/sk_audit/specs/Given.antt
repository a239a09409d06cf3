-- The code's values as the numbers and lists that publications are defined by, and the sizes that arithmetic needs.
use Rattle.std.specs.Prelude.{ℕ, ◌*◌, ◌^◌, ◌<◌, ◌≤◌, ℤ, pos, neg_ℤ, ◌*ℤ◌, ◌≤ℤ◌, ◌<ℤ◌, IfSome}
use Rattle.sk_audit.specs.declared.settings.AuditSettings.{AuditSettings}
use Rattle.sk_audit.specs.declared.line.Line.{Line}
use Rattle.sk_audit.specs.declared.line.Band.{Band}
use Rattle.sk_audit.specs.declared.told.End.{End}
use Rattle.sk_audit.specs.declared.told.End.TheVariants.{Last, Partition, Fixed, Blocked}
use Rattle.sk_publishing.specs.Row.{RowView}
use Rattle.sk_clock.specs.Clock.{ClockView, ticks_per, total, lengths}
use Rattle.sk_publishing.specs.Terms.{Sight, Gauge, Terms}
use Rattle.sk_line.specs.Triple.{Anchor, TripleView}
use Rattle.sk_publishing.specs.Rates.{BandView}
use Rattle.sk_publishing.specs.Chain.{EndView, LastEnd, PartitionEnd, FixedEnd, BlockedEnd}

-- the ranges of settings
pub record AreSettings (s : AuditSettings) : Type 0 where
  pub tolerance_from : pos 1000 ≤ℤ s.tolerance.units
  pub tolerance_to : s.tolerance.units ≤ℤ pos (60 * 10 ^ 12)
  pub rate_decimals_from : 1 ≤ s.rate_decimals
  pub rate_decimals_to : s.rate_decimals ≤ 15
  pub band_from : 1 ≤ s.band
  pub band_to : s.band ≤ 100000
  pub slip_from : pos 0 ≤ℤ s.slip.units
  pub slip_to : s.slip.units ≤ℤ pos (60 * 10 ^ 9)
  pub hold : IfSome s.hold (λ h. h < 2 ^ 53)
  pub reject : s.reject ≤ 100000

abbrev pub gauge_of : AuditSettings → ClockView → Gauge
gauge_of s clock = record { decimals = 12; per_count = ticks_per clock; tolerance = s.tolerance.units; rate_decimals = s.rate_decimals }

abbrev pub terms_of : AuditSettings → ClockView → TripleView → Terms
terms_of s clock old = record { gauge = gauge_of s clock; lengths = lengths clock; old = old; band = s.band; hold = s.hold; reject = s.reject }

abbrev pub anchor_of : Line → Anchor
anchor_of l = record { ticks = l.ticks; time = l.time.units }

abbrev pub band_view : Band → BandView
band_view b = record { least = b.least; greatest = b.greatest }

abbrev pub sight_at : ℕ → RowView → Sight
sight_at place row = record { place = place; tick = row.tick; time = row.time }

abbrev pub end_view : End → EndView
end_view Last = LastEnd
end_view Partition = PartitionEnd
end_view Fixed = FixedEnd
end_view (Blocked low high) = BlockedEnd low high

-- ---- conditions of the calls on one line

-- the observation is not before the anchor, and the anchor's time times ticks per count is small
pub record CanMeet (clock : ClockView) (line : Line) (o : RowView) : Type 0 where
  pub not_before : line.ticks ≤ o.tick
  pub not_past : o.tick ≤ total clock
  pub from : neg_ℤ (pos (6 * 10 ^ 37)) ≤ℤ (line.time.units *ℤ pos (ticks_per clock))
  pub to : (line.time.units *ℤ pos (ticks_per clock)) ≤ℤ pos (6 * 10 ^ 37)

-- above 0 and at most 1000 s
pub record IsRate (units : ℤ) : Type 0 where
  pub positive : pos 0 <ℤ units
  pub slow : units ≤ℤ pos (1000 * 10 ^ 18)

-- from one step of the grid to 1000 s, and not empty
pub record IsUsableBand (rate_decimals : ℕ) (band : BandView) : Type 0 where
  pub positive : pos 1 ≤ℤ band.least
  pub not_empty : band.least ≤ℤ band.greatest
  pub slow : band.greatest ≤ℤ pos (1000 * 10 ^ rate_decimals)

pub record IsSmallClock (clock : ClockView) : Type 0 where
  pub some : 0 < ticks_per clock
  pub few : ticks_per clock ≤ 2 ^ 32
  pub short : total clock < 2 ^ 53

-- the anchor's time times ticks per count is small
pub record HoldsLine (per_count : ℕ) (line : Line) : Type 0 where
  pub from : neg_ℤ (pos (6 * 10 ^ 37)) ≤ℤ (line.time.units *ℤ pos per_count)
  pub to : (line.time.units *ℤ pos per_count) ≤ℤ pos (6 * 10 ^ 37)
