-- Which calendar time the parts of a text mean.
use Rattle.std.specs.Prelude.{◌≡◌, ℕ, ◌+◌, ◌*◌, ◌≤◌, ℤ, pos, ◌+ℤ◌}
use Rattle.std.specs.Int.{IsInRange}
use Rattle.jiff_core.specs.Calendar.{IsDate, days_in_year}
use Rattle.sk_leap.specs.Kernel.{day_of}
use Rattle.sk_calendar.specs.declared.date.DateParts.{DateParts}
use Rattle.sk_calendar.specs.declared.date.DateParts.TheVariants.{Civil, Ordinal}
use Rattle.sk_calendar.specs.declared.clock.ClockParts.{ClockParts}
use Rattle.sk_calendar.specs.declared.time.TimeParts.{TimeParts}
use Rattle.sk_calendar.specs.Calendar.{time_of}

-- the parts have the widths of their digits
abbrev pub AreNarrow : DateParts → Type 0
AreNarrow (Civil year month date) = (year ≤ 9999) × (month ≤ 99) × (date ≤ 99)
AreNarrow (Ordinal year place) = (year ≤ 9999) × (place ≤ 999)

abbrev pub IsDayOf : DateParts → ℤ → Type 0
IsDayOf (Civil year month date) day = IsInRange 1600 2399 year × IsDate (pos year) (pos month) (pos date) × (day ≡ day_of year month date)
IsDayOf (Ordinal year place) day = IsInRange 1600 2399 year × IsInRange 1 (days_in_year (pos year)) place × (day +ℤ pos 1 ≡ day_of year 1 1 +ℤ pos place)

pub record IsSecondOf (clock : ClockParts) (sod : ℕ) : Type 0 where
  pub hours : clock.hour ≤ 23
  pub minutes : clock.minute ≤ 59
  pub seconds : clock.second ≤ 59
  pub is_sod : sod ≡ clock.hour * 3600 + clock.minute * 60 + clock.second

pub record IsTimeOf (parts : TimeParts) (time : ℤ) : Type 0 where
  pub day : ℤ
  pub sod : ℕ
  pub is_day : IsDayOf parts.date day
  pub is_second : IsSecondOf parts.clock sod
  pub is_time : time ≡ time_of day sod parts.clock.sub
