-- Which UTC the parts of its text mean.
use Rattle.std.specs.Prelude.{◌≡◌, ◌⊎◌, ℕ, ◌+◌, ◌*◌, ◌^◌, ◌<◌, ◌≤◌, ℤ, pos, ◌+ℤ◌}
use Rattle.std.specs.Int.{IsInRange}
use Rattle.jiff_core.specs.Calendar.{IsDate, days_in_year}
use Rattle.sk_leap.specs.declared.utc.Utc.{Utc}
use Rattle.sk_leap.specs.declared.parts.DateParts.{DateParts}
use Rattle.sk_leap.specs.declared.parts.DateParts.TheVariants.{Calendar, Ordinal}
use Rattle.sk_leap.specs.declared.parts.ClockParts.{ClockParts}
use Rattle.sk_leap.specs.declared.parts.UtcParts.{UtcParts}
use Rattle.sk_leap.specs.Kernel.{day_of}

-- the parts have the widths of their digits
abbrev pub AreNarrow : DateParts → Type 0
AreNarrow (Calendar year month date) = (year ≤ 9999) × (month ≤ 99) × (date ≤ 99)
AreNarrow (Ordinal year place) = (year ≤ 9999) × (place ≤ 999)

abbrev pub IsDayOf : DateParts → ℤ → Type 0
IsDayOf (Calendar year month date) day = (1 ≤ year) × IsDate (pos year) (pos month) (pos date) × (day ≡ day_of year month date)
IsDayOf (Ordinal year place) day = (1 ≤ year) × IsInRange 1 (days_in_year (pos year)) place × (day +ℤ pos 1 ≡ day_of year 1 1 +ℤ pos place)

-- the parts are a time of day, and this second of it
pub record IsSecondOf (clock : ClockParts) (sod : ℕ) : Type 0 where
  pub hours : clock.hour ≤ 23
  pub minutes : clock.minute ≤ 59
  pub seconds : (clock.second ≤ 59) ⊎ ((clock.hour ≡ 23) × (clock.minute ≡ 59) × (clock.second ≡ 60))
  pub is_sod : sod ≡ clock.hour * 3600 + clock.minute * 60 + clock.second

pub record IsUtcOf (parts : UtcParts) (utc : Utc) : Type 0 where
  pub day : IsDayOf parts.date utc.day
  pub second : IsSecondOf parts.clock utc.sod
  pub sub : utc.sub ≡ parts.sub
