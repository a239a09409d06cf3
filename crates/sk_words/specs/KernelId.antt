-- Kernel IDs: the calendar times of kernels, by the parts of their text.
use Rattle.std.specs.Prelude.{ℕ, pos, Bool, false, ◌&&◌, nat_le, List}
use Rattle.std.specs.Option.{option_map_or}
use Rattle.jiff_core.specs.Calendar.{days_in_year, days_in_month}
use Rattle.sk_calendar.specs.declared.date.DateParts.{DateParts}
use Rattle.sk_calendar.specs.declared.date.DateParts.TheVariants.{Civil, Ordinal}
use Rattle.sk_calendar.specs.declared.clock.ClockParts.{ClockParts}
use Rattle.sk_calendar.specs.declared.time.TimeParts.{TimeParts}
use Rattle.sk_calendar.specs.Reading.{parts_of}

abbrev is_from : ℕ → ℕ → ℕ → Bool
is_from low high number = nat_le low number && nat_le number high

-- the years 1600 to 2399 have the day
abbrev pub is_day : DateParts → Bool
is_day (Civil year month date) = is_from 1600 2399 year && (is_from 1 12 month && is_from 1 (days_in_month (pos year) month) date)
is_day (Ordinal year place) = is_from 1600 2399 year && is_from 1 (days_in_year (pos year)) place

-- each day has the second; none has a second 60
abbrev pub is_second : ClockParts → Bool
is_second clock = nat_le clock.hour 23 && (nat_le clock.minute 59 && nat_le clock.second 59)

abbrev pub is_time : TimeParts → Bool
is_time parts = is_day parts.date && is_second parts.clock

-- The text spells a calendar time, which the law `ids_are_calendar_times` says in the terms of its forms.
unfoldable pub is_calendar_time : List ℕ → Bool
is_calendar_time text = option_map_or is_time (parts_of text) false
