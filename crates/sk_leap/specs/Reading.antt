-- What the readers of dates and UTC texts compute, from left to right.
use Rattle.std.specs.Prelude.{◌≡◌, ℕ, ◌+◌, ◌-◌, ◌*◌, ◌^◌, Bool, true, false, ◌&&◌, ◌||◌, nat_lt, nat_le, List, [], ◌∷◌, length, take, drop, codes, Option, Some, None, option_map, ◌==◌, if◌then◌else◌}
use Rattle.std.specs.Option.{option_and_then, option_or}
use Rattle.std.specs.Char.{is_ascii_digit}
use Rattle.std.specs.List.{list_all}
use Rattle.std.specs.Str.{bytes_eq}
use Rattle.std.specs.Str.Parse.{digits_value}
use Rattle.sk_decimal.specs.Reading.{digits_at, behind_digits}
use Rattle.sk_leap.specs.declared.parts.DateParts.{DateParts}
use Rattle.sk_leap.specs.declared.parts.DateParts.TheVariants.{Calendar, Ordinal}
use Rattle.sk_leap.specs.declared.parts.ClockParts.{ClockParts}
use Rattle.sk_leap.specs.declared.parts.UtcParts.{UtcParts}

-- the number that the digits write
abbrev pub number_of : List ℕ → Option ℕ
number_of digits = if list_all is_ascii_digit digits then Some (digits_value 10 digits) else None

-- the number that so many bytes in front write, and what stands behind them
abbrev pub number_at : ℕ → List ℕ → Option (ℕ × List ℕ)
number_at width bytes =
    if nat_le width (length bytes) then option_map (λ number. (number, drop width bytes)) (number_of (take width bytes)) else None

-- what stands behind the mark
abbrev pub behind : ℕ → List ℕ → Option (List ℕ)
behind mark [] = None
behind mark (byte ∷ bytes) = if byte == mark then Some bytes else None

-- the number behind a mark
abbrev pub marked_number : ℕ → ℕ → List ℕ → Option (ℕ × List ℕ)
marked_number mark width bytes = option_and_then (number_at width) (behind mark bytes)

-- ---- UTC texts

-- the digits behind a point and what follows them, in picoseconds, where a digit stands there and at most twelve do
abbrev pub picoseconds_of : List ℕ → Option ℕ
picoseconds_of digits =
    if nat_lt 0 (length digits) && nat_le (length digits) 12 then option_map (λ number. number * 10 ^ (12 - length digits)) (number_of digits) else None

-- whether nothing stands there, or `Z`
abbrev pub is_zone : List ℕ → Bool
is_zone [] = true
is_zone (byte ∷ bytes) = (byte == 90) && (length bytes == 0)

-- the picoseconds that a text gives behind its clock time
abbrev pub fraction_at : List ℕ → Option ℕ
fraction_at [] = Some 0
fraction_at (byte ∷ bytes) =
    if byte == 46 then (if is_zone (behind_digits bytes) then picoseconds_of (digits_at bytes) else None)
    else if is_zone (byte ∷ bytes) then Some 0 else None

-- `-MM-DD` behind a year
abbrev pub calendar_at : ℕ → List ℕ → Option (DateParts × List ℕ)
calendar_at year bytes =
    option_and_then (λ month. option_map (λ date. (Calendar year month.0 date.0, date.1)) (marked_number 45 2 month.1)) (marked_number 45 2 bytes)

-- `-DDD` behind a year
abbrev pub ordinal_at : ℕ → List ℕ → Option (DateParts × List ℕ)
ordinal_at year bytes = option_map (λ place. (Ordinal year place.0, place.1)) (marked_number 45 3 bytes)

abbrev pub date_behind : ℕ × List ℕ → Option (DateParts × List ℕ)
date_behind year = option_or (calendar_at year.0 year.1) (ordinal_at year.0 year.1)

abbrev pub date_at : List ℕ → Option (DateParts × List ℕ)
date_at bytes = option_and_then date_behind (number_at 4 bytes)

-- `Thh:mm:ss`
abbrev pub clock_at : List ℕ → Option (ClockParts × List ℕ)
clock_at bytes =
    option_and_then (λ hour. option_and_then (λ minute. option_map (λ second. (record { hour = hour.0; minute = minute.0; second = second.0 }, second.1)) (marked_number 58 2 minute.1)) (marked_number 58 2 hour.1)) (marked_number 84 2 bytes)

-- the parts of a UTC's text
abbrev pub parts_of : List ℕ → Option UtcParts
parts_of text =
    option_and_then (λ date. option_and_then (λ clock. option_map (λ sub. record { date = date.0; clock = clock.0; sub = sub }) (fraction_at clock.1)) (clock_at date.1)) (date_at text)

-- ---- dates of kernels

-- a day of the month in one or two digits
abbrev pub month_day_of : List ℕ → Option ℕ
month_day_of digits = if (length digits == 1) || (length digits == 2) then number_of digits else None

-- three bytes of a name behind a mark, and the day of the month behind another
abbrev pub named_day : ℕ → List ℕ → Option (ℕ × List ℕ × ℕ)
named_day year bytes = option_map (λ date. (year, take 3 bytes, date)) (option_and_then month_day_of (behind 45 (drop 3 bytes)))

-- the year, the month's name and the day of the month of `@YYYY-MON-D` or `@YYYY-MON-DD`
abbrev pub kernel_date : List ℕ → Option (ℕ × List ℕ × ℕ)
kernel_date bytes = option_and_then (λ year. option_and_then (named_day year.0) (behind 45 year.1)) (marked_number 64 4 bytes)
