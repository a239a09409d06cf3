-- What the reader of calendar times computes, from left to right.
use Rattle.std.specs.Prelude.{ℕ, ◌+◌, ◌-◌, ◌*◌, ◌^◌, Bool, ◌&&◌, ◌==◌, nat_lt, nat_le, List, [], ◌∷◌, length, take, drop, codes, position, Option, Some, None, option_map, if◌then◌else◌}
use Rattle.std.specs.Option.{option_and_then}
use Rattle.std.specs.List.{list_any}
use Rattle.std.specs.Str.{bytes_eq, str_to_ascii_lowercase}
use Rattle.sk_decimal.specs.Reading.{digits_at, behind_digits}
use Rattle.sk_leap.specs.Kernel.{month_names}
use Rattle.sk_leap.specs.Reading.{number_of, behind}
use Rattle.sk_calendar.specs.declared.date.DateParts.{DateParts}
use Rattle.sk_calendar.specs.declared.date.DateParts.TheVariants.{Civil, Ordinal}
use Rattle.sk_calendar.specs.declared.clock.ClockParts.{ClockParts}
use Rattle.sk_calendar.specs.declared.time.TimeParts.{TimeParts}

-- ---- numbers and names

-- how many digits stand in front, 1 to 18, the number that they write, and what follows them
abbrev pub run_at : List ℕ → Option (ℕ × ℕ × List ℕ)
run_at bytes =
    if nat_lt 0 (length (digits_at bytes)) && nat_le (length (digits_at bytes)) 18 then
    option_map (λ number. (length (digits_at bytes), number, behind_digits bytes)) (number_of (digits_at bytes))
    else None

-- the number where it has so many digits
abbrev pub exactly : ℕ → ℕ × ℕ × List ℕ → Option (ℕ × List ℕ)
exactly width run = if run.0 == width then Some (run.1, run.2) else None

abbrev pub number_at : ℕ → List ℕ → Option (ℕ × List ℕ)
number_at width bytes = option_and_then (exactly width) (run_at bytes)

abbrev pub marked_number : ℕ → ℕ → List ℕ → Option (ℕ × List ℕ)
marked_number mark width bytes = option_and_then (number_at width) (behind mark bytes)

-- the number where it has one or two digits
abbrev pub briefly : ℕ × ℕ × List ℕ → Option (ℕ × List ℕ)
briefly run = if nat_le run.0 2 then Some (run.1, run.2) else None

abbrev pub short_at : List ℕ → Option (ℕ × List ℕ)
short_at bytes = option_and_then briefly (run_at bytes)

abbrev pub marked_short : ℕ → List ℕ → Option (ℕ × List ℕ)
marked_short mark bytes = option_and_then short_at (behind mark bytes)

-- the month of a name, from 1
abbrev pub month_of : List ℕ → Option ℕ
month_of name = option_map (λ place. place + 1) (position (λ month. bytes_eq month (str_to_ascii_lowercase name)) month_names)

abbrev pub month_at : List ℕ → Option (ℕ × List ℕ)
month_at bytes = if nat_le 3 (length bytes) then option_map (λ month. (month, drop 3 bytes)) (month_of (take 3 bytes)) else None

abbrev pub marked_month : ℕ → List ℕ → Option (ℕ × List ℕ)
marked_month mark bytes = option_and_then month_at (behind mark bytes)

-- ---- dates

-- `-DD` behind year and month
abbrev pub numeric_day : ℕ → ℕ × List ℕ → Option (DateParts × List ℕ)
numeric_day year month = option_map (λ date. (Civil year month.0 date.0, date.1)) (marked_number 45 2 month.1)

-- `-D` or `-DD` behind year and month
abbrev pub named_day : ℕ → ℕ × List ℕ → Option (DateParts × List ℕ)
named_day year month = option_map (λ date. (Civil year month.0 date.0, date.1)) (marked_short 45 month.1)

-- `MM-DD` or `DDD`, by the count of digits in front
abbrev pub digits_behind_year : ℕ → ℕ × ℕ × List ℕ → Option (DateParts × List ℕ)
digits_behind_year year run =
    if run.0 == 3 then Some (Ordinal year run.1, run.2)
    else if run.0 == 2 then numeric_day year (run.1, run.2)
    else None

abbrev pub name_behind_year : ℕ → List ℕ → Option (DateParts × List ℕ)
name_behind_year year bytes = option_and_then (named_day year) (month_at bytes)

abbrev pub in_year : ℕ → List ℕ → Option (ℕ × ℕ × List ℕ) → Option (DateParts × List ℕ)
in_year year bytes None = name_behind_year year bytes
in_year year bytes (Some run) = digits_behind_year year run

abbrev pub behind_year : ℕ → List ℕ → Option (DateParts × List ℕ)
behind_year year bytes = in_year year bytes (run_at bytes)

-- `-YYYY` behind day and month
abbrev pub year_behind : ℕ → ℕ × List ℕ → Option (DateParts × List ℕ)
year_behind date month = option_map (λ year. (Civil year.0 month.0 date, year.1)) (marked_number 45 4 month.1)

-- `-MON-YYYY` behind a day
abbrev pub behind_day : ℕ → List ℕ → Option (DateParts × List ℕ)
behind_day date bytes = option_and_then (year_behind date) (marked_month 45 bytes)

abbrev pub date_from : ℕ × ℕ × List ℕ → Option (DateParts × List ℕ)
date_from run =
    if run.0 == 4 then option_and_then (behind_year run.1) (behind 45 run.2)
    else if nat_le run.0 2 then behind_day run.1 run.2
    else None

abbrev pub date_at : List ℕ → Option (DateParts × List ℕ)
date_at bytes = option_and_then date_from (run_at bytes)

-- ---- times of day

-- a fraction that ends the text
abbrev pub fraction_of : ℕ × ℕ × List ℕ → Option ℕ
fraction_of run = if length run.2 == 0 then Some (run.1 * 10 ^ (18 - run.0)) else None

-- nothing, or a point and the digits of a fraction
abbrev pub fraction_at : List ℕ → Option ℕ
fraction_at [] = Some 0
fraction_at (byte ∷ bytes) = if byte == 46 then option_and_then fraction_of (run_at bytes) else None

-- the second and its fraction, where a text ends behind them
abbrev pub seconds_at : List ℕ → Option (ℕ × ℕ)
seconds_at [] = Some (0, 0)
seconds_at (byte ∷ bytes) = option_and_then (λ second. option_map (λ sub. (second.0, sub)) (fraction_at second.1)) (marked_number 58 2 (byte ∷ bytes))

abbrev pub minutes_at : ℕ × List ℕ → Option ClockParts
minutes_at hour = option_and_then (λ minute. option_map (λ last. record { hour = hour.0; minute = minute.0; second = last.0; sub = last.1 }) (seconds_at minute.1)) (marked_number 58 2 hour.1)

abbrev pub is_separator : ℕ → Bool
is_separator byte = list_any (λ mark. mark == byte) (codes "-/Tt:")

abbrev pub clock_at : List ℕ → Option ClockParts
clock_at [] = Some (record { hour = 0; minute = 0; second = 0; sub = 0 })
clock_at (byte ∷ bytes) = if is_separator byte then option_and_then minutes_at (number_at 2 bytes) else None

-- ---- the whole text

abbrev pub with_clock : DateParts × List ℕ → Option TimeParts
with_clock date = option_map (λ clock. record { date = date.0; clock = clock }) (clock_at date.1)

abbrev pub parts_of : List ℕ → Option TimeParts
parts_of text = option_and_then with_clock (date_at text)
