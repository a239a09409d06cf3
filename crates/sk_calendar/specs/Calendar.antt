-- Calendar times: the forms of their text, and the time that a text stands for.
use Rattle.std.specs.Prelude.{◌≡◌, ◌⊎◌, ℕ, ◌+◌, ◌-◌, ◌*◌, ◌^◌, ◌≤◌, ℤ, pos, ◌+ℤ◌, ◌-ℤ◌, ◌*ℤ◌, List, [], ◌∷◌, ◌++◌, length, Some, slice_get, codes, ◌==◌, IsTrue}
use Rattle.std.specs.Char.{is_ascii_digit}
use Rattle.std.specs.List.{list_all, list_any}
use Rattle.std.specs.Int.{IsInRange}
use Rattle.std.specs.Str.{str_to_ascii_lowercase}
use Rattle.std.specs.Str.Parse.{digits_value}
use Rattle.jiff_core.specs.Calendar.{IsDate, days_in_year}
use Rattle.sk_decimal.specs.Number.{AreDigits}
use Rattle.sk_leap.specs.Kernel.{day_of, month_names}

-- ---- parts

-- so many digits, and the number that they write
pub record IsNumber (width : ℕ) (text : List ℕ) (number : ℕ) : Type 0 where
  pub long : length text ≡ width
  pub digits : IsTrue (list_all is_ascii_digit text)
  pub value : number ≡ digits_value 10 text

-- one or two digits, and the number that they write
abbrev pub IsShortNumber : List ℕ → ℕ → Type 0
IsShortNumber text number = IsNumber 1 text number ⊎ IsNumber 2 text number

-- the first three letters of the English month, each in either case
abbrev pub IsMonth : List ℕ → ℕ → Type 0
IsMonth text month = slice_get month_names (month - 1) ≡ Some (str_to_ascii_lowercase text)

-- ---- dates, as days from 2000-01-01

-- year, month and day of the month: `YYYY-MM-DD`, `YYYY-MON-DD` or `DD-MON-YYYY`
abbrev pub AreCivil : (first second third : List ℕ) (year month date : ℕ) → Type 0
AreCivil first second third year month date =
    (IsNumber 4 first year × IsNumber 2 second month × IsNumber 2 third date)
    ⊎ (IsNumber 4 first year × IsMonth second month × IsShortNumber third date)
    ⊎ (IsShortNumber first date × IsMonth second month × IsNumber 4 third year)

-- a date by its month, of the years 1600 to 2399
pub record IsCivilDate (text : List ℕ) (day : ℤ) : Type 0 where
  pub year : ℕ
  pub month : ℕ
  pub date : ℕ
  pub first : List ℕ
  pub second : List ℕ
  pub third : List ℕ
  pub joined : text ≡ first ++ codes "-" ++ second ++ codes "-" ++ third
  pub parts : AreCivil first second third year month date
  pub in_range : IsInRange 1600 2399 year
  pub real : IsDate (pos year) (pos month) (pos date)
  pub is_day : day ≡ day_of year month date

-- `YYYY-DDD`, the DDD-th day of a year from 1600 to 2399
pub record IsOrdinalDate (text : List ℕ) (day : ℤ) : Type 0 where
  pub year : ℕ
  pub place : ℕ
  pub first : List ℕ
  pub second : List ℕ
  pub joined : text ≡ first ++ codes "-" ++ second
  pub is_year : IsNumber 4 first year
  pub is_place : IsNumber 3 second place
  pub in_range : IsInRange 1600 2399 year
  pub real : IsInRange 1 (days_in_year (pos year)) place
  pub is_day : day +ℤ pos 1 ≡ day_of year 1 1 +ℤ pos place

-- ---- times of day

-- nothing, or a point and 1 to 18 digits: the fraction of a second, in 10 ^ -18 s
abbrev pub IsFraction : List ℕ → ℕ → Type 0
IsFraction text sub =
    ((text ≡ []) × (sub ≡ 0))
    ⊎ ((digits : List ℕ) × (text ≡ codes "." ++ digits) × AreDigits digits × (length digits ≤ 18)
    × (sub ≡ digits_value 10 digits * 10 ^ (18 - length digits)))

-- nothing, `:SS` or `:SS.F`
abbrev pub AreSeconds : List ℕ → ℕ → ℕ → Type 0
AreSeconds text second sub =
    ((text ≡ []) × (second ≡ 0) × (sub ≡ 0))
    ⊎ ((digits : List ℕ) × (fraction : List ℕ) × (text ≡ codes ":" ++ digits ++ fraction) × IsNumber 2 digits second × IsFraction fraction sub)

-- `HH:MM`, `HH:MM:SS` or `HH:MM:SS.F`: the second of the day, and the rest in 10 ^ -18 s; there is no second 60
pub record IsTimeOfDay (text : List ℕ) (sod sub : ℕ) : Type 0 where
  pub hour : ℕ
  pub minute : ℕ
  pub second : ℕ
  pub first : List ℕ
  pub middle : List ℕ
  pub last : List ℕ
  pub joined : text ≡ first ++ codes ":" ++ middle ++ last
  pub is_hour : IsNumber 2 first hour
  pub is_minute : IsNumber 2 middle minute
  pub are_seconds : AreSeconds last second sub
  pub hours : hour ≤ 23
  pub minutes : minute ≤ 59
  pub seconds : second ≤ 59
  pub is_sod : sod ≡ hour * 3600 + minute * 60 + second

abbrev pub IsSeparator : ℕ → Type 0
IsSeparator byte = IsTrue (list_any (λ mark. mark == byte) (codes "-/Tt:"))

-- nothing, which is 0 h, or one of `-`, `/`, `T`, `t` and `:` and a time of day
abbrev pub IsClock : List ℕ → ℕ → ℕ → Type 0
IsClock text sod sub =
    ((text ≡ []) × (sod ≡ 0) × (sub ≡ 0))
    ⊎ ((mark : ℕ) × (time : List ℕ) × (text ≡ mark ∷ time) × IsSeparator mark × IsTimeOfDay time sod sub)

-- ---- calendar times

-- The seconds past 2000-01-01 12:00:00, in 10 ^ -18 s. Every day has 86,400 s: leap seconds are not counted.
abbrev pub time_of : ℤ → ℕ → ℕ → ℤ
time_of day sod sub = (day *ℤ pos 86400 -ℤ pos 43200 +ℤ pos sod) *ℤ pos (10 ^ 18) +ℤ pos sub

-- a date, alone or with a time of day, and nothing else
pub record SpellsCalendarTime (text : List ℕ) (time : ℤ) : Type 0 where
  pub date : List ℕ
  pub clock : List ℕ
  pub day : ℤ
  pub sod : ℕ
  pub sub : ℕ
  pub joined : text ≡ date ++ clock
  pub is_date : IsCivilDate date day ⊎ IsOrdinalDate date day
  pub is_clock : IsClock clock sod sub
  pub is_time : time ≡ time_of day sod sub
