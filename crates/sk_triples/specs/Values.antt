-- Values that are numbers, and values that are times.
use Rattle.std.specs.Prelude.{◌≡◌, Bool, true, false, ◌&&◌, List, [], ◌∷◌, Option, Some, None}
use Rattle.std.specs.Borrow.{Bor}
use Rattle.sk_decimal.specs.Number.{DecimalView}
use Rattle.sk_grammar.specs.declared.value.Value.{Value}
use Rattle.sk_grammar.specs.declared.value.Value.TheVariants.{Number, Date, Text}
use Rattle.sk_triples.specs.Coefficients.{Row, RowTime, Seconds, Calendar}

abbrev pub is_number : Value → Bool
is_number (Number _) = true
is_number (Date _) = false
is_number (Text _) = false

abbrev pub is_time : Value → Bool
is_time (Number _) = true
is_time (Date _) = true
is_time (Text _) = false

-- the number that is the first value
abbrev pub first_number : List Value → Option DecimalView
first_number [] = None
first_number (Number number ∷ values) = Some number
first_number (Date _ ∷ values) = None
first_number (Text _ ∷ values) = None

-- no value, or a text first
abbrev pub NoTimeBegins : List Value → Type 0
NoTimeBegins [] = Unit {0}
NoTimeBegins (value ∷ values) = is_time value ≡ false

-- the time that a value is, if it is no text
abbrev pub timed : Value → RowTime
timed (Number number) = Seconds number
timed (Date date) = Calendar date
timed (Text _) = Calendar []

-- the row of two numbers and a value between them
abbrev pub row_of : DecimalView × Bor Value × DecimalView → Row
row_of row = record { ticks = row.0; time = timed row.1.now; rate = row.2 }

-- the values are two numbers and a time between them, one such row after the other
abbrev pub in_rows : List Value → Bool
in_rows [] = true
in_rows (a ∷ b ∷ c ∷ values) = is_number a && is_time b && is_number c && in_rows values
in_rows _ = false
