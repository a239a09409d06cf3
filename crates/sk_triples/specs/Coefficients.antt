-- The triples that the variables of a kernel give, and what is refused of them.
use Rattle.std.specs.Prelude.{◌≡◌, ◌≢◌, ◌⊎◌, ℕ, ◌*◌, ◌^◌, ◌<◌, ◌≤◌, ℤ, pos, ◌*ℤ◌, ◌<ℤ◌, nat_abs, List, [], ◌∷◌, ◌++◌, codes, length, Option, None, IsSomeAnd, unwrap_or}
use Rattle.std.specs.List.{flat_map, AllZip}
use Rattle.sk_decimal.specs.Number.{DecimalView}
use Rattle.sk_decimal.specs.Fixed.{HasUnits}
use Rattle.sk_checks.specs.Checks.{Check, ◌⇒◌, each_after}
use Rattle.sk_grammar.specs.declared.value.Value.{Value}
use Rattle.sk_grammar.specs.declared.value.Value.TheVariants.{Number, Date}
use Rattle.sk_grammar.specs.Variables.{VariableView, values_at, whole}
use Rattle.sk_calendar.specs.Calendar.{SpellsCalendarTime}
use Rattle.sk_clock.specs.Clock.{ClockView, total}
use Rattle.sk_triples.specs.declared.triple.TriplesFault.{TriplesFault}
use Rattle.sk_triples.specs.declared.triple.TriplesFault.TheVariants.{Missing, NotTriples, TickRange, TimeForm, TimeRange, RateRange, OutOfOrder, TooMany}
use Rattle.sk_line.specs.Triple.{TripleView}
use Rattle.sk_triples.specs.Kernel.{TriplesView, AreOf}
use Rattle.sk_line.specs.Triple.{coefficients_name}

-- ---- rows of two numbers and a time between them

-- the time of a row: a number of seconds, or a date with its `@`
pub data RowTime : Type 0 where
  Seconds : DecimalView → RowTime
  Calendar : List ℕ → RowTime

pub record Row : Type 0 where
  pub ticks : DecimalView
  pub time : RowTime
  pub rate : DecimalView

abbrev pub time_value : RowTime → Value
time_value (Seconds number) = Number number
time_value (Calendar date) = Date date

abbrev pub row_values : Row → List Value
row_values row = Number row.ticks ∷ time_value row.time ∷ Number row.rate ∷ []

-- the rows that stand one after the other, from the front
abbrev pub rows_of : List Value → List Row
rows_of (Number a ∷ Number b ∷ Number c ∷ values) = record { ticks = a; time = Seconds b; rate = c } ∷ rows_of values
rows_of (Number a ∷ Date b ∷ Number c ∷ values) = record { ticks = a; time = Calendar b; rate = c } ∷ rows_of values
rows_of _ = []

-- ---- numbers

-- a is less than b
abbrev pub IsLess : DecimalView → DecimalView → Type 0
IsLess a b = (a.coefficient *ℤ pos (10 ^ b.scale)) <ℤ (b.coefficient *ℤ pos (10 ^ a.scale))

-- the size is at most n
abbrev pub HasSizeUpTo : ℕ → DecimalView → Type 0
HasSizeUpTo n d = nat_abs d.coefficient ≤ n * 10 ^ d.scale

abbrev pub IsTickUpTo : ℕ → DecimalView → ℕ → Type 0
IsTickUpTo most d n = (Number d ≡ whole n) × (n ≤ most)

-- at most 18 decimals, above 0 and at most 1000 s
abbrev pub IsRowRate : DecimalView → Type 0
IsRowRate d = (d.scale ≤ 18) × HasSizeUpTo 1000 d × (pos 0 <ℤ d.coefficient)

-- ---- times

-- the date is `@` and the text of this calendar time, in 10 ^ -18 s past J2000
abbrev pub SpellsTime : List ℕ → ℤ → Type 0
SpellsTime date time = (text : List ℕ) × (date ≡ codes "@" ++ text) × SpellsCalendarTime text time

-- the time in 10 ^ -18 s past J2000
abbrev pub HasTime : RowTime → ℤ → Type 0
HasTime (Seconds number) time = HasUnits 18 number time
HasTime (Calendar date) time = SpellsTime date time

-- a date that is no calendar time
abbrev pub HasNoForm : RowTime → Type 0
HasNoForm (Seconds number) = ⊥
HasNoForm (Calendar date) = (time : ℤ) → ¬ SpellsTime date time

-- at most 18 decimals, and at most 10 ^ 10 s in size
abbrev pub IsRowTime : RowTime → Type 0
IsRowTime (Seconds number) = (number.scale ≤ 18) × HasSizeUpTo (10 ^ 10) number
IsRowTime (Calendar date) = (time : ℤ) × SpellsTime date time × (nat_abs time ≤ 10 ^ 28)

abbrev pub IsEarlier : RowTime → RowTime → Type 0
IsEarlier a b = (x : ℤ) × (y : ℤ) × HasTime a x × HasTime b y × (x <ℤ y)

-- ---- what is refused

abbrev pub time_checks : ℕ → RowTime → List (Check TriplesFault)
time_checks n time = HasNoForm time ⇒ TimeForm n ∷ (¬ IsRowTime time) ⇒ TimeRange n ∷ []

abbrev pub row_checks : ℕ → Option Row → ℕ → Row → List (Check TriplesFault)
row_checks total before n row =
    ((tick : ℕ) → ¬ IsTickUpTo total row.ticks tick) ⇒ TickRange n
    ∷ HasNoForm row.time ⇒ TimeForm n
    ∷ (¬ IsRowTime row.time) ⇒ TimeRange n
    ∷ (¬ IsRowRate row.rate) ⇒ RateRange n
    ∷ IsSomeAnd before (λ previous. (¬ IsLess previous.ticks row.ticks) ⊎ (¬ IsEarlier previous.time row.time)) ⇒ OutOfOrder n
    ∷ []

abbrev pub values_for : List VariableView → ℕ → List Value
values_for pool sc = unwrap_or (values_at (coefficients_name sc) pool) []

abbrev pub triples_checks : List VariableView → ClockView → ℕ → List (Check TriplesFault)
triples_checks pool clock sc =
    (values_at (coefficients_name sc) pool ≡ None) ⇒ Missing
    ∷ ((rows : List Row) → values_for pool sc ≢ flat_map row_values rows) ⇒ NotTriples
    ∷ (50000 < length (rows_of (values_for pool sc))) ⇒ TooMany
    ∷ each_after None 1 (row_checks (total clock)) (rows_of (values_for pool sc))

-- the triple has the numbers of the row
pub record IsTripleOf (row : Row) (triple : TripleView) : Type 0 where
  pub ticks : Number row.ticks ≡ whole triple.anchor.ticks
  pub time : HasTime row.time triple.anchor.time
  pub rate : HasUnits 18 row.rate triple.rate

-- the triples have the numbers of the kernel, and are the clock's
pub record AreTriplesOf (pool : List VariableView) (clock : ClockView) (sc : ℕ) (t : TriplesView) : Type 0 where
  pub rows : AllZip IsTripleOf (rows_of (values_for pool sc)) t.triples
  pub of_clock : AreOf clock t
