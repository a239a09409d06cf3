-- Values that stand in rows of three.
use Rattle.std.proofs.Common.{◌≡◌, ℕ, suc, ◌+◌, ◌*◌, ◌≤◌, true, false, List, [], ◌∷◌, length, drop, refl, ap, sym, subst, arith, ◌∙◌}
use Rattle.std.specs.Prelude.{◌==◌}
use Rattle.std.specs.List.{flat_map}
use Rattle.std.proofs.lemmas.Bool.{false≢true, ne_eqb}
use Rattle.sk_decimal.specs.Number.{DecimalView}
use Rattle.sk_grammar.specs.declared.value.Value.{Value}
use Rattle.sk_grammar.specs.declared.value.Value.TheVariants.{Number, Date, Text}
use Rattle.sk_triples.specs.Coefficients.{RowTime, Seconds, Calendar, Row, time_value, row_values, rows_of}
use Rattle.sk_triples.specs.Values.{in_rows}

-- ---- what rows give

row_back : (a c : DecimalView) (time : RowTime) (values : List Value) → rows_of (Number a ∷ time_value time ∷ Number c ∷ values) ≡ record { ticks = a; time = time; rate = c } ∷ rows_of values
row_back a c (Seconds number) values = refl
row_back a c (Calendar date) values = refl

-- the rows of what rows give are these rows
pub rows_back : (rows : List Row) → rows_of (flat_map row_values rows) ≡ rows
rows_back [] = refl
rows_back (row ∷ rows) = row_back row.ticks row.rate row.time (flat_map row_values rows) ∙ ap (λ (rs : List Row). row ∷ rs) (rows_back rows)

pub rows_length : (rows : List Row) → length (flat_map row_values rows) ≡ length rows * 3
rows_length [] = refl
rows_length (row ∷ rows) = omega (arith, rows_length rows)

row_in : (a c : DecimalView) (time : RowTime) (values : List Value) → in_rows (Number a ∷ time_value time ∷ Number c ∷ values) ≡ in_rows values
row_in a c (Seconds number) values = refl
row_in a c (Calendar date) values = refl

rows_in : (rows : List Row) → in_rows (flat_map row_values rows) ≡ true
rows_in [] = refl
rows_in (row ∷ rows) = row_in row.ticks row.rate row.time (flat_map row_values rows) ∙ rows_in rows

-- ---- values in rows

some_row : (row : Row) (rows : List Row) → [] ≡ row ∷ rows → ⊥
some_row row rows e = let none : 0 ≡ length rows + 1 = ap length e ∙ more rows in omega (arith, none)
  where
    more : (rows : List Row) → length (row ∷ rows) ≡ length rows + 1
    more rows = omega arith

-- one row is taken off
pub row_begins : (values : List Value) (row : Row) → 3 ≤ length values → rows_of values ≡ row ∷ rows_of (drop 3 values) → in_rows values ≡ in_rows (drop 3 values)
row_begins [] row long e = absurd (omega arith)
row_begins (a ∷ []) row long e = absurd (omega arith)
row_begins (a ∷ b ∷ []) row long e = absurd (omega arith)
row_begins (Number a ∷ Number b ∷ Number c ∷ values) row long e = refl
row_begins (Number a ∷ Date b ∷ Number c ∷ values) row long e = refl
row_begins (Number a ∷ Number b ∷ Date c ∷ values) row long e = absurd (some_row row (rows_of values) e)
row_begins (Number a ∷ Number b ∷ Text c ∷ values) row long e = absurd (some_row row (rows_of values) e)
row_begins (Number a ∷ Date b ∷ Date c ∷ values) row long e = absurd (some_row row (rows_of values) e)
row_begins (Number a ∷ Date b ∷ Text c ∷ values) row long e = absurd (some_row row (rows_of values) e)
row_begins (Number a ∷ Text b ∷ c ∷ values) row long e = absurd (some_row row (rows_of values) e)
row_begins (Date a ∷ b ∷ c ∷ values) row long e = absurd (some_row row (rows_of values) e)
row_begins (Text a ∷ b ∷ c ∷ values) row long e = absurd (some_row row (rows_of values) e)

no_row : (row : Row) (rows : List Row) → row ∷ rows ≡ [] → ⊥
no_row row rows e = some_row row rows (sym e)

long : (n : ℕ) → (suc (suc (suc n)) == 0) ≡ false
long n = ne_eqb (suc (suc (suc n))) 0 (λ e. omega (arith, e))

-- where no row begins, the values are in rows where there are none
pub none_begins : (values : List Value) → rows_of values ≡ [] → in_rows values ≡ (length values == 0)
none_begins [] e = refl
none_begins (a ∷ []) e = refl
none_begins (a ∷ b ∷ []) e = refl
none_begins (Number a ∷ Number b ∷ Number c ∷ values) e = absurd (no_row _ _ e)
none_begins (Number a ∷ Date b ∷ Number c ∷ values) e = absurd (no_row _ _ e)
none_begins (Number a ∷ Number b ∷ Date c ∷ values) e = sym (long (length values))
none_begins (Number a ∷ Number b ∷ Text c ∷ values) e = sym (long (length values))
none_begins (Number a ∷ Date b ∷ Date c ∷ values) e = sym (long (length values))
none_begins (Number a ∷ Date b ∷ Text c ∷ values) e = sym (long (length values))
none_begins (Number a ∷ Text b ∷ c ∷ values) e = sym (long (length values))
none_begins (Date a ∷ b ∷ c ∷ values) e = sym (long (length values))
none_begins (Text a ∷ b ∷ c ∷ values) e = sym (long (length values))

-- values in rows are those of their rows
pub threes : (values : List Value) → in_rows values ≡ true → values ≡ flat_map row_values (rows_of values)
threes [] h = refl
threes (a ∷ []) h = absurd (false≢true h)
threes (a ∷ b ∷ []) h = absurd (false≢true h)
threes (Number a ∷ Number b ∷ Number c ∷ values) h = ap (λ (vs : List Value). Number a ∷ Number b ∷ Number c ∷ vs) (threes values h)
threes (Number a ∷ Date b ∷ Number c ∷ values) h = ap (λ (vs : List Value). Number a ∷ Date b ∷ Number c ∷ vs) (threes values h)
threes (Number a ∷ Number b ∷ Date c ∷ values) h = absurd (false≢true h)
threes (Number a ∷ Number b ∷ Text c ∷ values) h = absurd (false≢true h)
threes (Number a ∷ Date b ∷ Date c ∷ values) h = absurd (false≢true h)
threes (Number a ∷ Date b ∷ Text c ∷ values) h = absurd (false≢true h)
threes (Number a ∷ Text b ∷ c ∷ values) h = absurd (false≢true h)
threes (Date a ∷ b ∷ c ∷ values) h = absurd (false≢true h)
threes (Text a ∷ b ∷ c ∷ values) h = absurd (false≢true h)

pub are_in_rows : (values : List Value) → values ≡ flat_map row_values (rows_of values) → in_rows values ≡ true
are_in_rows values e = subst (λ (vs : List Value). in_rows vs ≡ true) (sym e) (rows_in (rows_of values))

pub are_threes : (values : List Value) → values ≡ flat_map row_values (rows_of values) → length values ≡ length (rows_of values) * 3
are_threes values e = ap length e ∙ rows_length (rows_of values)
