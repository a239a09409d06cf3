-- What is kept of a reading.
use Rattle.std.specs.Prelude.{◌≡◌, ℕ, nat_lt, List, length, take}
use Rattle.sk_clock.specs.declared.reading.Values.{Values}
use Rattle.sk_clock.specs.declared.reading.Reading.{Reading}
use Rattle.sk_clock.specs.ClockText.{Reading as ReadingView}

-- the first ten values, and whether there are more
pub record KeepsValues (all : List ℕ) (values : Values) : Type 0 where
  pub first : values.first.items ≡ take 10 all
  pub more : values.more ≡ nat_lt 10 (length all)

pub record KeepsReading (all : ReadingView) (reading : Reading) : Type 0 where
  pub partition : reading.partition ≡ all.partition
  pub values : KeepsValues all.values reading.values
