-- The triples of a clock kernel. Times and rates count 10 ^ -18 s.
use Rattle.std.specs.Prelude.{ℕ, ℤ, List, ◌++◌, codes, decimal}

-- where a line begins
pub record Anchor : Type 0 where
  pub ticks : ℕ
  pub time : ℤ

-- a triple of a kernel: its rate is that of one most significant count
pub record TripleView : Type 0 where
  pub anchor : Anchor
  pub rate : ℤ

-- the variable that holds the triples of a spacecraft
abbrev pub coefficients_name : ℕ → List ℕ
coefficients_name sc = codes "SCLK01_COEFFICIENTS_" ++ decimal sc
