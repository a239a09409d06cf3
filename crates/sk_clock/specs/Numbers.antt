-- The whole numbers of a variable.
use Rattle.std.specs.Prelude.{◌≡◌, ℕ, ◌≤◌, ◌<◌, List, length, All, pos}
use Rattle.std.specs.Int.{IsInRange}
use Rattle.sk_decimal.specs.Number.{DecimalView}
use Rattle.sk_grammar.specs.Variables.{VariableView}
use Rattle.sk_clock.specs.Kernel.{AreWhole}

-- the decimal is this whole number
abbrev pub IsWholeNumber : DecimalView → ℕ → Type 0
IsWholeNumber number n = number ≡ record { coefficient = pos n; scale = 0 }

-- the variable is these whole numbers, one at least and so many at most, each from low to high
pub record AreNumbers (pool : List VariableView) (name : List ℕ) (most low high : ℕ) (ns : List ℕ) : Type 0 where
  pub are_whole : AreWhole pool name ns
  pub some : 0 < length ns
  pub few : length ns ≤ most
  pub each : All (IsInRange low high) ns
