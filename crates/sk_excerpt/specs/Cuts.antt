-- The triples that are kept, by their places.
use Rattle.std.specs.Prelude.{◌≡◌, ℕ, ◌+◌, ◌*◌, ◌≤◌, List, length, Some, IsTrue}
use Rattle.std.specs.Str.{bytes_eq}
use Rattle.sk_grammar.specs.Variables.{VariableView}
use Rattle.sk_line.specs.Triple.{TripleView, coefficients_name}
use Rattle.sk_line.specs.Line.{covering}
use Rattle.sk_excerpt.specs.declared.cut.Cut.{Cut}

-- the triples that cover the ends of the range
pub record IsCut (triples : List TripleView) (from to : ℕ) (cut : Cut) : Type 0 where
  pub first : TripleView
  pub last : TripleView
  pub covers_from : covering triples from ≡ Some (cut.first + 1, first)
  pub covers_to : covering triples to ≡ Some (cut.last + 1, last)
  pub order : cut.first ≤ cut.last
  pub within : cut.last + 1 ≤ length triples

-- where the variable holds the coefficients, it has the values of the triples up to place last
abbrev pub HasRoom : ℕ → ℕ → VariableView → Type 0
HasRoom sc last variable = IsTrue (bytes_eq variable.name (coefficients_name sc)) → 3 * (last + 1) ≤ length variable.values
