-- The variables of a document, and what making a pool of them refuses.
use Rattle.std.specs.Prelude.{◌≡◌, ◌≢◌, ℕ, All, List, [], ◌∷◌, Some, None}
use Rattle.std.specs.List.{AllPairs}
use Rattle.sk_decimal.specs.Number.{DecimalView}
use Rattle.sk_checks.specs.Checks.{Check, ◌⇒◌, each_after}
use Rattle.sk_grammar.specs.declared.value.Value.TheVariants.{Number}
use Rattle.sk_grammar.specs.declared.value.Op.TheVariants.{Set}
use Rattle.sk_grammar.specs.Document.{ItemView, DocView, IsItem}
use Rattle.sk_grammar.specs.Variables.{VariableView, items_of, values_at, IsMixedAppend}
use Rattle.sk_pool.specs.declared.pool.PoolFault.{PoolFault}
use Rattle.sk_pool.specs.declared.pool.PoolFault.TheVariants.{AppendMixed}

-- each item in order: a `+=` that adds texts to other kinds, or other kinds to texts
abbrev pub pool_checks : DocView → List (Check PoolFault)
pool_checks doc = each_after None 1 (λ before n item. IsMixedAppend (items_of doc) n ⇒ AppendMixed n ∷ []) (items_of doc)

-- the variable is one number
abbrev pub IsOneNumber : List VariableView → List ℕ → DecimalView → Type 0
IsOneNumber pool name number = values_at name pool ≡ Some (Number number ∷ [])

-- the item that gives the variable these values
abbrev pub set_item : VariableView → ItemView
set_item variable = record { name = variable.name; op = Set; values = variable.values }

-- what a pool keeps: each variable has a name and values that an item may have, and no name stands twice
pub record AreVariables (pool : List VariableView) : Type 0 where
  pub valid : All (λ variable. IsItem (set_item variable)) pool
  pub once : AllPairs (λ a b. a.name ≢ b.name) pool
