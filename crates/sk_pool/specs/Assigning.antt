-- The variables after each item in turn: what the code computes.
use Rattle.std.specs.Prelude.{◌≡◌, ℕ, suc, ◌+◌, ◌<◌, Bool, true, false, List, [], ◌∷◌, ◌++◌, length, All, Option, Some, None, option_map, Result, Ok, Err, unwrap_or, if◌then◌else◌}
use Rattle.std.specs.Str.{bytes_eq}
use Rattle.std.specs.Cmp.Lexicographic.{slice_cmp}
use Rattle.std.specs.Ordering.{nat_cmp}
use Rattle.std.specs.BTreeMap.{get_by}
use Rattle.sk_grammar.specs.declared.value.Value.{Value}
use Rattle.sk_grammar.specs.declared.value.Op.TheVariants.{Set, Append}
use Rattle.sk_grammar.specs.Document.{ItemView, IsName, IsValue, AreOfOneKind, is_text}
use Rattle.sk_grammar.specs.Variables.{VariableView, values_at, mixes, joined}
use Rattle.sk_pool.specs.declared.pool.PoolFault.{PoolFault}
use Rattle.sk_pool.specs.declared.pool.PoolFault.TheVariants.{AppendMixed, NoMemory}
use Rattle.sk_pool.specs.declared.table.Table.{Table}

-- the values of a variable behind one more item that assigns to it
abbrev pub values_behind : List Value → ItemView → List Value
values_behind values item = elim item.op [ Set ↦ item.values | Append ↦ values ++ item.values ]

-- the variables behind one more item
abbrev pub assigned : List VariableView → ItemView → List VariableView
assigned [] item = record { name = item.name; values = item.values } ∷ []
assigned (variable ∷ variables) item =
    if bytes_eq variable.name item.name then record { name = variable.name; values = values_behind variable.values item } ∷ variables
    else variable ∷ assigned variables item

-- the item adds texts to other kinds, or other kinds to texts
abbrev pub adds_mixed : List Value → ItemView → Bool
adds_mixed values item = elim item.op [ Set ↦ false | Append ↦ mixes values item.values ]

-- the same of the variable that it assigns to
abbrev pub is_mixing : List VariableView → ItemView → Bool
is_mixing variables item = adds_mixed (unwrap_or (values_at item.name variables) []) item

-- the variables behind these items, or the number of the first that mixes kinds; the first has number n
abbrev pub all_assigned : List VariableView → ℕ → List ItemView → Result (List VariableView) ℕ
all_assigned variables n [] = Ok variables
all_assigned variables n (item ∷ items) = if is_mixing variables item then Err n else all_assigned (assigned variables item) (n + 1) items

-- the first place of the name
abbrev pub place_in : List (List ℕ) → List ℕ → Option ℕ
place_in [] name = None
place_in (first ∷ names) name = if bytes_eq first name then Some 0 else option_map suc (place_in names name)

-- one valid value or more, all texts or none
pub record AreOneKind (values : List Value) : Type 0 where
  pub some : 0 < length values
  pub one_kind : AreOfOneKind values
  pub valid : All IsValue values

-- the first value is a text
abbrev pub begins_text : List Value → Bool
begins_text [] = false
begins_text (value ∷ values) = is_text value

-- each name is found at its place
pub record IsTable (table : Table) : Type 0 where
  pub lengths : length table.names.items ≡ length table.values.items
  pub names : All IsName table.names.items
  pub kinds : All AreOneKind table.values.items
  pub places : (name : List ℕ) → get_by (λ k. slice_cmp nat_cmp name k.now) table.places ≡ place_in table.names.items name

abbrev pub variables_in : Table → List VariableView
variables_in table = joined table.names.items table.values.items

-- a fault that names an item is the answer's
abbrev pub IsMixedOf : Result (List VariableView) ℕ → PoolFault → Type 0
IsMixedOf answer (AppendMixed n) = answer ≡ Err n
IsMixedOf answer NoMemory = Unit {0}

-- a fault that names an item names this one, and the test holds
abbrev pub IsMixing : ℕ → Bool → PoolFault → Type 0
IsMixing number mixing (AppendMixed n) = (n ≡ number) × (mixing ≡ true)
IsMixing number mixing NoMemory = Unit {0}
