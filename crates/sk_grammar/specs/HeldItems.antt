-- Items held as their canonical lines.
use Rattle.std.specs.Prelude.{◌≡◌, ℕ, List, [], ◌∷◌, ◌++◌, flat_map, All, Result, Ok, Err}
use Rattle.sk_decimal.specs.Reading.{number_of}
use Rattle.sk_grammar.specs.declared.fault.Reason.{Reason}
use Rattle.sk_grammar.specs.declared.fault.Reason.TheVariants.{NoAssign}
use Rattle.sk_grammar.specs.declared.place.Place.{Place}
use Rattle.sk_grammar.specs.declared.place.Place.TheVariants.{Idle, Named, Signed, Opened, Comma, Valued, Closed}
use Rattle.sk_grammar.specs.Document.{ItemView, IsItem}
use Rattle.sk_grammar.specs.Lines.{held_lines}
use Rattle.sk_grammar.specs.Canonical.{item_lines, ended_by_line_feeds}
use Rattle.sk_grammar.specs.Reading.{◌>>=◌, read_from}

-- at the end of a line an item that is closed joins the others
abbrev pub joined_by : List ItemView → Place → Result (List ItemView × Place) Reason
joined_by items Idle = Ok (items, Idle)
joined_by items (Named name) = Err NoAssign
joined_by items (Signed name op) = Ok (items, Signed name op)
joined_by items (Opened name op) = Ok (items, Opened name op)
joined_by items (Comma name op values) = Ok (items, Comma name op values)
joined_by items (Valued name op values) = Ok (items, Valued name op values)
joined_by items (Closed name op values) = Ok (items ++ record { name = name; op = op; values = values } ∷ [], Idle)

-- the items behind a line
abbrev pub line_of_items : List ItemView → Place → List ℕ → Result (List ItemView × Place) Reason
line_of_items items place line = read_from number_of place 0 line >>= joined_by items

-- the items of these lines, behind others
abbrev pub items_of_lines : List ItemView → Place → List (List ℕ) → Result (List ItemView) Reason
items_of_lines items place [] = Ok items
items_of_lines items place (line ∷ lines) = line_of_items items place line >>= λ next. items_of_lines next.0 next.1 lines

abbrev pub items_if_read : Result (List ItemView) Reason → List ItemView
items_if_read (Ok items) = items
items_if_read (Err reason) = []

-- the items that the text holds
abbrev pub held_items : List ℕ → List ItemView
held_items text = items_if_read (items_of_lines [] Idle (held_lines text))

abbrev pub items_text : List ItemView → List ℕ
items_text items = ended_by_line_feeds (flat_map item_lines items)

-- the text is that of valid items
pub record HoldsItems (text : List ℕ) : Type 0 where
  pub valid : All IsItem (held_items text)
  pub written : text ≡ items_text (held_items text)
