-- Items that are read one by one.
use Rattle.std.specs.Prelude.{◌≡◌, ◌⊎◌, ℕ, List, [], ◌∷◌, ◌++◌, flat_map, Result, Ok, false}
use Rattle.std.specs.List.{list_any, join_with_byte}
use Rattle.sk_decimal.specs.Reading.{number_of}
use Rattle.sk_grammar.specs.declared.fault.Reason.{Reason}
use Rattle.sk_grammar.specs.declared.items_left.LineEnd.{LineEnd}
use Rattle.sk_grammar.specs.declared.items_left.LineEnd.TheVariants.{Item, Open}
use Rattle.sk_grammar.specs.declared.place.Place.{Place}
use Rattle.sk_grammar.specs.declared.place.Place.TheVariants.{Idle, Named, Signed, Opened, Comma, Valued, Closed}
use Rattle.sk_grammar.specs.Document.{ItemView, IsItem}
use Rattle.sk_grammar.specs.Lines.{held_lines, is_line_feed, IsEnded}
use Rattle.sk_grammar.specs.Canonical.{item_lines}
use Rattle.sk_grammar.specs.Reading.{read_from}
use Rattle.sk_grammar.specs.HeldItems.{held_items, HoldsItems}

-- the text holds this item first, and then those of the text behind it
pub record IsFirstHeld (text : List ℕ) (item : ItemView) (behind : List ℕ) : Type 0 where
  pub held : held_items text ≡ item ∷ held_items behind
  pub holds : HoldsItems behind
  pub unnamed : List ℕ
  pub named : text ≡ item.name ++ unnamed

-- the item comes first in the items, which has this name, and the others are left
pub record IsNext (items left : List ItemView) (name : List ℕ) (item : ItemView) : Type 0 where
  pub items_are : items ≡ item ∷ left
  pub name_is : name ≡ item.name
  pub valid : IsItem item

-- within an item: these lines of it are left, and then those of other items
pub record IsWithin (all : List ItemView) (place : Place) (rest : List ℕ) : Type 0 where
  pub line : List ℕ
  pub own : List (List ℕ)
  pub item : ItemView
  pub items : List ItemView
  pub all_are : all ≡ item ∷ items
  pub ended : IsEnded rest
  pub lines_are : held_lines rest ≡ (line ∷ own) ++ flat_map item_lines items
  pub one_line : list_any (list_any is_line_feed) (line ∷ own) ≡ false
  pub read : read_from number_of place 0 (join_with_byte 10 (line ∷ own)) ≡ Ok (Closed item.name item.op item.values)

-- no item is left, or the place is within one
abbrev pub IsWithinOrEnd : List ItemView → Place → List ℕ → Type 0
IsWithinOrEnd all place rest = (all ≡ []) × (rest ≡ []) ⊎ IsWithin all place rest

-- what a line leaves, a closed item or the place within one
abbrev pub IsBehindLine : List ItemView → LineEnd → List ℕ → Type 0
IsBehindLine all (Item item) behind = (all ≡ item ∷ held_items behind) × HoldsItems behind
IsBehindLine all (Open place) behind = IsWithin all place behind

abbrev pub IsValidWhenClosed : Place → Type 0
IsValidWhenClosed Idle = Unit {0}
IsValidWhenClosed (Named name) = Unit {0}
IsValidWhenClosed (Signed name op) = Unit {0}
IsValidWhenClosed (Opened name op) = Unit {0}
IsValidWhenClosed (Comma name op values) = Unit {0}
IsValidWhenClosed (Valued name op values) = Unit {0}
IsValidWhenClosed (Closed name op values) = IsItem (record { name = name; op = op; values = values })

-- an item goes on behind its line
abbrev pub IsOpen : Place → Type 0
IsOpen Idle = Unit {0}
IsOpen (Named name) = ⊥
IsOpen (Signed name op) = Unit {0}
IsOpen (Opened name op) = Unit {0}
IsOpen (Comma name op values) = Unit {0}
IsOpen (Valued name op values) = Unit {0}
IsOpen (Closed name op values) = ⊥

-- the reading of the line is this
abbrev pub EndsAs : Result Place Reason → LineEnd → Type 0
EndsAs answer (Item item) = answer ≡ Ok (Closed item.name item.op item.values)
EndsAs answer (Open place) = (answer ≡ Ok place) × IsOpen place
