-- Values held as their canonical spellings.
use Rattle.std.specs.Prelude.{◌≡◌, ℕ, ◌+◌, Bool, false, List, [], ◌∷◌, ◌++◌, length, map, Option, Some, None, Result, Ok, Err}
use Rattle.std.specs.List.{list_all, list_any}
use Rattle.sk_decimal.specs.Reading.{number_of}
use Rattle.sk_grammar.specs.declared.fault.Reason.{Reason}
use Rattle.sk_grammar.specs.declared.value.Value.{Value}
use Rattle.sk_grammar.specs.declared.value.Value.TheVariants.{Text}
use Rattle.sk_grammar.specs.Document.{is_text, AreOfOneKind}
use Rattle.sk_grammar.specs.Lines.{is_line_feed, held_lines, IsEnded}
use Rattle.sk_grammar.specs.Canonical.{value_text, is_number, ended_by_line_feeds}
use Rattle.sk_grammar.specs.ValueReading.{value_at}

abbrev pub value_if_read : Result (Value × ℕ) Reason → Value
value_if_read (Ok value) = value.0
value_if_read (Err reason) = Text []

-- the value that the line spells
abbrev pub value_of_line : List ℕ → Value
value_of_line line = value_if_read (value_at number_of line)

-- the values that the text holds
abbrev pub held_values : List ℕ → List Value
held_values text = map value_of_line (held_lines text)

abbrev pub values_text : List Value → List ℕ
values_text values = ended_by_line_feeds (map value_text values)

-- the canonical spelling stands on one line, and is read as the value
pub record IsHeldValue (value : Value) : Type 0 where
  pub one_line : list_any is_line_feed (value_text value) ≡ false
  pub read : value_of_line (value_text value) ≡ value

-- the text is that of values of one kind: whether there are texts, and whether all are numbers
pub record HoldsValues (text : List ℕ) (some_text only_numbers : Bool) : Type 0 where
  pub ended : IsEnded text
  pub written : text ≡ values_text (held_values text)
  pub one_kind : AreOfOneKind (held_values text)
  pub texts : some_text ≡ list_any is_text (held_values text)
  pub numbers : only_numbers ≡ list_all is_number (held_values text)

-- the spelling of the one value; none where there are more, or none
abbrev pub only_text : List Value → Option (List ℕ)
only_text [] = None
only_text (value ∷ []) = Some (value_text value)
only_text (value ∷ next ∷ values) = None
