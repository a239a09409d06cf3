-- Reading a value at the front of bytes: what the code computes.
use Rattle.std.specs.Prelude.{ℕ, ◌+◌, Bool, true, false, ◌||◌, nat_lt, List, [], ◌∷◌, length, Option, Some, None, option_map, Result, Ok, Err, codes, ◌==◌, if◌then◌else◌}
use Rattle.std.specs.List.{flat_map}
use Rattle.sk_decimal.specs.Number.{DecimalView}
use Rattle.sk_decimal.specs.declared.decimal.NumberFault.{NumberFault}
use Rattle.sk_decimal.specs.declared.decimal.NumberFault.TheVariants.{NotNumber, TooWide}
use Rattle.sk_grammar.specs.declared.value.Value.{Value}
use Rattle.sk_grammar.specs.declared.value.Value.TheVariants.{Number, Date, Text}
use Rattle.sk_grammar.specs.declared.fault.Reason.{Reason}
use Rattle.sk_grammar.specs.declared.fault.Reason.TheVariants.{BadNumber, NumberTooWide, TextOpen, TextTooLong, BadDate}
use Rattle.sk_grammar.specs.Document.{doubled, quoted}
use Rattle.sk_grammar.specs.Refusal.{run_at, begins_with}

-- the text whose spelling stands at the front, behind its first quote, if it ends on its line; the flag is set behind a later quote
abbrev pub text_from : Bool → List ℕ → Option (List ℕ)
text_from false [] = None
text_from true [] = Some []
text_from false (byte ∷ bytes) =
    if byte == 39 then text_from true bytes
    else if byte == 10 then None
    else option_map (λ text. byte ∷ text) (text_from false bytes)
text_from true (byte ∷ bytes) = if byte == 39 then option_map (λ text. byte ∷ text) (text_from false bytes) else Some []

-- that text, and how many bytes its spelling takes behind the first quote
abbrev pub ended_text : Option (List ℕ) → Result (List ℕ × ℕ) Reason
ended_text None = Err TextOpen
ended_text (Some text) = Ok (text, length (flat_map doubled text) + 1)

abbrev pub date_of : List ℕ → Result (Value × ℕ) Reason
date_of run = if length run == 1 || nat_lt 80 (length run) then Err BadDate else Ok (Date run, length run)

module _ (number_of : List ℕ → Result DecimalView NumberFault) where
  abbrev pub text_value : Option (List ℕ) → Result (Value × ℕ) Reason
  text_value None = Err TextOpen
  text_value (Some text) = if nat_lt 80 (length text) then Err TextTooLong else Ok (Text text, length (quoted text))

  abbrev pub number_value : List ℕ → Result DecimalView NumberFault → Result (Value × ℕ) Reason
  number_value run (Ok number) = Ok (Number number, length run)
  number_value run (Err NotNumber) = Err BadNumber
  number_value run (Err TooWide) = Err NumberTooWide

  abbrev pub run_value : List ℕ → Result (Value × ℕ) Reason
  run_value run =
      if begins_with (codes "@") run then date_of run
      else number_value run (number_of run)

  -- the value at the front, and how many bytes it takes
  abbrev pub value_at : List ℕ → Result (Value × ℕ) Reason
  value_at [] = Err BadNumber
  value_at (byte ∷ bytes) = if byte == 39 then text_value (text_from false bytes) else run_value (run_at (byte ∷ bytes))
