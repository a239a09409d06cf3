-- Values of a vector that stand in a row.
use Rattle.std.proofs.Common.{◌≡◌, ℕ, ◌+◌, ◌<◌, ◌≤◌, List, [], length, drop, get_or, length-drop, false, ap, ◌∙◌, arith, Ok, Err}
use Rattle.std.specs.List.{list_any}
use Rattle.sk_decimal.specs.Reading.{number_of}
use Rattle.sk_grammar.specs.declared.place.Place.{Place}
use Rattle.sk_grammar.specs.declared.place.Place.TheVariants.{Valued}
use Rattle.sk_grammar.specs.declared.stop.Stop.{Stop}
use Rattle.sk_grammar.specs.declared.stop.Stop.TheVariants.{Refused, OutOfMemory}
use Rattle.sk_grammar.specs.declared.value.Op.{Op}
use Rattle.sk_grammar.specs.declared.value.Op.TheVariants.{Set}
use Rattle.sk_grammar.specs.declared.value.Value.{Value}
use Rattle.sk_grammar.specs.Lines.{is_white, is_line_feed}
use Rattle.sk_grammar.specs.Reading.{step, read_from}
use Rattle.sk_grammar.specs.Stopping.{GivesPlaceAt, ReadsOn, ReadsFront}
use Rattle.sk_grammar.proofs.Steps.{token_at, fault_at}
use Rattle.sk_grammar.proofs.StepSize.{gives_some, gives_inside}

-- a value has a byte, and is no longer than what is left
pub value_sized : (line : List ℕ) (at size : ℕ) (values more : List Value) → at < length line → ((name : List ℕ) (op : Op) → step number_of (Valued name op values) (drop at line) ≡ Ok (Valued name op more, size)) → (0 < size) × (at + size ≤ length line)
value_sized line at size values more within stepped =
    let some : 0 < length (drop at line) = omega (arith, length-drop at line) in (
      gives_some (Ok (Valued [] Set more, size)) (Valued [] Set values) (drop at line) some (stepped [] Set),
      omega (arith, gives_inside (Ok (Valued [] Set more, size)) (Valued [] Set values) (drop at line) some (stepped [] Set), length-drop at line),
    )

-- one more value of the row
pub value_on : (name : List ℕ) (op : Op) (line : List ℕ) (at size : ℕ) (values more : List Value) → list_any is_line_feed line ≡ false → at < length line → is_white (get_or line at 0) ≡ false → ((name : List ℕ) (op : Op) → step number_of (Valued name op values) (drop at line) ≡ Ok (Valued name op more, size)) → read_from number_of (Valued name op values) 0 (drop at line) ≡ read_from number_of (Valued name op more) 0 (drop (at + size) line)
value_on name op line at size values more one within white stepped =
    let sized = value_sized line at size values more within stepped in
    token_at (Valued name op values) (Valued name op more) line at size one within white (stepped name op) sized.0 sized.1

-- a value at which the row stops
pub value_stops : (stop : Stop) (line : List ℕ) (at : ℕ) (first place next last : Place) → list_any is_line_feed line ≡ false → at < length line → is_white (get_or line at 0) ≡ false → read_from number_of first 0 line ≡ read_from number_of place 0 (drop at line) → GivesPlaceAt (Err stop) next (step number_of place (drop at line)) → ReadsOn (Err stop) first last line
value_stops (Refused reason) line at first place next last one within white so gives = so ∙ fault_at place line at reason one within white gives
value_stops OutOfMemory line at first place next last one within white so gives = tt

-- a row that stops, in front of its line
pub front_stops : (stop : Stop) (place row next : Place) (line : List ℕ) → place ≡ row → ReadsOn (Err stop) row next line → ReadsFront (Err stop) place line
front_stops (Refused reason) place row next line is h = ap (λ (p : Place). read_from number_of p 0 line) is ∙ h
front_stops OutOfMemory place row next line is h = tt
