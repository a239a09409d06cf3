-- Reading data lines token by token: what the code computes.
use Rattle.std.specs.Prelude.{ℕ, zero, suc, ◌+◌, ◌-◌, Bool, true, false, ◌||◌, nat_lt, List, [], ◌∷◌, ◌++◌, length, Result, Ok, Err, codes, ◌==◌, if◌then◌else◌}
use Rattle.std.specs.List.{list_all}
use Rattle.std.specs.Bool.{beq}
use Rattle.sk_decimal.specs.Number.{DecimalView}
use Rattle.sk_decimal.specs.declared.decimal.NumberFault.{NumberFault}
use Rattle.sk_grammar.specs.declared.value.Value.{Value}
use Rattle.sk_grammar.specs.declared.value.Op.{Op}
use Rattle.sk_grammar.specs.declared.value.Op.TheVariants.{Set, Append}
use Rattle.sk_grammar.specs.declared.fault.Reason.{Reason}
use Rattle.sk_grammar.specs.declared.fault.Reason.TheVariants.{BadName, NoAssign, BadNumber, MixedKinds, BadComma, EmptyVector, AfterValue}
use Rattle.sk_grammar.specs.declared.place.Place.{Place}
use Rattle.sk_grammar.specs.declared.place.Place.TheVariants.{Idle, Named, Signed, Opened, Comma, Valued, Closed}
use Rattle.sk_grammar.specs.Lines.{is_white}
use Rattle.sk_grammar.specs.Document.{is_text}
use Rattle.sk_grammar.specs.Refusal.{name_at, begins_with}
use Rattle.sk_grammar.specs.ValueReading.{value_at}

infixl 10 ◌>>=◌
abbrev pub ◌>>=◌ : {A B : Type 0} → Result A Reason → (A → Result B Reason) → Result B Reason
(Ok x) >>= f = f x
(Err e) >>= f = Err e

module _ (number_of : List ℕ → Result DecimalView NumberFault) where
  -- the one value of an item
  abbrev pub single_at : List ℕ → Op → List ℕ → Result (Place × ℕ) Reason
  single_at name op bytes = value_at number_of bytes >>= λ v. Ok (Closed name op (v.0 ∷ []), v.1)

  -- a further value of a vector has the kind of the first ones
  abbrev pub added : List Value → Value → Result (List Value) Reason
  added values value =
      if list_all (λ held. beq (is_text held) (is_text value)) values then Ok (values ++ value ∷ []) else Err MixedKinds

  abbrev pub further_at : List ℕ → Op → List Value → List ℕ → Result (Place × ℕ) Reason
  further_at name op values bytes = value_at number_of bytes >>= λ v. added values v.0 >>= λ vs. Ok (Valued name op vs, v.1)

  -- the next token, at the front of bytes that begin with no white space, and how many bytes it takes
  abbrev pub step : Place → List ℕ → Result (Place × ℕ) Reason
  step Idle bytes = if length (name_at bytes) == 0 || nat_lt 32 (length (name_at bytes)) then Err BadName else Ok (Named (name_at bytes), length (name_at bytes))
  step (Named name) bytes =
      if begins_with (codes "=") bytes then Ok (Signed name Set, 1)
      else if begins_with (codes "+=") bytes then Ok (Signed name Append, 2)
      else Err NoAssign
  step (Signed name op) bytes =
      if begins_with (codes "(") bytes then Ok (Opened name op, 1)
      else if begins_with (codes ",") bytes then Err BadComma
      else if begins_with (codes ")") bytes then Err BadNumber
      else (value_at number_of bytes >>= λ v. Ok (Closed name op (v.0 ∷ []), v.1))
  step (Opened name op) bytes =
      if begins_with (codes "(") bytes then Err BadNumber
      else if begins_with (codes ",") bytes then Err BadComma
      else if begins_with (codes ")") bytes then Err EmptyVector
      else further_at name op [] bytes
  step (Comma name op values) bytes =
      if begins_with (codes "(") bytes then Err BadNumber
      else if begins_with (codes ",") bytes then Err BadComma
      else if begins_with (codes ")") bytes then Err BadComma
      else further_at name op values bytes
  step (Valued name op values) bytes =
      if begins_with (codes "(") bytes then Err BadNumber
      else if begins_with (codes ",") bytes then Ok (Comma name op values, 1)
      else if begins_with (codes ")") bytes then Ok (Closed name op values, 1)
      else further_at name op values bytes
  step (Closed name op values) bytes = Err AfterValue

  -- the place at the end of these bytes of one line or more; a name at the end of its line has no sign
  abbrev pub end_line : Place → Result Place Reason
  end_line Idle = Ok Idle
  end_line (Named name) = Err NoAssign
  end_line (Signed name op) = Ok (Signed name op)
  end_line (Opened name op) = Ok (Opened name op)
  end_line (Comma name op values) = Ok (Comma name op values)
  end_line (Valued name op values) = Ok (Valued name op values)
  end_line (Closed name op values) = Err AfterValue

  -- from a place, past so many bytes, through these
  abbrev pub read_from : Place → ℕ → List ℕ → Result Place Reason
  read_from place skip [] = Ok place
  read_from place (suc skip) (byte ∷ bytes) = read_from place skip bytes
  read_from place zero (byte ∷ bytes) =
      if byte == 10 then (end_line place >>= λ next. read_from next 0 bytes)
      else if is_white byte then read_from place 0 bytes
      else (step place (byte ∷ bytes) >>= λ next. read_from next.0 (next.1 - 1) bytes)
