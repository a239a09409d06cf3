-- Text lines taken in turn.
use Rattle.std.specs.Prelude.{◌≡◌, ℕ, ◌+◌, Bool, true, ◌&&◌, not, nat_le, List, [], ◌∷◌, ◌++◌, length, count_by, Ok}
use Rattle.sk_grammar.specs.declared.state.State.{State}
use Rattle.sk_grammar.specs.Lines.{is_line_feed, is_marker, held_lines, IsEnded}
use Rattle.sk_grammar.specs.Fold.{take_line}
use Rattle.sk_grammar.specs.HasTaken.{HasTaken}

-- in text mode the line stays as it is
abbrev pub is_text_line : List ℕ → Bool
is_text_line line = nat_le (length line) 4096 && not (is_marker line)

-- the state that holds some lines takes one that stays behind them
abbrev pub KeepsLines : (List (List ℕ) → State) → Type 0
KeepsLines make = (texts : List (List ℕ)) (line : List ℕ) → is_text_line line ≡ true → take_line (make texts) line ≡ Ok (make (texts ++ line ∷ []))

-- the front of the piece is lines that stay, and this is left of it
pub record TakesTexts (piece rest : List ℕ) (texts more : List (List ℕ)) (count next : ℕ) : Type 0 where
  pub front : List ℕ
  pub joined : piece ≡ front ++ rest
  pub counted : next + count_by is_line_feed rest ≡ count + count_by is_line_feed piece
  pub taken : (make : List (List ℕ) → State) → KeepsLines make → (bytes : List ℕ) → HasTaken (record { state = make texts; count = count; line = [] }) bytes → HasTaken (record { state = make more; count = next; line = [] }) (bytes ++ front)

-- the front of the piece is lines that stay byte for byte
pub record IsRun (piece front rest : List ℕ) (count next : ℕ) : Type 0 where
  pub joined : piece ≡ front ++ rest
  pub counted : next + count_by is_line_feed rest ≡ count + count_by is_line_feed piece
  pub ended : IsEnded front
  pub taken : (make : List (List ℕ) → State) → KeepsLines make → (texts : List (List ℕ)) (bytes : List ℕ) → HasTaken (record { state = make texts; count = count; line = [] }) bytes → HasTaken (record { state = make (texts ++ held_lines front); count = next; line = [] }) (bytes ++ front)
