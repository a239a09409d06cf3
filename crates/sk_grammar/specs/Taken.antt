-- What taking bytes answers.
use Rattle.std.specs.Prelude.{◌≡◌, ℕ, ◌+◌, List, [], ◌∷◌, ◌++◌, Result, Ok, Err, false, count_by}
use Rattle.std.specs.List.{list_any}
use Rattle.sk_grammar.specs.declared.fault.GrammarFault.{GrammarFault}
use Rattle.sk_grammar.specs.declared.fault.GrammarFault.TheVariants.{At, NoMemory}
use Rattle.sk_grammar.specs.declared.state.State.{State}
use Rattle.sk_grammar.specs.declared.taking.Taking.{Taking}
use Rattle.sk_grammar.specs.Answers.{AnswersUnlessMemory}
use Rattle.sk_grammar.specs.Document.{DocView}
use Rattle.sk_grammar.specs.Lines.{lines, is_line_feed, is_carriage_return, without_trailing}
use Rattle.sk_grammar.specs.Fold.{take_line, document_of}
use Rattle.sk_grammar.specs.HasTaken.{Taken, HasTaken, AreRefused}

abbrev pub taken_of : Taking → Taken
taken_of taking = record { state = taking.state; count = taking.count; line = taking.line.items }

-- the state behind the line and nothing of the next one, or the line's refusal
abbrev pub EndsLine : Result Taking GrammarFault → State → ℕ → List ℕ → Type 0
EndsLine (Ok taking) state count line =
    (take_line state (without_trailing is_carriage_return line) ≡ Ok taking.state) × (taking.count ≡ count + 1) × (taking.line.items ≡ [])
EndsLine (Err (At n reason)) state count line = (take_line state (without_trailing is_carriage_return line) ≡ Err reason) × (n ≡ count + 1)
EndsLine (Err NoMemory) state count line = Unit {0}

-- these bytes have been taken, or they are refused
abbrev pub HasOrRefused : Result Taking GrammarFault → List ℕ → Type 0
HasOrRefused (Ok taking) bytes = HasTaken (taken_of taking) bytes
HasOrRefused (Err (At n reason)) bytes = AreRefused bytes (At n reason)
HasOrRefused (Err NoMemory) bytes = Unit {0}

abbrev pub TakesPiece : Result Taking GrammarFault → Taking → List ℕ → Type 0
TakesPiece result taking piece = (bytes : List ℕ) → HasTaken (taken_of taking) bytes → HasOrRefused result (bytes ++ piece)

-- one line, a line feed, and what stands behind that
pub record IsSplitAtFeed (bytes line behind : List ℕ) : Type 0 where
  pub joined : bytes ≡ line ++ 10 ∷ behind
  pub one_line : list_any is_line_feed line ≡ false

-- the document of the bytes that were taken, or their refusal
abbrev pub EndsText : Result DocView GrammarFault → Taking → Type 0
EndsText result taking = (bytes : List ℕ) → HasTaken (taken_of taking) bytes → AnswersUnlessMemory result (document_of (lines bytes))

-- the front of the piece has been taken, and this is left of it
pub record HasComeTo (piece rest : List ℕ) (from to : Taking) : Type 0 where
  pub front : List ℕ
  pub joined : piece ≡ front ++ rest
  pub taken : (bytes : List ℕ) → HasTaken (taken_of from) bytes → HasTaken (taken_of to) (bytes ++ front)
  pub count : to.count + count_by is_line_feed rest ≡ from.count + count_by is_line_feed piece
