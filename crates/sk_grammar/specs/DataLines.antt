-- Data lines taken in turn, whatever head and blocks stand before their items.
use Rattle.std.specs.Prelude.{◌≡◌, ℕ, ◌+◌, List, [], ◌++◌, count_by, Result, Ok, Err}
use Rattle.sk_grammar.specs.declared.fault.GrammarFault.{GrammarFault}
use Rattle.sk_grammar.specs.declared.fault.Reason.{Reason}
use Rattle.sk_grammar.specs.declared.place.Place.{Place}
use Rattle.sk_grammar.specs.declared.state.State.{State}
use Rattle.sk_grammar.specs.declared.state.State.TheVariants.{InData}
use Rattle.sk_grammar.specs.declared.stop.Stop.{Stop}
use Rattle.sk_grammar.specs.declared.stop.Stop.TheVariants.{Refused, OutOfMemory}
use Rattle.sk_grammar.specs.Document.{ItemView, BlockView}
use Rattle.sk_grammar.specs.Lines.{is_line_feed}
use Rattle.sk_grammar.specs.HasTaken.{Taken, HasTaken}
use Rattle.sk_grammar.specs.Taken.{HasOrRefused}
use Rattle.sk_grammar.specs.Valid.{IsReached, IsReachedState}

-- data mode with these items, behind so many lines, and nothing of the next one
abbrev pub data_taken : List (List ℕ) → List BlockView → List ItemView → Place → ℕ → Taken
data_taken head blocks items place count = record { state = InData head blocks items place; count = count; line = [] }

-- reading some lines leaves these items and this place
abbrev pub AreReached : List ItemView → Place → Type 0
AreReached items place = (head : List (List ℕ)) × (blocks : List BlockView) × IsReachedState (InData head blocks items place)

-- the reader has taken some bytes, which left these items and this place behind so many lines
abbrev pub AreReachedAt : List ItemView → Place → ℕ → Type 0
AreReachedAt items place count = (head : List (List ℕ)) × (blocks : List BlockView) × IsReached (data_taken head blocks items place count)

-- the answer is these items and the place of the result, or its refusal, unless memory ran out
abbrev pub GivesPlace : Result Place Stop → List (List ℕ) → List BlockView → List ItemView → Result State Reason → Type 0
GivesPlace (Ok place) head blocks items answer = answer ≡ Ok (InData head blocks items place)
GivesPlace (Err (Refused reason)) head blocks items answer = answer ≡ Err reason
GivesPlace (Err OutOfMemory) head blocks items answer = Unit {0}

-- the front of the piece is data lines, which add to the items, and this is left of it
pub record TakesDataLines (piece rest : List ℕ) (items more : List ItemView) (place next : Place) (count ended : ℕ) : Type 0 where
  pub front : List ℕ
  pub joined : piece ≡ front ++ rest
  pub counted : ended + count_by is_line_feed rest ≡ count + count_by is_line_feed piece
  pub taken : (head : List (List ℕ)) (blocks : List BlockView) (bytes : List ℕ) → HasTaken (data_taken head blocks items place count) bytes → HasTaken (data_taken head blocks more next ended) (bytes ++ front)

-- a line of the piece is refused so, behind these items and this place
abbrev pub RefusesDataLines : GrammarFault → List ℕ → List ItemView → Place → ℕ → Type 0
RefusesDataLines fault piece items place count = (head : List (List ℕ)) (blocks : List BlockView) (bytes : List ℕ) → HasTaken (data_taken head blocks items place count) bytes → HasOrRefused (Err fault) (bytes ++ piece)
