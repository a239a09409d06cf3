-- What reading may answer.
use Rattle.std.specs.Prelude.{◌≡◌, ◌⊎◌, ◌++◌, List, ℕ, Result, Err}
use Rattle.sk_grammar.specs.declared.fault.GrammarFault.{GrammarFault}
use Rattle.sk_grammar.specs.declared.fault.GrammarFault.TheVariants.{At, NoMemory}
use Rattle.sk_grammar.specs.declared.fault.Reason.{Reason}
use Rattle.sk_grammar.specs.Lines.{lines, ended_lines}
use Rattle.sk_grammar.specs.Document.{DocView}
use Rattle.sk_grammar.specs.Refusal.{BeginKernel, IsRefusal}

-- the fault is the text's refusal; want of memory says nothing
abbrev pub IsFaultOf : List ℕ → GrammarFault → Type 0
IsFaultOf bytes (At line reason) = IsRefusal (lines bytes) line reason
IsFaultOf bytes NoMemory = Unit {0}

-- the document is answered, unless memory ran out
abbrev pub AnswersUnlessMemory : Result DocView GrammarFault → Result DocView GrammarFault → Type 0
AnswersUnlessMemory result answer = (result ≡ answer) ⊎ (result ≡ Err NoMemory)

-- The lines that have ended are no beginning of a kernel text: the fault is their refusal, and that of
-- every text that begins with these bytes. Want of memory says nothing.
pub record IsRefusedSoFar (bytes : List ℕ) (line : ℕ) (reason : Reason) : Type 0 where
  pub no_beginning : ¬ BeginKernel (ended_lines bytes)
  pub refused : IsRefusal (ended_lines bytes) line reason
  pub for_good : (more : List ℕ) → IsRefusal (lines (bytes ++ more)) line reason

abbrev pub IsFaultSoFar : List ℕ → GrammarFault → Type 0
IsFaultSoFar bytes (At line reason) = IsRefusedSoFar bytes line reason
IsFaultSoFar bytes NoMemory = Unit {0}
