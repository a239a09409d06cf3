-- What a reader has read.
use Rattle.std.specs.Prelude.{◌≡◌, ℕ, ◌+◌, ◌^◌, ◌<◌, List, Result, Ok, Err}
use Rattle.sk_grammar.specs.declared.fault.GrammarFault.{GrammarFault}
use Rattle.sk_grammar.specs.declared.fault.GrammarFault.TheVariants.{At, NoMemory}
use Rattle.sk_grammar.specs.declared.taking.Taking.{Taking}
use Rattle.sk_grammar.specs.HasTaken.{Taken, HasTaken, AreRefused}
use Rattle.sk_grammar.specs.Taken.{taken_of}

-- what has been taken, or the fault at which reading stopped
abbrev pub ReaderView : Type 0
ReaderView = Result Taken GrammarFault

abbrev pub reader_of : Result Taking GrammarFault → ReaderView
reader_of (Ok taking) = Ok (taken_of taking)
reader_of (Err fault) = Err fault

-- these bytes have been read, in whatever pieces
abbrev pub HasRead : ReaderView → List ℕ → Type 0
HasRead (Ok taken) bytes = HasTaken taken bytes
HasRead (Err (At n reason)) bytes = AreRefused bytes (At n reason)
HasRead (Err NoMemory) bytes = Unit {0}

-- how many lines have ended
abbrev pub ended_count : ReaderView → ℕ
ended_count (Ok taken) = taken.count
ended_count (Err fault) = 0

-- some bytes have been read, with fewer lines than a u32 counts
pub record IsReader (view : ReaderView) : Type 0 where
  pub bytes : List ℕ
  pub read : HasRead view bytes
  pub room : ended_count view + 1 < 2 ^ 32

-- the answer is the fault that the reader holds, if it holds one
abbrev pub Answers : {A : Type 0} → Result A GrammarFault → ReaderView → Type 0
Answers (Ok done) (Ok taken) = Unit {0}
Answers (Ok done) (Err fault) = ⊥
Answers (Err fault) (Ok taken) = ⊥
Answers (Err fault) (Err held) = fault ≡ held
