-- What a reader that has read some bytes answers.
use Rattle.std.proofs.Common.{◌≡◌, ℕ, ◌+◌, ◌^◌, ◌<◌, arith, List, ◌++◌, length, Ok, Err, Result, sym, ◌∙◌, ap, subst}
use Rattle.sk_grammar.specs.declared.fault.GrammarFault.{GrammarFault}
use Rattle.sk_grammar.specs.declared.fault.GrammarFault.TheVariants.{At, NoMemory}
use Rattle.sk_grammar.specs.declared.state.State.{State}
use Rattle.sk_grammar.specs.declared.taking.Taking.{Taking}
use Rattle.sk_grammar.specs.Lines.{lines, ended_lines}
use Rattle.sk_grammar.specs.Document.{DocView}
use Rattle.sk_grammar.specs.Refusal.{BeginKernel, IsRefusal}
use Rattle.sk_grammar.specs.declared.fault.Reason.{Reason}
use Rattle.sk_grammar.specs.Answers.{AnswersUnlessMemory, IsFaultSoFar, IsRefusedSoFar}
use Rattle.sk_grammar.specs.Fold.{judge_lines, take_lines, start, ended_after, document_of}
use Rattle.sk_grammar.specs.HasTaken.{Taken, HasTaken, AreRefused}
use Rattle.sk_grammar.specs.Taken.{HasOrRefused}
use Rattle.sk_grammar.specs.HasRead.{ReaderView, HasRead, IsReader, reader_of, Answers}
use Rattle.std.specs.Prelude.{OnOk, IfOk, IfErr}
use Rattle.sk_grammar.proofs.Begins.{begins_if_read, read_if_begins}
use Rattle.sk_grammar.proofs.Judged.{Judgement, read, refused, judgement, judged_if_read, answer, Answer, spelled, refusal}
use Rattle.sk_grammar.proofs.Bytewise.{refused_more, piece_answers, document_refused}

pub failed_more : (fault : GrammarFault) (bytes more : List ℕ) → HasRead (Err fault) bytes → HasRead (Err fault) (bytes ++ more)
failed_more (At n reason) bytes more h = refused_more bytes more (At n reason) h
failed_more NoMemory bytes more h = tt

pub failed_answers : (fault : GrammarFault) (bytes : List ℕ) → HasRead (Err fault) bytes → AnswersUnlessMemory (Err fault) (document_of (lines bytes))
failed_answers (At n reason) bytes h = piece_answers (At n reason) bytes h
failed_answers NoMemory bytes h = piece_answers NoMemory bytes tt

-- what has been taken, as the reader sees it
pub reader_has : (taken : Result Taking GrammarFault) (bytes : List ℕ) → HasOrRefused taken bytes → HasRead (reader_of taken) bytes
reader_has (Ok taking) bytes h = h
reader_has (Err (At n reason)) bytes h = h
reader_has (Err NoMemory) bytes h = tt

-- ---- the lines that have ended

-- lines that were judged without a fault were read
read_if_judged : (ls : List (List ℕ)) (r : Result State GrammarFault) (state : State) → r ≡ Ok state → Judgement ls start 0 r → (next : State) × (take_lines start ls ≡ Ok next)
read_if_judged ls (Ok s) state is (read next h) = (next, h)
read_if_judged ls (Err fault) state is (refused before line after next reason joined h bad) = absurd (cc is)

pub begins_so_far : (taken : Taken) (bytes : List ℕ) → HasTaken taken bytes → BeginKernel (ended_lines bytes)
begins_so_far taken bytes t =
    let r = read_if_judged (ended_lines bytes) (judge_lines start 0 (ended_lines bytes)) taken.state t.state_is (judgement (ended_lines bytes) start 0) in
    begins_if_read (ended_lines bytes) r.0 r.1

refused_answer : (ls : List (List ℕ)) (n : ℕ) (reason : Reason) (r : Result DocView GrammarFault) → r ≡ Err (At n reason) → Answer ls r → IsRefusal ls n reason
refused_answer ls n reason (Ok doc) is (spelled d mode s) = absurd (cc is)
refused_answer ls n reason (Err fault) is (refusal m r i) =
    let line : m ≡ n = cc is in
    let why : r ≡ reason = cc is in
    subst (λ (k : ℕ). IsRefusal ls k reason) line (subst (IsRefusal ls m) why i)

no_state : (r : Result State GrammarFault) (state : State) (fault : GrammarFault) → r ≡ Ok state → r ≡ Err fault → ⊥
no_state r state fault p q = cc (p, q)

refused_so_far : (n : ℕ) (reason : Reason) (bytes : List ℕ) → AreRefused bytes (At n reason) → IsRefusedSoFar bytes n reason
refused_so_far n reason bytes h = record {
  no_beginning = λ b.
      let s = read_if_begins (ended_lines bytes) b in
      no_state (judge_lines start 0 (ended_lines bytes)) s.0 (At n reason) (judged_if_read (ended_lines bytes) start s.0 0 s.1) h;
  refused = refused_answer (ended_lines bytes) n reason (document_of (ended_lines bytes)) (ap (ended_after (length (ended_lines bytes))) h) (answer (ended_lines bytes));
  for_good = λ more. refused_answer (lines (bytes ++ more)) n reason (document_of (lines (bytes ++ more))) (document_refused (bytes ++ more) (At n reason) (refused_more bytes more (At n reason) h)) (answer (lines (bytes ++ more)));
}

pub fault_so_far : (fault : GrammarFault) (bytes : List ℕ) → HasRead (Err fault) bytes → IsFaultSoFar bytes fault
fault_so_far (At n reason) bytes h = refused_so_far n reason bytes h
fault_so_far NoMemory bytes h = tt

-- ---- what a reader answers

pub feed_begun : {A : Type 0} (result : Result A GrammarFault) (view : ReaderView) (bytes : List ℕ) → Answers result view → HasRead view bytes → OnOk result (BeginKernel (ended_lines bytes))
feed_begun (Ok done) (Ok taken) bytes a h = begins_so_far taken bytes h
feed_begun (Ok done) (Err fault) bytes a h = absurd a
feed_begun (Err fault) view bytes a h = tt

pub feed_fault : {A : Type 0} (result : Result A GrammarFault) (view : ReaderView) (bytes : List ℕ) → Answers result view → HasRead view bytes → IfErr result (IsFaultSoFar bytes)
feed_fault (Ok done) view bytes a h = tt
feed_fault (Err fault) (Ok taken) bytes a h = absurd a
feed_fault (Err fault) (Err held) bytes a h = subst (IsFaultSoFar bytes) (sym a) (fault_so_far held bytes h)

pub reader_more : (result : Result Taking GrammarFault) (bytes : List ℕ) (n : ℕ) → HasOrRefused result bytes → IfOk result (λ next. next.count ≡ n) → n + 1 < 2 ^ 32 → IsReader (reader_of result)
reader_more (Ok next) bytes n h count room = record { bytes = bytes; read = h; room = omega arith }
reader_more (Err fault) bytes n h count room = record { bytes = bytes; read = reader_has (Err fault) bytes h; room = omega arith }
