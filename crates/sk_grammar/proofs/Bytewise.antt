-- One more byte, one more piece, and the end of a text.
use Rattle.std.proofs.lemmas.Bool.{ne_eqb}
use Rattle.std.proofs.Common.{◌≡◌, ℕ, ◌+◌, ◌<◌, List, [], ◌∷◌, ◌++◌, length, map, Bool, false, cond, refl, ap, sym, ◌∙◌, append_assoc, inl, inr, subst, arith, Ok, Err, Result, length-append}
use Rattle.std.specs.List.{slice_split, list_any}
use Rattle.std.specs.Prelude.{◌==◌}
use Rattle.sk_grammar.specs.declared.fault.GrammarFault.{GrammarFault}
use Rattle.sk_grammar.specs.declared.fault.GrammarFault.TheVariants.{At, NoMemory}
use Rattle.sk_grammar.specs.declared.fault.Reason.{Reason}
use Rattle.sk_grammar.specs.Lines.{is_line_feed, is_carriage_return, without_trailing, ended_parts, last_part, ended_lines, unfinished, last_line, lines}
use Rattle.sk_grammar.specs.Document.{DocView}
use Rattle.sk_grammar.specs.declared.state.State.{State}
use Rattle.sk_grammar.specs.Fold.{doc_of, end_of_text, take_line, at_line, judge_lines, ended_after, document_of, start}
use Rattle.sk_grammar.specs.declared.taking.Taking.{Taking}
use Rattle.sk_grammar.specs.Taken.{taken_of, EndsLine, HasOrRefused}
use Rattle.sk_grammar.specs.Answers.{AnswersUnlessMemory}
use Rattle.sk_grammar.specs.Valid.{IsReached}
use Rattle.sk_grammar.specs.HasTaken.{Taken, HasTaken, AreRefused}
use Rattle.sk_grammar.proofs.Sound.{result_cases}
use Rattle.sk_grammar.proofs.Pieces.{ended_lines-append, unfinished-append, lines-ended, last_is_one, split_by, split_other}
use Rattle.sk_grammar.proofs.Lists.{append-[], none_first, none_rest}

-- ---- judging in turn

abbrev pub judged_then : Result State GrammarFault → (State → Result State GrammarFault) → Result State GrammarFault
judged_then (Ok state) f = f state
judged_then (Err fault) f = Err fault

pub judge_in_turn : (xs ys : List (List ℕ)) (state : State) (count : ℕ) → judge_lines state count (xs ++ ys) ≡ judged_then (judge_lines state count xs) (λ next. judge_lines next (count + length xs) ys)
judge_in_turn [] ys state count = let none : count ≡ count + length {A = List ℕ} [] = omega arith in ap (λ (n : ℕ). judge_lines state n ys) none
judge_in_turn (x ∷ xs) ys state count =
    elim (result_cases (take_line state x)) [
      | inl next ↦
          let number : count + 1 + length xs ≡ count + length (x ∷ xs) = omega arith in
          ap (λ (r : Result State Reason). at_line (count + 1) r (λ s. judge_lines s (count + 1) (xs ++ ys))) next.1
          ∙ judge_in_turn xs ys next.0 (count + 1)
          ∙ ap (λ (n : ℕ). judged_then (judge_lines next.0 (count + 1) xs) (λ s. judge_lines s n ys)) number
          ∙ sym (ap (λ (r : Result State Reason). judged_then (at_line (count + 1) r (λ s. judge_lines s (count + 1) xs)) (λ s. judge_lines s (count + length (x ∷ xs)) ys)) next.1)
      | inr fault ↦
          ap (λ (r : Result State Reason). at_line (count + 1) r (λ s. judge_lines s (count + 1) (xs ++ ys))) fault.1
          ∙ sym (ap (λ (r : Result State Reason). judged_then (at_line (count + 1) r (λ s. judge_lines s (count + 1) xs)) (λ s. judge_lines s (count + length (x ∷ xs)) ys)) fault.1)
    ]

-- lines behind these
judge_more : (xs ys : List (List ℕ)) (state : State) → judge_lines start 0 xs ≡ Ok state → judge_lines start 0 (xs ++ ys) ≡ judge_lines state (length xs) ys
judge_more xs ys state h =
    let none : 0 + length xs ≡ length xs = omega arith in
    judge_in_turn xs ys start 0
    ∙ ap (λ (r : Result State GrammarFault). judged_then r (λ next. judge_lines next (0 + length xs) ys)) h
    ∙ ap (λ (n : ℕ). judge_lines state n ys) none

-- ---- one more byte

line_feed_splits : (bytes : List ℕ) → slice_split is_line_feed (unfinished bytes ++ 10 ∷ []) ≡ unfinished bytes ∷ [] ∷ []
line_feed_splits bytes = split_by (unfinished bytes) (10 ∷ []) (unfinished bytes ∷ [] ∷ []) (last_is_one bytes) (ap (λ (u : List ℕ). u ∷ [] ∷ []) (append-[] (unfinished bytes)))

other_splits : (bytes : List ℕ) (byte : ℕ) → is_line_feed byte ≡ false → slice_split is_line_feed (unfinished bytes ++ byte ∷ []) ≡ (unfinished bytes ++ byte ∷ []) ∷ []
other_splits bytes byte other = split_other (unfinished bytes) byte other (last_is_one bytes)

pub ended_by_feed : (bytes : List ℕ) → ended_lines (bytes ++ 10 ∷ []) ≡ ended_lines bytes ++ without_trailing is_carriage_return (unfinished bytes) ∷ []
ended_by_feed bytes = ended_lines-append bytes (10 ∷ []) ∙ ap (λ (ps : List (List ℕ)). ended_lines bytes ++ map (without_trailing is_carriage_return) (ended_parts ps)) (line_feed_splits bytes)

pub unfinished_by_feed : (bytes : List ℕ) → unfinished (bytes ++ 10 ∷ []) ≡ []
unfinished_by_feed bytes = unfinished-append bytes (10 ∷ []) ∙ ap last_part (line_feed_splits bytes)

pub ended_by_other : (bytes : List ℕ) (byte : ℕ) → is_line_feed byte ≡ false → ended_lines (bytes ++ byte ∷ []) ≡ ended_lines bytes
ended_by_other bytes byte other =
    ended_lines-append bytes (byte ∷ [])
    ∙ ap (λ (ps : List (List ℕ)). ended_lines bytes ++ map (without_trailing is_carriage_return) (ended_parts ps)) (other_splits bytes byte other)
    ∙ append-[] (ended_lines bytes)

pub unfinished_by_other : (bytes : List ℕ) (byte : ℕ) → is_line_feed byte ≡ false → unfinished (bytes ++ byte ∷ []) ≡ unfinished bytes ++ byte ∷ []
unfinished_by_other bytes byte other = unfinished-append bytes (byte ∷ []) ∙ ap last_part (other_splits bytes byte other)

-- a byte that ends no line
pub other_taken : (taken : Taken) (bytes : List ℕ) (byte : ℕ) → is_line_feed byte ≡ false → HasTaken taken bytes → HasTaken (record { state = taken.state; count = taken.count; line = taken.line ++ byte ∷ [] }) (bytes ++ byte ∷ [])
other_taken taken bytes byte other h = record {
  state_is = ap (judge_lines start 0) (ended_by_other bytes byte other) ∙ h.state_is;
  count_is = h.count_is ∙ sym (ap length (ended_by_other bytes byte other));
  line_is = ap (λ (l : List ℕ). l ++ byte ∷ []) h.line_is ∙ sym (unfinished_by_other bytes byte other);
}

line_judged : (taken : Taken) (bytes : List ℕ) → HasTaken taken bytes → judge_lines start 0 (ended_lines (bytes ++ 10 ∷ [])) ≡ at_line (taken.count + 1) (take_line taken.state (without_trailing is_carriage_return taken.line)) (λ next. Ok next)
line_judged taken bytes h =
    ap (judge_lines start 0) (ended_by_feed bytes)
    ∙ judge_more (ended_lines bytes) (without_trailing is_carriage_return (unfinished bytes) ∷ []) taken.state h.state_is
    ∙ ap (λ (n : ℕ). judge_lines taken.state n (without_trailing is_carriage_return (unfinished bytes) ∷ [])) (sym h.count_is)
    ∙ ap (λ (l : List ℕ). judge_lines taken.state taken.count (without_trailing is_carriage_return l ∷ [])) (sym h.line_is)

-- a line feed behind a line that is taken
pub feed_taken : (taken : Taken) (bytes : List ℕ) (next : State) → take_line taken.state (without_trailing is_carriage_return taken.line) ≡ Ok next → HasTaken taken bytes → HasTaken (record { state = next; count = taken.count + 1; line = [] }) (bytes ++ 10 ∷ [])
feed_taken taken bytes next h t = record {
  state_is = line_judged taken bytes t ∙ ap (λ (r : Result State Reason). at_line (taken.count + 1) r (λ s. Ok s)) h;
  count_is = omega (arith, t.count_is, ap length (ended_by_feed bytes), length-append (ended_lines bytes) (without_trailing is_carriage_return (unfinished bytes) ∷ []));
  line_is = sym (unfinished_by_feed bytes);
}

-- a line feed behind a line that is refused
pub feed_refused : (taken : Taken) (bytes : List ℕ) (reason : Reason) → take_line taken.state (without_trailing is_carriage_return taken.line) ≡ Err reason → HasTaken taken bytes → AreRefused (bytes ++ 10 ∷ []) (At (taken.count + 1) reason)
feed_refused taken bytes reason h t = line_judged taken bytes t ∙ ap (λ (r : Result State Reason). at_line (taken.count + 1) r (λ s. Ok s)) h

-- a line that was judged, at its line feed
pub ended_has : (result : Result Taking GrammarFault) (taken : Taken) (bytes : List ℕ) → EndsLine result taken.state taken.count taken.line → HasTaken taken bytes → HasOrRefused result (bytes ++ 10 ∷ [])
ended_has (Ok next) taken bytes e t =
    let f = feed_taken taken bytes next.state e.0 t in
    record { state_is = f.state_is; count_is = e.1 ∙ f.count_is; line_is = e.2 ∙ f.line_is }
ended_has (Err (At n reason)) taken bytes e t = subst (λ (k : ℕ). AreRefused (bytes ++ 10 ∷ []) (At k reason)) (sym e.1) (feed_refused taken bytes reason e.0 t)
ended_has (Err NoMemory) taken bytes e t = tt

-- bytes that end no line
pub others_taken : (more : List ℕ) (taken : Taken) (bytes : List ℕ) → list_any is_line_feed more ≡ false → HasTaken taken bytes → HasTaken (record { state = taken.state; count = taken.count; line = taken.line ++ more }) (bytes ++ more)
others_taken [] taken bytes none t = record {
  state_is = ap (λ (b : List ℕ). judge_lines start 0 (ended_lines b)) (append-[] bytes) ∙ t.state_is;
  count_is = t.count_is ∙ ap (λ (b : List ℕ). length (ended_lines b)) (sym (append-[] bytes));
  line_is = append-[] taken.line ∙ t.line_is ∙ ap unfinished (sym (append-[] bytes));
}
others_taken (byte ∷ more) taken bytes none t =
    let first = other_taken taken bytes byte (none_first is_line_feed byte more none) t in
    let rest = others_taken more (record { state = taken.state; count = taken.count; line = taken.line ++ byte ∷ [] }) (bytes ++ byte ∷ []) (none_rest is_line_feed byte more none) first in
    let joined : (bytes ++ byte ∷ []) ++ more ≡ bytes ++ byte ∷ more = append_assoc bytes (byte ∷ []) more in
    record {
      state_is = ap (λ (b : List ℕ). judge_lines start 0 (ended_lines b)) (sym joined) ∙ rest.state_is;
      count_is = rest.count_is ∙ ap (λ (b : List ℕ). length (ended_lines b)) joined;
      line_is = sym (append_assoc taken.line (byte ∷ []) more) ∙ rest.line_is ∙ ap unfinished joined;
    }

-- the rest of a line and its line feed
pub line_has : (result : Result Taking GrammarFault) (taken : Taken) (bytes rest : List ℕ) → list_any is_line_feed rest ≡ false → EndsLine result taken.state taken.count (taken.line ++ rest) → HasTaken taken bytes → HasOrRefused result (bytes ++ (rest ++ 10 ∷ []))
line_has result taken bytes rest none e t =
    subst (HasOrRefused result) (append_assoc bytes rest (10 ∷ []))
    (ended_has result (record { state = taken.state; count = taken.count; line = taken.line ++ rest }) (bytes ++ rest) e (others_taken rest taken bytes none t))

-- what is refused stays so
pub refused_more : (bytes more : List ℕ) (fault : GrammarFault) → AreRefused bytes fault → AreRefused (bytes ++ more) fault
refused_more bytes more fault h =
    ap (judge_lines start 0) (ended_lines-append bytes more)
    ∙ judge_in_turn (ended_lines bytes) (ended_lines (unfinished bytes ++ more)) start 0
    ∙ ap (λ (r : Result State GrammarFault). judged_then r (λ next. judge_lines next (0 + length (ended_lines bytes)) (ended_lines (unfinished bytes ++ more)))) h

-- ---- the end of the text

-- the last line is judged, and the text ends
pub document_at_end : (taken : Taken) (bytes : List ℕ) → HasTaken taken bytes → document_of (lines bytes) ≡ ended_after (taken.count + length (last_line taken.line)) (judge_lines taken.state taken.count (last_line taken.line))
document_at_end taken bytes t =
    let size : length (lines bytes) ≡ taken.count + length (last_line taken.line) =
    ap length (lines-ended bytes ∙ ap (λ (l : List ℕ). ended_lines bytes ++ last_line l) (sym t.line_is))
    ∙ length-append (ended_lines bytes) (last_line taken.line)
    ∙ ap (λ (n : ℕ). n + length (last_line taken.line)) (sym t.count_is) in
    ap (λ (n : ℕ). ended_after n (judge_lines start 0 (lines bytes))) size
    ∙ ap (λ (ls : List (List ℕ)). ended_after (taken.count + length (last_line taken.line)) (judge_lines start 0 ls)) (lines-ended bytes ∙ ap (λ (l : List ℕ). ended_lines bytes ++ last_line l) (sym t.line_is))
    ∙ ap (ended_after (taken.count + length (last_line taken.line))) (judge_more (ended_lines bytes) (last_line taken.line) taken.state t.state_is ∙ ap (λ (n : ℕ). judge_lines taken.state n (last_line taken.line)) (sym t.count_is))

-- what the ended lines refuse, the whole text refuses so
pub document_refused : (bytes : List ℕ) (fault : GrammarFault) → AreRefused bytes fault → document_of (lines bytes) ≡ Err fault
document_refused bytes fault h =
    ap (λ (ls : List (List ℕ)). ended_after (length (lines bytes)) (judge_lines start 0 ls)) (lines-ended bytes)
    ∙ ap (ended_after (length (lines bytes)))
    (judge_in_turn (ended_lines bytes) (last_line (unfinished bytes)) start 0 ∙ ap (λ (r : Result State GrammarFault). judged_then r (λ next. judge_lines next (0 + length (ended_lines bytes)) (last_line (unfinished bytes)))) h)

pub nothing_taken : HasTaken (record { state = start; count = 0; line = [] }) []
nothing_taken = record { state_is = refl; count_is = refl; line_is = refl }

pub refused_piece : (fault : GrammarFault) (bytes more : List ℕ) → HasOrRefused (Err fault) bytes → HasOrRefused (Err fault) (bytes ++ more)
refused_piece (At n reason) bytes more h = refused_more bytes more (At n reason) h
refused_piece NoMemory bytes more h = tt

-- ---- the end of the text, in code

-- no line is unfinished
pub end_empty : (taking : Taking) (bytes : List ℕ) (result : Result DocView GrammarFault) → taking.line.items ≡ [] → HasTaken (taken_of taking) bytes → AnswersUnlessMemory result (end_of_text taking.count (doc_of taking.state)) → AnswersUnlessMemory result (document_of (lines bytes))
end_empty taking bytes result none t answers =
    let size : taking.count + length {A = List ℕ} [] ≡ taking.count = omega arith in
    let is : document_of (lines bytes) ≡ end_of_text taking.count (doc_of taking.state) =
    document_at_end (taken_of taking) bytes t
    ∙ ap (λ (l : List ℕ). ended_after (taking.count + length (last_line l)) (judge_lines taking.state taking.count (last_line l))) none
    ∙ ap (λ (n : ℕ). end_of_text n (doc_of taking.state)) size in
    subst (AnswersUnlessMemory result) (sym is) answers

last_is : (line : List ℕ) → 0 < length line → last_line line ≡ without_trailing is_carriage_return line ∷ []
last_is [] some = absurd (omega arith)
last_is (byte ∷ line) some =
    let some_is : (length (byte ∷ line) == 0) ≡ false = ne_eqb (length (byte ∷ line)) 0 (λ e. omega arith) in
    ap (λ (b : Bool). cond b [] (without_trailing is_carriage_return (byte ∷ line) ∷ [])) some_is

pub none_left : (xs : List ℕ) → length xs ≡ 0 → xs ≡ []
none_left [] h = refl
none_left (x ∷ xs) h = absurd (omega arith)

last_judged : (taking : Taking) (bytes : List ℕ) → 0 < length taking.line.items → HasTaken (taken_of taking) bytes → document_of (lines bytes) ≡ ended_after (taking.count + 1) (at_line (taking.count + 1) (take_line taking.state (without_trailing is_carriage_return taking.line.items)) (λ s. Ok s))
last_judged taking bytes some t =
    document_at_end (taken_of taking) bytes t
    ∙ ap (λ (ls : List (List ℕ)). ended_after (taking.count + length ls) (judge_lines taking.state taking.count ls)) (last_is taking.line.items some)

-- the last line is taken
pub end_taken : (taking last : Taking) (bytes : List ℕ) (result : Result DocView GrammarFault) → 0 < length taking.line.items → EndsLine (Ok last) taking.state taking.count taking.line.items → HasTaken (taken_of taking) bytes → AnswersUnlessMemory result (end_of_text last.count (doc_of last.state)) → AnswersUnlessMemory result (document_of (lines bytes))
end_taken taking last bytes result some e t answers =
    let is : document_of (lines bytes) ≡ end_of_text last.count (doc_of last.state) =
    last_judged taking bytes some t
    ∙ ap (λ (r : Result State Reason). ended_after (taking.count + 1) (at_line (taking.count + 1) r (λ s. Ok s))) e.0
    ∙ ap (λ (n : ℕ). end_of_text n (doc_of last.state)) (sym e.1) in
    subst (AnswersUnlessMemory result) (sym is) answers

-- the last line is refused
pub end_refused : (fault : GrammarFault) (taking : Taking) (bytes : List ℕ) → 0 < length taking.line.items → EndsLine (Err fault) taking.state taking.count taking.line.items → HasTaken (taken_of taking) bytes → AnswersUnlessMemory (Err fault) (document_of (lines bytes))
end_refused (At n reason) taking bytes some e t =
    inl (sym (last_judged taking bytes some t
    ∙ ap (λ (r : Result State Reason). ended_after (taking.count + 1) (at_line (taking.count + 1) r (λ s. Ok s))) e.0
    ∙ ap (λ (k : ℕ). Err (At k reason)) (sym e.1)))
end_refused NoMemory taking bytes some e t = inr refl

-- a line that is taken leaves a state that is reached
pub next_reached : (taking last : Taking) → EndsLine (Ok last) taking.state taking.count taking.line.items → IsReached (taken_of taking) → IsReached (taken_of last)
next_reached taking last e reached = (reached.0 ++ 10 ∷ [], ended_has (Ok last) (taken_of taking) reached.0 e reached.1)

-- what a piece refuses, the whole text refuses
pub piece_answers : (fault : GrammarFault) (bytes : List ℕ) → HasOrRefused (Err fault) bytes → AnswersUnlessMemory (Err fault) (document_of (lines bytes))
piece_answers (At n reason) bytes h = inl (sym (document_refused bytes (At n reason) h))
piece_answers NoMemory bytes h = inr refl
