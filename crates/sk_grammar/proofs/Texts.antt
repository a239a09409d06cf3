-- Text lines, taken in turn.
use Rattle.std.proofs.Common.{◌≡◌, ℕ, ◌+◌, ◌-◌, List, take, length-append, [], ◌∷◌, ◌++◌, length, Bool, true, false, cond, not, refl, ap, sym, ◌∙◌, append_assoc, inl, inr, subst, arith, count_by, Ok, Err, Result}
use Rattle.std.specs.Prelude.{nat_le, nat_lt}
use Rattle.std.proofs.lemmas.Bool.{cases_Bool, false≢true, and_parts, leb-true, le-ltb}
use Rattle.sk_grammar.specs.declared.fault.Reason.{Reason}
use Rattle.sk_grammar.specs.declared.fault.Reason.TheVariants.{TextLineTooLong}
use Rattle.sk_grammar.specs.declared.place.Place.TheVariants.{Idle}
use Rattle.sk_grammar.specs.declared.state.State.{State}
use Rattle.sk_grammar.specs.declared.state.State.TheVariants.{InHead, InData, InText}
use Rattle.sk_grammar.specs.declared.taking.Taking.{Taking}
use Rattle.sk_grammar.specs.Document.{BlockView, ItemView}
use Rattle.sk_grammar.specs.Fold.{take_line}
use Rattle.sk_grammar.specs.HasTaken.{HasTaken}
use Rattle.sk_grammar.specs.Lines.{is_line_feed, is_carriage_return, without_trailing, begins_data, begins_text, is_marker, held_lines}
use Rattle.sk_grammar.specs.Taken.{taken_of, IsSplitAtFeed, HasComeTo}
use Rattle.sk_grammar.specs.Texts.{is_text_line, KeepsLines, TakesTexts, IsRun}
use Rattle.sk_grammar.proofs.Bytewise.{feed_taken, others_taken}
use Rattle.sk_grammar.proofs.Feeds.{feeds_in, rejoined}
use Rattle.sk_grammar.proofs.HeldLines.{ended_behind, ended_line, line_behind}
use Rattle.sk_grammar.proofs.Lists.{append-[], take-length-append, or_parts}

-- ---- a line that stays

last_of : (a b c : Bool) (w x y z : Result State Reason) → a ≡ false → b ≡ false → c ≡ false → cond a w (cond b x (cond c y z)) ≡ z
last_of true b c w x y z p q r = absurd (false≢true (sym p))
last_of false true c w x y z p q r = absurd (false≢true (sym q))
last_of false false true w x y z p q r = absurd (false≢true (sym r))
last_of false false false w x y z p q r = refl

kept_by : (line : List ℕ) (w x z : Result State Reason) → is_text_line line ≡ true → cond (begins_data line) w (cond (begins_text line) x (cond (nat_lt 4096 (length line)) (Err TextLineTooLong) z)) ≡ z
kept_by line w x z stays =
    let both = and_parts (nat_le (length line) 4096) (not (is_marker line)) stays in
    let none : is_marker line ≡ false = elim (cases_Bool (is_marker line)) [ inl marker ↦ absurd (false≢true (sym (ap not marker) ∙ both.1)) | inr other ↦ other ] in
    let parts = or_parts (begins_data line) (begins_text line) none in
    last_of (begins_data line) (begins_text line) (nat_lt 4096 (length line)) w x (Err TextLineTooLong) z parts.0 parts.1 (le-ltb 4096 (length line) (leb-true (length line) 4096 both.0))

pub head_keeps : KeepsLines InHead
head_keeps texts line stays = kept_by line (Ok (InData texts [] [] Idle)) (Ok (InHead texts)) (Ok (InHead (texts ++ line ∷ []))) stays

pub text_keeps : (head : List (List ℕ)) (blocks : List BlockView) (items : List ItemView) → KeepsLines (InText head blocks items)
text_keeps head blocks items texts line stays =
    kept_by line (Ok (InData head (blocks ++ record { items = items; text = texts } ∷ []) [] Idle)) (Ok (InText head blocks items texts)) (Ok (InText head blocks items (texts ++ line ∷ []))) stays

-- ---- a run of lines

pub no_run : (piece : List ℕ) (count : ℕ) → IsRun piece [] piece count count
no_run piece count = record {
  joined = refl;
  counted = refl;
  ended = refl;
  taken = λ make keeps texts bytes t.
      let held = subst (HasTaken (record { state = make texts; count = count; line = [] })) (sym (append-[] bytes)) t in
      subst (λ (lines : List (List ℕ)). HasTaken (record { state = make lines; count = count; line = [] }) (bytes ++ [])) (sym (append-[] texts)) held;
}

-- one more line, which ends with no carriage return
pub run_more : (piece front rest line behind : List ℕ) (count at : ℕ) → IsRun piece front rest count at → IsSplitAtFeed rest line behind → is_text_line line ≡ true → without_trailing is_carriage_return line ≡ line → IsRun piece (front ++ (line ++ 10 ∷ [])) behind count (at + 1)
run_more piece front rest line behind count at h s stays whole = record {
  joined =
      let regrouped : line ++ 10 ∷ behind ≡ (line ++ 10 ∷ []) ++ behind = sym (append_assoc line (10 ∷ []) behind) in
      h.joined ∙ ap (λ (b : List ℕ). front ++ b) (s.joined ∙ regrouped) ∙ sym (append_assoc front (line ++ 10 ∷ []) behind);
  counted = omega (arith, h.counted, ap (count_by is_line_feed) s.joined, feeds_in line behind s.one_line);
  ended = ended_behind front (line ++ 10 ∷ []) h.ended (ended_line line);
  taken = λ make keeps texts bytes t.
      let so = texts ++ held_lines front in
      let held = others_taken line (record { state = make so; count = at; line = [] }) (bytes ++ front) s.one_line (h.taken make keeps texts bytes t) in
      let takes : take_line (make so) (without_trailing is_carriage_return line) ≡ Ok (make (so ++ line ∷ [])) = ap (take_line (make so)) whole ∙ keeps so line stays in
      let ended = feed_taken (record { state = make so; count = at; line = line }) ((bytes ++ front) ++ line) (make (so ++ line ∷ [])) takes held in
      let lines : so ++ line ∷ [] ≡ texts ++ held_lines (front ++ (line ++ 10 ∷ [])) =
      append_assoc texts (held_lines front) (line ∷ []) ∙ ap (λ (ls : List (List ℕ)). texts ++ ls) (sym (line_behind front line h.ended s.one_line)) in
      let all = subst (HasTaken (record { state = make (so ++ line ∷ []); count = at + 1; line = [] })) (append_assoc (bytes ++ front) line (10 ∷ []) ∙ rejoined bytes front line) ended in
      subst (λ (ls : List (List ℕ)). HasTaken (record { state = make ls; count = at + 1; line = [] }) (bytes ++ (front ++ (line ++ 10 ∷ [])))) lines all;
}

-- the front, as it is cut from the piece
pub run_front : (piece front rest : List ℕ) (count next : ℕ) → IsRun piece front rest count next → take (length piece - length rest) piece ≡ front
run_front piece front rest count next h =
    let size : length piece - length rest ≡ length front = omega (arith, ap length h.joined, length-append front rest) in
    ap (λ (n : ℕ). take n piece) size ∙ ap (take (length front)) h.joined ∙ take-length-append front rest

pub takes_run : (piece front rest : List ℕ) (texts : List (List ℕ)) (count next : ℕ) → IsRun piece front rest count next → TakesTexts piece rest texts (texts ++ held_lines front) count next
takes_run piece front rest texts count next h = record {
  front = front;
  joined = h.joined;
  counted = h.counted;
  taken = λ make keeps bytes t. h.taken make keeps texts bytes t;
}

-- ---- one more line

pub text_more : (piece rest line behind : List ℕ) (texts so : List (List ℕ)) (count at : ℕ) → TakesTexts piece rest texts so count at → IsSplitAtFeed rest line behind → is_text_line (without_trailing is_carriage_return line) ≡ true → TakesTexts piece behind texts (so ++ without_trailing is_carriage_return line ∷ []) count (at + 1)
text_more piece rest line behind texts so count at h s stays =
    let whole = without_trailing is_carriage_return line in
    record {
      front = h.front ++ (line ++ 10 ∷ []);
      joined =
          let regrouped : line ++ 10 ∷ behind ≡ (line ++ 10 ∷ []) ++ behind = sym (append_assoc line (10 ∷ []) behind) in
          h.joined ∙ ap (λ (b : List ℕ). h.front ++ b) (s.joined ∙ regrouped) ∙ sym (append_assoc h.front (line ++ 10 ∷ []) behind);
      counted = omega (arith, h.counted, ap (count_by is_line_feed) s.joined, feeds_in line behind s.one_line);
      taken = λ make keeps bytes t.
          let held = others_taken line (record { state = make so; count = at; line = [] }) (bytes ++ h.front) s.one_line (h.taken make keeps bytes t) in
          let ended = feed_taken (record { state = make so; count = at; line = line }) ((bytes ++ h.front) ++ line) (make (so ++ whole ∷ [])) (keeps so whole stays) held in
          subst (HasTaken (record { state = make (so ++ whole ∷ []); count = at + 1; line = [] })) (append_assoc (bytes ++ h.front) line (10 ∷ []) ∙ rejoined bytes h.front line) ended;
    }

-- more lines behind these
pub texts_further : (piece rest left : List ℕ) (texts so more : List (List ℕ)) (count at next : ℕ) → TakesTexts piece rest texts so count at → TakesTexts rest left so more at next → TakesTexts piece left texts more count next
texts_further piece rest left texts so more count at next h further = record {
  front = h.front ++ further.front;
  joined = h.joined ∙ ap (λ (b : List ℕ). h.front ++ b) further.joined ∙ sym (append_assoc h.front further.front left);
  counted = omega (arith, h.counted, further.counted);
  taken = λ make keeps bytes t.
      subst (HasTaken (record { state = make more; count = next; line = [] })) (append_assoc bytes h.front further.front) (further.taken make keeps (bytes ++ h.front) (h.taken make keeps bytes t));
}

-- ---- the lines, as what was taken

pub come_by_texts : (piece rest : List ℕ) (from : Taking) (make : List (List ℕ) → State) (texts more : List (List ℕ)) (next : ℕ) (to : Taking) → KeepsLines make → from.state ≡ make texts → from.line.items ≡ [] → TakesTexts piece rest texts more from.count next → to.state ≡ make more → to.count ≡ next → to.line.items ≡ [] → HasComeTo piece rest from to
come_by_texts piece rest from make texts more next to keeps is none h to_is counts empty = record {
  front = h.front;
  joined = h.joined;
  taken = λ bytes t.
      let end = h.taken make keeps bytes (record { state_is = t.state_is ∙ ap (λ (s : State). Ok s) is; count_is = t.count_is; line_is = sym none ∙ t.line_is }) in
      record { state_is = end.state_is ∙ ap (λ (s : State). Ok s) (sym to_is); count_is = counts ∙ end.count_is; line_is = empty ∙ end.line_is };
  count = omega (arith, h.counted, counts);
}

-- ---- further

pub come_further : (piece rest left : List ℕ) (from to next : Taking) → HasComeTo piece rest from to → HasComeTo rest left to next → HasComeTo piece left from next
come_further piece rest left from to next h more = record {
  front = h.front ++ more.front;
  joined = h.joined ∙ ap (λ (b : List ℕ). h.front ++ b) more.joined ∙ sym (append_assoc h.front more.front left);
  taken = λ bytes t. subst (HasTaken (taken_of next)) (append_assoc bytes h.front more.front) (more.taken (bytes ++ h.front) (h.taken bytes t));
  count = omega (arith, h.count, more.count);
}
