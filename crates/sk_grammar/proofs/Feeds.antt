-- A piece, taken line by line.
use Rattle.std.proofs.Common.{◌≡◌, ℕ, ◌+◌, ◌<◌, suc, zero, List, [], ◌∷◌, ◌++◌, length, take, drop, Bool, true, false, cond, refl, ap, sym, ◌∙◌, append_assoc, inl, inr, subst, arith, count_by, Ok, Err, Result}
use Rattle.std.specs.List.{list_any}
use Rattle.std.specs.Prelude.{slice_index, IfOk}
use Rattle.std.proofs.lemmas.List.Sums.{sum_by-cons}
use Rattle.std.proofs.lemmas.Bool.{cases_Bool, eqb-true}
use Rattle.sk_grammar.specs.declared.fault.GrammarFault.{GrammarFault}
use Rattle.sk_grammar.specs.declared.taking.Taking.{Taking}
use Rattle.sk_grammar.specs.Lines.{is_line_feed}
use Rattle.sk_grammar.specs.Taken.{taken_of, HasOrRefused, TakesPiece, IsSplitAtFeed, HasComeTo}
use Rattle.sk_grammar.specs.HasTaken.{HasTaken}
use Rattle.sk_grammar.specs.Valid.{IsReached}
use Rattle.sk_grammar.proofs.Bytewise.{refused_piece}
use Rattle.sk_grammar.proofs.Lists.{append-[], none_first, none_rest}

-- ---- where a line feed stands

pub none_stands : (bytes : List ℕ) → ((k : ℕ) → k < length bytes → ¬ (is_line_feed (slice_index bytes k) ≡ true)) → list_any is_line_feed bytes ≡ false
none_stands [] h = refl
none_stands (byte ∷ bytes) h =
    elim (cases_Bool (is_line_feed byte)) [
      | inl feed ↦ absurd (h 0 (omega arith) feed)
      | inr other ↦ rw other (none_stands bytes (λ k below. h (suc k) (omega arith)))
    ]

pub first_splits : (bytes : List ℕ) (k : ℕ) → k < length bytes → ((j : ℕ) → j < k → ¬ (is_line_feed (slice_index bytes j) ≡ true)) → is_line_feed (slice_index bytes k) ≡ true → IsSplitAtFeed bytes (take k bytes) (drop (suc k) bytes)
first_splits [] k within before here = absurd (omega arith)
first_splits (byte ∷ bytes) zero within before here = record { joined = ap (λ (b : ℕ). b ∷ bytes) (eqb-true byte 10 here); one_line = refl }
first_splits (byte ∷ bytes) (suc k) within before here =
    elim (cases_Bool (is_line_feed byte)) [
      | inl feed ↦ absurd (before 0 (omega arith) feed)
      | inr other ↦
          let rest = first_splits bytes k (omega arith) (λ j below. before (suc j) (omega arith)) here in
          record { joined = ap (λ (b : List ℕ). byte ∷ b) rest.joined; one_line = rw other rest.one_line }
    ]

counted : (byte : ℕ) (bytes : List ℕ) → count_by is_line_feed (byte ∷ bytes) ≡ cond (is_line_feed byte) 1 0 + count_by is_line_feed bytes
counted byte bytes = sum_by-cons (λ (x : ℕ). cond (is_line_feed x) 1 0) byte bytes

not_counted : (byte : ℕ) (bytes : List ℕ) → is_line_feed byte ≡ false → count_by is_line_feed (byte ∷ bytes) ≡ count_by is_line_feed bytes
not_counted byte bytes other =
    let none : 0 + count_by is_line_feed bytes ≡ count_by is_line_feed bytes = omega arith in
    counted byte bytes ∙ ap (λ (b : Bool). cond b 1 0 + count_by is_line_feed bytes) other ∙ none

pub feeds_in : (line behind : List ℕ) → list_any is_line_feed line ≡ false → count_by is_line_feed (line ++ 10 ∷ behind) ≡ count_by is_line_feed behind + 1
feeds_in [] behind none = let one : 1 + count_by is_line_feed behind ≡ count_by is_line_feed behind + 1 = omega arith in counted 10 behind ∙ one
feeds_in (byte ∷ line) behind none = not_counted byte (line ++ 10 ∷ behind) (none_first is_line_feed byte line none) ∙ feeds_in line behind (none_rest is_line_feed byte line none)

pub no_feeds : (line : List ℕ) → list_any is_line_feed line ≡ false → count_by is_line_feed line ≡ 0
no_feeds [] none = refl
no_feeds (byte ∷ line) none = not_counted byte line (none_first is_line_feed byte line none) ∙ no_feeds line (none_rest is_line_feed byte line none)

-- ---- the lines of a piece

pub nothing_yet : (piece : List ℕ) (from : Taking) → HasComeTo piece piece from from
nothing_yet piece from = record { front = []; joined = refl; taken = λ bytes t. subst (HasTaken (taken_of from)) (sym (append-[] bytes)) t; count = refl }

pub rejoined : (bytes front line : List ℕ) → (bytes ++ front) ++ (line ++ 10 ∷ []) ≡ bytes ++ (front ++ (line ++ 10 ∷ []))
rejoined bytes front line = append_assoc bytes front (line ++ 10 ∷ [])

pub line_more : (piece rest line behind : List ℕ) (from to next : Taking) → HasComeTo piece rest from to → IsSplitAtFeed rest line behind → TakesPiece (Ok next) to (line ++ 10 ∷ []) → next.count ≡ to.count + 1 → HasComeTo piece behind from next
line_more piece rest line behind from to next h s takes count = record {
  front = h.front ++ (line ++ 10 ∷ []);
  joined =
      let regrouped : line ++ 10 ∷ behind ≡ (line ++ 10 ∷ []) ++ behind = sym (append_assoc line (10 ∷ []) behind) in
      h.joined ∙ ap (λ (b : List ℕ). h.front ++ b) (s.joined ∙ regrouped) ∙ sym (append_assoc h.front (line ++ 10 ∷ []) behind);
  taken = λ bytes t. subst (HasTaken (taken_of next)) (rejoined bytes h.front line) (takes (bytes ++ h.front) (h.taken bytes t));
  count = omega (arith, h.count, count, ap (count_by is_line_feed) s.joined, feeds_in line behind s.one_line);
}

pub line_stops : (piece rest line behind bytes : List ℕ) (from to : Taking) (fault : GrammarFault) → HasComeTo piece rest from to → IsSplitAtFeed rest line behind → TakesPiece (Err fault) to (line ++ 10 ∷ []) → HasTaken (taken_of from) bytes → HasOrRefused (Err fault) (bytes ++ piece)
line_stops piece rest line behind bytes from to fault h s takes t =
    let whole : ((bytes ++ h.front) ++ (line ++ 10 ∷ [])) ++ behind ≡ bytes ++ piece =
    append_assoc (bytes ++ h.front) (line ++ 10 ∷ []) behind
    ∙ append_assoc bytes h.front ((line ++ 10 ∷ []) ++ behind)
    ∙ ap (λ (b : List ℕ). bytes ++ (h.front ++ b)) (append_assoc line (10 ∷ []) behind)
    ∙ ap (λ (b : List ℕ). bytes ++ b) (sym (h.joined ∙ ap (λ (b : List ℕ). h.front ++ b) s.joined)) in
    subst (HasOrRefused (Err fault)) whole (refused_piece fault ((bytes ++ h.front) ++ (line ++ 10 ∷ [])) behind (takes (bytes ++ h.front) (h.taken bytes t)))

pub rest_kept : (piece rest : List ℕ) (from to : Taking) (result : Result Taking GrammarFault) → HasComeTo piece rest from to → TakesPiece result to rest → TakesPiece result from piece
rest_kept piece rest from to result h takes = λ bytes t.
    let whole : (bytes ++ h.front) ++ rest ≡ bytes ++ piece = append_assoc bytes h.front rest ∙ ap (λ (b : List ℕ). bytes ++ b) (sym h.joined) in
    subst (HasOrRefused result) whole (takes (bytes ++ h.front) (h.taken bytes t))

pub come_reached : {piece rest : List ℕ} {from to : Taking} → HasComeTo piece rest from to → IsReached (taken_of from) → IsReached (taken_of to)
come_reached h reached = (reached.0 ++ h.front, h.taken reached.0 reached.1)

pub rest_counted : (piece rest : List ℕ) (from to : Taking) (result : Result Taking GrammarFault) → HasComeTo piece rest from to → list_any is_line_feed rest ≡ false → IfOk result (λ next. next.count ≡ to.count) → IfOk result (λ next. next.count ≡ from.count + count_by is_line_feed piece)
rest_counted piece rest from to (Ok next) h none same = omega (arith, same, h.count, no_feeds rest none)
rest_counted piece rest from to (Err fault) h none same = tt
