-- What is spelled is valid.
use Rattle.std.proofs.Common.{◌≡◌, ℕ, ◌+◌, ◌-◌, ◌<◌, List, [], ◌∷◌, ◌++◌, length, filter, map, take, drop, reverse, Bool, true, false, cond, not, refl, ap, sym, ◌∙◌, ◌⊎◌, inl, inr, subst, arith, Ok, Err, Result, length-append}
use Rattle.std.specs.List.{All, AllByRecursion, list_all, list_any, slice_split, onto_first, suffix_len, prefix_len}
use Rattle.std.specs.Prelude.{nat_le}
use Rattle.std.proofs.lemmas.List.Elements.{All-nil, All-cons}
use Rattle.std.proofs.lemmas.List.Folds.{list_any-append}
use Rattle.std.proofs.lemmas.List.{take-append-drop}
use Rattle.std.proofs.lemmas.Bool.{and_parts, cases_Bool, leb-true}
use Rattle.sk_grammar.specs.declared.fault.GrammarFault.{GrammarFault}
use Rattle.sk_grammar.specs.declared.state.State.{State}
use Rattle.sk_grammar.specs.declared.state.State.TheVariants.{InHead, InData, InText}
use Rattle.sk_grammar.specs.declared.value.Value.{Value}
use Rattle.sk_grammar.specs.declared.value.Value.TheVariants.{Number, Date, Text}
use Rattle.sk_grammar.specs.Lines.{Mode, TextMode, is_line_feed, is_carriage_return, is_marker, without_trailing, ended_parts, last_part, ended_lines}
use Rattle.sk_grammar.specs.Document.{ItemView, BlockView, IsValue, IsItem, IsBlock, IsTextLine, AreOfOneKind, is_text}
use Rattle.sk_grammar.specs.Spelling.{SpellsValue, SpellsValues, SpellsSingle, SpellsItem, SpellsItems, SpellsTextPart, SpellsBlocks, SpellsLines}
use Rattle.sk_grammar.specs.Fold.{take_lines, judge_lines, start}
use Rattle.sk_grammar.specs.HasTaken.{Taken}
use Rattle.sk_grammar.specs.Valid.{IsValidState, IsReached, IsWhole, AreWhole, IsReachedState}
use Rattle.sk_grammar.proofs.Documents.{Reads, lines_sound, reads_start, doc_with}
use Rattle.sk_grammar.proofs.Judged.{Judgement, read, refused, judgement}
use Rattle.sk_grammar.proofs.Trailing.{trail, trail_length}
use Rattle.sk_grammar.proofs.Lists.{append-[], prefix_len-append, take-length-append, or_parts}

-- ---- whole lines

pub whole_parts : (xs ys : List (List ℕ)) → AreWhole (xs ++ ys) → AreWhole xs × AreWhole ys
whole_parts [] ys h = (tt, h)
whole_parts (x ∷ xs) ys h = let more = whole_parts xs ys h.1 in ((h.0, more.0), more.1)

pub trailing_is : (xs : List ℕ) → without_trailing is_carriage_return xs ≡ (trail is_carriage_return xs).front
trailing_is xs =
    let t = trail is_carriage_return xs in
    let size = trail_length is_carriage_return xs t in
    let whole : length xs ≡ length t.front + length t.back = ap length t.joined ∙ length-append t.front t.back in
    let kept : length xs - suffix_len is_carriage_return xs ≡ length t.front = omega (arith, size, whole) in
    ap (λ (n : ℕ). take n xs) kept ∙ ap (take (length t.front)) t.joined ∙ take-length-append t.front t.back

no_trailing : (front : List ℕ) → prefix_len is_carriage_return (reverse front) ≡ 0 → without_trailing is_carriage_return front ≡ front
no_trailing front none =
    let kept : length front - suffix_len is_carriage_return front ≡ length front = omega (arith, none) in
    ap (λ (n : ℕ). take n front) kept ∙ ap (take (length front)) (sym (append-[] front)) ∙ take-length-append front []

pub trailing_once : (xs : List ℕ) → without_trailing is_carriage_return (without_trailing is_carriage_return xs) ≡ without_trailing is_carriage_return xs
trailing_once xs =
    let t = trail is_carriage_return xs in
    let none : prefix_len is_carriage_return (reverse t.front) ≡ 0 = prefix_len-append is_carriage_return [] (reverse t.front) refl t.stops in
    ap (without_trailing is_carriage_return) (trailing_is xs) ∙ no_trailing t.front none ∙ sym (trailing_is xs)

pub trailing_one : (xs : List ℕ) → list_any is_line_feed xs ≡ false → list_any is_line_feed (without_trailing is_carriage_return xs) ≡ false
trailing_one xs h =
    let n = length xs - suffix_len is_carriage_return xs in
    (or_parts (list_any is_line_feed (take n xs)) (list_any is_line_feed (drop n xs)) (sym (list_any-append is_line_feed (take n xs) (drop n xs)) ∙ ap (list_any is_line_feed) (take-append-drop n xs) ∙ h)).0

pub whole_line : (xs : List ℕ) → list_any is_line_feed xs ≡ false → IsWhole (without_trailing is_carriage_return xs)
whole_line xs h = (trailing_one xs h, trailing_once xs)

abbrev OneLineEach : List (List ℕ) → Type 0
OneLineEach parts = AllByRecursion (λ (p : List ℕ). list_any is_line_feed p ≡ false) parts

onto_one : (byte : ℕ) (parts : List (List ℕ)) → is_line_feed byte ≡ false → OneLineEach parts → OneLineEach (onto_first byte parts)
onto_one byte [] other h = (rw other refl, tt)
onto_one byte (p ∷ parts) other h = (rw other h.0, h.1)

pub split_one : (bytes : List ℕ) → OneLineEach (slice_split is_line_feed bytes)
split_one [] = (refl, tt)
split_one (byte ∷ bytes) =
    elim (cases_Bool (is_line_feed byte)) [
      | inl feed ↦ rw feed (refl, split_one bytes)
      | inr other ↦ rw other (onto_one byte (slice_split is_line_feed bytes) other (split_one bytes))
    ]

ended_whole_parts : (parts : List (List ℕ)) → OneLineEach parts → AreWhole (map (without_trailing is_carriage_return) (ended_parts parts))
ended_whole_parts [] h = tt
ended_whole_parts (p ∷ []) h = tt
ended_whole_parts (p ∷ q ∷ parts) h = (whole_line p h.0, ended_whole_parts (q ∷ parts) h.1)

pub ended_whole : (bytes : List ℕ) → AreWhole (ended_lines bytes)
ended_whole bytes = ended_whole_parts (slice_split is_line_feed bytes) (split_one bytes)

last_one : (parts : List (List ℕ)) → OneLineEach parts → list_any is_line_feed (last_part parts) ≡ false
last_one [] h = refl
last_one (p ∷ []) h = h.0
last_one (p ∷ q ∷ parts) h = last_one (q ∷ parts) h.1

-- the bytes that were kept are of one line
pub kept_one : (taken : Taken) → IsReached taken → list_any is_line_feed taken.line ≡ false
kept_one taken reached = ap (list_any is_line_feed) reached.1.line_is ∙ last_one (slice_split is_line_feed reached.0) (split_one reached.0)

-- ---- text lines

kept_valid : (lines : List (List ℕ)) → AreWhole lines → list_all (λ line. nat_le (length line) 4096) (filter (λ line. not (is_marker line)) lines) ≡ true → All IsTextLine (filter (λ line. not (is_marker line)) lines)
kept_valid [] whole short = All-nil IsTextLine
kept_valid (line ∷ lines) whole short =
    let kept = filter (λ l. not (is_marker l)) lines in
    elim (cases_Bool (is_marker line)) [
      | inl marker ↦
          let drops : filter (λ l. not (is_marker l)) (line ∷ lines) ≡ kept = ap (λ (b : Bool). cond (not b) (line ∷ kept) kept) marker in
          subst (All IsTextLine) (sym drops) (kept_valid lines whole.1 (ap (list_all (λ l. nat_le (length l) 4096)) (sym drops) ∙ short))
      | inr other ↦
          let keeps : filter (λ l. not (is_marker l)) (line ∷ lines) ≡ line ∷ kept = ap (λ (b : Bool). cond (not b) (line ∷ kept) kept) other in
          let both = and_parts (nat_le (length line) 4096) (list_all (λ l. nat_le (length l) 4096) kept) (ap (list_all (λ l. nat_le (length l) 4096)) (sym keeps) ∙ short) in
          let here : IsTextLine line = record { short = leb-true (length line) 4096 both.0; no_marker = other; one_line = whole.0.0; no_trailing_return = whole.0.1 } in
          subst (All IsTextLine) (sym keeps) (All-cons IsTextLine line kept here (kept_valid lines whole.1 both.1))
    ]

pub texts_valid : (lines texts : List (List ℕ)) → AreWhole lines → SpellsTextPart lines texts → All IsTextLine texts
texts_valid lines texts whole part = subst (All IsTextLine) (sym part.kept) (kept_valid lines whole (ap (list_all (λ l. nat_le (length l) 4096)) (sym part.kept) ∙ part.short))

-- ---- items

value_valid : (value : Value) (bytes : List ℕ) → SpellsValue bytes value → IsValue value
value_valid (Number d) bytes s = s.0
value_valid (Date d) bytes s = s.1
value_valid (Text t) bytes s = s.1

values_valid : (values : List Value) (bytes : List ℕ) → SpellsValues bytes values → (0 < length values) × All IsValue values
values_valid [] bytes s = absurd s
values_valid (value ∷ []) bytes s = (omega arith, All-cons IsValue value [] (value_valid value bytes s) (All-nil IsValue))
values_valid (value ∷ next ∷ values) bytes s = (omega arith, All-cons IsValue value (next ∷ values) (value_valid value s.0 s.4) (values_valid (next ∷ values) s.2 s.6).1)

one_of_kind : (value : Value) → (list_all is_text (value ∷ []) ≡ true) ⊎ (list_any is_text (value ∷ []) ≡ false)
one_of_kind (Number d) = inr refl
one_of_kind (Date d) = inr refl
one_of_kind (Text t) = inl refl

single_valid : (bytes : List ℕ) (values : List Value) → SpellsSingle bytes values → (0 < length values) × All IsValue values × AreOfOneKind values
single_valid bytes values s =
    subst (λ (vs : List Value). (0 < length vs) × All IsValue vs × AreOfOneKind vs) (sym s.only) (omega arith, All-cons IsValue s.value [] (value_valid s.value bytes s.spelled) (All-nil IsValue), one_of_kind s.value)

pub item_valid : (bytes : List ℕ) (item : ItemView) → SpellsItem bytes item → IsItem item
item_valid bytes item s =
    elim s.is_body [
      | inl single ↦ let v = single_valid s.body item.values single in record { name = s.is_opening.is_name; not_empty = v.0; values = v.1; one_kind = v.2 }
      | inr vector ↦ let v = values_valid item.values vector.inner vector.spelled in record { name = s.is_opening.is_name; not_empty = v.0; values = v.1; one_kind = vector.one_kind }
    ]

pub items_valid : (lines : List (List ℕ)) (items : List ItemView) → SpellsItems lines items → All IsItem items
items_valid lines [] s = All-nil IsItem
items_valid lines (item ∷ items) s = All-cons IsItem item items (item_valid _ item s.6) (items_valid s.2 items s.7)

-- ---- blocks

pub blocks_valid : (blocks : List BlockView) (lines : List (List ℕ)) (mode : Mode) → AreWhole lines → SpellsBlocks lines blocks mode → All IsBlock blocks
blocks_valid [] lines mode whole s = All-nil IsBlock
blocks_valid (block ∷ blocks) lines mode whole (marker, data_part, rest, joined, begins, part, inl last) =
    let here : IsBlock block = record { items = items_valid data_part block.items part.spelled; text = subst (All IsTextLine) (sym last.1) (All-nil IsTextLine) } in
    subst (λ (bs : List BlockView). All IsBlock (block ∷ bs)) (sym last.2) (All-cons IsBlock block [] here (All-nil IsBlock))
blocks_valid (block ∷ blocks) lines mode whole (marker, data_part, rest, joined, begins, part, inr more) =
    let all = subst AreWhole joined whole in
    let behind = (whole_parts (marker ∷ data_part) rest all).1 in
    let split = whole_parts (more.0 ∷ more.1) more.2 (subst AreWhole more.3 behind) in
    let here : IsBlock block = record { items = items_valid data_part block.items part.spelled; text = texts_valid more.1 block.text split.0.1 more.5 } in
    All-cons IsBlock block blocks here (blocks_valid blocks more.2 mode split.1 more.6)

lines_valid : (lines head : List (List ℕ)) (blocks : List BlockView) (mode : Mode) → AreWhole lines → SpellsLines lines (doc_with head blocks) mode → All IsTextLine head × All IsBlock blocks
lines_valid lines head blocks mode whole s =
    let parts = whole_parts s.0 s.1 (subst AreWhole s.2 whole) in
    (texts_valid s.0 head parts.0 s.3, blocks_valid blocks s.1 mode parts.1 s.4)

-- ---- states

pub reads_valid : (lines : List (List ℕ)) (state : State) → AreWhole lines → Reads lines state → IsValidState state
reads_valid lines (InHead texts) whole r = texts_valid lines texts whole r
reads_valid lines (InData head blocks items place) whole r =
    let front = (whole_parts r.before (r.marker ∷ (r.data_part ++ r.own)) (subst AreWhole r.joined whole)).0 in
    let v = lines_valid r.before head blocks TextMode front r.spelled in
    (v.0, v.1, items_valid r.data_part items r.part.spelled)
reads_valid lines (InText head blocks items texts) whole r =
    let parts = whole_parts r.before (r.marker ∷ (r.data_part ++ r.stop ∷ r.text_part)) (subst AreWhole r.joined whole) in
    let v = lines_valid r.before head blocks TextMode parts.0 r.spelled in
    let text = (whole_parts r.data_part (r.stop ∷ r.text_part) parts.1.1).1 in
    (v.0, v.1, items_valid r.data_part items r.part.spelled, texts_valid r.text_part texts text.1 r.texts_part)

is_ok : (x y : State) (r : Result State GrammarFault) → r ≡ Ok x → r ≡ Ok y → x ≡ y
is_ok x y r p q = cc (p, q)

judged_read : (lines : List (List ℕ)) (r : Result State GrammarFault) (state : State) → Judgement lines start 0 r → r ≡ Ok state → take_lines start lines ≡ Ok state
judged_read lines (Ok reached) state (read next h) is = h ∙ ap (λ (s : State). Ok s) (is_ok next state _ refl is)
judged_read lines (Err fault) state (refused before line after next reason joined h bad) is = absurd (cc is)

pub state_valid : (state : State) → IsReachedState state → IsValidState state
state_valid state reached = reads_valid reached.0 state reached.1 (lines_sound [] reached.0 start state reads_start reached.2)

pub taken_reached : (taken : Taken) → IsReached taken → IsReachedState taken.state
taken_reached taken reached =
    let bytes = reached.0 in
    (ended_lines bytes, ended_whole bytes, judged_read (ended_lines bytes) (judge_lines start 0 (ended_lines bytes)) taken.state (judgement (ended_lines bytes) start 0) reached.1.state_is)
