-- Items are read back from their lines.
use Rattle.std.proofs.Common.{◌≡◌, ℕ, ◌<◌, ◌≤◌, suc, List, [], ◌∷◌, ◌++◌, length, false, refl, ap, sym, ◌∙◌, append_assoc, subst, arith, length-append, Ok, Err, Result}
use Rattle.std.specs.List.{All, list_any, flat_map, join_with_byte}
use Rattle.std.proofs.lemmas.List.Concat.{flat_map-append}
use Rattle.std.proofs.lemmas.List.Elements.{All-push, All-nil, All-cons}
use Rattle.std.specs.Prelude.{IfOk}
use Rattle.std.proofs.lemmas.List.Folds.{list_any-append}
use Rattle.sk_decimal.specs.Reading.{number_of}
use Rattle.sk_decimal.proofs.Exact.{number_is}
use Rattle.sk_grammar.specs.declared.fault.Reason.{Reason}
use Rattle.sk_grammar.specs.declared.value.Value.{Value}
use Rattle.sk_grammar.specs.declared.value.Op.{Op}
use Rattle.sk_grammar.specs.declared.place.Place.{Place}
use Rattle.sk_grammar.specs.declared.place.Place.TheVariants.{Idle, Named, Signed, Opened, Comma, Valued, Closed}
use Rattle.sk_grammar.specs.Document.{ItemView, IsItem}
use Rattle.sk_grammar.specs.Lines.{is_line_feed, held_lines, ended_parts}
use Rattle.sk_grammar.specs.Canonical.{item_lines, lines_by_values, ended_by_line_feeds}
use Rattle.sk_grammar.specs.Reading.{◌>>=◌, read_from, end_line}
use Rattle.sk_grammar.specs.HeldItems.{joined_by, line_of_items, items_of_lines, items_if_read, held_items, items_text, HoldsItems}
use Rattle.sk_grammar.specs.Taken.{IsSplitAtFeed}
use Rattle.sk_grammar.proofs.Complete as complete
use Rattle.sk_grammar.proofs.AllRead.{line_read}
use Rattle.sk_grammar.proofs.CanonicalLines.{item_feeds}
use Rattle.sk_grammar.proofs.Leaves.{item_of}
use Rattle.sk_grammar.proofs.Lists.{append-[], or_parts}
use Rattle.sk_grammar.proofs.HeldLines.{held_front, none_held}
use Rattle.sk_grammar.proofs.Pieces.{split_lines}
use Rattle.sk_grammar.proofs.Sound.{bind_ok}
use Rattle.sk_grammar.proofs.Written.{item_written}

-- ---- the lines of an item

-- what goes on behind a line is open there too
goes_on_items : (items : List ItemView) (place next : Place) → end_line number_of place ≡ Ok next → joined_by items place ≡ Ok (items, next)
goes_on_items items Idle next h = ap (λ (r : Result Place Reason). r >>= (λ p. Ok (items, p))) h
goes_on_items items (Named name) next h = absurd (cc h)
goes_on_items items (Signed name op) next h = ap (λ (r : Result Place Reason). r >>= (λ p. Ok (items, p))) h
goes_on_items items (Opened name op) next h = ap (λ (r : Result Place Reason). r >>= (λ p. Ok (items, p))) h
goes_on_items items (Comma name op values) next h = ap (λ (r : Result Place Reason). r >>= (λ p. Ok (items, p))) h
goes_on_items items (Valued name op values) next h = ap (λ (r : Result Place Reason). r >>= (λ p. Ok (items, p))) h
goes_on_items items (Closed name op values) next h = absurd (cc h)

first_line : (items more : List ItemView) (place next : Place) (line : List ℕ) (lines : List (List ℕ)) → line_of_items items place line ≡ Ok (more, next) → items_of_lines items place (line ∷ lines) ≡ items_of_lines more next lines
first_line items more place next line lines h = ap (λ (r : Result (List ItemView × Place) Reason). r >>= λ n. items_of_lines n.0 n.1 lines) h

own_read : (own : List (List ℕ)) (line : List ℕ) (place : Place) (items : List ItemView) (name : List ℕ) (op : Op) (values : List Value) (rest : List (List ℕ)) → list_any (list_any is_line_feed) (line ∷ own) ≡ false
    → read_from number_of place 0 (join_with_byte 10 (line ∷ own)) ≡ Ok (Closed name op values) → items_of_lines items place ((line ∷ own) ++ rest) ≡ items_of_lines (items ++ item_of name op values ∷ []) Idle rest
own_read [] line place items name op values rest feeds h =
    first_line items (items ++ item_of name op values ∷ []) place Idle line rest (ap (λ (r : Result Place Reason). r >>= joined_by items) h)
own_read (next ∷ own) line place items name op values rest feeds h =
    let f = or_parts (list_any is_line_feed line) (list_any (list_any is_line_feed) (next ∷ own)) feeds in
    let r = line_read place (Closed name op values) line (join_with_byte 10 (next ∷ own)) f.0 h in
    first_line items items place r.0 line ((next ∷ own) ++ rest) (ap (λ (x : Result Place Reason). x >>= joined_by items) r.1.line_is ∙ goes_on_items items r.1.at r.0 r.1.end_is)
    ∙ own_read own next r.0 items name op values rest f.1 r.1.more_is

lines_read : (own : List (List ℕ)) (items : List ItemView) (item : ItemView) (rest : List (List ℕ)) → list_any (list_any is_line_feed) own ≡ false
    → read_from number_of Idle 0 (join_with_byte 10 own) ≡ Ok (Closed item.name item.op item.values) → items_of_lines items Idle (own ++ rest) ≡ items_of_lines (items ++ item ∷ []) Idle rest
lines_read [] items item rest feeds h = absurd (cc h)
lines_read (line ∷ own) items item rest feeds h = own_read own line Idle items item.name item.op item.values rest feeds h

item_read : (items : List ItemView) (item : ItemView) (rest : List (List ℕ)) → IsItem item → items_of_lines items Idle (item_lines item ++ rest) ≡ items_of_lines (items ++ item ∷ []) Idle rest
item_read items item rest valid =
    lines_read (item_lines item) items item rest (item_feeds item valid) (complete.item_read number_of number_is item (join_with_byte 10 (item_lines item)) (item_written item valid))

pub first_valid : (item : ItemView) (items : List ItemView) → All IsItem (item ∷ items) → IsItem item × All IsItem items
first_valid item items all = (all 0 item (omega arith), λ k d below. all (suc k) d (omega arith))

all_read : (more items : List ItemView) → All IsItem more → items_of_lines items Idle (flat_map item_lines more) ≡ Ok (items ++ more)
all_read [] items valid = ap (λ (i : List ItemView). Ok i) (sym (append-[] items))
all_read (item ∷ more) items valid =
    let v = first_valid item more valid in
    item_read items item (flat_map item_lines more) v.0 ∙ all_read more (items ++ item ∷ []) v.1 ∙ ap (λ (i : List ItemView). Ok i) (append_assoc items (item ∷ []) more)

-- ---- the text of items

ended_last : (ls : List (List ℕ)) → ended_parts (ls ++ [] ∷ []) ≡ ls
ended_last [] = refl
ended_last (line ∷ []) = refl
ended_last (line ∷ next ∷ ls) = ap (λ (x : List (List ℕ)). line ∷ x) (ended_last (next ∷ ls))

pub held_of_ended : (ls : List (List ℕ)) → list_any (list_any is_line_feed) ls ≡ false → held_lines (ended_by_line_feeds ls) ≡ ls
held_of_ended ls feeds = ap ended_parts (split_lines ls feeds) ∙ ended_last ls

pub all_feeds : (items : List ItemView) → All IsItem items → list_any (list_any is_line_feed) (flat_map item_lines items) ≡ false
all_feeds [] valid = refl
all_feeds (item ∷ items) valid =
    let v = first_valid item items valid in
    list_any-append (list_any is_line_feed) (item_lines item) (flat_map item_lines items) ∙ rw (item_feeds item v.0) (all_feeds items v.1)

pub text_read : (items : List ItemView) → All IsItem items → items_of_lines [] Idle (held_lines (items_text items)) ≡ Ok items
text_read items valid = ap (items_of_lines [] Idle) (held_of_ended (flat_map item_lines items) (all_feeds items valid)) ∙ all_read items [] valid

pub held_of_text : (items : List ItemView) → All IsItem items → held_items (items_text items) ≡ items
held_of_text items valid = ap items_if_read (text_read items valid)

pub text_holds : (text : List ℕ) (items : List ItemView) → All IsItem items → text ≡ items_text items → (held_items text ≡ items) × HoldsItems text
text_holds text items valid is =
    let held : held_items text ≡ items = ap held_items is ∙ held_of_text items valid in
    (held, record { valid = subst (λ (i : List ItemView). All IsItem i) (sym held) valid; written = is ∙ ap items_text (sym held) })

pub text_more : (items : List ItemView) (item : ItemView) → items_text (items ++ item ∷ []) ≡ items_text items ++ ended_by_line_feeds (item_lines item)
text_more items item =
    ap ended_by_line_feeds (flat_map-append item_lines items (item ∷ []) ∙ ap (λ (l : List (List ℕ)). flat_map item_lines items ++ l) (append-[] (item_lines item)))
    ∙ flat_map-append (λ (line : List ℕ). line ++ 10 ∷ []) (flat_map item_lines items) (item_lines item)

-- one more item behind those of a text
pub item_behind : (text more : List ℕ) (item : ItemView) → HoldsItems text → IsItem item → more ≡ text ++ ended_by_line_feeds (item_lines item) → (held_items more ≡ held_items text ++ item ∷ []) × HoldsItems more
item_behind text more item holds valid is =
    text_holds more (held_items text ++ item ∷ []) (All-push IsItem (held_items text) item holds.valid valid)
    (is ∙ ap (λ (t : List ℕ). t ++ ended_by_line_feeds (item_lines item)) holds.written ∙ sym (text_more (held_items text) item))

-- ---- no more items than bytes

text_some : (ls : List (List ℕ)) → 0 < length ls → 0 < length (ended_by_line_feeds ls)
text_some [] some = some
text_some (line ∷ ls) some = omega (arith, length-append (line ++ 10 ∷ []) (ended_by_line_feeds ls), length-append line (10 ∷ []))

values_some : (item : ItemView) (values : List Value) → 0 < length (lines_by_values item values)
values_some item [] = omega arith
values_some item (value ∷ []) = grind arith
values_some item (value ∷ next ∷ values) = omega arith

pub no_more_items : (items : List ItemView) → length items ≤ length (items_text items)
no_more_items [] = omega arith
no_more_items (item ∷ items) =
    let text = flat_map-append (λ (line : List ℕ). line ++ 10 ∷ []) (item_lines item) (flat_map item_lines items) in
    omega (arith, ap length text, length-append (ended_by_line_feeds (item_lines item)) (items_text items), text_some (item_lines item) (values_some item item.values), no_more_items items)

-- ---- items that are taken from their text

abbrev items_at : Result (List ItemView × Place) Reason → List ItemView
items_at (Ok next) = next.0
items_at (Err reason) = []

joined_more : (items more : List ItemView) (place next : Place) → joined_by items place ≡ Ok (more, next) → (added : List ItemView) × (more ≡ items ++ added)
joined_more items more Idle next h = ([], sym (ap items_at h) ∙ sym (append-[] items))
joined_more items more (Named name) next h = absurd (cc h)
joined_more items more (Signed name op) next h = ([], sym (ap items_at h) ∙ sym (append-[] items))
joined_more items more (Opened name op) next h = ([], sym (ap items_at h) ∙ sym (append-[] items))
joined_more items more (Comma name op values) next h = ([], sym (ap items_at h) ∙ sym (append-[] items))
joined_more items more (Valued name op values) next h = ([], sym (ap items_at h) ∙ sym (append-[] items))
joined_more items more (Closed name op values) next h = (item_of name op values ∷ [], sym (ap items_at h))

-- a line adds items, or none
line_more : (items more : List ItemView) (place next : Place) (line : List ℕ) → line_of_items items place line ≡ Ok (more, next) → (added : List ItemView) × (more ≡ items ++ added)
line_more items more place next line h =
    let r = bind_ok (read_from number_of place 0 line) (joined_by items) (more, next) h in
    joined_more items more r.0 next r.2

lines_more : (lines : List (List ℕ)) (items all : List ItemView) (place : Place) → items_of_lines items place lines ≡ Ok all → (added : List ItemView) × (all ≡ items ++ added)
lines_more [] items all place h = ([], sym (ap items_if_read h) ∙ sym (append-[] items))
lines_more (line ∷ lines) items all place h =
    let r = bind_ok (line_of_items items place line) (λ next. items_of_lines next.0 next.1 lines) all h in
    let a = line_more items r.0.0 place r.0.1 line r.1 in
    let b = lines_more lines r.0.0 all r.0.1 r.2 in
    (a.0 ++ b.0, b.1 ∙ ap (λ (i : List ItemView). i ++ b.0) a.1 ∙ append_assoc items a.0 b.0)

front_valid : (items more : List ItemView) → All IsItem (items ++ more) → All IsItem items
front_valid [] more all = All-nil IsItem
front_valid (item ∷ items) more all =
    let v = first_valid item (items ++ more) all in
    All-cons IsItem item items v.0 (front_valid items more v.1)

-- the line in front is read, and leaves the others
pub next_line : (rest line behind : List ℕ) (items all : List ItemView) (place : Place) → IsSplitAtFeed rest line behind → items_of_lines items place (held_lines rest) ≡ Ok all
    → (next : List ItemView × Place) × (line_of_items items place line ≡ Ok next) × (items_of_lines next.0 next.1 (held_lines behind) ≡ Ok all)
next_line rest line behind items all place split left =
    bind_ok (line_of_items items place line) (λ next. items_of_lines next.0 next.1 (held_lines behind)) all (ap (items_of_lines items place) (sym (held_front rest line behind split)) ∙ left)

pub line_valid : (rest line behind : List ℕ) (items all : List ItemView) (place : Place) → IsSplitAtFeed rest line behind → items_of_lines items place (held_lines rest) ≡ Ok all → All IsItem all
    → IfOk (line_of_items items place line) (λ next. All IsItem next.0)
line_valid rest line behind items all place split left valid =
    let n = next_line rest line behind items all place split left in
    let m = lines_more (held_lines behind) n.0.0 all n.0.1 n.2 in
    subst (λ (r : Result (List ItemView × Place) Reason). IfOk r (λ next. All IsItem next.0)) (sym n.1) (front_valid n.0.0 m.0 (subst (λ (i : List ItemView). All IsItem i) m.1 valid))

-- ---- a text that holds items

pub held_read : (text : List ℕ) → HoldsItems text → items_of_lines [] Idle (held_lines text) ≡ Ok (held_items text)
held_read text holds = ap (λ (t : List ℕ). items_of_lines [] Idle (held_lines t)) holds.written ∙ text_read (held_items text) holds.valid

pub held_count : (text : List ℕ) → HoldsItems text → length (held_items text) ≤ length text
held_count text holds = omega (arith, no_more_items (held_items text), ap length holds.written)

-- no line is left
pub all_taken : (rest : List ℕ) (items all : List ItemView) (place : Place) → list_any is_line_feed rest ≡ false → items_of_lines items place (held_lines rest) ≡ Ok all → items ≡ all
all_taken rest items all place none left = ap items_if_read (ap (items_of_lines items place) (sym (none_held rest none)) ∙ left)

pub next_left : (rest line behind : List ℕ) (items all more : List ItemView) (place next : Place) → IsSplitAtFeed rest line behind → items_of_lines items place (held_lines rest) ≡ Ok all → line_of_items items place line ≡ Ok (more, next)
    → items_of_lines more next (held_lines behind) ≡ Ok all
next_left rest line behind items all more place next split left read =
    ap (λ (r : Result (List ItemView × Place) Reason). r >>= λ n. items_of_lines n.0 n.1 (held_lines behind)) (sym read) ∙ ap (items_of_lines items place) (sym (held_front rest line behind split)) ∙ left
