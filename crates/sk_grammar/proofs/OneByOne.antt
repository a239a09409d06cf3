-- Items that are read one by one.
use Rattle.std.proofs.Common.{◌≡◌, ℕ, List, [], ◌∷◌, ◌++◌, length, false, refl, ap, sym, ◌∙◌, append_assoc, subst, arith, length-append, Ok, Err, Result, inl, inr, codes}
use Rattle.std.specs.List.{All, list_any, flat_map, join_with_byte}
use Rattle.std.specs.Prelude.{IfOk, nat_le}
use Rattle.std.proofs.lemmas.Bool.{cases_Bool}
use Rattle.sk_decimal.specs.Reading.{number_of}
use Rattle.sk_decimal.proofs.Exact.{number_is}
use Rattle.sk_grammar.specs.declared.fault.Reason.{Reason}
use Rattle.sk_grammar.specs.declared.items_left.LineEnd.{LineEnd}
use Rattle.sk_grammar.specs.declared.items_left.LineEnd.TheVariants.{Item, Open}
use Rattle.sk_grammar.specs.declared.value.Value.{Value}
use Rattle.sk_grammar.specs.declared.value.Op.{Op}
use Rattle.sk_grammar.specs.declared.place.Place.{Place}
use Rattle.sk_grammar.specs.declared.place.Place.TheVariants.{Idle, Named, Signed, Opened, Comma, Valued, Closed}
use Rattle.sk_grammar.specs.Document.{ItemView, IsItem}
use Rattle.sk_grammar.specs.Lines.{is_line_feed, held_lines, IsEnded}
use Rattle.sk_grammar.specs.Canonical.{item_lines, lines_by_values, ended_by_line_feeds, value_lines, value_text, opening_text}
use Rattle.sk_grammar.specs.Spelling.{sign_of}
use Rattle.sk_grammar.specs.Reading.{read_from, end_line}
use Rattle.sk_grammar.specs.HeldItems.{held_items, items_text, HoldsItems}
use Rattle.sk_grammar.specs.OneByOne.{IsFirstHeld, IsWithin, IsWithinOrEnd, IsBehindLine, IsValidWhenClosed, IsOpen, EndsAs}
use Rattle.sk_grammar.specs.Taken.{IsSplitAtFeed}
use Rattle.sk_grammar.proofs.Complete as complete
use Rattle.sk_grammar.proofs.AllRead.{line_read}
use Rattle.sk_grammar.proofs.CanonicalLines.{item_feeds}
use Rattle.sk_grammar.proofs.HeldItems.{first_valid, held_of_ended, all_feeds, text_holds}
use Rattle.sk_grammar.proofs.HeldLines.{held_front, none_held, ended_behind, ended_line, ended_rest, text_of_held}
use Rattle.sk_grammar.proofs.Leaves.{item_of}
use Rattle.sk_grammar.proofs.Lists.{or_parts}
use Rattle.sk_grammar.proofs.Written.{item_written}

all_ended : (ls : List (List ℕ)) → IsEnded (ended_by_line_feeds ls)
all_ended [] = refl
all_ended (line ∷ ls) = ended_behind (line ++ 10 ∷ []) (ended_by_line_feeds ls) (ended_line line) (all_ended ls)

-- the name stands first in the lines of an item
named_lines : (item : ItemView) (values : List Value) → (unnamed : List ℕ) × (ls : List (List ℕ)) × (lines_by_values item values ≡ (item.name ++ unnamed) ∷ ls)
named_lines item [] = (codes " " ++ sign_of item.op ++ codes " " ++ codes "(", value_lines item.values ++ codes ")" ∷ [], simp append_assoc refl)
named_lines item (value ∷ []) =
    elim (cases_Bool (nat_le (length (opening_text item ++ value_text value)) 132)) [
      | inl fits ↦ (codes " " ++ sign_of item.op ++ codes " " ++ value_text value, [], rw fits (simp append_assoc refl))
      | inr longer ↦ (codes " " ++ sign_of item.op ++ codes " " ++ codes "(", value_lines item.values ++ codes ")" ∷ [], rw longer (simp append_assoc refl))
    ]
named_lines item (value ∷ next ∷ values) = (codes " " ++ sign_of item.op ++ codes " " ++ codes "(", value_lines item.values ++ codes ")" ∷ [], simp append_assoc refl)

named_text : (item : ItemView) (items : List ItemView) → (unnamed : List ℕ) × (items_text (item ∷ items) ≡ item.name ++ unnamed)
named_text item items =
    let n = named_lines item item.values in (
      n.0 ++ 10 ∷ ended_by_line_feeds (n.1 ++ flat_map item_lines items),
      ap (λ (ls : List (List ℕ)). ended_by_line_feeds (ls ++ flat_map item_lines items)) n.2
          ∙ append_assoc (item.name ++ n.0) (10 ∷ []) (ended_by_line_feeds (n.1 ++ flat_map item_lines items))
          ∙ append_assoc item.name n.0 (10 ∷ ended_by_line_feeds (n.1 ++ flat_map item_lines items)),
    )

-- the lines of an item begin with one
first_own : (own : List (List ℕ)) (item : ItemView) → read_from number_of Idle 0 (join_with_byte 10 own) ≡ Ok (Closed item.name item.op item.values) → (line : List ℕ) × (more : List (List ℕ)) × (own ≡ line ∷ more)
first_own [] item h = absurd (cc h)
first_own (line ∷ more) item h = (line, more, refl)

within_first : (text : List ℕ) (all : List ItemView) → text ≡ items_text all → All IsItem all → IsWithinOrEnd all Idle text
within_first text [] is valid = inl (refl, is)
within_first text (item ∷ items) is valid =
    let v = first_valid item items valid in
    let read = complete.item_read number_of number_is item (join_with_byte 10 (item_lines item)) (item_written item v.0) in
    let o = first_own (item_lines item) item read in
    inr (record {
      line = o.0;
      own = o.1;
      item = item;
      items = items;
      all_are = refl;
      ended = subst IsEnded (sym is) (all_ended (flat_map item_lines (item ∷ items)));
      lines_are = ap held_lines is ∙ held_of_ended (flat_map item_lines (item ∷ items)) (all_feeds (item ∷ items) valid) ∙ ap (λ (own : List (List ℕ)). own ++ flat_map item_lines items) o.2;
      one_line = ap (list_any (list_any is_line_feed)) (sym o.2) ∙ item_feeds item v.0;
      read = ap (λ (own : List (List ℕ)). read_from number_of Idle 0 (join_with_byte 10 own)) (sym o.2) ∙ read;
    })

pub all_within : (text : List ℕ) → HoldsItems text → IsWithinOrEnd (held_items text) Idle text
all_within text holds = within_first text (held_items text) holds.written holds.valid

-- the last line of an item closes it
closed_by : (all items : List ItemView) (item : ItemView) (behind : List ℕ) → All IsItem all → all ≡ item ∷ items → IsEnded behind → held_lines behind ≡ flat_map item_lines items
    → (all ≡ item ∷ held_items behind) × HoldsItems behind
closed_by all items item behind valid all_are ended lines_are =
    let v = first_valid item items (subst (λ (i : List ItemView). All IsItem i) all_are valid) in
    let h = text_holds behind items v.1 (sym (text_of_held behind ended) ∙ ap ended_by_line_feeds lines_are) in
    (all_are ∙ ap (λ (i : List ItemView). item ∷ i) (sym h.0), h.1)

-- where a line leaves its item open, the next line goes on from there
stays : (place next : Place) → IsOpen place → end_line number_of place ≡ Ok next → place ≡ next
stays Idle next is_left h = cc h
stays (Named name) next is_left h = absurd is_left
stays (Signed name op) next is_left h = cc h
stays (Opened name op) next is_left h = cc h
stays (Comma name op values) next is_left h = cc h
stays (Valued name op values) next is_left h = cc h
stays (Closed name op values) next is_left h = absurd is_left

ends_closed : (name : List ℕ) (op : Op) (values : List Value) (next : Place) → end_line number_of (Closed name op values) ≡ Ok next → ⊥
ends_closed name op values next h = cc h

is_open : (item : ItemView) (place : Place) → ◌≡◌ {A = Result Place Reason} (Ok (Closed item.name item.op item.values)) (Ok place) → IsOpen place → ⊥
is_open item place same is_left = let is : Closed item.name item.op item.values ≡ place = cc same in subst IsOpen (sym is) is_left

one_item : (item read : ItemView) → ◌≡◌ {A = Result Place Reason} (Ok (Closed item.name item.op item.values)) (Ok (Closed read.name read.op read.values)) → item ≡ read
one_item item read same = let is : Closed item.name item.op item.values ≡ Closed read.name read.op read.values = cc same in complete.same_item item read (cc is) (cc is) (cc is)

-- the last line of an item
last_step : (all items : List ItemView) (item : ItemView) (place : Place) (end : LineEnd) (line behind : List ℕ) → All IsItem all → all ≡ item ∷ items → IsEnded behind → held_lines behind ≡ flat_map item_lines items
    → read_from number_of place 0 line ≡ Ok (Closed item.name item.op item.values) → EndsAs (read_from number_of place 0 line) end → IsBehindLine all end behind
last_step all items item place (Item read) line behind valid all_are ended lines_are h e =
    let same : item ≡ read = one_item item read (sym h ∙ e) in
    closed_by all items read behind valid (all_are ∙ ap (λ (i : ItemView). i ∷ items) same) ended lines_are
last_step all items item place (Open at) line behind valid all_are ended lines_are h e = absurd (is_open item at (sym h ∙ e.0) e.1)

-- a line before the last
inner_step : (all items : List ItemView) (item : ItemView) (next : List ℕ) (own : List (List ℕ)) (place : Place) (end : LineEnd) (line behind : List ℕ) → all ≡ item ∷ items → IsEnded behind
    → held_lines behind ≡ (next ∷ own) ++ flat_map item_lines items → list_any (list_any is_line_feed) (line ∷ next ∷ own) ≡ false
    → read_from number_of place 0 (join_with_byte 10 (line ∷ next ∷ own)) ≡ Ok (Closed item.name item.op item.values) → EndsAs (read_from number_of place 0 line) end → IsBehindLine all end behind
inner_step all items item next own place (Item read) line behind all_are ended lines_are feeds h e =
    let f = or_parts (list_any is_line_feed line) (list_any (list_any is_line_feed) (next ∷ own)) feeds in
    let r = line_read place (Closed item.name item.op item.values) line (join_with_byte 10 (next ∷ own)) f.0 h in
    let same : r.1.at ≡ Closed read.name read.op read.values = let both : ◌≡◌ {A = Result Place Reason} (Ok r.1.at) (Ok (Closed read.name read.op read.values)) = sym r.1.line_is ∙ e in cc both in
    absurd (ends_closed read.name read.op read.values r.0 (ap (end_line number_of) (sym same) ∙ r.1.end_is))
inner_step all items item next own place (Open at) line behind all_are ended lines_are feeds h e =
    let f = or_parts (list_any is_line_feed line) (list_any (list_any is_line_feed) (next ∷ own)) feeds in
    let r = line_read place (Closed item.name item.op item.values) line (join_with_byte 10 (next ∷ own)) f.0 h in
    let same : r.1.at ≡ at = let both : ◌≡◌ {A = Result Place Reason} (Ok r.1.at) (Ok at) = sym r.1.line_is ∙ e.0 in cc both in
    let next_is : at ≡ r.0 = stays at r.0 e.1 (ap (end_line number_of) (sym same) ∙ r.1.end_is) in
    record {
      line = next;
      own = own;
      item = item;
      items = items;
      all_are = all_are;
      ended = ended;
      lines_are = lines_are;
      one_line = f.1;
      read = ap (λ (p : Place). read_from number_of p 0 (join_with_byte 10 (next ∷ own))) next_is ∙ r.1.more_is;
    }

line_step : (all items : List ItemView) (item : ItemView) (own : List (List ℕ)) (place : Place) (end : LineEnd) (line behind : List ℕ) → All IsItem all → all ≡ item ∷ items → IsEnded behind
    → held_lines behind ≡ own ++ flat_map item_lines items → list_any (list_any is_line_feed) (line ∷ own) ≡ false
    → read_from number_of place 0 (join_with_byte 10 (line ∷ own)) ≡ Ok (Closed item.name item.op item.values) → EndsAs (read_from number_of place 0 line) end → IsBehindLine all end behind
line_step all items item [] place end line behind valid all_are ended lines_are feeds h e = last_step all items item place end line behind valid all_are ended lines_are h e
line_step all items item (next ∷ own) place end line behind valid all_are ended lines_are feeds h e = inner_step all items item next own place end line behind all_are ended lines_are feeds h e

split_within : (all : List ItemView) (place : Place) (end : LineEnd) (rest line behind : List ℕ) → All IsItem all → IsSplitAtFeed rest line behind → IsWithin all place rest → EndsAs (read_from number_of place 0 line) end → IsBehindLine all end behind
split_within all place end rest line behind valid split w e =
    let both : line ∷ held_lines behind ≡ w.line ∷ (w.own ++ flat_map item_lines w.items) = sym (held_front rest line behind split) ∙ w.lines_are in
    let same : w.line ≡ line = cc both in
    let more : held_lines behind ≡ w.own ++ flat_map item_lines w.items = cc both in
    line_step all w.items w.item w.own place end line behind valid w.all_are (ended_rest rest line behind split w.ended) more
    (ap (λ (l : List ℕ). list_any (list_any is_line_feed) (l ∷ w.own)) (sym same) ∙ w.one_line)
    (ap (λ (l : List ℕ). read_from number_of place 0 (join_with_byte 10 (l ∷ w.own))) (sym same) ∙ w.read) e

-- a line is read where one is left
pub behind_line : (all : List ItemView) (place : Place) (end : LineEnd) (rest line behind : List ℕ) → All IsItem all → IsSplitAtFeed rest line behind → IsWithinOrEnd all place rest → EndsAs (read_from number_of place 0 line) end
    → IsBehindLine all end behind
behind_line all place end rest line behind valid split (inl e) read =
    absurd (omega (arith, ap length (sym e.1 ∙ split.joined), length-append line (10 ∷ behind)))
behind_line all place end rest line behind valid split (inr w) read = split_within all place end rest line behind valid split w read

-- an item that the line closes is valid
closed_valid : (all : List ItemView) (place at : Place) (rest line behind : List ℕ) (answer : Result Place Reason) → read_from number_of place 0 line ≡ answer → All IsItem all → IsSplitAtFeed rest line behind → IsWithinOrEnd all place rest → IfOk answer IsValidWhenClosed
closed_valid all place at rest line behind (Ok Idle) is valid split within = tt
closed_valid all place at rest line behind (Ok (Named name)) is valid split within = tt
closed_valid all place at rest line behind (Ok (Signed name op)) is valid split within = tt
closed_valid all place at rest line behind (Ok (Opened name op)) is valid split within = tt
closed_valid all place at rest line behind (Ok (Comma name op values)) is valid split within = tt
closed_valid all place at rest line behind (Ok (Valued name op values)) is valid split within = tt
closed_valid all place at rest line behind (Ok (Closed name op values)) is valid split within =
    let item = item_of name op values in
    let closed = behind_line all place (Item item) rest line behind valid split within is in
    (first_valid item (held_items behind) (subst (λ (i : List ItemView). All IsItem i) closed.0 valid)).0
closed_valid all place at rest line behind (Err reason) is valid split within = tt

pub line_valid : (all : List ItemView) (place : Place) (rest line behind : List ℕ) → All IsItem all → IsSplitAtFeed rest line behind → IsWithinOrEnd all place rest → IfOk (read_from number_of place 0 line) IsValidWhenClosed
line_valid all place rest line behind valid split within = closed_valid all place place rest line behind (read_from number_of place 0 line) refl valid split within

-- no line is left
pub no_line : (all : List ItemView) (place : Place) (rest : List ℕ) → list_any is_line_feed rest ≡ false → IsWithinOrEnd all place rest → all ≡ []
no_line all place rest none (inl e) = e.0
no_line all place rest none (inr w) = absurd (let both : [] ≡ (w.line ∷ w.own) ++ flat_map item_lines w.items = sym (none_held rest none) ∙ w.lines_are in cc both)

pub first_held : (text behind : List ℕ) (item : ItemView) → HoldsItems text → held_items text ≡ item ∷ held_items behind → HoldsItems behind → IsFirstHeld text item behind
first_held text behind item holds held holds_behind =
    let n = named_text item (held_items behind) in
    record { held = held; holds = holds_behind; unnamed = n.0; named = holds.written ∙ ap items_text held ∙ n.1 }
