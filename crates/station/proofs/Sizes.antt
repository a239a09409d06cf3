-- A text of so many bytes spells no more items and values.
use Rattle.std.proofs.Common.{◌≡◌, ℕ, ◌+◌, ◌-◌, ◌^◌, ◌<◌, ◌≤◌, Bool, true, false, cond, List, [], ◌∷◌, ◌++◌, length, map, filter, refl, ap, inl, inr, arith, length-append}
use Rattle.std.specs.Prelude.{codes, ◌==◌}
use Rattle.std.specs.List.{slice_split, onto_first, join_with_byte, suffix_len, flat_map, list_any, AllByRecursion as ByRecursion}
use Rattle.std.specs.Str.{bytes_eq}
use Rattle.std.proofs.lemmas.List.{length-take}
use Rattle.std.proofs.lemmas.List.Elements.{All-from_recursion}
use Rattle.std.proofs.lemmas.List.Splits.{length-slice_split}
use Rattle.sk_grammar.specs.Lines.{Mode, lines, lines_of_parts, is_line_feed, is_carriage_return, without_trailing}
use Rattle.sk_grammar.specs.Document.{ItemView, BlockView, DocView}
use Rattle.sk_grammar.specs.declared.value.Value.{Value}
use Rattle.sk_grammar.specs.declared.value.Op.{Op}
use Rattle.sk_grammar.specs.declared.value.Op.TheVariants.{Set, Append}
use Rattle.sk_grammar.specs.Spelling.{SpellsValues, SpellsVector, SpellsOpening, SpellsItem, SpellsItems, SpellsBlocks, SpellsLines, Spells, sign_of}
use Rattle.sk_grammar.specs.Variables.{VariableView, items_of, variables_of, names_of, values_of, assigning, from_last_set, is_set, IsCounted}
use Rattle.sk_outcome.specs.Files.{HasFew}

-- ---- how much bytes and lines have room for

-- the bytes of lines, with one more for each
pub span : List (List ℕ) → ℕ
span [] = 0
span (line ∷ lines) = length line + 1 + span lines

span-append : (a b : List (List ℕ)) → span (a ++ b) ≡ span a + span b
unfolding span
span-append [] b = omega arith
span-append (line ∷ a) b = let h = span-append a b in omega arith

span-cons : (line : List ℕ) (b : List (List ℕ)) → span (line ∷ b) ≡ length line + 1 + span b
unfolding span
span-cons line b = refl

onto_span : (x : ℕ) (parts : List (List ℕ)) → 0 < length parts → span (onto_first x parts) ≡ span parts + 1
unfolding span
onto_span x [] h = absurd (omega (arith, h))
onto_span x (part ∷ parts) h = omega arith

cond_span : (b : Bool) (x y : List (List ℕ)) (n : ℕ) → span x ≤ n → span y ≤ n → span (cond b x y) ≤ n
cond_span true x y n h k = h
cond_span false x y n h k = k

parts_span : (test : ℕ → Bool) (bytes : List ℕ) → span (slice_split test bytes) ≤ length bytes + 1
unfolding span
parts_span test [] = omega arith
parts_span test (x ∷ bytes) =
    let h = parts_span test bytes in
    let some : 0 < length (slice_split test bytes) = omega (arith, length-slice_split test bytes) in
    let more = onto_span x (slice_split test bytes) some in
    let first : span ([] ∷ slice_split test bytes) ≡ 0 + 1 + span (slice_split test bytes) = span-cons [] (slice_split test bytes) in
    cond_span (test x) ([] ∷ slice_split test bytes) (onto_first x (slice_split test bytes)) (length (x ∷ bytes) + 1) (omega (arith, h, first)) (omega (arith, h, more))

trailing_span : (line : List ℕ) → length (without_trailing is_carriage_return line) ≤ length line
trailing_span line = omega (arith, length-take (length line - suffix_len is_carriage_return line) line)

lines_span : (parts : List (List ℕ)) → span (lines_of_parts parts) ≤ span parts
unfolding span
lines_span [] = omega arith
lines_span (part ∷ []) =
    let h = trailing_span part in
    let line = span-cons (without_trailing is_carriage_return part) [] in
    cond_span (length part == 0) [] (without_trailing is_carriage_return part ∷ []) _ (omega arith) (omega (arith, h, line))
lines_span (part ∷ next ∷ parts) = let h = lines_span (next ∷ parts) in omega (arith, h, trailing_span part)

pub text_span : (bytes : List ℕ) → span (lines bytes) ≤ length bytes + 1
text_span bytes = omega (arith, lines_span (slice_split is_line_feed bytes), parts_span is_line_feed bytes)

join_span : (own : List (List ℕ)) → length (join_with_byte 10 own) ≤ span own
unfolding span
join_span [] = omega arith
join_span (line ∷ []) = omega arith
join_span (line ∷ next ∷ own) =
    let h = join_span (next ∷ own) in
    omega (arith, h, length-append line (10 ∷ join_with_byte 10 (next ∷ own)))

-- ---- how much items need

pub weight : ItemView → ℕ
weight item = 1 + length item.values

pub total : List ItemView → ℕ
total [] = 0
total (item ∷ items) = weight item + total items

pub total-none : total [] ≡ 0
unfolding total
total-none = refl

pub total-append : (a b : List ItemView) → total (a ++ b) ≡ total a + total b
unfolding total
total-append [] b = omega arith
total-append (item ∷ a) b = let h = total-append a b in omega arith

values_room : (bytes : List ℕ) (values : List Value) → SpellsValues bytes values → length values ≤ length bytes + 1
values_room bytes [] h = absurd h
values_room bytes (value ∷ []) h = omega arith
values_room bytes (value ∷ next ∷ values) h =
    let k : length (next ∷ values) ≤ length h.2 + 1 = values_room h.2 (next ∷ values) h.6 in
    let apart : 0 < length h.1 = h.5.not_empty in
    let all : length bytes ≡ length (h.0 ++ h.1 ++ h.2) = ap length h.3 in
    omega (arith, k, apart, all, length-append (h.0 ++ h.1) h.2, length-append h.0 h.1)

vector_room : (bytes : List ℕ) (values : List Value) → SpellsVector bytes values → length values + 1 ≤ length bytes
vector_room bytes values h =
    let k = values_room h.inner values h.spelled in
    let all : length bytes ≡ length (codes "(" ++ h.before ++ h.inner ++ h.after ++ codes ")") = ap length h.joined in
    omega (
      arith,
      k,
      all,
      length-append (codes "(" ++ h.before ++ h.inner ++ h.after) (codes ")"),
      length-append (codes "(" ++ h.before ++ h.inner) h.after,
      length-append (codes "(" ++ h.before) h.inner,
      length-append (codes "(") h.before,
    )

sign_some : (op : Op) → 1 ≤ length (sign_of op)
sign_some Set = omega arith
sign_some Append = omega arith

opening_room : (bytes name : List ℕ) (op : Op) → SpellsOpening bytes name op → 2 ≤ length bytes
opening_room bytes name op h =
    let all : length bytes ≡ length (h.indent ++ name ++ h.space ++ sign_of op) = ap length h.joined in
    let some : 0 < length name = h.is_name.not_empty in
    omega (
      arith,
      sign_some op,
      some,
      all,
      length-append (h.indent ++ name ++ h.space) (sign_of op),
      length-append (h.indent ++ name) h.space,
      length-append h.indent name,
    )

item_room : (bytes : List ℕ) (item : ItemView) → SpellsItem bytes item → weight item ≤ length bytes
unfolding weight
item_room bytes item h =
    let o = opening_room h.opening item.name item.op h.is_opening in
    let all : length bytes ≡ length (h.opening ++ h.gap ++ h.body ++ h.tail) = ap length h.joined in
    let a = length-append (h.opening ++ h.gap ++ h.body) h.tail in
    let b = length-append (h.opening ++ h.gap) h.body in
    let d = length-append h.opening h.gap in
    elim h.is_body [
      | inl one ↦ let e : length item.values ≡ length (one.value ∷ []) = ap length one.only in omega (arith, o, all, a, b, d, e)
      | inr many ↦ let v = vector_room h.body item.values many in omega (arith, o, all, a, b, d, v)
    ]

items_room : (data_lines : List (List ℕ)) (items : List ItemView) → SpellsItems data_lines items → total items ≤ span data_lines
unfolding total
items_room data_lines [] h = omega arith
items_room data_lines (item ∷ items) h =
    let k : total items ≤ span h.2 = items_room h.2 items h.7 in
    let i : weight item ≤ length (join_with_byte 10 h.1) = item_room (join_with_byte 10 h.1) item h.6 in
    let all : span data_lines ≡ span (h.0 ++ h.1 ++ h.2) = ap span h.3 in
    omega (arith, k, i, all, join_span h.1, span-append (h.0 ++ h.1) h.2, span-append h.0 h.1)

abbrev pub block_items : List BlockView → List ItemView
block_items blocks = flat_map (λ block. block.items) blocks

blocks_room : (all_lines : List (List ℕ)) (blocks : List BlockView) (mode : Mode) → SpellsBlocks all_lines blocks mode
    → total (block_items blocks) ≤ span all_lines
unfolding total
blocks_room all_lines [] mode h = omega arith
blocks_room all_lines (block ∷ blocks) mode h =
    let own : total block.items ≤ span h.1 = items_room h.1 block.items h.5.spelled in
    let all : span all_lines ≡ span (h.0 ∷ h.1 ++ h.2) = ap span h.3 in
    let a = span-cons h.0 (h.1 ++ h.2) in
    let b = span-append h.1 h.2 in
    let t = total-append block.items (block_items blocks) in
    elim h.6 [
      | inl last ↦
          let none : total (block_items blocks) ≡ 0 = ap (λ (bs : List BlockView). total (block_items bs)) last.2 in
          omega (arith, own, all, a, b, t, none)
      | inr more ↦
          let k : total (block_items blocks) ≤ span more.2 = blocks_room more.2 blocks mode more.6 in
          let e : span h.2 ≡ span (more.0 ∷ more.1 ++ more.2) = ap span more.3 in
          omega (arith, own, all, a, b, t, k, e, span-cons more.0 (more.1 ++ more.2), span-append more.1 more.2)
    ]

lines_room : (all_lines : List (List ℕ)) (doc : DocView) (mode : Mode) → SpellsLines all_lines doc mode → total (items_of doc) ≤ span all_lines
lines_room all_lines doc mode h =
    let k : total (block_items doc.blocks) ≤ span h.1 = blocks_room h.1 doc.blocks mode h.4 in
    let e : span all_lines ≡ span (h.0 ++ h.1) = ap span h.2 in
    omega (arith, k, e, span-append h.0 h.1)

pub document_room : (bytes : List ℕ) (doc : DocView) → Spells bytes doc → total (items_of doc) ≤ length bytes + 1
document_room bytes doc h =
    let k : total (items_of doc) ≤ span (lines bytes) = lines_room (lines bytes) doc h.0 h.1 in
    omega (arith, k, text_span bytes)

-- ---- what variables have of it

pub items_least : (items : List ItemView) → length items ≤ total items
unfolding total weight
items_least [] = omega arith
items_least (item ∷ items) = let h = items_least items in omega arith

cond_total : (b : Bool) (x y : List ItemView) (n : ℕ) → total x ≤ n → total y ≤ n → total (cond b x y) ≤ n
cond_total true x y n h k = h
cond_total false x y n h k = k

filter_total : (test : ItemView → Bool) (items : List ItemView) → total (filter test items) ≤ total items
unfolding total
filter_total test [] = omega arith
filter_total test (item ∷ items) =
    let h = filter_total test items in
    cond_total (test item) (item ∷ filter test items) (filter test items) (weight item + total items) (omega (arith, h)) (omega (arith, h))

from_set_total : (items : List ItemView) → total (from_last_set items) ≤ total items
unfolding total
from_set_total [] = omega arith
from_set_total (item ∷ items) =
    let h = from_set_total items in
    cond_total (list_any is_set items) (from_last_set items) (item ∷ items) (weight item + total items) (omega (arith, h)) (omega arith)

values_total : (items : List ItemView) → length (flat_map (λ item. item.values) items) ≤ total items
unfolding total weight
values_total [] = omega arith
values_total (item ∷ items) =
    let h = values_total items in
    omega (arith, h, length-append item.values (flat_map (λ item. item.values) items))

variable_room : (name : List ℕ) (items : List ItemView) → length (values_of name items) ≤ total items
variable_room name items =
    omega (arith, values_total (from_last_set (assigning name items)), from_set_total (assigning name items), filter_total (λ item. bytes_eq item.name name) items)

variables_counted : (items : List ItemView) (names : List (List ℕ)) → total items < 2 ^ 32
    → ByRecursion (λ (variable : VariableView). length variable.values < 2 ^ 32) (map (λ (name : List ℕ). record { name = name; values = values_of name items }) names)
variables_counted items [] h = tt
variables_counted items (name ∷ names) h = (omega (arith, h, variable_room name items), variables_counted items names h)

pub counted : (items : List ItemView) → total items < 2 ^ 32 → IsCounted (variables_of items)
counted items h =
    All-from_recursion (λ (variable : VariableView). length variable.values < 2 ^ 32) (variables_of items) (variables_counted items (names_of items) h)

-- a document that a file of the greatest size spells
pub few_of : (bytes : List ℕ) (doc : DocView) → length bytes ≤ 16777216 → Spells bytes doc → HasFew doc
few_of bytes doc h spelled =
    let room = document_room bytes doc spelled in
    record {
      items = omega (arith, room, h, items_least (items_of doc));
      values = counted (items_of doc) (omega (arith, room, h));
    }
