-- The canonical text of a valid document spells it.
use Rattle.std.proofs.Common.{◌≡◌, ℕ, ◌+◌, ◌<◌, ◌≤◌, suc, List, [], ◌∷◌, ◌++◌, length, map, filter, Bool, true, false, cond, ◌||◌, not, refl, ap, sym, ◌∙◌, append_assoc, inl, inr, subst, arith, codes, length-append}
use Rattle.std.specs.List.{All, AllByRecursion, list_all, list_any, flat_map}
use Rattle.std.specs.Prelude.{◌==◌, nat_le}
use Rattle.std.proofs.lemmas.Bool.{and_parts, and_from, cases_Bool, false≢true, le-leb, leb-true}
use Rattle.std.proofs.lemmas.Bool.Decides.{nat_tests}
use Rattle.std.proofs.lemmas.List.Folds.{list_all-append, list_any-append}
use Rattle.sk_grammar.specs.declared.value.Value.{Value}
use Rattle.sk_grammar.specs.declared.value.Value.TheVariants.{Number, Date, Text}
use Rattle.sk_grammar.specs.declared.value.Op.{Op}
use Rattle.sk_grammar.specs.declared.value.Op.TheVariants.{Set, Append}
use Rattle.sk_grammar.specs.Lines.{TextMode, is_line_feed, is_carriage_return, without_trailing, is_marker, begins_data, begins_text, lines}
use Rattle.sk_grammar.specs.Document.{ItemView, BlockView, DocView, is_data_byte, is_name_byte, doubled, quoted, IsValue, IsDate, IsText, IsName, IsItem, IsBlock, IsDoc, IsTextLine}
use Rattle.sk_grammar.specs.Spelling.{sign_of, is_data_line, SpellsItems, SpellsDataPart, SpellsTextPart, SpellsBlocks, Spells}
use Rattle.sk_grammar.specs.Canonical.{value_text, is_number, rows_of_three, value_lines, opening_text, vector_lines, lines_by_values, item_lines, block_lines, doc_lines, ended_by_line_feeds, canonical_text}
use Rattle.sk_grammar.proofs.Written.{item_written}
use Rattle.sk_grammar.proofs.Pieces.{lines-ended_by_line_feeds}
use Rattle.sk_grammar.proofs.PlainLines.{IsPlainLine, IsNumberText, number_text, no_marker, is_byte_of, white_is_not, plain_data_line, all_weaker, all_both, or_right, none_trailing}
use Rattle.sk_grammar.proofs.Lists.{all_first, all_rest, none_if_all, or_parts, append-[]}

recursed : {A : Type 0} (P : A → Type 0) (xs : List A) → All P xs → AllByRecursion P xs
recursed P [] all = tt
recursed P (x ∷ xs) all = (all 0 x (omega arith), recursed P xs (λ k d below. all (suc k) d (omega arith)))

abbrev ArePlain : List (List ℕ) → Type 0
ArePlain lines = AllByRecursion IsPlainLine lines

plain_append : (xs ys : List (List ℕ)) → ArePlain xs → ArePlain ys → ArePlain (xs ++ ys)
plain_append [] ys p q = q
plain_append (x ∷ xs) ys p q = (p.0, plain_append xs ys p.1 q)

-- ---- values

number_line : (text : List ℕ) → list_all is_data_byte text ≡ true → list_any (is_byte_of 92) text ≡ false → length text ≤ 132 → IsPlainLine text
number_line text bytes no_slash short = record { bytes = bytes; short = short; no_marker = no_marker (is_byte_of 92) (white_is_not 92 refl) text false refl refl no_slash }

date_line : (date : List ℕ) → IsDate date → IsPlainLine date
date_line date d = record {
  bytes = d.bytes;
  short = omega (arith, d.short);
  no_marker = no_marker (is_byte_of 64) (white_is_not 64 refl) date true refl refl (ap (list_any (is_byte_of 64)) d.at_sign);
}

doubled_data : (text : List ℕ) → list_all is_data_byte text ≡ true → list_all is_data_byte (flat_map doubled text) ≡ true
doubled_data [] all = refl
doubled_data (byte ∷ text) all =
    elim (cases_Bool (byte == 39)) [
      | inl quote ↦ rw quote (and_from _ _ (all_first is_data_byte byte text all) (and_from _ _ (all_first is_data_byte byte text all) (doubled_data text (all_rest is_data_byte byte text all))))
      | inr other ↦ rw other (and_from _ _ (all_first is_data_byte byte text all) (doubled_data text (all_rest is_data_byte byte text all)))
    ]

text_line : (text : List ℕ) → IsText text → IsPlainLine (quoted text)
text_line text t = record {
  bytes = all_both is_data_byte (flat_map doubled text) (codes "'") (doubled_data text t.bytes) refl;
  short = t.fits_line;
  no_marker = no_marker (is_byte_of 39) (white_is_not 39 refl) (quoted text) true refl refl refl;
}

pub value_line : (value : Value) → IsValue value → IsPlainLine (value_text value)
value_line (Number number) valid = let t = number_text number valid in number_line (value_text (Number number)) t.bytes t.no_slash (omega (arith, t.short))
value_line (Date date) valid = date_line date valid
value_line (Text text) valid = text_line text valid

-- ---- rows of numbers

value_number : (value : Value) → is_number value ≡ true → IsValue value → IsNumberText (value_text value)
value_number (Number number) is valid = number_text number valid
value_number (Date date) is valid = absurd (false≢true is)
value_number (Text text) is valid = absurd (false≢true is)

-- two texts of numbers, and a blank between
abbrev Joins : List ℕ → ℕ → Type 0
Joins text most = (list_all is_data_byte text ≡ true) × (list_any (is_byte_of 92) text ≡ false) × (length text ≤ most)

none_both : (xs ys : List ℕ) → list_any (is_byte_of 92) xs ≡ false → list_any (is_byte_of 92) ys ≡ false → list_any (is_byte_of 92) (xs ++ ys) ≡ false
none_both xs ys p q = list_any-append (is_byte_of 92) xs ys ∙ ap (λ (b : Bool). b || list_any (is_byte_of 92) ys) p ∙ q

joined : (x y : List ℕ) (m n : ℕ) → Joins x m → Joins y n → Joins (x ++ codes " " ++ y) (m + 1 + n)
joined x y m n p q = (
  all_both is_data_byte (x ++ codes " ") y (all_both is_data_byte x (codes " ") p.0 refl) q.0,
  none_both (x ++ codes " ") y (none_both x (codes " ") p.1 refl) q.1,
  omega (arith, p.2, q.2, length-append (x ++ codes " ") y, length-append x (codes " ")),
)

number_joins : (value : Value) → is_number value ≡ true → IsValue value → Joins (value_text value) 41
number_joins value is valid = let t = value_number value is valid in (t.bytes, t.no_slash, t.short)

row_line : (text : List ℕ) → Joins text 125 → IsPlainLine text
row_line text j = number_line text j.0 j.1 (omega (arith, j.2))

rows_plain : (values : List Value) → list_all is_number values ≡ true → AllByRecursion IsValue values → ArePlain (rows_of_three values)
rows_plain [] all valid = tt
rows_plain (a ∷ []) all valid = (value_line a valid.0, tt)
rows_plain (a ∷ b ∷ []) all valid =
    let first = and_parts (is_number a) (list_all is_number (b ∷ [])) all in
    let second = and_parts (is_number b) true first.1 in
    let row = joined (value_text a) (value_text b) 41 41 (number_joins a first.0 valid.0) (number_joins b second.0 valid.1.0) in
    (row_line (value_text a ++ codes " " ++ value_text b) (row.0, row.1, omega (arith, row.2)), tt)
rows_plain (a ∷ b ∷ c ∷ values) all valid =
    let first = and_parts (is_number a) (list_all is_number (b ∷ c ∷ values)) all in
    let second = and_parts (is_number b) (list_all is_number (c ∷ values)) first.1 in
    let third = and_parts (is_number c) (list_all is_number values) second.1 in
    let pair = joined (value_text a) (value_text b) 41 41 (number_joins a first.0 valid.0) (number_joins b second.0 valid.1.0) in
    let row = joined (value_text a ++ codes " " ++ value_text b) (value_text c) 83 41 (pair.0, pair.1, omega (arith, pair.2)) (number_joins c third.0 valid.1.1.0) in
    (row_line (value_text a ++ codes " " ++ value_text b ++ codes " " ++ value_text c) (row.0, row.1, omega (arith, row.2)), rows_plain values third.1 valid.1.1.1)

each_plain : (values : List Value) → AllByRecursion IsValue values → ArePlain (map value_text values)
each_plain [] valid = tt
each_plain (value ∷ values) valid = (value_line value valid.0, each_plain values valid.1)

values_plain : (values : List Value) → AllByRecursion IsValue values → ArePlain (value_lines values)
values_plain values valid =
    elim (cases_Bool (list_all is_number values)) [
      | inl numbers ↦ rw numbers (rows_plain values numbers valid)
      | inr other ↦ rw other (each_plain values valid)
    ]

-- ---- items

name_data : (x : ℕ) → is_name_byte x ≡ true → is_data_byte x ≡ true
name_data x h = grind (arith, nat_tests)

sign_data : (op : Op) → list_all is_data_byte (sign_of op) ≡ true
sign_data Set = refl
sign_data Append = refl

sign_short : (op : Op) → length (sign_of op) ≤ 2
sign_short Set = omega arith
sign_short Append = omega arith

sign_equals : (op : Op) → list_any (is_byte_of 61) (sign_of op) ≡ true
sign_equals Set = refl
sign_equals Append = refl

any_right : (xs ys : List ℕ) → list_any (is_byte_of 61) ys ≡ true → list_any (is_byte_of 61) (xs ++ ys) ≡ true
any_right [] ys h = h
any_right (x ∷ xs) ys h = or_right (is_byte_of 61 x) (list_any (is_byte_of 61) (xs ++ ys)) (any_right xs ys h)

any_left : (xs ys : List ℕ) → list_any (is_byte_of 61) xs ≡ true → list_any (is_byte_of 61) (xs ++ ys) ≡ true
any_left xs ys h = list_any-append (is_byte_of 61) xs ys ∙ ap (λ (b : Bool). b || list_any (is_byte_of 61) ys) h

-- an opening, and what follows it on its line
opening_line : (item : ItemView) (rest : List ℕ) → IsName item.name → list_all is_data_byte rest ≡ true → length (opening_text item ++ rest) ≤ 132 → IsPlainLine (opening_text item ++ rest)
opening_line item rest n all short = record {
  bytes = all_both is_data_byte (opening_text item) rest
      (all_both is_data_byte ((item.name ++ codes " ") ++ sign_of item.op) (codes " ")
      (all_both is_data_byte (item.name ++ codes " ") (sign_of item.op) (all_both is_data_byte item.name (codes " ") (all_weaker is_name_byte is_data_byte name_data item.name n.bytes) refl) (sign_data item.op)) refl) all;
  short = short;
  no_marker = no_marker (is_byte_of 61) (white_is_not 61 refl) (opening_text item ++ rest) true refl refl
      (any_left (opening_text item) rest (any_left ((item.name ++ codes " ") ++ sign_of item.op) (codes " ") (any_right (item.name ++ codes " ") (sign_of item.op) (sign_equals item.op))));
}

opening_short : (item : ItemView) → IsName item.name → length (opening_text item) ≤ 36
opening_short item n =
    omega (arith, n.short, sign_short item.op, length-append ((item.name ++ codes " ") ++ sign_of item.op) (codes " "), length-append (item.name ++ codes " ") (sign_of item.op), length-append item.name (codes " "))

vector_plain : (item : ItemView) → IsName item.name → AllByRecursion IsValue item.values → ArePlain (vector_lines item)
vector_plain item n valid = (
  opening_line item (codes "(") n refl (omega (arith, opening_short item n, length-append (opening_text item) (codes "("))),
  plain_append (value_lines item.values) (codes ")" ∷ []) (values_plain item.values valid)
      (record { bytes = refl; short = omega arith; no_marker = refl }, tt),
)

by_values_plain : (item : ItemView) (values : List Value) → IsName item.name → AllByRecursion IsValue item.values → AllByRecursion IsValue values → ArePlain (lines_by_values item values)
by_values_plain item [] n valid own = vector_plain item n valid
by_values_plain item (value ∷ []) n valid own =
    elim (cases_Bool (nat_le (length (opening_text item ++ value_text value)) 132)) [
      | inl fits ↦ rw fits (opening_line item (value_text value) n (value_line value own.0).bytes (leb-true (length (opening_text item ++ value_text value)) 132 fits), tt)
      | inr long ↦ rw long (vector_plain item n valid)
    ]
by_values_plain item (value ∷ next ∷ values) n valid own = vector_plain item n valid

item_plain : (item : ItemView) → IsItem item → ArePlain (item_lines item)
item_plain item valid = let own = recursed IsValue item.values valid.values in by_values_plain item item.values valid.name own own

-- ---- the data lines of a block

no_markers : (ls : List (List ℕ)) → ArePlain ls → list_any is_marker ls ≡ false
no_markers [] p = refl
no_markers (l ∷ ls) p = ap (λ (b : Bool). b || list_any is_marker ls) p.0.no_marker ∙ no_markers ls p.1

items_plain : (items : List ItemView) → AllByRecursion IsItem items → ArePlain (flat_map item_lines items)
items_plain [] valid = tt
items_plain (item ∷ items) valid = plain_append (item_lines item) (flat_map item_lines items) (item_plain item valid.0) (items_plain items valid.1)

items_spelled : (items : List ItemView) → AllByRecursion IsItem items → SpellsItems (flat_map item_lines items) items
items_spelled [] valid = refl
items_spelled (item ∷ items) valid =
    ([], item_lines item, flat_map item_lines items, refl, refl, no_markers (item_lines item) (item_plain item valid.0), item_written item valid.0, items_spelled items valid.1)

none_stops : (ls : List (List ℕ)) → ArePlain ls → list_any begins_text ls ≡ false
none_stops [] p = refl
none_stops (l ∷ ls) p = ap (λ (b : Bool). b || list_any begins_text ls) (or_parts (begins_data l) (begins_text l) p.0.no_marker).1 ∙ none_stops ls p.1

all_data : (ls : List (List ℕ)) → ArePlain ls → list_all (λ line. is_marker line || is_data_line line) ls ≡ true
all_data [] p = refl
all_data (l ∷ ls) p = and_from _ _ (or_right (is_marker l) (is_data_line l) (plain_data_line l p.0)) (all_data ls p.1)

data_part : (items : List ItemView) → AllByRecursion IsItem items → SpellsDataPart (flat_map item_lines items) items
data_part items valid =
    let plain = items_plain items valid in
    record { stays = none_stops (flat_map item_lines items) plain; are_data_lines = all_data (flat_map item_lines items) plain; spelled = items_spelled items valid }

-- ---- text lines

abbrev AreTextLines : List (List ℕ) → Type 0
AreTextLines ls = AllByRecursion IsTextLine ls

text_stays : (ls : List (List ℕ)) → AreTextLines ls → list_any begins_data ls ≡ false
text_stays [] p = refl
text_stays (l ∷ ls) p = ap (λ (b : Bool). b || list_any begins_data ls) (or_parts (begins_data l) (begins_text l) p.0.no_marker).0 ∙ text_stays ls p.1

text_kept : (ls : List (List ℕ)) → AreTextLines ls → ls ≡ filter (λ line. not (is_marker line)) ls
text_kept [] p = refl
text_kept (l ∷ ls) p =
    ap (λ (t : List (List ℕ)). l ∷ t) (text_kept ls p.1)
    ∙ sym (ap (λ (b : Bool). cond (not b) (l ∷ filter (λ line. not (is_marker line)) ls) (filter (λ line. not (is_marker line)) ls)) p.0.no_marker)

text_short : (ls : List (List ℕ)) → AreTextLines ls → list_all (λ line. nat_le (length line) 4096) ls ≡ true
text_short [] p = refl
text_short (l ∷ ls) p = and_from _ _ (le-leb (length l) 4096 p.0.short) (text_short ls p.1)

text_part : (ls : List (List ℕ)) → AreTextLines ls → SpellsTextPart ls ls
text_part ls p = record { stays = text_stays ls p; kept = text_kept ls p; short = text_short ls p }

-- ---- blocks

abbrev whole_lines : List BlockView → List (List ℕ)
whole_lines blocks = flat_map block_lines blocks

blocks_spelled : (blocks : List BlockView) → AllByRecursion IsBlock blocks → SpellsBlocks (whole_lines blocks) blocks TextMode
blocks_spelled [] valid = (refl, refl)
blocks_spelled (block ∷ blocks) valid =
    let items = flat_map item_lines block.items in
    let stop = codes "\\begintext" in
    let whole : whole_lines (block ∷ blocks) ≡ codes "\\begindata" ∷ (items ++ (stop ∷ (block.text ++ whole_lines blocks))) = ap (λ (ls : List (List ℕ)). codes "\\begindata" ∷ ls) (append_assoc items (stop ∷ block.text) (whole_lines blocks)) in (
      codes "\\begindata",
      items,
      stop ∷ (block.text ++ whole_lines blocks),
      whole,
      refl,
      data_part block.items (recursed IsItem block.items valid.0.items),
      inr (stop, block.text, whole_lines blocks, refl, refl, text_part block.text (recursed IsTextLine block.text valid.0.text), blocks_spelled blocks valid.1),
    )

-- ---- whole lines

pub record IsWholeLine (line : List ℕ) : Type 0 where
  pub one_line : list_any is_line_feed line ≡ false
  pub no_return : without_trailing is_carriage_return line ≡ line

abbrev AreWholeLines : List (List ℕ) → Type 0
AreWholeLines ls = AllByRecursion IsWholeLine ls

whole_append : (xs ys : List (List ℕ)) → AreWholeLines xs → AreWholeLines ys → AreWholeLines (xs ++ ys)
whole_append [] ys p q = q
whole_append (x ∷ xs) ys p q = (p.0, whole_append xs ys p.1 q)

data_no_feed : (x : ℕ) → is_data_byte x ≡ true → is_line_feed x ≡ false
data_no_feed x h = grind (arith, nat_tests)

data_no_return : (x : ℕ) → is_data_byte x ≡ true → is_carriage_return x ≡ false
data_no_return x h = grind (arith, nat_tests)

plain_whole : (ls : List (List ℕ)) → ArePlain ls → AreWholeLines ls
plain_whole [] p = tt
plain_whole (l ∷ ls) p = (
  record {
    one_line = none_if_all is_data_byte is_line_feed data_no_feed l p.0.bytes;
    no_return = none_trailing l (none_if_all is_data_byte is_carriage_return data_no_return l p.0.bytes);
  },
  plain_whole ls p.1,
)

text_whole : (ls : List (List ℕ)) → AreTextLines ls → AreWholeLines ls
text_whole [] p = tt
text_whole (l ∷ ls) p = (record { one_line = p.0.one_line; no_return = p.0.no_trailing_return }, text_whole ls p.1)

blocks_whole : (blocks : List BlockView) → AllByRecursion IsBlock blocks → AreWholeLines (whole_lines blocks)
blocks_whole [] valid = tt
blocks_whole (block ∷ blocks) valid =
    let items = flat_map item_lines block.items in
    whole_append (block_lines block) (whole_lines blocks) (
      record { one_line = refl; no_return = refl },
      whole_append items (codes "\\begintext" ∷ block.text) (plain_whole items (items_plain block.items (recursed IsItem block.items valid.0.items)))
          (record { one_line = refl; no_return = refl }, text_whole block.text (recursed IsTextLine block.text valid.0.text)),
    )
    (blocks_whole blocks valid.1)

no_feeds : (ls : List (List ℕ)) → AreWholeLines ls → list_any (list_any is_line_feed) ls ≡ false
no_feeds [] p = refl
no_feeds (l ∷ ls) p = ap (λ (b : Bool). b || list_any (list_any is_line_feed) ls) p.0.one_line ∙ no_feeds ls p.1

-- no line of a valid item is cut by a line feed
pub item_feeds : (item : ItemView) → IsItem item → list_any (list_any is_line_feed) (item_lines item) ≡ false
item_feeds item valid = no_feeds (item_lines item) (plain_whole (item_lines item) (item_plain item valid))

returns_kept : (ls : List (List ℕ)) → AreWholeLines ls → map (without_trailing is_carriage_return) ls ≡ ls
returns_kept [] p = refl
returns_kept (l ∷ ls) p = ap (λ (x : List ℕ). x ∷ map (without_trailing is_carriage_return) ls) p.0.no_return ∙ ap (λ (t : List (List ℕ)). l ∷ t) (returns_kept ls p.1)

pub canonical_spelled : (doc : DocView) → IsDoc doc → Spells (canonical_text doc) doc
canonical_spelled doc valid =
    let head = recursed IsTextLine doc.head valid.head in
    let blocks = recursed IsBlock doc.blocks valid.blocks in
    let whole = whole_append doc.head (whole_lines doc.blocks) (text_whole doc.head head) (blocks_whole doc.blocks blocks) in
    let read : lines (canonical_text doc) ≡ doc.head ++ whole_lines doc.blocks = lines-ended_by_line_feeds (doc_lines doc) (no_feeds (doc_lines doc) whole) (returns_kept (doc_lines doc) whole) in
    (TextMode, (doc.head, whole_lines doc.blocks, read, text_part doc.head head, blocks_spelled doc.blocks blocks))
