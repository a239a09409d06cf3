-- A document that bytes spell is valid, and so it is with the block of a publication behind it.
use Rattle.std.proofs.Common.{◌≡◌, ℕ, ◌<◌, ◌≤◌, false, List, [], ◌∷◌, length, Option, Some, None, refl, sym, subst, inl, inr, arith}
use Rattle.std.proofs.lemmas.Bool.{cases_Bool}
use Rattle.std.proofs.lemmas.List.Elements.{All-nil, All-cons, All-push, All-append}
use Rattle.std.specs.Prelude.{All, IfSome, codes, ◌==◌}
use Rattle.std.specs.List.{list_any, flat_map, slice_split, AllByRecursion}
use Rattle.sk_grammar.specs.declared.value.Value.TheVariants.{Date}
use Rattle.sk_grammar.specs.declared.value.Op.TheVariants.{Set}
use Rattle.sk_grammar.specs.Lines.{lines, lines_of_parts, is_line_feed}
use Rattle.sk_grammar.specs.Document.{ItemView, BlockView, DocView, IsDate, IsName, IsValue, IsItem, IsBlock, IsDoc, IsTextLine}
use Rattle.sk_grammar.specs.Spelling.{Spells}
use Rattle.sk_grammar.specs.Valid.{AreWhole}
use Rattle.sk_grammar.proofs.Validity.{whole_parts, whole_line, split_one, texts_valid, blocks_valid}
use Rattle.sk_line.specs.Triple.{TripleView}
use Rattle.sk_publishing.specs.Published.{id_items, coefficient_items, triple_values, published_block, appended}
use Rattle.sk_publication.specs.Publication.{HasNumbers}
use Rattle.sk_publication.proofs.Coefficients.{item_of, item_valid, one_item}

-- ---- what is spelled

parts_whole : (parts : List (List ℕ)) → AllByRecursion (λ p. list_any is_line_feed p ≡ false) parts → AreWhole (lines_of_parts parts)
parts_whole [] h = tt
parts_whole (p ∷ []) h = elim (cases_Bool (length p == 0)) [
  | inl none ↦ rw none tt
  | inr some ↦ rw some (whole_line p h.0, tt)
]
parts_whole (p ∷ q ∷ parts) h = (whole_line p h.0, parts_whole (q ∷ parts) h.1)

pub spelled_valid : (bytes : List ℕ) (doc : DocView) → Spells bytes doc → IsDoc doc
spelled_valid bytes doc s =
    let head : List (List ℕ) = s.1.0 in
    let others : List (List ℕ) = s.1.1 in
    let whole = whole_parts head others (subst AreWhole s.1.2 (parts_whole (slice_split is_line_feed bytes) (split_one bytes))) in
    record { head = texts_valid head doc.head whole.0 s.1.3; blocks = blocks_valid doc.blocks others s.0 whole.1 s.1.4 }

-- ---- the block of a publication

id_name : IsName (codes "SCLK_KERNEL_ID")
id_name = record { not_empty = omega arith; short = omega arith; bytes = refl }

id_valid : (date : Option (List ℕ)) → IfSome date IsDate → All IsItem (id_items date)
id_valid None h = All-nil IsItem
id_valid (Some date) h =
    let item : ItemView = record { name = codes "SCLK_KERNEL_ID"; op = Set; values = Date date ∷ [] } in
    let valid : IsItem item = record { name = id_name; not_empty = omega arith; values = All-cons IsValue (Date date) [] h (All-nil IsValue); one_kind = inr refl } in
    All-cons IsItem item [] valid (All-nil IsItem)

numbers_valid : (sc : ℕ) (new : List TripleView) → sc ≤ 999999999 → All HasNumbers new → All IsItem (coefficient_items sc (flat_map triple_values new))
numbers_valid sc [] few has = All-nil IsItem
numbers_valid sc (t ∷ new) few has =
    let some : 0 < length (t ∷ new) = omega arith in
    subst (All IsItem) (sym (one_item sc (t ∷ new) some)) (All-cons IsItem (item_of sc (t ∷ new)) [] (item_valid sc (t ∷ new) few some has) (All-nil IsItem))

pub published_valid : (doc : DocView) (date : Option (List ℕ)) (sc : ℕ) (new : List TripleView) (table : List (List ℕ)) → IsDoc doc → IfSome date IsDate → sc ≤ 999999999
    → All HasNumbers new → All IsTextLine table → IsDoc (appended doc (published_block date sc new table))
published_valid doc date sc new table valid dated few has lines =
    let block : BlockView = published_block date sc new table in
    let is_block : IsBlock block = record {
      items = All-append IsItem (id_items date) (coefficient_items sc (flat_map triple_values new)) (id_valid date dated) (numbers_valid sc new few has);
      text = lines;
    } in
    record { head = valid.head; blocks = All-push IsBlock doc.blocks block valid.blocks is_block }
