-- What is known of a candidate's block and of the ticks of its observations.
use Rattle.std.proofs.Common.{◌≡◌, ℕ, zero, suc, ◌+◌, ◌%◌, ◌<◌, Bool, true, false, cond, List, [], ◌∷◌, ◌++◌, length, drop, Option, Some, None, refl, sym, ap, subst, ◌∙◌, arith}
use Rattle.std.proofs.lemmas.List.Elements.{All-head, All-tail}
use Rattle.std.proofs.lemmas.Option.{same_Some, none-some}
use Rattle.std.specs.Prelude.{All, IsSome, codes, flat_map, nat_le, slice_get, unwrap_or}
use Rattle.std.specs.Option.{option_map}
use Rattle.std.specs.List.{AllByRecursion, list_all}
use Rattle.sk_grammar.specs.declared.value.Value.{Value}
use Rattle.sk_grammar.specs.declared.value.Value.TheVariants.{Date}
use Rattle.sk_grammar.specs.declared.value.Op.TheVariants.{Set, Append}
use Rattle.sk_grammar.specs.Canonical.{is_number}
use Rattle.sk_grammar.specs.Document.{ItemView, BlockView, DocView, IsDate, IsValue, IsItem, IsBlock, IsDoc}
use Rattle.sk_line.specs.Triple.{TripleView, coefficients_name}
use Rattle.sk_line.specs.Line.{covering, covering_from}
use Rattle.sk_line.proofs.Lists.{heads, tails}
use Rattle.sk_publishing.specs.Row.{RowView}
use Rattle.sk_publishing.specs.Terms.{Sight, sights_from}
use Rattle.sk_publishing.specs.Published.{triple_values, id_items, coefficient_items, appended}

-- ---- ticks

begun : (b : Bool) (x y : ℕ × TripleView) → IsSome (cond b (Some x) None) → IsSome (cond b (Some y) None)
begun true x y h = refl
begun false x y h = h

-- whether a tick has a triple is told by the first one
pub some_with : (ts more : List TripleView) (tick : ℕ) → IsSome (covering ts tick) → IsSome (covering (ts ++ more) tick)
some_with [] more tick h = let none : false ≡ true = h in cc
some_with (t ∷ ts) more tick h =
    begun (nat_le t.anchor.ticks tick) (unwrap_or (covering_from 2 ts tick) (1, t)) (unwrap_or (covering_from 2 (ts ++ more) tick) (1, t)) h

pub some_without : (ts more : List TripleView) (tick : ℕ) → 0 < length ts → IsSome (covering (ts ++ more) tick) → IsSome (covering ts tick)
some_without [] more tick some h = absurd (omega (arith, some))
some_without (t ∷ ts) more tick some h =
    begun (nat_le t.anchor.ticks tick) (unwrap_or (covering_from 2 (ts ++ more) tick) (1, t)) (unwrap_or (covering_from 2 ts tick) (1, t)) h

-- what holds of the ticks of all observations holds of each, and the other way round
pub tick_at : (P : ℕ → Type 0) (place : ℕ) (rows : List RowView) (n : ℕ) (o : Sight) → AllByRecursion (λ row. P row.tick) rows → slice_get (sights_from place rows) n ≡ Some o → P o.tick
tick_at P place [] n o all e = absurd (none-some o e)
tick_at P place (row ∷ rows) zero o all e = subst (λ (s : Sight). P s.tick) (same_Some (record { place = place; tick = row.tick; time = row.time }) o e) all.0
tick_at P place (row ∷ rows) (suc n) o all e = tick_at P (place + 1) rows n o all.1 e

pub all_ticks : (P : ℕ → Type 0) (place : ℕ) (rows : List RowView) → ((n : ℕ) (o : Sight) → slice_get (sights_from place rows) n ≡ Some o → P o.tick) → AllByRecursion (λ row. P row.tick) rows
all_ticks P place [] h = tt
all_ticks P place (row ∷ rows) h = (h 0 (record { place = place; tick = row.tick; time = row.time }) refl, all_ticks P (place + 1) rows (λ n o e. h (suc n) o e))

-- ---- values of triples

pub numbers_are : (ts : List TripleView) → list_all is_number (flat_map triple_values ts) ≡ true
numbers_are [] = refl
numbers_are (t ∷ ts) = numbers_are ts

pub in_threes : (ts : List TripleView) → length (flat_map triple_values ts) % 3 ≡ 0
in_threes [] = refl
in_threes (t ∷ ts) = let rest = in_threes ts in omega (arith, rest)

-- ---- items

not_id : (sc : ℕ) → coefficients_name sc ≡ codes "SCLK_KERNEL_ID" → ⊥
not_id sc e = let fifth : 48 ≡ 95 = same_Some 48 95 (ap (λ (name : List ℕ). slice_get name 4) e) in omega (arith, fifth)

abbrev id_item : List ℕ → ItemView
id_item date = record { name = codes "SCLK_KERNEL_ID"; op = Set; values = Date date ∷ [] }

abbrev numbers_item : ℕ → Value → List Value → ItemView
numbers_item sc value values = record { name = coefficients_name sc; op = Append; values = value ∷ values }

numbers_one : (sc : ℕ) (v w : List Value) → coefficient_items sc v ≡ coefficient_items sc w → v ≡ w
numbers_one sc [] [] e = refl
numbers_one sc [] (y ∷ w) e = cc
numbers_one sc (x ∷ v) [] e = cc
numbers_one sc (x ∷ v) (y ∷ w) e = ap (λ (item : ItemView). item.values) (heads (numbers_item sc x v) (numbers_item sc y w) [] [] e)

id_first : (sc : ℕ) (v : List Value) (date : List ℕ) (items : List ItemView) → coefficient_items sc v ≡ id_items (Some date) ++ items → ⊥
id_first sc [] date items e = cc
id_first sc (x ∷ v) date items e = not_id sc (ap (λ (item : ItemView). item.name) (heads (numbers_item sc x v) (id_item date) [] items e))

-- the items have one reading
pub values_one : (sc : ℕ) (a b : Option (List ℕ)) (v w : List Value) → id_items a ++ coefficient_items sc v ≡ id_items b ++ coefficient_items sc w → v ≡ w
values_one sc None None v w e = numbers_one sc v w e
values_one sc None (Some b) v w e = absurd (id_first sc v b (coefficient_items sc w) e)
values_one sc (Some a) None v w e = absurd (id_first sc w a (coefficient_items sc v) (sym e))
values_one sc (Some a) (Some b) v w e = numbers_one sc v w (tails (id_item a) (id_item b) (coefficient_items sc v) (coefficient_items sc w) e)

-- ---- the kernel ID

all_behind : {X : Type 0} (P : X → Type 0) (xs ys : List X) → All P (xs ++ ys) → All P ys
all_behind P [] ys h = h
all_behind P (x ∷ xs) ys h = all_behind P xs ys (All-tail P x (xs ++ ys) h)

-- the text of a date
abbrev pub text_of : Option (List ℕ) → Option (List ℕ)
text_of None = None
text_of (Some date) = Some (drop 1 date)

at_sign_back : (date : List ℕ) → IsDate date → codes "@" ++ drop 1 date ≡ date
at_sign_back date is = ap (λ (d : List ℕ). codes "@" ++ drop 1 d) is.at_sign ∙ sym is.at_sign

pub dated_back : (sc : ℕ) (old : DocView) (block : BlockView) (date : Option (List ℕ)) (values : List Value) → IsDoc (appended old block)
    → block.items ≡ id_items date ++ coefficient_items sc values → option_map (λ (text : List ℕ). codes "@" ++ text) (text_of date) ≡ date
dated_back sc old block None values valid items = refl
dated_back sc old block (Some date) values valid items =
    let is_block : IsBlock block = All-head IsBlock block [] (all_behind IsBlock old.blocks (block ∷ []) valid.blocks) in
    let is_item : IsItem (id_item date) = All-head IsItem (id_item date) (coefficient_items sc values) (subst (All IsItem) items is_block.items) in
    ap Some (at_sign_back date (All-head IsValue (Date date) [] is_item.values))
