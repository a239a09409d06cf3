-- The item with the numbers of new triples is valid.
use Rattle.std.proofs.Common.{◌≡◌, ℕ, ◌+◌, ◌%◌, ◌^◌, ◌<◌, ◌≤◌, true, false, List, [], ◌∷◌, ◌++◌, length, codes, refl, inr, arith, length-append}
use Rattle.std.specs.Prelude.{pos, decimal}
use Rattle.std.specs.List.{All, list_all, list_any, flat_map}
use Rattle.std.proofs.lemmas.Bool.{and_from}
use Rattle.std.proofs.lemmas.Bool.Decides.{nat_tests}
use Rattle.std.proofs.lemmas.Fmt.{decimal_by_steps_wide, length-decimal-le_wide}
use Rattle.std.proofs.lemmas.List.Elements.{All-nil, All-cons, All-head, All-tail}
use Rattle.sk_grammar.specs.declared.value.Value.{Value}
use Rattle.sk_grammar.specs.declared.value.Value.TheVariants.{Number}
use Rattle.sk_grammar.specs.declared.value.Op.TheVariants.{Append}
use Rattle.sk_grammar.specs.Document.{ItemView, IsName, IsValue, IsItem, is_name_byte, is_text}
use Rattle.sk_grammar.proofs.PlainLines.{all_both}
use Rattle.sk_line.specs.Triple.{TripleView}
use Rattle.sk_publishing.specs.Published.{reduced, triple_values, coefficient_items}
use Rattle.sk_line.specs.Triple.{coefficients_name}
use Rattle.sk_publication.specs.Publication.{HasNumbers}
use Rattle.sk_publication.proofs.Reduced.{reduced_decimal}

-- ---- the name

digit_byte : (d : ℕ) → d < 10 → is_name_byte (48 + d) ≡ true
digit_byte d h = grind (arith, nat_tests)

digits_named : (n : ℕ) → n < 10 ^ 64 → list_all is_name_byte (decimal n) ≡ true
digits_named n h =
    decimal_by_steps_wide (λ m ds. list_all is_name_byte ds ≡ true) (λ m small. and_from _ _ (digit_byte m small) refl)
    (λ m ds large all. all_both is_name_byte ds ((48 + m % 10) ∷ []) all (and_from _ _ (digit_byte (m % 10) (omega arith)) refl)) n h

pub name_valid : (sc : ℕ) → sc ≤ 999999999 → IsName (coefficients_name sc)
name_valid sc h =
    let front = codes "SCLK01_COEFFICIENTS_" in
    let digits : length (decimal sc) ≤ 9 = length-decimal-le_wide 9 sc (omega arith) (omega arith) (omega arith) in
    let size : length (front ++ decimal sc) ≡ 20 + length (decimal sc) = length-append front (decimal sc) in
    record {
      not_empty = omega (arith, size);
      short = omega (arith, size, digits);
      bytes = all_both is_name_byte front (decimal sc) refl (digits_named sc (omega arith));
    }

-- ---- the values

values_valid : (triples : List TripleView) → All HasNumbers triples → All IsValue (flat_map triple_values triples)
values_valid [] h = All-nil IsValue
values_valid (t ∷ triples) h =
    let has = All-head HasNumbers t triples h in
    let rate = Number (reduced 18 t.rate) ∷ flat_map triple_values triples in
    let time = Number (reduced 18 t.anchor.time) ∷ rate in
    All-cons IsValue (Number (reduced 0 (pos t.anchor.ticks))) time (reduced_decimal 0 (pos t.anchor.ticks) (omega arith) (omega (arith, has.ticks)))
    (All-cons IsValue (Number (reduced 18 t.anchor.time)) rate (reduced_decimal 18 t.anchor.time (omega arith) has.time)
    (All-cons IsValue (Number (reduced 18 t.rate)) (flat_map triple_values triples) (reduced_decimal 18 t.rate (omega arith) has.rate)
    (values_valid triples (All-tail HasNumbers t triples h))))

no_text : (triples : List TripleView) → list_any is_text (flat_map triple_values triples) ≡ false
no_text [] = refl
no_text (t ∷ triples) = no_text triples

some_values : (triples : List TripleView) → 0 < length triples → 0 < length (flat_map triple_values triples)
some_values [] h = absurd (omega arith)
some_values (t ∷ triples) h = omega arith

-- the item with the numbers of these triples
abbrev pub item_of : ℕ → List TripleView → ItemView
item_of sc triples = record { name = coefficients_name sc; op = Append; values = flat_map triple_values triples }

abbrev pub item_with : List ℕ → List Value → ItemView
item_with name values = record { name = name; op = Append; values = values }

pub item_valid : (sc : ℕ) (triples : List TripleView) → sc ≤ 999999999 → 0 < length triples → All HasNumbers triples → IsItem (item_of sc triples)
item_valid sc triples h some has = record {
  name = name_valid sc h;
  not_empty = some_values triples some;
  values = values_valid triples has;
  one_kind = inr (no_text triples);
}

-- ---- the item

pub same_item : (name : List ℕ) (values : List Value) (sc : ℕ) (triples : List TripleView) → name ≡ coefficients_name sc → values ≡ flat_map triple_values triples → item_with name values ≡ item_of sc triples
same_item name values sc triples p q = λ i. record { name = p i; op = Append; values = q i }

pub one_item : (sc : ℕ) (triples : List TripleView) → 0 < length triples → coefficient_items sc (flat_map triple_values triples) ≡ item_of sc triples ∷ []
one_item sc [] h = absurd (omega arith)
one_item sc (t ∷ triples) h = refl
