-- A value is the number of units exactly where the number has these units.
use Rattle.std.proofs.Common.{◌≡◌, ℕ, ◌^◌, ◌<◌, ◌≤◌, zero, suc, false, IsTrue, List, [], ◌∷◌, ◌++◌, length, get_or, take, drop, sym, ap, subst, ◌∙◌, arith}
use Rattle.std.proofs.Math.Seq.{drop-cons}
use Rattle.std.proofs.lemmas.List.{take-append-drop}
use Rattle.std.proofs.lemmas.List.Concat.{flat_map-append}
use Rattle.std.specs.List.{All, flat_map}
use Rattle.std.proofs.lemmas.List.Elements.{All-tail}
use Rattle.sk_line.specs.Triple.{TripleView}
use Rattle.sk_grammar.specs.declared.value.Value.{Value}
use Rattle.sk_grammar.specs.declared.value.Value.TheVariants.{Number}
use Rattle.std.specs.Prelude.{ℤ, nat_abs}
use Rattle.sk_decimal.specs.Number.{DecimalView, IsDecimal}
use Rattle.sk_decimal.specs.Fixed.{HasUnits, fixed_text}
use Rattle.sk_decimal.proofs.Exact.{one_decimal}
use Rattle.sk_decimal.proofs.Printed.{fixed_text_spells}
use Rattle.sk_publishing.specs.Published.{reduced, triple_values}
use Rattle.sk_publication.proofs.Reduced.{reduced_decimal, reduced_units}

pub is_reduced : (places : ℕ) (units : ℤ) (d : DecimalView) → places ≤ 18 → nat_abs units < 2 ^ 127 → IsDecimal d → HasUnits places d units → d ≡ reduced places units
is_reduced places units d few small is has =
    one_decimal (fixed_text places units) d (reduced places units)
    (fixed_text_spells places units d is has small)
    (fixed_text_spells places units (reduced places units) (reduced_decimal places units (omega arith) small) (reduced_units places units) small)

pub has_units : (places : ℕ) (units : ℤ) (d : DecimalView) → d ≡ reduced places units → HasUnits places d units
has_units places units d e = subst (λ (x : DecimalView). HasUnits places x units) (sym e) (reduced_units places units)

pub same_number : (a b : DecimalView) → Number a ≡ Number b → a ≡ b
same_number a b e = cc

-- ---- three values, and more

pub three_same : (a b c x y z : Value) → a ≡ x → b ≡ y → c ≡ z → a ∷ b ∷ c ∷ [] ≡ x ∷ y ∷ z ∷ []
three_same a b c x y z p q r = cc

pub three_parts : (a b c x y z : Value) → a ∷ b ∷ c ∷ [] ≡ x ∷ y ∷ z ∷ [] → (a ≡ x) × (b ≡ y) × (c ≡ z)
three_parts a b c x y z e = (cc, cc, cc)

pub list_three : (xs : List Value) (a b c : Value) → 3 ≤ length xs → length xs < 4 → a ≡ get_or xs 0 a → b ≡ get_or xs 1 b → c ≡ get_or xs 2 c → xs ≡ a ∷ b ∷ c ∷ []
list_three [] a b c few many p q r = absurd (omega arith)
list_three (x ∷ []) a b c few many p q r = absurd (omega arith)
list_three (x ∷ y ∷ []) a b c few many p q r = absurd (omega arith)
list_three (x ∷ y ∷ z ∷ []) a b c few many p q r = three_same x y z a b c (sym p) (sym q) (sym r)
list_three (x ∷ y ∷ z ∷ w ∷ xs) a b c few many p q r = absurd (omega arith)

pub no_true : IsTrue false → ⊥
no_true h = cc

-- ---- triples, one after the other

pub cancel : (xs ys zs : List Value) → xs ++ ys ≡ xs ++ zs → ys ≡ zs
cancel [] ys zs e = e
cancel (x ∷ xs) ys zs e = cancel xs ys zs (tail e)
  where
    tail : x ∷ (xs ++ ys) ≡ x ∷ (xs ++ zs) → xs ++ ys ≡ xs ++ zs
    tail e = cc

pub values_left : (values rest : List Value) (ts : List TripleView) (i : ℕ) (t : TripleView) → i < length ts → t ≡ get_or ts i t
    → values ≡ flat_map triple_values (take i ts) ++ rest → values ≡ flat_map triple_values ts
    → rest ≡ triple_values t ++ flat_map triple_values (drop (suc i) ts)
values_left values rest ts i t less at so_far all =
    let split : ts ≡ take i ts ++ t ∷ drop (suc i) ts =
    sym (take-append-drop i ts) ∙ ap (λ (z : List TripleView). take i ts ++ z) (drop-cons ts i t less ∙ ap (λ (x : TripleView). x ∷ drop (suc i) ts) (sym at)) in
    cancel (flat_map triple_values (take i ts)) rest (triple_values t ++ flat_map triple_values (drop (suc i) ts))
    (sym so_far ∙ all ∙ ap (flat_map triple_values) split ∙ flat_map-append triple_values (take i ts) (t ∷ drop (suc i) ts))

pub not_short : (rest : List Value) (t : TripleView) (more : List Value) → length rest < 3 → rest ≡ triple_values t ++ more → ⊥
not_short rest t more less e = let l = ap length e in omega arith

pub front_is : (three behind : List Value) (t : TripleView) (more : List Value) → length three ≡ 3 → three ++ behind ≡ triple_values t ++ more → three ≡ triple_values t
front_is (a ∷ b ∷ c ∷ []) behind t more long e = three_parts' a b c behind t more e
  where
    three_parts' : (a b c : Value) (behind : List Value) (t : TripleView) (more : List Value) → a ∷ b ∷ c ∷ behind ≡ triple_values t ++ more → a ∷ b ∷ c ∷ [] ≡ triple_values t
    three_parts' a b c behind t more e = cc
front_is [] behind t more long e = absurd (omega arith)
front_is (a ∷ []) behind t more long e = absurd (omega arith)
front_is (a ∷ b ∷ []) behind t more long e = absurd (omega arith)
front_is (a ∷ b ∷ c ∷ d ∷ three) behind t more long e = absurd (omega arith)

-- ---- parts of lists

pub front_values : (P : Value → Type 0) (xs ys : List Value) → All P (xs ++ ys) → All P xs
front_values P [] ys h k d less = absurd (omega arith)
front_values P (x ∷ xs) ys h zero d less = h 0 d (omega arith)
front_values P (x ∷ xs) ys h (suc k) d less = front_values P xs ys (All-tail P x (xs ++ ys) h) k d (omega arith)

pub back_values : (P : Value → Type 0) (xs ys : List Value) → All P (xs ++ ys) → All P ys
back_values P [] ys h = h
back_values P (x ∷ xs) ys h = back_values P xs ys (All-tail P x (xs ++ ys) h)
