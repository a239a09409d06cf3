-- Lists of values of one kind.
use Rattle.std.proofs.Common.{◌≡◌, ◌≢◌, ℕ, ◌<◌, inl, inr, Bool, true, false, not, ◌&&◌, ◌||◌, List, [], ◌∷◌, ◌++◌, length, refl, sym, ◌∙◌, arith, length-append, subst}
use Rattle.std.specs.Bool.{beq}
use Rattle.std.specs.List.{list_all, list_any}
use Rattle.std.proofs.lemmas.Bool.{cases_Bool, and_parts, false≢true}
use Rattle.std.proofs.lemmas.List.Elements.{All-append}
use Rattle.std.proofs.lemmas.List.Folds.{list_any-append, list_all-append}
use Rattle.sk_grammar.specs.declared.value.Value.{Value}
use Rattle.sk_grammar.specs.declared.value.Op.{Op}
use Rattle.sk_grammar.specs.declared.value.Op.TheVariants.{Set, Append}
use Rattle.sk_grammar.specs.Document.{ItemView, IsValue, AreOfOneKind, is_text}
use Rattle.sk_grammar.specs.Variables.{mixes}
use Rattle.sk_pool.specs.Assigning.{AreOneKind, begins_text, adds_mixed, values_behind}

-- one value or more, all texts or no texts
pub record HasKind (values : List Value) (text : Bool) : Type 0 where
  pub begins : begins_text values ≡ text
  pub texts : list_any is_text values ≡ text
  pub others : list_any (λ value. not (is_text value)) values ≡ not text
  pub all : text ≡ true → list_all is_text values ≡ true

all_texts : (values : List Value) → list_all is_text values ≡ true → list_any (λ value. not (is_text value)) values ≡ false
all_texts [] all = refl
all_texts (value ∷ values) all =
    let both = and_parts (is_text value) (list_all is_text values) all in
    let here : is_text value ≡ true = both.0 in
    rw (here, all_texts values both.1) refl

of_texts : (value : Value) (values : List Value) → list_all is_text (value ∷ values) ≡ true → HasKind (value ∷ values) true
of_texts value values all =
    let both = and_parts (is_text value) (list_all is_text values) all in
    let here : is_text value ≡ true = both.0 in
    record { begins = here; texts = rw here refl; others = all_texts (value ∷ values) all; all = λ _. all }

of_others : (value : Value) (values : List Value) → list_any is_text (value ∷ values) ≡ false → HasKind (value ∷ values) false
of_others value values none =
    elim (cases_Bool (is_text value)) [
      | inl text ↦ absurd (false≢true (sym none ∙ rw text refl))
      | inr other ↦ record { begins = other; texts = none; others = rw other refl; all = λ text. absurd (false≢true text) }
    ]

kind_of : (values : List Value) → 0 < length values → AreOfOneKind values → HasKind values (begins_text values)
kind_of [] some kind = absurd (omega arith)
kind_of (value ∷ values) some kind =
    elim kind [
      | inl all ↦ let k = of_texts value values all in rw k.begins k
      | inr none ↦ let k = of_others value values none in rw k.begins k
    ]

pub kind : (values : List Value) → AreOneKind values → HasKind values (begins_text values)
kind values one = kind_of values one.some one.one_kind

shown : (a b c d p q r s : Bool) → a ≡ p → b ≡ q → c ≡ r → d ≡ s → ((a && b) || (c && d)) ≡ ((p && q) || (r && s))
shown a b c d p q r s e f g h = cc

mixes_by : (held added : List Value) (text other : Bool) → HasKind held text → HasKind added other → mixes held added ≡ ((text && not other) || (not text && other))
mixes_by held added text other h a = shown _ _ _ _ _ _ _ _ h.texts a.others h.others a.texts

-- both begin alike
pub joins : (held added : List Value) (text : Bool) → HasKind held text → HasKind added text → (mixes held added ≡ false) × AreOfOneKind (held ++ added)
joins held added true h a = (
  mixes_by held added true true h a,
  inl (list_all-append is_text held added ∙ rw (h.all refl, a.all refl) refl),
)
joins held added false h a = (
  mixes_by held added false false h a,
  inr (list_any-append is_text held added ∙ rw (h.texts, a.texts) refl),
)

pub mixes_not : (held added : List Value) → AreOneKind held → AreOneKind added → begins_text held ≡ begins_text added → (mixes held added ≡ false) × AreOneKind (held ++ added)
mixes_not held added h a same =
    let both = joins held added (begins_text held) (kind held h) (rw same (kind added a)) in
    (both.0, record { some = omega (arith, length-append held added, h.some); one_kind = both.1; valid = All-append IsValue held added h.valid a.valid })

alike : (a b : Bool) → not (beq a b) ≡ false → a ≡ b
alike true true e = refl
alike true false e = cc
alike false true e = cc
alike false false e = refl

-- values of the same kind are appended
pub appended : (held added whole : List Value) (name : List ℕ) (op : Op) (a b : Bool) → op ≡ Append → a ≡ begins_text held → b ≡ begins_text added → not (beq a b) ≡ false
    → AreOneKind held → AreOneKind added → whole ≡ held ++ added
    → let item : ItemView = record { name = name; op = op; values = added } in (adds_mixed held item ≡ false) × (whole ≡ values_behind held item) × AreOneKind whole
appended held added whole name Set a b appends a_is b_is same h k whole_is = cc
appended held added whole name Append a b appends a_is b_is same h k whole_is =
    let begins_alike : begins_text held ≡ begins_text added = sym a_is ∙ alike a b same ∙ b_is in
    let both = mixes_not held added h k begins_alike in
    (both.0, whole_is, subst AreOneKind (sym whole_is) both.1)
