-- The variables of a list of items, behind one more item.
use Rattle.std.proofs.Common.{◌≡◌, ◌≢◌, ℕ, zero, suc, ◌<◌, Bool, true, false, cond, not, inl, inr, List, [], ◌∷◌, ◌++◌, length, map, get_or, refl, ap, sym, ◌∙◌, subst, arith, append-nil}
use Rattle.std.specs.Option.{unwrap_or}
use Rattle.std.specs.List.{filter, flat_map, list_any, AllPairs}
use Rattle.std.specs.Str.{bytes_eq}
use Rattle.std.proofs.lemmas.Bool.{cases_Bool, or_parts, or_right, false≢true}
use Rattle.std.proofs.lemmas.Slice.Eq.{bytes_eq-Decides}
use Rattle.std.proofs.lemmas.List.Elements.{filter-append}
use Rattle.std.proofs.lemmas.List.Concat.{flat_map-append}
use Rattle.std.proofs.lemmas.List.Folds.{list_any-append}
use Rattle.sk_grammar.specs.declared.value.Value.{Value}
use Rattle.sk_grammar.specs.declared.value.Op.{Op}
use Rattle.sk_grammar.specs.declared.value.Op.TheVariants.{Set, Append}
use Rattle.sk_grammar.specs.Document.{ItemView}
use Rattle.sk_grammar.specs.Variables.{VariableView, is_set, from_last_set, assigning, values_of, names_of, variables_of, values_at}
use Rattle.sk_pool.specs.Assigning.{assigned, values_behind}
use Rattle.sk_pool.proofs.Finding.{bytes_eq_flip}

-- whether the name is among them
abbrev has : List ℕ → List (List ℕ) → Bool
has name names = list_any (λ other. bytes_eq other name) names

abbrev without : List ℕ → List (List ℕ) → List (List ℕ)
without name names = filter (λ other. not (bytes_eq other name)) names

abbrev Apart : List (List ℕ) → Type 0
Apart [] = Unit {0}
Apart (name ∷ names) = (has name names ≡ false) × Apart names

-- the name at the end, unless it is there
abbrev pushed : List (List ℕ) → List ℕ → List (List ℕ)
pushed [] name = name ∷ []
pushed (first ∷ names) name = cond (bytes_eq first name) (first ∷ names) (first ∷ pushed names name)

same_name : (a b : List ℕ) → bytes_eq a b ≡ true → a ≡ b
same_name a b = (bytes_eq-Decides a b).0

differs_from : (a b c : List ℕ) → bytes_eq a b ≡ true → bytes_eq b c ≡ false → bytes_eq a c ≡ false
differs_from a b c same differ = subst (λ (x : List ℕ). bytes_eq x c ≡ false) (sym (same_name a b same)) differ

-- ---- names

has-without_other : (name gone : List ℕ) (names : List (List ℕ)) → bytes_eq gone name ≡ false → has name (without gone names) ≡ has name names
has-without_other name gone [] differ = refl
has-without_other name gone (n ∷ names) differ =
    elim (cases_Bool (bytes_eq n gone)) [
      | inl same ↦ rw (same, differs_from n gone name same differ) (has-without_other name gone names differ)
      | inr kept ↦ rw (kept, has-without_other name gone names differ) refl
    ]

has-without_same : (name : List ℕ) (names : List (List ℕ)) → has name (without name names) ≡ false
has-without_same name [] = refl
has-without_same name (n ∷ names) =
    elim (cases_Bool (bytes_eq n name)) [
      | inl same ↦ rw same (has-without_same name names)
      | inr kept ↦ rw (kept, kept) (has-without_same name names)
    ]

has_not-without : (name gone : List ℕ) (names : List (List ℕ)) → has name names ≡ false → has name (without gone names) ≡ false
has_not-without name gone [] none = refl
has_not-without name gone (n ∷ names) none =
    let parts = or_parts (bytes_eq n name) (has name names) none in
    let first : bytes_eq n name ≡ false = parts.0 in
    elim (cases_Bool (bytes_eq n gone)) [
      | inl same ↦ rw same (has_not-without name gone names parts.1)
      | inr kept ↦ rw (kept, first) (has_not-without name gone names parts.1)
    ]

Apart-without : (gone : List ℕ) (names : List (List ℕ)) → Apart names → Apart (without gone names)
Apart-without gone [] apart = tt
Apart-without gone (n ∷ names) apart =
    elim (cases_Bool (bytes_eq n gone)) [
      | inl same ↦ rw same (Apart-without gone names apart.1)
      | inr kept ↦ rw kept (has_not-without n gone names apart.0, Apart-without gone names apart.1)
    ]

pub Apart-names_of : (items : List ItemView) → Apart (names_of items)
Apart-names_of [] = tt
Apart-names_of (item ∷ items) = (has-without_same item.name (names_of items), Apart-without item.name (names_of items) (Apart-names_of items))

without-pushed : (gone name : List ℕ) (names : List (List ℕ)) → without gone (pushed names name) ≡ cond (bytes_eq gone name) (without gone names) (pushed (without gone names) name)
without-pushed gone name [] =
    elim (cases_Bool (bytes_eq gone name)) [
      | inl same ↦ let back : bytes_eq name gone ≡ true = (bytes_eq-Decides name gone).1 (sym (same_name gone name same)) in rw (same, back) refl
      | inr differ ↦ rw (differ, bytes_eq_flip gone name differ) refl
    ]
without-pushed gone name (n ∷ names) =
    elim (cases_Bool (bytes_eq gone name)) [
      | inl same ↦
          let below : without gone (pushed names name) ≡ without gone names = rw same at (without-pushed gone name names) in
          elim (cases_Bool (bytes_eq n name)) [
            | inl here ↦ rw (same, here) refl
            | inr there ↦ rw (same, there, below) refl
          ]
      | inr differ ↦
          let below : without gone (pushed names name) ≡ pushed (without gone names) name = rw differ at (without-pushed gone name names) in
          elim (cases_Bool (bytes_eq n name)) [
            | inl here ↦
                let kept : bytes_eq n gone ≡ false = differs_from n name gone here (bytes_eq_flip gone name differ) in
                rw (differ, here, kept, here) refl
            | inr there ↦
                elim (cases_Bool (bytes_eq n gone)) [
                  | inl gone_too ↦ rw (differ, there, gone_too) below
                  | inr kept ↦ rw (differ, there, kept, there, below) refl
                ]
          ]
    ]

front : (first : List ℕ) (b : Bool) (names others : List (List ℕ)) → first ∷ cond b names others ≡ cond b (first ∷ names) (first ∷ others)
front first true names others = refl
front first false names others = refl

pub names_of-push : (items : List ItemView) (item : ItemView) → names_of (items ++ item ∷ []) ≡ pushed (names_of items) item.name
names_of-push [] item = refl
names_of-push (first ∷ items) item =
    ap (λ (names : List (List ℕ)). first.name ∷ without first.name names) (names_of-push items item)
    ∙ ap (λ (names : List (List ℕ)). first.name ∷ names) (without-pushed first.name item.name (names_of items))
    ∙ front first.name (bytes_eq first.name item.name) (without first.name (names_of items)) (pushed (without first.name (names_of items)) item.name)

-- ---- values

from_last_set-push : (items : List ItemView) (item : ItemView) → from_last_set (items ++ item ∷ []) ≡ cond (is_set item) (item ∷ []) (from_last_set items ++ item ∷ [])
from_last_set-push [] item =
    elim (cases_Bool (is_set item)) [
      | inl set ↦ rw set refl
      | inr adds ↦ rw adds refl
    ]
from_last_set-push (first ∷ items) item =
    let any = list_any-append is_set items (item ∷ []) in
    elim (cases_Bool (is_set item)) [
      | inl set ↦
          let below : from_last_set (items ++ item ∷ []) ≡ item ∷ [] = rw set at (from_last_set-push items item) in
          let found : list_any is_set (items ++ item ∷ []) ≡ true = any ∙ rw set (or_right (list_any is_set items) true refl) in
          rw (set, found) below
      | inr adds ↦
          let below : from_last_set (items ++ item ∷ []) ≡ from_last_set items ++ item ∷ [] = rw adds at (from_last_set-push items item) in
          elim (cases_Bool (list_any is_set items)) [
            | inl held ↦
                let found : list_any is_set (items ++ item ∷ []) ≡ true = any ∙ rw held refl in
                rw (adds, found, held) below
            | inr none ↦
                let found : list_any is_set (items ++ item ∷ []) ≡ false = any ∙ rw (none, adds) refl in
                rw (adds, found, none) refl
          ]
    ]

assigning-other : (name : List ℕ) (items : List ItemView) (item : ItemView) → bytes_eq item.name name ≡ false → assigning name (items ++ item ∷ []) ≡ assigning name items
assigning-other name items item differ =
    filter-append (λ (i : ItemView). bytes_eq i.name name) items (item ∷ []) ∙ rw differ (append-nil (assigning name items))

assigning-same : (name : List ℕ) (items : List ItemView) (item : ItemView) → bytes_eq item.name name ≡ true → assigning name (items ++ item ∷ []) ≡ assigning name items ++ item ∷ []
assigning-same name items item same = filter-append (λ (i : ItemView). bytes_eq i.name name) items (item ∷ []) ∙ rw same refl

pub values_of-other : (name : List ℕ) (items : List ItemView) (item : ItemView) → bytes_eq item.name name ≡ false → values_of name (items ++ item ∷ []) ≡ values_of name items
values_of-other name items item differ = ap (λ (is : List ItemView). flat_map (λ (i : ItemView). i.values) (from_last_set is)) (assigning-other name items item differ)

behind : (items : List ItemView) (name : List ℕ) (op : Op) (values : List Value)
    → let item : ItemView = record { name = name; op = op; values = values } in
    flat_map (λ (i : ItemView). i.values) (cond (is_set item) (item ∷ []) (items ++ item ∷ [])) ≡ values_behind (flat_map (λ (i : ItemView). i.values) items) item
behind items name Set values = append-nil values
behind items name Append values =
    flat_map-append (λ (i : ItemView). i.values) items (record { name = name; op = Append; values = values } ∷ [])
    ∙ ap (λ (vs : List Value). flat_map (λ (i : ItemView). i.values) items ++ vs) (append-nil values)

pub values_of-same : (name : List ℕ) (items : List ItemView) (item : ItemView) → bytes_eq item.name name ≡ true → values_of name (items ++ item ∷ []) ≡ values_behind (values_of name items) item
values_of-same name items item same =
    ap (λ (is : List ItemView). flat_map (λ (i : ItemView). i.values) (from_last_set is)) (assigning-same name items item same)
    ∙ ap (flat_map (λ (i : ItemView). i.values)) (from_last_set-push (assigning name items) item)
    ∙ behind (from_last_set (assigning name items)) item.name item.op item.values

assigning-none : (name : List ℕ) (items : List ItemView) → has name (names_of items) ≡ false → assigning name items ≡ []
assigning-none name [] none = refl
assigning-none name (item ∷ items) none =
    let parts = or_parts (bytes_eq item.name name) (has name (without item.name (names_of items))) none in
    let first : bytes_eq item.name name ≡ false = parts.0 in
    rw first (assigning-none name items (sym (has-without_other name item.name (names_of items) first) ∙ parts.1))

pub values_of-none : (name : List ℕ) (items : List ItemView) → has name (names_of items) ≡ false → values_of name items ≡ []
values_of-none name items none = ap (λ (is : List ItemView). flat_map (λ (i : ItemView). i.values) (from_last_set is)) (assigning-none name items none)

-- ---- variables

abbrev with_values : (List ℕ → List Value) → List (List ℕ) → List VariableView
with_values of names = map (λ name. record { name = name; values = of name }) names

-- what the values become behind one more item
record Steps (old new : List ℕ → List Value) (item : ItemView) : Type 0 where
  same : (name : List ℕ) → bytes_eq item.name name ≡ true → new name ≡ values_behind (old name) item
  others : (name : List ℕ) → bytes_eq item.name name ≡ false → new name ≡ old name

with_values-others : (old new : List ℕ → List Value) (item : ItemView) (names : List (List ℕ)) → Steps old new item → has item.name names ≡ false → with_values old names ≡ with_values new names
with_values-others old new item [] steps none = refl
with_values-others old new item (n ∷ names) steps none =
    let parts = or_parts (bytes_eq n item.name) (has item.name names) none in
    let below = with_values-others old new item names steps parts.1 in
    let here = steps.others n (bytes_eq_flip n item.name parts.0) in
    cc

with_values-push : (old new : List ℕ → List Value) (item : ItemView) (names : List (List ℕ)) → Steps old new item → Apart names → (has item.name names ≡ false → new item.name ≡ item.values)
    → assigned (with_values old names) item ≡ with_values new (pushed names item.name)
with_values-push old new item [] steps apart absent = ap (λ (vs : List Value). record { name = item.name; values = vs } ∷ []) (sym (absent refl))
with_values-push old new item (n ∷ names) steps apart absent =
    elim (cases_Bool (bytes_eq n item.name)) [
      | inl here ↦
          let is : n ≡ item.name = same_name n item.name here in
          let back : bytes_eq item.name n ≡ true = (bytes_eq-Decides item.name n).1 (sym is) in
          let none : has item.name names ≡ false = subst (λ (x : List ℕ). has x names ≡ false) is apart.0 in
          let value = steps.same n back in
          let below = with_values-others old new item names steps none in
          rw here (ap (λ (vs : List Value). record { name = n; values = vs } ∷ with_values old names) (sym value) ∙ ap (λ (vs : List VariableView). record { name = n; values = new n } ∷ vs) below)
      | inr there ↦
          let below = with_values-push old new item names steps apart.1 (λ none. absent (rw there none)) in
          let value = steps.others n (bytes_eq_flip n item.name there) in
          rw there (ap (λ (vs : List Value). record { name = n; values = vs } ∷ assigned (with_values old names) item) (sym value) ∙ ap (λ (vs : List VariableView). record { name = n; values = new n } ∷ vs) below)
    ]

first_values : (name : List ℕ) (op : Op) (values : List Value) → values_behind [] (record { name = name; op = op; values = values }) ≡ values
first_values name Set values = refl
first_values name Append values = refl

-- the variables of one more item
pub variables_of-push : (items : List ItemView) (item : ItemView) → variables_of (items ++ item ∷ []) ≡ assigned (variables_of items) item
variables_of-push items item =
    let old : List ℕ → List Value = λ name. values_of name items in
    let new : List ℕ → List Value = λ name. values_of name (items ++ item ∷ []) in
    let steps : Steps old new item = record { same = λ name same. values_of-same name items item same; others = λ name differ. values_of-other name items item differ } in
    let absent : has item.name (names_of items) ≡ false → new item.name ≡ item.values = λ none.
    values_of-same item.name items item ((bytes_eq-Decides item.name item.name).1 refl) ∙ ap (λ (vs : List Value). values_behind vs item) (values_of-none item.name items none) ∙ first_values item.name item.op item.values in
    ap (with_values new) (names_of-push items item) ∙ sym (with_values-push old new item (names_of items) steps (Apart-names_of items) absent)

values_at-with_values : (old : List ℕ → List Value) (name : List ℕ) (names : List (List ℕ)) → (has name names ≡ false → old name ≡ []) → unwrap_or (values_at name (with_values old names)) [] ≡ old name
values_at-with_values old name [] absent = sym (absent refl)
values_at-with_values old name (n ∷ names) absent =
    elim (cases_Bool (bytes_eq n name)) [
      | inl here ↦ rw here (ap old (same_name n name here))
      | inr there ↦ rw there (values_at-with_values old name names (λ none. absent (rw there none)))
    ]

-- what a variable holds, or nothing where there is none
pub values_at-variables_of : (name : List ℕ) (items : List ItemView) → unwrap_or (values_at name (variables_of items)) [] ≡ values_of name items
values_at-variables_of name items = values_at-with_values (λ n. values_of n items) name (names_of items) (values_of-none name items)

names_at : (of : List ℕ → List Value) (name : List ℕ) (names : List (List ℕ)) → has name names ≡ false → (k : ℕ) (d : VariableView) → k < length (with_values of names) → name ≢ (get_or (with_values of names) k d).name
names_at of name [] none k d below = absurd (omega arith)
names_at of name (n ∷ names) none zero d below =
    λ same. absurd (false≢true (sym (or_parts (bytes_eq n name) (has name names) none).0 ∙ (bytes_eq-Decides n name).1 (sym same)))
names_at of name (n ∷ names) none (suc k) d below = names_at of name names (or_parts (bytes_eq n name) (has name names) none).1 k d (omega arith)

once : (of : List ℕ → List Value) (names : List (List ℕ)) → Apart names → AllPairs (λ a b. a.name ≢ b.name) (with_values of names)
once of [] apart i j d before below = absurd (omega arith)
once of (n ∷ names) apart i zero d before below = absurd (omega arith)
once of (n ∷ names) apart zero (suc j) d before below = names_at of n names apart.0 j d (omega arith)
once of (n ∷ names) apart (suc i) (suc j) d before below = once of names apart.1 i j d (omega arith) (omega arith)

-- no name stands twice
pub variables_of-once : (items : List ItemView) → AllPairs (λ a b. a.name ≢ b.name) (variables_of items)
variables_of-once items = once (λ name. values_of name items) (names_of items) (Apart-names_of items)
