-- The place of a name, and the variables when one of them changes.
use Rattle.std.proofs.Common.{◌≡◌, ℕ, suc, ◌<◌, inl, inr, true, false, cond, List, [], ◌∷◌, ◌++◌, length, get_or, set, Option, Some, None, refl, ap, sym, ◌∙◌, subst, arith}
use Rattle.std.specs.Option.{option_map}
use Rattle.std.specs.Str.{bytes_eq}
use Rattle.std.proofs.lemmas.Bool.{cases_Bool, false≢true, false_from_ne_true}
use Rattle.std.proofs.lemmas.Slice.Eq.{bytes_eq-Decides}
use Rattle.sk_grammar.specs.declared.value.Value.{Value}
use Rattle.sk_grammar.specs.Document.{ItemView}
use Rattle.sk_grammar.specs.Variables.{VariableView, joined, values_at}
use Rattle.sk_pool.specs.Assigning.{assigned, values_behind, place_in}

bytes_eq_same : (name : List ℕ) → bytes_eq name name ≡ true
bytes_eq_same name = (bytes_eq-Decides name name).1 refl

pub bytes_eq_flip : (a b : List ℕ) → bytes_eq a b ≡ false → bytes_eq b a ≡ false
bytes_eq_flip a b differ = false_from_ne_true (bytes_eq b a) (λ same. false≢true (sym differ ∙ (bytes_eq-Decides a b).1 (sym ((bytes_eq-Decides b a).0 same))))

suc_of : (o : Option ℕ) (p : ℕ) → option_map suc o ≡ Some p → (q : ℕ) × (o ≡ Some q) × (suc q ≡ p)
suc_of None p e = cc
suc_of (Some q) p e = (q, refl, cc)

none_of : (o : Option ℕ) → option_map suc o ≡ None → o ≡ None
none_of None e = refl
none_of (Some q) e = cc

-- what stands at the name's place
pub record Found (names : List (List ℕ)) (values : List (List Value)) (item : ItemView) (p : ℕ) : Type 0 where
  pub within : p < length names
  pub held : (d : List Value) → values_at item.name (joined names values) ≡ Some (get_or values p d)
  pub behind : (d : List Value) → assigned (joined names values) item ≡ joined names (set values p (values_behind (get_or values p d) item))

pub found : (names : List (List ℕ)) (values : List (List Value)) (item : ItemView) (p : ℕ) → length names ≡ length values → place_in names item.name ≡ Some p → Found names values item p
found [] values item p same e = cc
found (name ∷ names) [] item p same e = absurd (omega arith)
found (name ∷ names) (vs ∷ values) item p same e =
    elim (cases_Bool (bytes_eq name item.name)) [
      | inl here ↦
          let first : Some 0 ≡ Some p = rw here at e in
          let zero_is : 0 ≡ p = cc in
          subst (λ (n : ℕ). Found (name ∷ names) (vs ∷ values) item n) zero_is (record { within = omega arith; held = λ d. rw here refl; behind = λ d. rw here refl })
      | inr other ↦
          let later : option_map suc (place_in names item.name) ≡ Some p = rw other at e in
          let q = suc_of (place_in names item.name) p later in
          let below = found names values item q.0 (omega arith) q.1 in
          subst (λ (n : ℕ). Found (name ∷ names) (vs ∷ values) item n) q.2
          (record {
            within = omega (arith, below.within);
            held = λ d. rw other (below.held d);
            behind = λ d. rw other (ap (λ (variables : List VariableView). record { name = name; values = vs } ∷ variables) (below.behind d));
          })
    ]

-- no variable has the name
pub record Absent (names : List (List ℕ)) (values : List (List Value)) (item : ItemView) : Type 0 where
  pub held : values_at item.name (joined names values) ≡ None
  pub behind : assigned (joined names values) item ≡ joined (names ++ item.name ∷ []) (values ++ item.values ∷ [])

pub absent : (names : List (List ℕ)) (values : List (List Value)) (item : ItemView) → length names ≡ length values → place_in names item.name ≡ None → Absent names values item
absent [] [] item same e = record { held = refl; behind = refl }
absent [] (vs ∷ values) item same e = absurd (omega arith)
absent (name ∷ names) [] item same e = absurd (omega arith)
absent (name ∷ names) (vs ∷ values) item same e =
    elim (cases_Bool (bytes_eq name item.name)) [
      | inl here ↦ let first : ◌≡◌ {A = Option ℕ} (Some 0) None = rw here at e in cc
      | inr other ↦
          let later : option_map suc (place_in names item.name) ≡ None = rw other at e in
          let below = absent names values item (omega arith) (none_of (place_in names item.name) later) in
          record {
            held = rw other below.held;
            behind = rw other (ap (λ (variables : List VariableView). record { name = name; values = vs } ∷ variables) below.behind);
          }
    ]

pub place_in-push : (names : List (List ℕ)) (name other : List ℕ) → place_in names name ≡ None → place_in (names ++ name ∷ []) other ≡ cond (bytes_eq name other) (Some (length names)) (place_in names other)
place_in-push [] name other e = refl
place_in-push (first ∷ names) name other e =
    elim (cases_Bool (bytes_eq first name)) [
      | inl here ↦ let known : ◌≡◌ {A = Option ℕ} (Some 0) None = rw here at e in cc
      | inr differs ↦
          let later : option_map suc (place_in names name) ≡ None = rw differs at e in
          let below = place_in-push names name other (none_of (place_in names name) later) in
          elim (cases_Bool (bytes_eq first other)) [
            | inl here ↦
                let is : first ≡ other = (bytes_eq-Decides first other).0 here in
                let apart : bytes_eq name other ≡ false = subst (λ (n : List ℕ). bytes_eq name n ≡ false) is (bytes_eq_flip first name differs) in
                rw (here, apart) refl
            | inr there ↦
                elim (cases_Bool (bytes_eq name other)) [
                  | inl new ↦ let at_end : place_in (names ++ name ∷ []) other ≡ Some (length names) = rw new at below in rw (there, new, at_end) refl
                  | inr old ↦ let before : place_in (names ++ name ∷ []) other ≡ place_in names other = rw old at below in rw (there, old, before) refl
                ]
          ]
    ]
