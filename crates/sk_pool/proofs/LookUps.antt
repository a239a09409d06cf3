-- Looking a variable up.
use Rattle.std.proofs.Common.{◌≡◌, ℕ, suc, ◌<◌, ◌+◌, cond, not, ltb, inl, inr, List, [], ◌∷◌, length, get_or, Some, None, refl, ap, sym, ◌∙◌, subst, arith}
use Rattle.std.specs.Option.{option_map}
use Rattle.std.specs.List.{All, position, prefix_len}
use Rattle.std.specs.Str.{bytes_eq}
use Rattle.std.proofs.lemmas.Bool.{cases_Bool, cases_lt, lt-ltb, le-ltb, cond-true, cond-false}
use Rattle.std.proofs.lemmas.List.Elements.{All-head, All-tail}
use Rattle.sk_grammar.specs.declared.value.Value.{Value}
use Rattle.sk_grammar.specs.declared.value.Op.TheVariants.{Set}
use Rattle.sk_grammar.specs.Document.{ItemView}
use Rattle.sk_grammar.specs.Variables.{VariableView, joined, values_at}
use Rattle.sk_pool.specs.Assigning.{place_in}
use Rattle.sk_pool.proofs.Finding.{found, absent}

shifted : (m n : ℕ) → cond (ltb (1 + m) (suc n)) (Some (1 + m)) None ≡ option_map suc (cond (ltb m n) (Some m) None)
shifted m n =
    let more : 1 + m ≡ suc m = omega arith in
    elim (cases_lt m n) [
      | inl below ↦
          cond-true (ltb (1 + m) (suc n)) (Some (1 + m)) None (lt-ltb (1 + m) (suc n) (omega arith))
          ∙ ap (λ (k : ℕ). Some k) more ∙ sym (ap (option_map suc) (cond-true (ltb m n) (Some m) None (lt-ltb m n below)))
      | inr past ↦
          cond-false (ltb (1 + m) (suc n)) (Some (1 + m)) None (le-ltb (1 + m) (suc n) (omega arith))
          ∙ sym (ap (option_map suc) (cond-false (ltb m n) (Some m) None (le-ltb m n past)))
    ]

position-place_in : (names : List (List ℕ)) (name : List ℕ) → position (λ other. bytes_eq other name) names ≡ place_in names name
position-place_in [] name = refl
position-place_in (first ∷ names) name =
    elim (cases_Bool (bytes_eq first name)) [
      | inl here ↦ rw here (cond-true (ltb 0 (suc (length names))) (Some 0) None (lt-ltb 0 (suc (length names)) (omega arith)))
      | inr other ↦ rw (other, ← position-place_in names name) (shifted (prefix_len (λ x. not (bytes_eq x name)) names) (length names))
    ]

abbrev named : List ℕ → ItemView
named name = record { name = name; op = Set; values = [] }

pub values_at-place : (names : List (List ℕ)) (values : List (List Value)) (name : List ℕ) (p : ℕ) (d : List Value) → length names ≡ length values
    → position (λ other. bytes_eq other name) names ≡ Some p → values_at name (joined names values) ≡ Some (get_or values p d)
values_at-place names values name p d same here = (found names values (named name) p same (sym (position-place_in names name) ∙ here)).held d

pub values_at-nowhere : (names : List (List ℕ)) (values : List (List Value)) (name : List ℕ) → length names ≡ length values
    → position (λ other. bytes_eq other name) names ≡ None → values_at name (joined names values) ≡ None
values_at-nowhere names values name same nowhere = (absent names values (named name) same (sym (position-place_in names name) ∙ nowhere)).held

pub values_at-some : (name : List ℕ) (variables : List VariableView) (values : List Value) → All (λ variable. 0 < length variable.values) variables → values_at name variables ≡ Some values → 0 < length values
values_at-some name [] values all e = cc
values_at-some name (variable ∷ variables) values all e =
    elim (cases_Bool (bytes_eq variable.name name)) [
      | inl here ↦
          let is : Some variable.values ≡ Some values = rw here at e in
          let same : variable.values ≡ values = cc in
          subst (λ (vs : List Value). 0 < length vs) same (All-head (λ (v : VariableView). 0 < length v.values) variable variables all)
      | inr other ↦
          let later : values_at name variables ≡ Some values = rw other at e in
          values_at-some name variables values (All-tail (λ (v : VariableView). 0 < length v.values) variable variables all) later
    ]
