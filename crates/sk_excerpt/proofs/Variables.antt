-- The variables of an excerpt.
use Rattle.std.proofs.Common.{◌≡◌, ◌≢◌, ℕ, suc, ◌+◌, Bool, false, List, [], ◌∷◌, ◌++◌, map, Option, Some, None, Ok, refl, sym, ap, inl, inr, arith, ◌∙◌, append_assoc, append-nil}
use Rattle.std.specs.Option.{option_map}
use Rattle.std.specs.List.{AllPairs, AllByRecursion}
use Rattle.std.specs.Str.{bytes_eq}
use Rattle.std.specs.Prelude.{if◌then◌else◌}
use Rattle.std.proofs.lemmas.Bool.{cases_Bool, false_from_ne_true}
use Rattle.std.proofs.lemmas.List.Elements.{recursion_from_All}
use Rattle.std.proofs.lemmas.Slice.Eq.{bytes_eq-Decides}
use Rattle.sk_checks.specs.Checks.{NoneRefuses}
use Rattle.sk_grammar.specs.declared.value.Value.{Value}
use Rattle.sk_grammar.specs.declared.value.Op.TheVariants.{Set}
use Rattle.sk_grammar.specs.Document.{ItemView, DocView}
use Rattle.sk_grammar.specs.Variables.{VariableView, items_of, variables_of, values_at}
use Rattle.sk_pool.specs.Assigning.{assigned, all_assigned}
use Rattle.sk_pool.specs.Pool.{pool_checks}
use Rattle.sk_pool.proofs.Growing.{variables_of-once}
use Rattle.sk_pool.proofs.Judged.{doc_taken}
use Rattle.sk_line.proofs.Lists.{all_append, all_both, all_map}
use Rattle.sk_line.specs.Triple.{coefficients_name}
use Rattle.sk_excerpt.specs.Excerpt.{cut, left, excerpt_item, excerpt_doc}

-- ---- items that each set another variable

abbrev NotIn : List ℕ → List VariableView → Type 0
NotIn name vs = AllByRecursion (λ v. bytes_eq v.name name ≡ false) vs

-- none of these has the name of one before them
abbrev AreNew : List VariableView → List VariableView → Type 0
AreNew vs us = AllByRecursion (λ u. NotIn u.name vs) us

abbrev Once : List VariableView → Type 0
Once [] = Unit {0}
Once (u ∷ us) = AllByRecursion (λ v. bytes_eq u.name v.name ≡ false) us × Once us

once_of : (us : List VariableView) → AllPairs (λ a b. a.name ≢ b.name) us → Once us
once_of [] pairs = tt
once_of (u ∷ us) pairs = (
  recursion_from_All (λ v. bytes_eq u.name v.name ≡ false) us
      (λ k d below. false_from_ne_true _ (λ same. pairs 0 (suc k) d (omega arith) (omega arith) ((bytes_eq-Decides u.name _).0 same))),
  once_of us (λ i j d before below. pairs (suc i) (suc j) d (omega arith) (omega arith)),
)

pushed : (vs : List VariableView) (item : ItemView) → NotIn item.name vs → assigned vs item ≡ vs ++ record { name = item.name; values = item.values } ∷ []
pushed [] item none = refl
pushed (v ∷ vs) item none = let first = none.0 in rw first (ap (λ (more : List VariableView). v ∷ more) (pushed vs item none.1))

module _ (of : VariableView → List Value) where
  abbrev setting : VariableView → ItemView
  setting u = record { name = u.name; op = Set; values = of u }

  abbrev set : VariableView → VariableView
  set u = record { name = u.name; values = of u }

  still_new : (vs us : List VariableView) (u : VariableView) → AreNew vs us → AllByRecursion (λ v. bytes_eq u.name v.name ≡ false) us → AreNew (vs ++ set u ∷ []) us
  still_new vs us u new apart =
      all_map (λ v. NotIn v.name vs × (bytes_eq u.name v.name ≡ false)) (λ v. NotIn v.name (vs ++ set u ∷ []))
      (λ v h. all_append (λ w. bytes_eq w.name v.name ≡ false) vs (set u ∷ []) h.0 (h.1, tt)) us
      (all_both (λ v. NotIn v.name vs) (λ v. bytes_eq u.name v.name ≡ false) us new apart)

  all_set : (vs us : List VariableView) (n : ℕ) → AreNew vs us → Once us → all_assigned vs n (map setting us) ≡ Ok (vs ++ map set us)
  all_set vs [] n new once = ap Ok (sym (append-nil vs))
  all_set vs (u ∷ us) n new once =
      ap (λ (more : List VariableView). all_assigned more (n + 1) (map setting us)) (pushed vs (setting u) new.0)
      ∙ all_set (vs ++ set u ∷ []) us (n + 1) (still_new vs us u new.1 once.0) once.1
      ∙ ap Ok (append_assoc vs (set u ∷ []) (map set us))

-- ---- the excerpt's

abbrev pub left_of : ℕ → ℕ → ℕ → VariableView → VariableView
left_of sc first last u = record { name = u.name; values = left sc first last u }

always_new : (us : List VariableView) → AreNew [] us
always_new [] = tt
always_new (u ∷ us) = (tt, always_new us)

pub items_left : (doc : DocView) (sc first last : ℕ) → items_of (excerpt_doc doc sc first last) ≡ map (excerpt_item sc first last) (variables_of (items_of doc))
items_left doc sc first last = append-nil (map (excerpt_item sc first last) (variables_of (items_of doc)))

pub variables_left : (doc : DocView) (sc first last : ℕ) → NoneRefuses (pool_checks (excerpt_doc doc sc first last))
    × (map (left_of sc first last) (variables_of (items_of doc)) ≡ variables_of (items_of (excerpt_doc doc sc first last)))
variables_left doc sc first last =
    let us : List VariableView = variables_of (items_of doc) in
    let all : all_assigned [] 1 (items_of (excerpt_doc doc sc first last)) ≡ Ok (map (left_of sc first last) us) =
    ap (all_assigned [] 1) (items_left doc sc first last) ∙ all_set (left sc first last) [] us 1 (always_new us) (once_of us (variables_of-once (items_of doc))) in
    doc_taken (excerpt_doc doc sc first last) (map (left_of sc first last) us) all

-- ---- what a variable of the excerpt holds

pub held_left : (sc first last : ℕ) (name : List ℕ) (us : List VariableView)
    → values_at name (map (left_of sc first last) us)
    ≡ option_map (λ values. if bytes_eq name (coefficients_name sc) then cut first last values else values) (values_at name us)
held_left sc first last name [] = refl
held_left sc first last name (u ∷ us) = elim (cases_Bool (bytes_eq u.name name)) [
  | inl here ↦
      let is : u.name ≡ name = (bytes_eq-Decides u.name name).0 here in
      rw here (ap (λ (n : List ℕ). Some (if bytes_eq n (coefficients_name sc) then cut first last u.values else u.values)) is)
  | inr other ↦ rw other (held_left sc first last name us)
]

pub same_values : (o : Option (List Value)) → option_map (λ values. values) o ≡ o
same_values None = refl
same_values (Some values) = refl

-- other variables hold what they held
pub held_other : (sc first last : ℕ) (name : List ℕ) (us : List VariableView) → bytes_eq name (coefficients_name sc) ≡ false
    → values_at name (map (left_of sc first last) us) ≡ values_at name us
held_other sc first last name us differ =
    held_left sc first last name us
    ∙ ap (λ (b : Bool). option_map (λ values. if b then cut first last values else values) (values_at name us)) differ
    ∙ same_values (values_at name us)

pub held_coefficients : (sc first last : ℕ) (us : List VariableView)
    → values_at (coefficients_name sc) (map (left_of sc first last) us) ≡ option_map (cut first last) (values_at (coefficients_name sc) us)
held_coefficients sc first last us =
    let name : List ℕ = coefficients_name sc in
    held_left sc first last name us
    ∙ ap (λ (b : Bool). option_map (λ values. if b then cut first last values else values) (values_at name us)) ((bytes_eq-Decides name name).1 refl)
