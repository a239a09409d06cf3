-- The coefficients have the values of all triples, and what is left of a variable is valid.
use Rattle.std.proofs.Common.{◌≡◌, ◌≢◌, ℕ, zero, suc, ◌+◌, ◌-◌, ◌*◌, ◌<◌, ◌≤◌, min, Bool, true, false, List, [], ◌∷◌, length, map, get_or, take, drop, refl, sym, ap, subst, inl, inr, arith, ◌∙◌, length-take, length-drop}
use Rattle.std.specs.Prelude.{unwrap_or, IsTrue, if◌then◌else◌}
use Rattle.std.proofs.lemmas.List.{get_or-map, length-map}
use Rattle.std.specs.List.{All, AllPairs, list_all, list_any}
use Rattle.std.specs.Str.{bytes_eq}
use Rattle.std.proofs.lemmas.Bool.{cases_Bool, and_parts, and_from, or_parts}
use Rattle.std.proofs.lemmas.List.Elements.{All-nil, All-cons, All-take, All-drop}
use Rattle.std.proofs.lemmas.Slice.Eq.{bytes_eq-Decides}
use Rattle.sk_grammar.specs.declared.value.Value.{Value}
use Rattle.sk_grammar.specs.declared.value.Value.TheVariants.{Number, Date, Text}
use Rattle.sk_grammar.specs.Document.{IsItem, IsValue, AreOfOneKind, is_text}
use Rattle.sk_grammar.specs.Variables.{VariableView, values_at}
use Rattle.sk_pool.specs.Pool.{set_item}
use Rattle.sk_line.specs.Triple.{coefficients_name}
use Rattle.sk_triples.specs.Coefficients.{rows_of}
use Rattle.sk_excerpt.specs.Excerpt.{cut, left, excerpt_item}
use Rattle.sk_excerpt.specs.Cuts.{HasRoom}

-- rows are of three values
pub rows_short : (vs : List Value) → 3 * length (rows_of vs) ≤ length vs
rows_short [] = omega arith
rows_short (Number a ∷ []) = omega arith
rows_short (Number a ∷ Number b ∷ []) = omega arith
rows_short (Number a ∷ Date b ∷ []) = omega arith
rows_short (Number a ∷ Number b ∷ Number c ∷ vs) = omega (arith, rows_short vs)
rows_short (Number a ∷ Date b ∷ Number c ∷ vs) = omega (arith, rows_short vs)
rows_short (Number a ∷ Number b ∷ Date c ∷ vs) = omega arith
rows_short (Number a ∷ Number b ∷ Text c ∷ vs) = omega arith
rows_short (Number a ∷ Date b ∷ Date c ∷ vs) = omega arith
rows_short (Number a ∷ Date b ∷ Text c ∷ vs) = omega arith
rows_short (Number a ∷ Text b ∷ vs) = omega arith
rows_short (Date a ∷ vs) = omega arith
rows_short (Text a ∷ vs) = omega arith

-- ---- the variable of a name

abbrev Holds : List ℕ → List Value → VariableView → Type 0
Holds name values variable = IsTrue (bytes_eq variable.name name) → variable.values ≡ values

others_tail : (v : VariableView) (vs : List VariableView) → AllPairs (λ a b. a.name ≢ b.name) (v ∷ vs) → AllPairs (λ a b. a.name ≢ b.name) vs
others_tail v vs once i j d before below = once (suc i) (suc j) d (omega arith) (omega arith)

-- where no name stands twice, each variable of the name has the values found
pub found_values : (name : List ℕ) (vs : List VariableView) → AllPairs (λ a b. a.name ≢ b.name) vs → All (Holds name (unwrap_or (values_at name vs) [])) vs
found_values name [] once = All-nil (Holds name [])
found_values name (v ∷ vs) once = elim (cases_Bool (bytes_eq v.name name)) [
  | inl here ↦
      let is : v.name ≡ name = (bytes_eq-Decides v.name name).0 here in
      let none : All (Holds name v.values) vs = λ k d below. λ same. absurd (once 0 (suc k) d (omega arith) (omega arith) (is ∙ sym ((bytes_eq-Decides _ name).0 same))) in
      rw here (All-cons (Holds name v.values) v vs (λ same. refl) none)
  | inr other ↦
      let values : List Value = unwrap_or (values_at name vs) [] in
      let this : Holds name values v = λ same. absurd (let no : false ≡ true = sym other ∙ same in cc) in
      rw other (All-cons (Holds name values) v vs this (found_values name vs (others_tail v vs once)))
]

pub has_room : (sc last : ℕ) (vs : List VariableView) → AllPairs (λ a b. a.name ≢ b.name) vs
    → 3 * (last + 1) ≤ length (unwrap_or (values_at (coefficients_name sc) vs) []) → All (HasRoom sc last) vs
has_room sc last vs once room k d below =
    λ same. let is = found_values (coefficients_name sc) vs once k d below same in subst (λ (values : List Value). 3 * (last + 1) ≤ length values) (sym is) room

-- ---- valid values

all_take : (p : Value → Bool) (n : ℕ) (vs : List Value) → list_all p vs ≡ true → list_all p (take n vs) ≡ true
all_take p zero vs h = refl
all_take p (suc n) [] h = refl
all_take p (suc n) (v ∷ vs) h = let parts = and_parts (p v) (list_all p vs) h in and_from (p v) (list_all p (take n vs)) parts.0 (all_take p n vs parts.1)

all_drop : (p : Value → Bool) (n : ℕ) (vs : List Value) → list_all p vs ≡ true → list_all p (drop n vs) ≡ true
all_drop p zero vs h = h
all_drop p (suc n) [] h = refl
all_drop p (suc n) (v ∷ vs) h = all_drop p n vs (and_parts (p v) (list_all p vs) h).1

any_take : (p : Value → Bool) (n : ℕ) (vs : List Value) → list_any p vs ≡ false → list_any p (take n vs) ≡ false
any_take p zero vs h = refl
any_take p (suc n) [] h = refl
any_take p (suc n) (v ∷ vs) h = let parts = or_parts (p v) (list_any p vs) h in rw parts.0 (any_take p n vs parts.1)

any_drop : (p : Value → Bool) (n : ℕ) (vs : List Value) → list_any p vs ≡ false → list_any p (drop n vs) ≡ false
any_drop p zero vs h = h
any_drop p (suc n) [] h = refl
any_drop p (suc n) (v ∷ vs) h = any_drop p n vs (or_parts (p v) (list_any p vs) h).1

one_kind : (m n : ℕ) (vs : List Value) → AreOfOneKind vs → AreOfOneKind (take m (drop n vs))
one_kind m n vs (inl texts) = inl (all_take is_text m (drop n vs) (all_drop is_text n vs texts))
one_kind m n vs (inr none) = inr (any_take is_text m (drop n vs) (any_drop is_text n vs none))

-- so is the item with what is left
pub item_left : (sc first last : ℕ) (v : VariableView) → first ≤ last → IsItem (set_item v) → HasRoom sc last v → IsItem (excerpt_item sc first last v)
item_left sc first last v order item room = elim (cases_Bool (bytes_eq v.name (coefficients_name sc))) [
  | inl same ↦
      let enough : 3 * (last + 1) ≤ length v.values = room same in
      let size : length (cut first last v.values) ≡ min (3 * (last - first + 1)) (length v.values - 3 * first) = length-take (3 * (last - first + 1)) (drop (3 * first) v.values) ∙ ap (min (3 * (last - first + 1))) (length-drop (3 * first) v.values) in
      let some : 0 < length (cut first last v.values) = omega (arith, size) in
      rw same (record {
        name = item.name;
        not_empty = some;
        values = All-take IsValue (3 * (last - first + 1)) (drop (3 * first) v.values) (All-drop IsValue (3 * first) v.values item.values);
        one_kind = one_kind (3 * (last - first + 1)) (3 * first) v.values item.one_kind;
      })
  | inr other ↦ rw other (record { name = item.name; not_empty = item.not_empty; values = item.values; one_kind = item.one_kind })
]

-- ---- the variable at a place

pub variable_at : (pool : List VariableView) (names : List (List ℕ)) (lists : List (List Value)) (place : ℕ) (name : List ℕ) (values : List Value)
    → names ≡ map (λ (v : VariableView). v.name) pool → lists ≡ map (λ (v : VariableView). v.values) pool → place < length names
    → name ≡ get_or names place name → values ≡ get_or lists place values
    → (place < length pool) × (get_or pool place (record { name = name; values = values }) ≡ record { name = name; values = values })
variable_at pool names lists place name values names_are lists_are below name_at values_at =
    let d : VariableView = record { name = name; values = values } in
    let long : length names ≡ length pool = ap length names_are ∙ length-map pool (λ (v : VariableView). v.name) in
    let low : place < length pool = omega arith in
    let same_name : (get_or pool place d).name ≡ name = sym (name_at ∙ ap (λ (ns : List (List ℕ)). get_or ns place name) names_are ∙ get_or-map (λ (v : VariableView). v.name) pool place d name low) in
    let same_values : (get_or pool place d).values ≡ values = sym (values_at ∙ ap (λ (ls : List (List Value)). get_or ls place values) lists_are ∙ get_or-map (λ (v : VariableView). v.values) pool place d values low) in
    (low, λ i. record { name = same_name i; values = same_values i })

module _ (sc first last : ℕ) (d : VariableView) (name coefficients : List ℕ) (values : List Value)
    (name_is : name ≡ d.name) (coefficients_are : coefficients ≡ coefficients_name sc) (values_are : values ≡ d.values) where
  same_test : bytes_eq name coefficients ≡ bytes_eq d.name (coefficients_name sc)
  same_test = ap (λ (n : List ℕ). bytes_eq n coefficients) name_is ∙ ap (bytes_eq d.name) coefficients_are

  pub room_for : HasRoom sc last d → IsTrue (bytes_eq name coefficients) → 3 * (last + 1) ≤ length values
  room_for room same = subst (λ (vs : List Value). 3 * (last + 1) ≤ length vs) (sym values_are) (room (subst IsTrue same_test same))

  pub left_for : (if bytes_eq name coefficients then cut first last values else values) ≡ left sc first last d
  left_for =
      ap (λ (b : Bool). if b then cut first last values else values) same_test
      ∙ ap (λ (vs : List Value). if bytes_eq d.name (coefficients_name sc) then cut first last vs else vs) values_are
