-- A kernel with the block of a publication behind it has the same clock, and no item of it mixes kinds.
use Rattle.std.proofs.Common.{◌≡◌, ℕ, ◌+◌, Bool, true, false, List, [], ◌∷◌, ◌++◌, length, Option, Some, None, Result, Ok, Err, refl, sym, ap, subst, ◌∙◌, inl, inr, append_assoc, append-nil}
use Rattle.std.proofs.lemmas.Bool.{cases_Bool}
use Rattle.std.specs.Prelude.{unwrap_or, not, codes, ◌&&◌}
use Rattle.std.specs.List.{list_any, flat_map}
use Rattle.std.specs.Str.{bytes_eq}
use Rattle.std.proofs.lemmas.Slice.Eq.{bytes_eq-Decides}
use Rattle.sk_checks.specs.Checks.{NoneRefuses}
use Rattle.sk_checks.proofs.ChecksLemmas.{FirstRefuses-some}
use Rattle.sk_grammar.specs.declared.value.Value.{Value}
use Rattle.sk_grammar.specs.declared.value.Value.TheVariants.{Date}
use Rattle.sk_grammar.specs.declared.value.Op.TheVariants.{Set, Append}
use Rattle.sk_grammar.specs.Document.{ItemView, DocView, is_text}
use Rattle.sk_grammar.specs.Variables.{VariableView, items_of, variables_of, values_at, values_of, mixes}
use Rattle.sk_pool.specs.declared.pool.PoolFault.TheVariants.{AppendMixed}
use Rattle.sk_pool.specs.Pool.{pool_checks}
use Rattle.sk_pool.specs.Assigning.{assigned, all_assigned}
use Rattle.sk_pool.proofs.Growing.{variables_of-push, values_at-variables_of}
use Rattle.sk_pool.proofs.Judged.{doc_taken, doc_refused, all_assigned-append}
use Rattle.sk_clock.specs.declared.fault.ClockName.{ClockName}
use Rattle.sk_clock.specs.declared.fault.ClockName.TheVariants.{DataType, Fields, Moduli, Offsets, Delim, Start, End}
use Rattle.sk_clock.specs.Clock.{ClockView}
use Rattle.sk_clock.specs.Kernel.{name_of, time_system}
use Rattle.sk_line.specs.Triple.{TripleView}
use Rattle.sk_publishing.specs.Published.{triple_values, id_items, coefficient_items}
use Rattle.sk_line.specs.Triple.{coefficients_name}
use Rattle.sk_excerpt.proofs.SameClock.{clock_stands}
use Rattle.sk_outcome.specs.Files.{ClockOf, PoolOf}

-- ---- one item more

at_other : (name : List ℕ) (variables : List VariableView) (item : ItemView) → bytes_eq item.name name ≡ false → values_at name (assigned variables item) ≡ values_at name variables
at_other name [] item differ = rw differ refl
at_other name (v ∷ variables) item differ = elim (cases_Bool (bytes_eq v.name item.name)) [
  | inl same ↦
      let is : v.name ≡ item.name = (bytes_eq-Decides v.name item.name).0 same in
      let here : bytes_eq v.name name ≡ false = subst (λ (n : List ℕ). bytes_eq n name ≡ false) (sym is) differ in
      rw (same, here) refl
  | inr other ↦ elim (cases_Bool (bytes_eq v.name name)) [
    | inl here ↦ rw (other, here) refl
    | inr there ↦ rw (other, there) (at_other name variables item differ)
  ]
]

-- items that assign to other names
abbrev pub AreOthers : List ℕ → List ItemView → Type 0
AreOthers name [] = Unit {0}
AreOthers name (item ∷ items) = (bytes_eq item.name name ≡ false) × AreOthers name items

pub at_others : (name : List ℕ) (items more : List ItemView) → AreOthers name more → values_at name (variables_of (items ++ more)) ≡ values_at name (variables_of items)
at_others name items [] h = ap (λ (all : List ItemView). values_at name (variables_of all)) (append-nil items)
at_others name items (item ∷ more) h =
    ap (λ (all : List ItemView). values_at name (variables_of all)) (sym (append_assoc items (item ∷ []) more))
    ∙ at_others name (items ++ item ∷ []) more h.1
    ∙ ap (values_at name) (variables_of-push items item)
    ∙ at_other name (variables_of items) item h.0

-- ---- the clock

-- the block's items assign to none of the clock's variables
block_others : (name : List ℕ) (date : Option (List ℕ)) (sc : ℕ) (values : List Value) → bytes_eq (codes "SCLK_KERNEL_ID") name ≡ false → bytes_eq (coefficients_name sc) name ≡ false
    → AreOthers name (id_items date ++ coefficient_items sc values)
block_others name None sc [] id numbers = tt
block_others name None sc (v ∷ values) id numbers = (numbers, tt)
block_others name (Some date) sc [] id numbers = (id, tt)
block_others name (Some date) sc (v ∷ values) id numbers = (id, (numbers, tt))

name_stands : (items : List ItemView) (date : Option (List ℕ)) (sc : ℕ) (values : List Value) (name : ClockName)
    → values_at (name_of name sc) (variables_of (items ++ (id_items date ++ coefficient_items sc values))) ≡ values_at (name_of name sc) (variables_of items)
name_stands items date sc values DataType = at_others (name_of DataType sc) items (id_items date ++ coefficient_items sc values) (block_others (name_of DataType sc) date sc values refl refl)
name_stands items date sc values Fields = at_others (name_of Fields sc) items (id_items date ++ coefficient_items sc values) (block_others (name_of Fields sc) date sc values refl refl)
name_stands items date sc values Moduli = at_others (name_of Moduli sc) items (id_items date ++ coefficient_items sc values) (block_others (name_of Moduli sc) date sc values refl refl)
name_stands items date sc values Offsets = at_others (name_of Offsets sc) items (id_items date ++ coefficient_items sc values) (block_others (name_of Offsets sc) date sc values refl refl)
name_stands items date sc values Delim = at_others (name_of Delim sc) items (id_items date ++ coefficient_items sc values) (block_others (name_of Delim sc) date sc values refl refl)
name_stands items date sc values Start = at_others (name_of Start sc) items (id_items date ++ coefficient_items sc values) (block_others (name_of Start sc) date sc values refl refl)
name_stands items date sc values End = at_others (name_of End sc) items (id_items date ++ coefficient_items sc values) (block_others (name_of End sc) date sc values refl refl)

pub same_clock : (items : List ItemView) (date : Option (List ℕ)) (sc : ℕ) (values : List Value) (clock : ClockView) → ClockOf (variables_of items) sc (Ok clock)
    → ClockOf (variables_of (items ++ (id_items date ++ coefficient_items sc values))) sc (Ok clock)
same_clock items date sc values clock h =
    clock_stands sc (variables_of items) (variables_of (items ++ (id_items date ++ coefficient_items sc values))) (name_stands items date sc values)
    (at_others (time_system sc) items (id_items date ++ coefficient_items sc values) (block_others (time_system sc) date sc values refl refl)) clock h

-- ---- kinds

taken : (doc : DocView) (r : Result (List VariableView) ℕ) → NoneRefuses (pool_checks doc) → all_assigned [] 1 (items_of doc) ≡ r → all_assigned [] 1 (items_of doc) ≡ Ok (variables_of (items_of doc))
taken doc (Ok variables) none e = e ∙ ap Ok (doc_taken doc variables e).1
taken doc (Err n) none e = elim (doc_refused doc (AppendMixed n) e) [
  | inl memory ↦ cc
  | inr first ↦ absurd (FirstRefuses-some (pool_checks doc) (AppendMixed n) first none)
]

no_text : (new : List TripleView) → list_any is_text (flat_map triple_values new) ≡ false
no_text [] = refl
no_text (t ∷ new) = no_text new

and_false : (b : Bool) → (b && false) ≡ false
and_false true = refl
and_false false = refl

none_mix : (held added : List Value) → list_any is_text held ≡ false → list_any is_text added ≡ false → mixes held added ≡ false
none_mix held added h k = rw (h, k) (and_false (list_any (λ value. not (is_text value)) held))

takes_numbers : (variables : List VariableView) (n sc : ℕ) (new : List TripleView) → list_any is_text (unwrap_or (values_at (coefficients_name sc) variables) []) ≡ false
    → (behind : List VariableView) × (all_assigned variables n (coefficient_items sc (flat_map triple_values new)) ≡ Ok behind)
takes_numbers variables n sc [] h = (variables, refl)
takes_numbers variables n sc (t ∷ new) h =
    let values : List Value = flat_map triple_values (t ∷ new) in
    let none = none_mix (unwrap_or (values_at (coefficients_name sc) variables) []) values h (no_text (t ∷ new)) in
    let item : ItemView = record { name = coefficients_name sc; op = Append; values = values } in
    (assigned variables item, rw none refl)

takes_block : (variables : List VariableView) (n : ℕ) (date : Option (List ℕ)) (sc : ℕ) (new : List TripleView) → list_any is_text (unwrap_or (values_at (coefficients_name sc) variables) []) ≡ false
    → (behind : List VariableView) × (all_assigned variables n (id_items date ++ coefficient_items sc (flat_map triple_values new)) ≡ Ok behind)
takes_block variables n None sc new h = takes_numbers variables n sc new h
takes_block variables n (Some date) sc new h =
    let item : ItemView = record { name = codes "SCLK_KERNEL_ID"; op = Set; values = Date date ∷ [] } in
    let same : values_at (coefficients_name sc) (assigned variables item) ≡ values_at (coefficients_name sc) variables = at_other (coefficients_name sc) variables item refl in
    takes_numbers (assigned variables item) (n + 1) sc new (ap (λ (held : Option (List Value)). list_any is_text (unwrap_or held [])) same ∙ h)

pub none_mixes : (old new : DocView) (date : Option (List ℕ)) (sc : ℕ) (triples : List TripleView) → items_of new ≡ items_of old ++ (id_items date ++ coefficient_items sc (flat_map triple_values triples))
    → PoolOf old (Ok (variables_of (items_of old))) → list_any is_text (values_of (coefficients_name sc) (items_of old)) ≡ false → PoolOf new (Ok (variables_of (items_of new)))
none_mixes old new date sc triples items h plain =
    let variables : List VariableView = variables_of (items_of old) in
    let more : List ItemView = id_items date ++ coefficient_items sc (flat_map triple_values triples) in
    let held : list_any is_text (unwrap_or (values_at (coefficients_name sc) variables) []) ≡ false = ap (list_any is_text) (values_at-variables_of (coefficients_name sc) (items_of old)) ∙ plain in
    let behind = takes_block variables (1 + length (items_of old)) date sc triples held in
    let all : all_assigned [] 1 (items_of new) ≡ Ok behind.0 =
    ap (all_assigned [] 1) items ∙ all_assigned-append [] variables 1 (items_of old) more (taken old (all_assigned [] 1 (items_of old)) h.0 refl) ∙ behind.1 in
    ((doc_taken new behind.0 all).0, refl)
