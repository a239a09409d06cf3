-- What the code computes, against the variables of a document.
use Rattle.std.proofs.Common.{◌≡◌, ◌≢◌, ℕ, ◌+◌, ◌-◌, true, false, inl, inr, ◌⊎◌, Result, List, [], ◌∷◌, ◌++◌, length, Option, Some, None, Ok, Err, refl, ap, sym, ◌∙◌, subst, arith, add-zero, append-nil, append_assoc, length-append}
use Rattle.std.specs.List.{slice_get, All, AllPairs}
use Rattle.std.proofs.lemmas.List.Elements.{All-nil, All-cons, All-head, All-tail}
use Rattle.std.proofs.lemmas.Bool.{cases_Bool, false≢true}
use Rattle.std.proofs.lemmas.List.{take_at}
use Rattle.sk_checks.specs.Checks.{Check, ◌⇒◌, each_after, NoneRefuses, FirstRefuses}
use Rattle.sk_grammar.specs.declared.value.Value.{Value}
use Rattle.sk_grammar.specs.declared.value.Op.{Op}
use Rattle.sk_grammar.specs.declared.value.Op.TheVariants.{Set, Append}
use Rattle.sk_grammar.specs.Document.{ItemView, DocView, IsName, IsItem}
use Rattle.sk_grammar.specs.Variables.{VariableView, items_of, variables_of, values_of, mixes, IsMixedAppend, joined}
use Rattle.sk_pool.specs.declared.pool.PoolFault.{PoolFault}
use Rattle.sk_pool.specs.declared.pool.PoolFault.TheVariants.{AppendMixed, NoMemory}
use Rattle.sk_pool.specs.Pool.{pool_checks, AreVariables, set_item}
use Rattle.sk_pool.specs.Assigning.{assigned, all_assigned, is_mixing, adds_mixed, IsMixedOf, AreOneKind}
use Rattle.sk_pool.proofs.Growing.{variables_of-push, values_at-variables_of, variables_of-once}

slice_get_at : (before : List ItemView) (item : ItemView) (items : List ItemView) → slice_get (before ++ item ∷ items) (length before) ≡ Some item
slice_get_at [] item items = refl
slice_get_at (first ∷ before) item items = slice_get_at before item items

mixed_by : (held : List Value) (name : List ℕ) (op : Op) (values : List Value) → adds_mixed held (record { name = name; op = op; values = values }) ≡ true → (op ≡ Append) × (mixes held values ≡ true)
mixed_by held name Set values mixed = absurd (false≢true mixed)
mixed_by held name Append values mixed = (refl, mixed)

by_mixed : (held : List Value) (name : List ℕ) (op : Op) (values : List Value) → op ≡ Append → mixes held values ≡ true → adds_mixed held (record { name = name; op = op; values = values }) ≡ true
by_mixed held name Set values appends mixed = cc
by_mixed held name Append values appends mixed = mixed

is_mixing-variables_of : (before : List ItemView) (item : ItemView) → is_mixing (variables_of before) item ≡ adds_mixed (values_of item.name before) item
is_mixing-variables_of before item = ap (λ (vs : List Value). adds_mixed vs item) (values_at-variables_of item.name before)

-- an item that mixes kinds is a mixed append
mixes_here : (before : List ItemView) (item : ItemView) (items : List ItemView) → is_mixing (variables_of before) item ≡ true → IsMixedAppend (before ++ item ∷ items) (length before + 1)
mixes_here before item items mixing =
    let parts = mixed_by (values_of item.name before) item.name item.op item.values (sym (is_mixing-variables_of before item) ∙ mixing) in
    let at : length before + 1 - 1 ≡ length before = omega arith in
    record {
      item = item;
      first = omega arith;
      here = rw at (slice_get_at before item items);
      appends = parts.0;
      mixed = rw (at, take_at before (item ∷ items) (length before) refl) parts.1;
    }

-- an item that does not is none
mixes_not_here : (before : List ItemView) (item : ItemView) (items : List ItemView) → is_mixing (variables_of before) item ≡ false → ¬ IsMixedAppend (before ++ item ∷ items) (length before + 1)
mixes_not_here before item items fine m =
    let at : length before + 1 - 1 ≡ length before = omega arith in
    let found : slice_get (before ++ item ∷ items) (length before) ≡ Some m.item = rw at at m.here in
    let same : m.item ≡ item = let both : Some m.item ≡ Some item = sym found ∙ slice_get_at before item items in cc in
    let held : mixes (values_of m.item.name before) m.item.values ≡ true = rw (at, take_at before (item ∷ items) (length before) refl) at m.mixed in
    let mixed = by_mixed (values_of m.item.name before) m.item.name m.item.op m.item.values m.appends held in
    let here : adds_mixed (values_of item.name before) item ≡ true = subst (λ (i : ItemView). adds_mixed (values_of i.name before) i ≡ true) same mixed in
    false≢true (sym fine ∙ is_mixing-variables_of before item ∙ here)

abbrev checks_of : List ItemView → Option ItemView → ℕ → List ItemView → List (Check PoolFault)
checks_of all before n items = each_after before n (λ b k i. IsMixedAppend all k ⇒ AppendMixed k ∷ []) items

one_more : (before : List ItemView) (item : ItemView) (items all : List ItemView) → all ≡ before ++ item ∷ items → all ≡ (before ++ item ∷ []) ++ items
one_more before item items all whole = whole ∙ sym (append_assoc before (item ∷ []) items)

-- all items were taken
taken : (all before items : List ItemView) (n : ℕ) (previous : Option ItemView) (variables : List VariableView) → all ≡ before ++ items → n ≡ length before + 1
    → all_assigned (variables_of before) n items ≡ Ok variables → NoneRefuses (checks_of all previous n items) × (variables ≡ variables_of all)
taken all before [] n previous variables whole n_is answer =
    let same : variables_of before ≡ variables = cc in
    (tt, sym same ∙ ap variables_of (sym (whole ∙ append-nil before)))
taken all before (item ∷ items) n previous variables whole n_is answer =
    elim (cases_Bool (is_mixing (variables_of before) item)) [
      | inl mixing ↦ let refused : ◌≡◌ {A = Result (List VariableView) ℕ} (Err n) (Ok variables) = rw mixing at answer in cc
      | inr fine ↦
          let passes : ¬ IsMixedAppend all n = rw (whole, n_is) (mixes_not_here before item items fine) in
          let later : all_assigned (assigned (variables_of before) item) (n + 1) items ≡ Ok variables = rw fine at answer in
          let onward : all_assigned (variables_of (before ++ item ∷ [])) (n + 1) items ≡ Ok variables = rw variables_of-push later in
          let below = taken all (before ++ item ∷ []) items (n + 1) (Some item) variables (one_more before item items all whole) (omega (arith, length-append before (item ∷ []))) onward in
          ((passes, below.0), below.1)
    ]

-- an item was refused
refused : (all before items : List ItemView) (n : ℕ) (previous : Option ItemView) (m : ℕ) → all ≡ before ++ items → n ≡ length before + 1
    → all_assigned (variables_of before) n items ≡ Err m → FirstRefuses (checks_of all previous n items) (AppendMixed m)
refused all before [] n previous m whole n_is answer = cc
refused all before (item ∷ items) n previous m whole n_is answer =
    elim (cases_Bool (is_mixing (variables_of before) item)) [
      | inl mixing ↦
          let here : ◌≡◌ {A = Result (List VariableView) ℕ} (Err n) (Err m) = rw mixing at answer in
          let same : n ≡ m = cc in
          inl (rw (whole, n_is) (mixes_here before item items mixing), ap AppendMixed same)
      | inr fine ↦
          let passes : ¬ IsMixedAppend all n = rw (whole, n_is) (mixes_not_here before item items fine) in
          let later : all_assigned (assigned (variables_of before) item) (n + 1) items ≡ Err m = rw fine at answer in
          let onward : all_assigned (variables_of (before ++ item ∷ [])) (n + 1) items ≡ Err m = rw variables_of-push later in
          inr (passes, refused all (before ++ item ∷ []) items (n + 1) (Some item) m (one_more before item items all whole) (omega (arith, length-append before (item ∷ []))) onward)
    ]

pub doc_taken : (doc : DocView) (variables : List VariableView) → all_assigned [] 1 (items_of doc) ≡ Ok variables → NoneRefuses (pool_checks doc) × (variables ≡ variables_of (items_of doc))
doc_taken doc variables answer = taken (items_of doc) [] (items_of doc) 1 None variables refl (omega arith) answer

pub doc_refused : (doc : DocView) (fault : PoolFault) → IsMixedOf (all_assigned [] 1 (items_of doc)) fault → (fault ≡ NoMemory) ⊎ FirstRefuses (pool_checks doc) fault
doc_refused doc (AppendMixed m) answer = inr (refused (items_of doc) [] (items_of doc) 1 None m refl (omega arith) answer)
doc_refused doc NoMemory answer = inl refl

-- items in two parts
pub all_assigned-append : (variables behind : List VariableView) (n : ℕ) (items more : List ItemView) → all_assigned variables n items ≡ Ok behind → all_assigned variables n (items ++ more) ≡ all_assigned behind (n + length items) more
all_assigned-append variables behind n [] more answer =
    let same : variables ≡ behind = cc in
    rw add-zero (ap (λ (vs : List VariableView). all_assigned vs n more) same)
all_assigned-append variables behind n (item ∷ items) more answer =
    elim (cases_Bool (is_mixing variables item)) [
      | inl mixing ↦ let refusal : ◌≡◌ {A = Result (List VariableView) ℕ} (Err n) (Ok behind) = rw mixing at answer in cc
      | inr fine ↦
          let later : all_assigned (assigned variables item) (n + 1) items ≡ Ok behind = rw fine at answer in
          let below = all_assigned-append (assigned variables item) behind (n + 1) items more later in
          let count : n + 1 + length items ≡ n + length (item ∷ items) = omega arith in
          rw fine (below ∙ ap (λ (k : ℕ). all_assigned behind k more) count)
    ]

-- the first part is refused
pub all_assigned-refused : (variables : List VariableView) (n m : ℕ) (items more : List ItemView) → all_assigned variables n items ≡ Err m → all_assigned variables n (items ++ more) ≡ Err m
all_assigned-refused variables n m [] more answer = cc
all_assigned-refused variables n m (item ∷ items) more answer =
    elim (cases_Bool (is_mixing variables item)) [
      | inl mixing ↦ let here : ◌≡◌ {A = Result (List VariableView) ℕ} (Err n) (Err m) = rw mixing at answer in rw mixing here
      | inr fine ↦
          let later : all_assigned (assigned variables item) (n + 1) items ≡ Err m = rw fine at answer in
          rw fine (all_assigned-refused (assigned variables item) (n + 1) m items more later)
    ]

pub mixed_front : (variables : List VariableView) (n : ℕ) (items more : List ItemView) (fault : PoolFault) → IsMixedOf (all_assigned variables n items) fault → IsMixedOf (all_assigned variables n (items ++ more)) fault
mixed_front variables n items more (AppendMixed m) answer = all_assigned-refused variables n m items more answer
mixed_front variables n items more NoMemory answer = tt

valid : (names : List (List ℕ)) (values : List (List Value)) → All IsName names → All AreOneKind values → All (λ variable. IsItem (set_item variable)) (joined names values)
valid [] values are_names kinds = All-nil (λ (variable : VariableView). IsItem (set_item variable))
valid (name ∷ names) [] are_names kinds = All-nil (λ (variable : VariableView). IsItem (set_item variable))
valid (name ∷ names) (vs ∷ values) are_names kinds =
    let here = All-head AreOneKind vs values kinds in
    All-cons (λ (variable : VariableView). IsItem (set_item variable)) (record { name = name; values = vs }) (joined names values)
    (record { name = All-head IsName name names are_names; not_empty = here.some; values = here.valid; one_kind = here.one_kind })
    (valid names values (All-tail IsName name names are_names) (All-tail AreOneKind vs values kinds))

-- a whole document's table gives a pool
pub pool_holds : (names : List (List ℕ)) (values : List (List Value)) (items : List ItemView) → All IsName names → All AreOneKind values → joined names values ≡ variables_of items → AreVariables (joined names values)
pool_holds names values items are_names kinds same = record {
  valid = valid names values are_names kinds;
  once = subst (λ (variables : List VariableView). AllPairs (λ a b. a.name ≢ b.name) variables) (sym same) (variables_of-once items);
}
