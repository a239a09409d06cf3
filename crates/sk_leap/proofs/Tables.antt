-- The checks on a leap second kernel's variables.
use Rattle.std.proofs.Common.{◌≡◌, ◌≢◌, ℕ, zero, suc, ◌+◌, ◌-◌, ◌*◌, ◌^◌, ◌<◌, ◌≤◌, ◌⊎◌, inl, inr, Bool, true, false, cond, ◌&&◌, nat_lt, List, [], ◌∷◌, length, Option, Some, None, option_map, All, refl, ap, sym, ◌∙◌, subst, arith}
use Rattle.std.specs.Prelude.{ℤ, pos, negsuc, ◌*ℤ◌, unwrap_or, find}
use Rattle.std.proofs.Common.{SFits, of_z, IsTrue}
use Rattle.std.specs.Int.{w128}
use Rattle.std.proofs.Math.Dec.{eqb}
use Rattle.std.proofs.lemmas.Bool.{cases_Bool, both_ways, eqb-true, eq-eqb}
use Rattle.std.proofs.lemmas.Int.{ints}
use Rattle.std.proofs.lemmas.List.Elements.{All-head, All-tail}
use Rattle.std.proofs.lemmas.Option.{none-some, same_Some}
use Rattle.std.specs.Str.{bytes_eq}
use Rattle.sk_checks.specs.Checks.{Check, ◌⇒◌, NoneRefuses, FirstRefuses, each_after}
use Rattle.sk_decimal.specs.Number.{DecimalView}
use Rattle.sk_decimal.specs.Fixed.{units_of}
use Rattle.sk_grammar.specs.declared.value.Value.{Value}
use Rattle.sk_grammar.specs.declared.value.Value.TheVariants.{Number, Date, Text}
use Rattle.sk_grammar.specs.Variables.{VariableView, values_at, only_number, IsCounted}
use Rattle.sk_leap.specs.declared.table.LeapFault.{LeapFault}
use Rattle.sk_leap.specs.declared.table.LeapFault.TheVariants.{BadPairs}
use Rattle.sk_leap.specs.Kernel.{Entry, AreEntries, entries_of, entry_checks, leap_checks, delta_t_a, delta_at}
use Rattle.sk_leap.specs.Entries.{in_turn}
use Rattle.sk_leap.proofs.Padded.{mapped}
use Rattle.sk_leap.proofs.Turns.{entries_turn, turn_entries}

-- 32.184
abbrev pub delta_t : List Value
delta_t = Number (record { coefficient = pos 32184; scale = 3 }) ∷ []

not_none : (o : Option (List Value)) (values : List Value) → Some values ≡ o → ¬ (o ≡ None)
not_none o values is = λ none. none-some values (sym none ∙ sym is)

abbrev at_variable : List VariableView → List Value
at_variable pool = unwrap_or (values_at delta_at pool) []

inside : (pool : List VariableView) (values : List Value) → Some values ≡ values_at delta_at pool → at_variable pool ≡ values
inside pool values is = ap (λ (o : Option (List Value)). unwrap_or o []) (sym is)

is_delta : (pool : List VariableView) (t : List Value) → Some t ≡ values_at delta_t_a pool → t ≡ delta_t → ¬ (values_at delta_t_a pool ≢ Some delta_t)
is_delta pool t is value = λ differs. differs (sym is ∙ ap Some value)

pub pairs_refused : (pool : List VariableView) (t a : List Value) → Some t ≡ values_at delta_t_a pool → Some a ≡ values_at delta_at pool → t ≡ delta_t → (nat_lt 0 (length a) && in_turn a) ≡ false
    → FirstRefuses (leap_checks pool) BadPairs
pairs_refused pool t a is_t is_a value bad =
    let no_entries : (entries : List Entry) → ¬ AreEntries (at_variable pool) entries = λ entries are.
    both_ways (nat_lt 0 (length a) && in_turn a) bad (entries_turn a entries (subst (λ (vs : List Value). AreEntries vs entries) (inside pool a is_a) are)) in
    inr (not_none _ t is_t, inr (not_none _ a is_a, inr (is_delta pool t is_t value, inl (no_entries, refl))))

has_entries : (pool : List VariableView) (a : List Value) → Some a ≡ values_at delta_at pool → in_turn a ≡ true → 0 < length a → ¬ ((entries : List Entry) → ¬ AreEntries (at_variable pool) entries)
has_entries pool a is_a turn some = λ none. none (entries_of a) (subst (λ (vs : List Value). AreEntries vs (entries_of a)) (sym (inside pool a is_a)) (turn_entries a turn some))

pub table_taken : (pool : List VariableView) (t a : List Value) → Some t ≡ values_at delta_t_a pool → Some a ≡ values_at delta_at pool → t ≡ delta_t → in_turn a ≡ true → 0 < length a
    → NoneRefuses (each_after None 1 entry_checks (entries_of a)) → NoneRefuses (leap_checks pool)
table_taken pool t a is_t is_a value turn some none =
    let P : List Value → Type 0 = λ vs. NoneRefuses (each_after None 1 entry_checks (entries_of vs)) in
    (not_none _ t is_t, (not_none _ a is_a, (is_delta pool t is_t value, (has_entries pool a is_a turn some, subst P (sym (inside pool a is_a)) none))))

pub table_refused : (pool : List VariableView) (t a : List Value) (fault : LeapFault) → Some t ≡ values_at delta_t_a pool → Some a ≡ values_at delta_at pool → t ≡ delta_t → in_turn a ≡ true → 0 < length a
    → FirstRefuses (each_after None 1 entry_checks (entries_of a)) fault → FirstRefuses (leap_checks pool) fault
table_refused pool t a fault is_t is_a value turn some refused =
    let P : List Value → Type 0 = λ vs. FirstRefuses (each_after None 1 entry_checks (entries_of vs)) fault in
    inr (not_none _ t is_t, inr (not_none _ a is_a, inr (is_delta pool t is_t value, inr (has_entries pool a is_a turn some, subst P (sym (inside pool a is_a)) refused))))

pub read_entries : (pool : List VariableView) (a : List Value) → Some a ≡ values_at delta_at pool → entries_of (at_variable pool) ≡ entries_of a
read_entries pool a is_a = ap entries_of (inside pool a is_a)

-- ---- lengths

found_short : (name : List ℕ) (pool : List VariableView) (v : VariableView) → find (λ (variable : VariableView). bytes_eq variable.name name) pool ≡ Some v → IsCounted pool → length v.values < 2 ^ 32
found_short name [] v h all = absurd (none-some v h)
found_short name (x ∷ xs) v h all = elim (cases_Bool (bytes_eq x.name name)) [
  | inl here ↦
      let is : x ≡ v = same_Some x v (sym (ap (λ (b : Bool). cond b (Some x) (find (λ (variable : VariableView). bytes_eq variable.name name) xs)) here) ∙ h) in
      subst (λ (w : VariableView). length w.values < 2 ^ 32) is (All-head (λ (w : VariableView). length w.values < 2 ^ 32) x xs all)
  | inr other ↦
      found_short name xs v (sym (ap (λ (b : Bool). cond b (Some x) (find (λ (variable : VariableView). bytes_eq variable.name name) xs)) other) ∙ h) (All-tail (λ (w : VariableView). length w.values < 2 ^ 32) x xs all)
]

pub values_short : (name : List ℕ) (pool : List VariableView) (values : List Value) → Some values ≡ values_at name pool → IsCounted pool → length values < 2 ^ 32
values_short name pool values is all =
    let found = mapped (λ (v : VariableView). v.values) (find (λ (variable : VariableView). bytes_eq variable.name name) pool) values (sym is) in
    subst (λ (vs : List Value). length vs < 2 ^ 32) found.2 (found_short name pool found.0 found.1 all)

-- ---- 32.184

pub only_is : (values : List Value) (number : DecimalView) → only_number values ≡ Some number → values ≡ Number number ∷ []
only_is [] number h = absurd (none-some number h)
only_is (Number d ∷ []) number h = ap (λ (n : DecimalView). Number n ∷ []) (same_Some d number h)
only_is (Date d ∷ []) number h = absurd (none-some number h)
only_is (Text d ∷ []) number h = absurd (none-some number h)
only_is (v ∷ w ∷ vs) number h = absurd (none-some number h)

thousandths : (c : ℤ) (scale : ℕ) → scale ≤ 3 → c *ℤ pos (10 ^ (3 - scale)) ≡ pos 32184 → (c ≡ pos 32184) × (scale ≡ 3)
thousandths c zero le h = absurd (omega (arith, ints, h))
thousandths c (suc zero) le h = absurd (omega (arith, ints, h))
thousandths c (suc (suc zero)) le h = absurd (omega (arith, ints, h))
thousandths c (suc (suc (suc zero))) le h = (omega (arith, ints, h), refl)
thousandths c (suc (suc (suc (suc k)))) le h = absurd (omega (arith, le))

pub delta_from : (values : List Value) (number : DecimalView) → only_number values ≡ Some number → number.scale ≤ 3 → units_of 3 number ≡ pos 32184 → values ≡ delta_t
delta_from values number is le units =
    let parts = thousandths number.coefficient number.scale le units in
    only_is values number is ∙ ap (λ (z : ℤ). Number (record { coefficient = z; scale = number.scale }) ∷ []) parts.0 ∙ ap (λ (s : ℕ). Number (record { coefficient = pos 32184; scale = s }) ∷ []) parts.1

pub delta_units : (values : List Value) (number : DecimalView) → only_number values ≡ Some number → values ≡ delta_t → units_of 3 number ≡ pos 32184
delta_units values number is value =
    let same : record { coefficient = pos 32184; scale = 3 } ≡ number = same_Some _ number (sym (ap only_number value) ∙ is) in
    ap (units_of 3) (sym same)

pub from_bits : (z : ℤ) → SFits w128 z → IsTrue (eqb (of_z w128 z) 32184) → z ≡ pos 32184
from_bits z fits h = let bits : of_z w128 z ≡ 32184 = eqb-true (of_z w128 z) 32184 h in by_sign z fits bits
  where
    by_sign : (y : ℤ) → SFits w128 y → of_z w128 y ≡ 32184 → y ≡ pos 32184
    by_sign (pos n) f e = ap pos e
    by_sign (negsuc n) f e = absurd (omega (arith, e, f.sfits))

pub to_bits : (z : ℤ) → z ≡ pos 32184 → IsTrue (eqb (of_z w128 z) 32184)
to_bits z h = eq-eqb (of_z w128 z) 32184 (ap (of_z w128) h)
