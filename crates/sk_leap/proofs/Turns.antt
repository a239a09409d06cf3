-- The values of a leap second kernel, pair by pair.
use Rattle.std.proofs.Common.{◌≡◌, ℕ, zero, suc, ◌+◌, ◌*◌, ◌<◌, ◌≤◌, Bool, true, false, cond, ◌&&◌, nat_lt, All, List, [], ◌∷◌, ◌++◌, length, Option, Some, None, is_some, refl, ap, sym, ◌∙◌, subst, inl, inr, arith}
use Rattle.std.specs.Prelude.{ℤ, pos, negsuc, nat_abs, ◌==◌, nat_le}
use Rattle.std.proofs.lemmas.Bool.{and_parts, and_from, eq-eqb, eqb-true, leb-true, le-leb, lt-ltb, cases_Bool, false≢true}
use Rattle.std.proofs.Math.Dec.{eqb-suc-zero}
use Rattle.std.proofs.lemmas.Option.{none-some, same_Some}
use Rattle.sk_decimal.specs.Number.{DecimalView}
use Rattle.sk_grammar.specs.declared.value.Value.{Value}
use Rattle.sk_grammar.specs.declared.value.Value.TheVariants.{Number, Date, Text}
use Rattle.std.specs.List.{flat_map}
use Rattle.std.proofs.lemmas.List.Elements.{All-nil, All-cons, All-head, All-tail}
use Rattle.sk_grammar.specs.Variables.{whole}
use Rattle.sk_leap.specs.Kernel.{Entry, AreEntries, entry_values, entries_of}
use Rattle.sk_leap.specs.Entries.{small_of, small_whole, with_date, entry_at, in_turn}

-- a small number is its own size
small_is : (d : DecimalView) (n : ℕ) → small_whole d ≡ Some n → nat_abs d.coefficient ≡ n
small_is d n h = by_sign d.coefficient h
  where
    by_sign : (z : ℤ) → small_of z d.scale ≡ Some n → nat_abs z ≡ n
    by_sign (pos m) e = elim (cases_Bool ((d.scale == 0) && nat_le m 1000)) [
      | inl within ↦ same_Some m n (sym (ap (λ (b : Bool). cond b (Some m) None) within) ∙ e)
      | inr beyond ↦ absurd (none-some n (sym (ap (λ (b : Bool). cond b (Some m) None) beyond) ∙ e))
    ]
    by_sign (negsuc m) e = absurd (none-some n e)

abbrev pub entry_of : ℕ → List ℕ → Entry
entry_of number date = record { number = number; date = date }

-- an entry in front
pub record Begins (values : List Value) (number : ℕ) (date : List ℕ) (rest : List Value) : Type 0 where
  pub turn : in_turn values ≡ in_turn rest
  pub long : length values ≡ length rest + 2
  pub entries : entries_of values ≡ entry_of number date ∷ entries_of rest

with_small : (d : DecimalView) (date : List ℕ) (rest : List Value) (number : ℕ) (date' : List ℕ) (rest' : List Value) (o : Option ℕ) → small_whole d ≡ o
    → with_date o date rest ≡ Some (number, date', rest') → Begins (Number d ∷ Date date ∷ rest) number date' rest'
with_small d date rest number date' rest' None is h = absurd (none-some (number, date', rest') h)
with_small d date rest number date' rest' (Some m) is h =
    let parts = same_Some (m, date, rest) (number, date', rest') h in
    let number_is : m ≡ number = ap (λ (x : ℕ × List ℕ × List Value). x.0) parts in
    let date_is : date ≡ date' = ap (λ (x : ℕ × List ℕ × List Value). x.1) parts in
    let rest_is : rest ≡ rest' = ap (λ (x : ℕ × List ℕ × List Value). x.2) parts in
    let size : nat_abs d.coefficient ≡ number = small_is d m is ∙ number_is in
    record {
      turn = ap (λ (o : Option ℕ). is_some o && in_turn rest) is ∙ ap in_turn rest_is;
      long = omega (arith, ap length rest_is);
      entries = ap (λ (n : ℕ). entry_of n date ∷ entries_of rest) size ∙ ap (λ (xs : List ℕ). entry_of number xs ∷ entries_of rest) date_is ∙ ap (λ (vs : List Value). entry_of number date' ∷ entries_of vs) rest_is;
    }

pub entry_begins : (values : List Value) (number : ℕ) (date : List ℕ) (rest : List Value) → entry_at values ≡ Some (number, date, rest) → Begins values number date rest
entry_begins [] number date rest h = absurd (none-some (number, date, rest) h)
entry_begins (Number d ∷ []) number date rest h = absurd (none-some (number, date, rest) h)
entry_begins (Number d ∷ Number e ∷ vs) number date rest h = absurd (none-some (number, date, rest) h)
entry_begins (Number d ∷ Text t ∷ vs) number date rest h = absurd (none-some (number, date, rest) h)
entry_begins (Number d ∷ Date e ∷ vs) number date rest h = with_small d e vs number date rest (small_whole d) refl h
entry_begins (Date d ∷ vs) number date rest h = absurd (none-some (number, date, rest) h)
entry_begins (Text d ∷ vs) number date rest h = absurd (none-some (number, date, rest) h)

no_small : (d : DecimalView) (date : List ℕ) (rest : List Value) (o : Option ℕ) → with_date o date rest ≡ None → is_some o ≡ false
no_small d date rest None h = refl
no_small d date rest (Some m) h = absurd (none-some (m, date, rest) (sym h))

none_left : (value : Value) (values : List Value) → false ≡ (length (value ∷ values) == 0)
none_left value values = sym (eqb-suc-zero (length values))

-- where none begins, the values are in turn only where there is none
pub none_begins : (values : List Value) → entry_at values ≡ None → in_turn values ≡ (length values == 0)
none_begins [] h = refl
none_begins (Number d ∷ []) h = none_left (Number d) []
none_begins (Number d ∷ Number e ∷ vs) h = none_left (Number d) (Number e ∷ vs)
none_begins (Number d ∷ Text t ∷ vs) h = none_left (Number d) (Text t ∷ vs)
none_begins (Number d ∷ Date e ∷ vs) h = ap (λ (b : Bool). b && in_turn vs) (no_small d e vs (small_whole d) h) ∙ none_left (Number d) (Date e ∷ vs)
none_begins (Date d ∷ vs) h = none_left (Date d) vs
none_begins (Text d ∷ vs) h = none_left (Text d) vs

-- ---- values in turn are the values of entries

small_parts : (z : ℤ) (scale : ℕ) → is_some (small_of z scale) ≡ true → (z ≡ pos (nat_abs z)) × (scale ≡ 0) × (nat_abs z ≤ 1000)
small_parts (pos n) scale h = elim (cases_Bool ((scale == 0) && nat_le n 1000)) [
  | inl within ↦ let both = and_parts (scale == 0) (nat_le n 1000) within in (refl, eqb-true scale 0 both.0, leb-true n 1000 both.1)
  | inr beyond ↦ absurd (false≢true (sym (ap (λ (b : Bool). is_some (cond b (Some n) None)) beyond) ∙ h))
]
small_parts (negsuc n) scale h = absurd (false≢true h)

small_value : (d : DecimalView) → is_some (small_whole d) ≡ true → Number d ≡ whole (nat_abs d.coefficient)
small_value d h =
    let parts = small_parts d.coefficient d.scale h in
    ap (λ (z : ℤ). Number (record { coefficient = z; scale = d.scale })) parts.0 ∙ ap (λ (s : ℕ). Number (record { coefficient = pos (nat_abs d.coefficient); scale = s })) parts.1

each_value : (values : List Value) → in_turn values ≡ true → values ≡ flat_map entry_values (entries_of values)
each_value [] h = refl
each_value (Number d ∷ []) h = absurd (false≢true h)
each_value (Number d ∷ Number e ∷ vs) h = absurd (false≢true h)
each_value (Number d ∷ Text t ∷ vs) h = absurd (false≢true h)
each_value (Number d ∷ Date e ∷ vs) h =
    let both = and_parts (is_some (small_whole d)) (in_turn vs) h in
    ap (λ (v : Value). v ∷ Date e ∷ vs) (small_value d both.0) ∙ ap (λ (xs : List Value). whole (nat_abs d.coefficient) ∷ Date e ∷ xs) (each_value vs both.1)
each_value (Date d ∷ vs) h = absurd (false≢true h)
each_value (Text d ∷ vs) h = absurd (false≢true h)

small_entries : (values : List Value) → in_turn values ≡ true → All (λ (entry : Entry). entry.number ≤ 1000) (entries_of values)
small_entries [] h = All-nil (λ (entry : Entry). entry.number ≤ 1000)
small_entries (Number d ∷ []) h = absurd (false≢true h)
small_entries (Number d ∷ Number e ∷ vs) h = absurd (false≢true h)
small_entries (Number d ∷ Text t ∷ vs) h = absurd (false≢true h)
small_entries (Number d ∷ Date e ∷ vs) h =
    let both = and_parts (is_some (small_whole d)) (in_turn vs) h in
    All-cons (λ (entry : Entry). entry.number ≤ 1000) (entry_of (nat_abs d.coefficient) e) (entries_of vs) (small_parts d.coefficient d.scale both.0).2 (small_entries vs both.1)
small_entries (Date d ∷ vs) h = absurd (false≢true h)
small_entries (Text d ∷ vs) h = absurd (false≢true h)

some_entries : (values : List Value) → in_turn values ≡ true → 0 < length values → 0 < length (entries_of values)
some_entries [] h some = absurd (omega (arith, some))
some_entries (Number d ∷ []) h some = absurd (false≢true h)
some_entries (Number d ∷ Number e ∷ vs) h some = absurd (false≢true h)
some_entries (Number d ∷ Text t ∷ vs) h some = absurd (false≢true h)
some_entries (Number d ∷ Date e ∷ vs) h some = omega arith
some_entries (Date d ∷ vs) h some = absurd (false≢true h)
some_entries (Text d ∷ vs) h some = absurd (false≢true h)

pub turn_entries : (values : List Value) → in_turn values ≡ true → 0 < length values → AreEntries values (entries_of values)
turn_entries values h some = record { each = each_value values h; not_empty = some_entries values h some; small = small_entries values h }

turn_of : (entries : List Entry) → All (λ (entry : Entry). entry.number ≤ 1000) entries → in_turn (flat_map entry_values entries) ≡ true
turn_of [] all = refl
turn_of (entry ∷ entries) all =
    let here : entry.number ≤ 1000 = All-head (λ (e : Entry). e.number ≤ 1000) entry entries all in
    let small : small_whole (record { coefficient = pos entry.number; scale = 0 }) ≡ Some entry.number = ap (λ (b : Bool). cond b (Some entry.number) None) (le-leb entry.number 1000 here) in
    ap (λ (o : Option ℕ). is_some o && in_turn (flat_map entry_values entries)) small ∙ turn_of entries (All-tail (λ (e : Entry). e.number ≤ 1000) entry entries all)

some_of : (entries : List Entry) → 0 < length entries → 0 < length (flat_map entry_values entries)
some_of [] some = absurd (omega (arith, some))
some_of (entry ∷ entries) some = omega arith

pub entries_turn : (values : List Value) (entries : List Entry) → AreEntries values entries → (nat_lt 0 (length values) && in_turn values) ≡ true
entries_turn values entries h =
    let turn : in_turn values ≡ true = ap in_turn h.each ∙ turn_of entries h.small in
    let some : 0 < length values = subst (λ (vs : List Value). 0 < length vs) (sym h.each) (some_of entries h.not_empty) in
    and_from _ _ (lt-ltb 0 (length values) some) turn
