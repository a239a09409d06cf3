-- One value speaks for all of its kind.
use Rattle.std.proofs.Common.{◌≡◌, ◌≤◌, Bool, true, false, List, [], ◌∷◌, ◌++◌, length, get_or, refl, ap, sym, ◌∙◌, inl, inr, subst, arith, Ok, Err, Result}
use Rattle.std.specs.Prelude.{OnOk, OnErr}
use Rattle.std.specs.List.{list_all}
use Rattle.std.specs.Bool.{beq}
use Rattle.std.proofs.lemmas.Bool.{false≢true, cases_Bool, and_parts}
use Rattle.sk_grammar.specs.declared.value.Value.{Value}
use Rattle.sk_grammar.specs.Document.{AreOfOneKind, is_text}
use Rattle.sk_grammar.specs.Refusal.{AreOfKind}
use Rattle.sk_grammar.proofs.Complete.{kind_of_all}
use Rattle.sk_grammar.proofs.Sound.{kind_of, kind_push}

same_bool : (a b : Bool) → beq a b ≡ true → a ≡ b
same_bool true true h = refl
same_bool true false h = absurd (false≢true h)
same_bool false true h = absurd (false≢true h)
same_bool false false h = refl

same_first : (held : Value) (values : List Value) (kind k : Bool) → AreOfKind k (held ∷ values) → beq (is_text held) kind ≡ true → AreOfKind kind (held ∷ values)
same_first held values kind k all same =
    let is_k : is_text held ≡ k = same_bool (is_text held) k (and_parts (beq (is_text held) k) (list_all (λ v. beq (is_text v) k) values) all).0 in
    let is_kind : is_text held ≡ kind = same_bool (is_text held) kind same in
    subst (λ (b : Bool). AreOfKind b (held ∷ values)) (sym is_k ∙ is_kind) all

first_of_kind : (held : Value) (values : List Value) (kind : Bool) → AreOfOneKind (held ∷ values) → beq (is_text held) kind ≡ list_all (λ v. beq (is_text v) kind) (held ∷ values)
first_of_kind held values kind one =
    let k = kind_of_all (held ∷ values) one in
    elim (cases_Bool (beq (is_text held) kind)) [
      | inl same ↦ same ∙ sym (same_first held values kind k.0 k.1 same)
      | inr other ↦ rw other refl
    ]

pub kind_more : (values : List Value) (value : Value) → AreOfKind (is_text value) values → AreOfOneKind (values ++ value ∷ [])
kind_more values value all = kind_of (is_text value) (values ++ value ∷ []) (kind_push values value all)

pub first_speaks : (values : List Value) (held : Value) (kind : Bool) → 1 ≤ length values → held ≡ get_or values 0 held → AreOfOneKind values → beq (is_text held) kind ≡ list_all (λ v. beq (is_text v) kind) values
first_speaks [] held kind some is one = absurd (omega arith)
first_speaks (value ∷ values) held kind some is one = ap (λ (v : Value). beq (is_text v) kind) is ∙ first_of_kind value values kind one

pub kind_pushed : {A E : Type 0} (r : Result A E) (old new : List Value) (value : Value) → OnOk r (new ≡ old ++ value ∷ []) → OnErr r (new ≡ old) → AreOfKind (is_text value) old → AreOfOneKind old → AreOfOneKind new
kind_pushed (Ok done) old new value ok err all one = subst AreOfOneKind (sym ok) (kind_more old value all)
kind_pushed (Err fault) old new value ok err all one = subst AreOfOneKind (sym err) one
