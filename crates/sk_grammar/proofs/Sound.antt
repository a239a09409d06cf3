-- What is read from a line is spelled there, and what is refused is a token that is not due.
use Rattle.std.proofs.Common.{◌≡◌, ℕ, ◌+◌, ◌-◌, ◌<◌, ◌≤◌, suc, zero, Bool, true, false, cond, ◌&&◌, ◌||◌, List, [], ◌∷◌, ◌++◌, length, take, drop, refl, ap, sym, ◌∙◌, arith, append_assoc, ◌⊎◌, inl, inr, length-append, subst, Ok, Err, Result, codes}
use Rattle.std.specs.List.{list_all, list_any, take_while, ends_with}
use Rattle.std.specs.Prelude.{◌==◌, nat_lt, nat_eq, count_by}
use Rattle.std.specs.Bool.{beq}
use Rattle.std.proofs.lemmas.Bool.{and_from, and_parts, and_right, false≢true, cases_Bool, eqb-true, eqb-false, ltb-false}
use Rattle.std.proofs.lemmas.List.Folds.{list_all-append}
use Rattle.std.proofs.lemmas.List.Sums.{take_while-cons}
use Rattle.std.proofs.lemmas.List.{take-append-drop, length-take-le}
use Rattle.sk_decimal.specs.Number.{DecimalView, SpellsDecimal}
use Rattle.sk_decimal.proofs.Forms.{is_number_byte, numeral_bytes}
use Rattle.sk_decimal.specs.Reading.{number_of}
use Rattle.sk_decimal.proofs.Exact.{number_is}
use Rattle.sk_grammar.specs.declared.value.Value.{Value}
use Rattle.sk_grammar.specs.declared.value.Value.TheVariants.{Number, Date, Text}
use Rattle.sk_grammar.specs.declared.value.Op.{Op}
use Rattle.sk_grammar.specs.declared.value.Op.TheVariants.{Set, Append}
use Rattle.sk_grammar.specs.declared.fault.Reason.{Reason}
use Rattle.sk_grammar.specs.declared.fault.Reason.TheVariants.{BadName, NoAssign, BadNumber, BadComma, EmptyVector, MixedKinds}
use Rattle.sk_grammar.specs.Lines.{is_white}
use Rattle.sk_grammar.specs.Document.{IsName, is_data_byte, is_name_byte, is_run_byte, is_text, AreOfOneKind}
use Rattle.sk_grammar.specs.Spelling.{IsWhite, IsGap, IsSeparator, is_gap_byte, SpellsValue, SpellsValues}
use Rattle.sk_grammar.specs.Refusal.{Due, LeavesDue, IsMisplaced, AreOfKind, begins, begins_with, goes_on, name_at}
use Rattle.sk_grammar.specs.declared.place.Place.{Place}
use Rattle.sk_grammar.specs.declared.place.Place.TheVariants.{Idle, Named, Signed, Opened, Comma, Valued, Closed}
use Rattle.sk_grammar.specs.Reading.{◌>>=◌, added, further_at, step, read_from}
use Rattle.sk_grammar.specs.ValueReading.{value_at}
use Rattle.sk_grammar.proofs.Complete as complete
use Rattle.sk_grammar.proofs.Places as places
use Rattle.sk_grammar.proofs.Refused as refused
use Rattle.sk_grammar.proofs.Refused.{IsNarrow}
use Rattle.sk_grammar.proofs.Leaves.{Leaves, VectorSoFar, leaves_at, white_more}
use Rattle.sk_grammar.proofs.Lists.{append-[], drop-length-append, take_while-append, differs, all_first, all_rest, or_parts}

-- ---- the name at the front

-- the longest front that passes, and what follows it
pub record FrontSplit (test : ℕ → Bool) (bytes : List ℕ) : Type 0 where
  pub after : List ℕ
  pub joined : bytes ≡ take_while test bytes ++ after
  pub all : list_all test (take_while test bytes) ≡ true

pub front_split : (test : ℕ → Bool) (bytes : List ℕ) → FrontSplit test bytes
front_split test [] = record { after = []; joined = refl; all = refl }
front_split test (byte ∷ bytes) =
    let more = front_split test bytes in
    elim (cases_Bool (test byte)) [
      | inl here ↦
          let is : take_while test (byte ∷ bytes) ≡ byte ∷ take_while test bytes = take_while-cons test byte bytes ∙ ap (λ (b : Bool). cond b (byte ∷ take_while test bytes) []) here in
          record {
            after = more.after;
            joined = ap (λ (b : List ℕ). byte ∷ b) more.joined ∙ ap (λ (r : List ℕ). r ++ more.after) (sym is);
            all = refused.all_taken test (byte ∷ bytes);
          }
      | inr other ↦
          let is : take_while test (byte ∷ bytes) ≡ [] = take_while-cons test byte bytes ∙ ap (λ (b : Bool). cond b (byte ∷ take_while test bytes) []) other in
          record { after = byte ∷ bytes; joined = ap (λ (r : List ℕ). r ++ byte ∷ bytes) (sym is); all = refused.all_taken test (byte ∷ bytes) }
    ]

pub record NameSplit (bytes name : List ℕ) : Type 0 where
  pub after : List ℕ
  pub joined : bytes ≡ name ++ after
  pub all : list_all is_name_byte name ≡ true

and_left_of : (xs ys : List ℕ) → list_all is_name_byte (xs ++ ys) ≡ true → list_all is_name_byte xs ≡ true
and_left_of xs ys h = (and_parts (list_all is_name_byte xs) (list_all is_name_byte ys) (sym (list_all-append is_name_byte xs ys) ∙ h)).0

pub name_split : (bytes : List ℕ) → NameSplit bytes (name_at bytes)
name_split bytes =
    let run = take_while is_name_byte bytes in
    let split = front_split is_name_byte bytes in
    let front = take (length run - 1) run in
    let last = drop (length run - 1) run in
    let cut : front ++ last ≡ run = take-append-drop (length run - 1) run in
    elim (cases_Bool (ends_with nat_eq run (codes "+") && begins_with (codes "=") (drop (length run) bytes))) [
      | inl sign ↦
          let is : name_at bytes ≡ front = ap (λ (b : Bool). cond b front run) sign in
          subst (NameSplit bytes) (sym is) (record {
            after = last ++ split.after;
            joined = split.joined ∙ ap (λ (r : List ℕ). r ++ split.after) (sym cut) ∙ append_assoc front last split.after;
            all = and_left_of front last (ap (list_all is_name_byte) cut ∙ split.all);
          })
      | inr whole ↦
          let is : name_at bytes ≡ run = ap (λ (b : Bool). cond b front run) whole in
          subst (NameSplit bytes) (sym is) (record { after = split.after; joined = split.joined; all = split.all })
    ]

-- ---- one step

-- a token at the front of the bytes, behind which the item so far leaves this place
pub record Stepped (text bytes : List ℕ) (next : Place) (n : ℕ) : Type 0 where
  pub token : List ℕ
  pub after : List ℕ
  pub joined : bytes ≡ token ++ after
  pub long : n ≡ length token
  pub some : 0 < n
  pub leaves : Leaves (text ++ token) after next

name_stepped : (text bytes : List ℕ) → IsWhite text → 0 < length (name_at bytes) → length (name_at bytes) ≤ 32 → Stepped text bytes (Named (name_at bytes)) (length (name_at bytes))
name_stepped text bytes white some short =
    let name = name_at bytes in
    let split = name_split bytes in
    let again : (name ++ []) ++ split.after ≡ bytes = ap (λ (b : List ℕ). b ++ split.after) (append-[] name) ∙ sym split.joined in
    record {
      token = name;
      after = split.after;
      joined = split.joined;
      long = refl;
      some = some;
      leaves = (text, [], sym (append-[] (text ++ name)), white, record { not_empty = some; short = short; bytes = split.all }, refl, ap name_at again);
    }

idle_stepped : (text : List ℕ) (byte : ℕ) (bytes : List ℕ) (next : Place) (n : ℕ) → IsWhite text → step number_of Idle (byte ∷ bytes) ≡ Ok (next, n) → Stepped text (byte ∷ bytes) next n
idle_stepped text byte bytes next n white h =
    let name = name_at (byte ∷ bytes) in
    elim (cases_Bool (length name == 0 || nat_lt 32 (length name))) [
      | inl bad ↦ absurd (let e : Err BadName ≡ Ok (next, n) = sym (ap (λ (b : Bool). cond b (Err BadName) (Ok (Named name, length name))) bad) ∙ h in cc e)
      | inr fine ↦
          let parts = or_parts (length name == 0) (nat_lt 32 (length name)) fine in
          let e : Ok (Named name, length name) ≡ Ok (next, n) = sym (ap (λ (b : Bool). cond b (Err BadName) (Ok (Named name, length name))) fine) ∙ h in
          let same : (Named name, length name) ≡ (next, n) = cc e in
          let some : 0 < length name = let ne = eqb-false (length name) 0 parts.0 in omega arith in
          subst (λ (a : Place × ℕ). Stepped text (byte ∷ bytes) a.0 a.1) same (name_stepped text (byte ∷ bytes) white some (ltb-false 32 (length name) parts.1))
    ]

-- before `=`, a name that ends with `+` has white space behind it
plus_apart : (name space bytes : List ℕ) → IsName name → name_at ((name ++ space) ++ 61 ∷ bytes) ≡ name → ends_with nat_eq name (codes "+") ≡ true → 0 < length space
plus_apart name [] bytes is_name is ends =
    let whole : name_at (name ++ 61 ∷ bytes) ≡ name = ap (λ (b : List ℕ). name_at (b ++ 61 ∷ bytes)) (sym (append-[] name)) ∙ is in
    let run : take_while is_name_byte (name ++ 61 ∷ bytes) ≡ name = take_while-append is_name_byte name (61 ∷ bytes) is_name.bytes refl in
    let sign : begins_with (codes "=") (drop (length name) (name ++ 61 ∷ bytes)) ≡ true = ap (begins_with (codes "=")) (drop-length-append name (61 ∷ bytes)) in
    let short : name_at (name ++ 61 ∷ bytes) ≡ take (length name - 1) name = ap (complete.name_of_run (name ++ 61 ∷ bytes)) run ∙ complete.provided _ _ _ (and_from _ _ ends sign) in
    let same : take (length name - 1) name ≡ name = sym short ∙ whole in
    absurd (omega (arith, length-take-le (length name - 1) name (omega arith), ap length same, is_name.not_empty))
plus_apart name (byte ∷ space) bytes is_name is ends = omega arith

set_stepped : (name text bytes : List ℕ) → Leaves text (61 ∷ bytes) (Named name) → Stepped text (61 ∷ bytes) (Signed name Set) 1
set_stepped name text bytes l = record {
  token = codes "=";
  after = bytes;
  joined = refl;
  long = refl;
  some = omega arith;
  leaves = (
    text ++ codes "=",
    [],
    sym (append-[] (text ++ codes "=")),
    record { indent = l.0; space = l.1; joined = ap (λ (t : List ℕ). t ++ codes "=") l.2; is_indent = l.3; is_name = l.4; is_space = l.5; plus_apart = λ e ends. plus_apart name l.1 bytes l.4 l.6 ends },
    refl,
  );
}

append_stepped : (name text bytes : List ℕ) → Leaves text (43 ∷ 61 ∷ bytes) (Named name) → Stepped text (43 ∷ 61 ∷ bytes) (Signed name Append) 2
append_stepped name text bytes l = record {
  token = codes "+=";
  after = bytes;
  joined = refl;
  long = refl;
  some = omega arith;
  leaves = (
    text ++ codes "+=",
    [],
    sym (append-[] (text ++ codes "+=")),
    record { indent = l.0; space = l.1; joined = ap (λ (t : List ℕ). t ++ codes "+=") l.2; is_indent = l.3; is_name = l.4; is_space = l.5; plus_apart = λ e ends. absurd (cc e) },
    refl,
  );
}

-- bytes that begin with two
pub two_are : (j k : ℕ) (bytes : List ℕ) → begins_with (j ∷ k ∷ []) bytes ≡ true → (rest : List ℕ) × (bytes ≡ j ∷ k ∷ rest)
two_are j k [] h = absurd (false≢true h)
two_are j k (a ∷ []) h = absurd (false≢true (sym (and_right (j == a) false refl) ∙ h))
two_are j k (a ∷ b ∷ rest) h =
    let outer = and_parts (j == a) ((k == b) && true) h in
    let inner = and_parts (k == b) true outer.1 in
    let first : a ≡ j = sym (eqb-true j a outer.0) in
    let second : b ≡ k = sym (eqb-true k b inner.0) in
    (rest, ap (λ (x : ℕ). x ∷ b ∷ rest) first ∙ ap (λ (x : ℕ). j ∷ x ∷ rest) second)

named_stepped : (name text : List ℕ) (byte : ℕ) (bytes : List ℕ) (next : Place) (n : ℕ) → Leaves text (byte ∷ bytes) (Named name) → step number_of (Named name) (byte ∷ bytes) ≡ Ok (next, n) → Stepped text (byte ∷ bytes) next n
named_stepped name text byte bytes next n l h =
    elim (refused.branch (Result (Place × ℕ) Reason) (begins_with (codes "=") (byte ∷ bytes)) (begins_with (codes "+=") (byte ∷ bytes)) false (Ok (Signed name Set, 1)) (Ok (Signed name Append, 2)) (Err NoAssign) (Err NoAssign) (Ok (next, n)) h) [
      | refused.first_is a e ↦
          let same : (Signed name Set, 1) ≡ (next, n) = cc e in
          let is : byte ∷ bytes ≡ 61 ∷ bytes = places.first_is 61 (byte ∷ bytes) a in
          subst (λ (a : Place × ℕ). Stepped text (byte ∷ bytes) a.0 a.1) same
          (subst (λ (b : List ℕ). Stepped text b (Signed name Set) 1) (sym is) (set_stepped name text bytes (subst (λ (b : List ℕ). Leaves text b (Named name)) is l)))
      | refused.second_is b e ↦
          let same : (Signed name Append, 2) ≡ (next, n) = cc e in
          let two = two_are 43 61 (byte ∷ bytes) b in
          subst (λ (a : Place × ℕ). Stepped text (byte ∷ bytes) a.0 a.1) same
          (subst (λ (b : List ℕ). Stepped text b (Signed name Append) 2) (sym two.1) (append_stepped name text two.0 (subst (λ (b : List ℕ). Leaves text b (Named name)) two.1 l)))
      | refused.third_is c e ↦ absurd (false≢true c)
      | refused.none_is a b c e ↦ absurd (cc e)
    ]

-- ---- a value

-- a value at the front of the bytes, and how long it is
pub record ValueHere (bytes : List ℕ) (value : Value) (n : ℕ) : Type 0 where
  pub spelling : List ℕ
  pub after : List ℕ
  pub joined : bytes ≡ spelling ++ after
  pub long : n ≡ length spelling
  pub some : 0 < n
  pub spelled : SpellsValue spelling value
  pub ended : begins (goes_on (is_text value)) after ≡ false

spelling_some : (value : Value) (bytes : List ℕ) → SpellsValue bytes value → 0 < length bytes
spelling_some value [] s = absurd (false≢true (complete.value_first number_of number_is value [] s))
spelling_some value (byte ∷ bytes) s = omega arith

value_here : (byte : ℕ) (bytes : List ℕ) (v : Value × ℕ) → complete.begins_value byte ≡ true → list_all is_data_byte (byte ∷ bytes) ≡ true → IsNarrow (byte ∷ bytes) → value_at number_of (byte ∷ bytes) ≡ Ok v → ValueHere (byte ∷ bytes) v.0 v.1
value_here byte bytes v starts all narrow h =
    let r = refused.value_has byte bytes v starts all narrow h in
    let has = r.has in
    let read : value_at number_of (byte ∷ bytes) ≡ Ok (v.0, length has.spelling) = ap (value_at number_of) has.joined ∙ complete.value_read number_of number_is v.0 has.spelling r.after has.spelled has.ended in
    let e : Ok (v.0, length has.spelling) ≡ Ok v = sym read ∙ h in
    let pairs : (v.0, length has.spelling) ≡ v = cc e in
    let long : length has.spelling ≡ v.1 = ap (λ (p : Value × ℕ). p.1) pairs in
    record {
      spelling = has.spelling;
      after = r.after;
      joined = has.joined;
      long = sym long;
      some = omega (arith, spelling_some v.0 has.spelling has.spelled, long);
      spelled = has.spelled;
      ended = has.ended;
    }

pub bind_ok : {A B : Type 0} (r : Result A Reason) (f : A → Result B Reason) (y : B) → (r >>= f) ≡ Ok y → (x : A) × (r ≡ Ok x) × (f x ≡ Ok y)
bind_ok (Ok x) f y h = (x, refl, h)
bind_ok (Err e) f y h = absurd (cc h)

added_is : (held vs : List Value) (value : Value) → added number_of held value ≡ Ok vs → (vs ≡ held ++ value ∷ []) × AreOfKind (is_text value) held
added_is held vs value h =
    elim (cases_Bool (list_all (λ v. beq (is_text v) (is_text value)) held)) [
      | inl same ↦
          let e : Ok (held ++ value ∷ []) ≡ Ok vs = sym (ap (λ (b : Bool). cond b (Ok (held ++ value ∷ [])) (Err MixedKinds)) same) ∙ h in
          let is : held ++ value ∷ [] ≡ vs = cc e in
          (sym is, same)
      | inr other ↦ absurd (let e : Err MixedKinds ≡ Ok vs = sym (ap (λ (b : Bool). cond b (Ok (held ++ value ∷ [])) (Err MixedKinds)) other) ∙ h in cc e)
    ]

-- a further value of a vector
pub record FurtherHere (name : List ℕ) (op : Op) (held : List Value) (bytes : List ℕ) (next : Place) (n : ℕ) : Type 0 where
  pub value : Value
  pub here : ValueHere bytes value n
  pub next_is : Valued name op (held ++ value ∷ []) ≡ next
  pub of_kind : AreOfKind (is_text value) held

further_here : (name : List ℕ) (op : Op) (held : List Value) (byte : ℕ) (bytes : List ℕ) (next : Place) (n : ℕ) → complete.begins_value byte ≡ true → list_all is_data_byte (byte ∷ bytes) ≡ true → IsNarrow (byte ∷ bytes) → further_at number_of name op held (byte ∷ bytes) ≡ Ok (next, n) → FurtherHere name op held (byte ∷ bytes) next n
further_here name op held byte bytes next n starts all narrow h =
    let outer = bind_ok (value_at number_of (byte ∷ bytes)) (λ v. added number_of held v.0 >>= (λ vs. Ok (Valued name op vs, v.1))) (next, n) h in
    let v = outer.0 in
    let inner = bind_ok (added number_of held v.0) (λ vs. Ok (Valued name op vs, v.1)) (next, n) outer.2 in
    let kinds = added_is held inner.0 v.0 inner.1 in
    let pairs : (Valued name op inner.0, v.1) ≡ (next, n) = let e = inner.2 in cc e in
    let place : Valued name op inner.0 ≡ next = ap (λ (p : Place × ℕ). p.0) pairs in
    let long : v.1 ≡ n = ap (λ (p : Place × ℕ). p.1) pairs in
    record {
      value = v.0;
      here = subst (ValueHere (byte ∷ bytes) v.0) long (value_here byte bytes v starts all narrow outer.1);
      next_is = ap (λ (vs : List Value). Valued name op vs) (sym kinds.0) ∙ place;
      of_kind = kinds.1;
    }

-- one more value behind the others
values_push : (values : List Value) (inner separator spelling : List ℕ) (value : Value) → SpellsValues inner values → IsSeparator separator → SpellsValue spelling value → SpellsValues (inner ++ separator ++ spelling) (values ++ value ∷ [])
values_push [] inner separator spelling value s sep v = absurd s
values_push (held ∷ []) inner separator spelling value s sep v = (inner, separator, spelling, refl, s, sep, v)
values_push (held ∷ next ∷ values) inner separator spelling value s sep v =
    (s.0, s.1, s.2 ++ separator ++ spelling, ap (λ (b : List ℕ). b ++ separator ++ spelling) s.3 ∙ simp append_assoc, s.4, s.5, values_push (next ∷ values) s.2 separator spelling value s.6 sep v)

same_kind : (values : List Value) (inner : List ℕ) (a b : Bool) → SpellsValues inner values → AreOfKind a values → AreOfKind b values → a ≡ b
same_kind [] inner a b s p q = absurd s
same_kind (value ∷ values) inner a b s p q =
    sym (complete.beq-true (is_text value) a (and_parts (beq (is_text value) a) (list_all (λ v. beq (is_text v) a) values) p).0)
    ∙ complete.beq-true (is_text value) b (and_parts (beq (is_text value) b) (list_all (λ v. beq (is_text v) b) values) q).0

beq_same : (a : Bool) → beq a a ≡ true
beq_same true = refl
beq_same false = refl

pub kind_push : (held : List Value) (value : Value) → AreOfKind (is_text value) held → AreOfKind (is_text value) (held ++ value ∷ [])
kind_push held value h = list_all-append (λ v. beq (is_text v) (is_text value)) held (value ∷ []) ∙ and_from _ _ h (and_from _ _ (beq_same (is_text value)) refl)

-- the bytes between two values, behind a comma or without one
gap_separates : (gap : List ℕ) → IsGap gap → list_all (λ byte. is_gap_byte byte || byte == 44) gap ≡ true
gap_separates [] g = refl
gap_separates (byte ∷ gap) g = and_from _ _ (complete.or_left (is_gap_byte byte) (byte == 44) (all_first is_gap_byte byte gap g)) (gap_separates gap (all_rest is_gap_byte byte gap g))

gap_no_comma : (gap : List ℕ) → IsGap gap → count_by (λ byte. byte == 44) gap ≡ 0
gap_no_comma [] g = refl
gap_no_comma (byte ∷ gap) g =
    let other : (byte == 44) ≡ false = differs is_gap_byte byte 44 (all_first is_gap_byte byte gap g) refl in
    omega (arith, complete.count_by-at (λ b. b == 44) byte gap false other, gap_no_comma gap (all_rest is_gap_byte byte gap g))

count-append : (xs ys : List ℕ) → count_by (λ byte. byte == 44) (xs ++ ys) ≡ count_by (λ byte. byte == 44) xs + count_by (λ byte. byte == 44) ys
count-append [] ys = omega arith
count-append (x ∷ xs) ys =
    elim (cases_Bool (x == 44)) [
      | inl is ↦ omega (arith, complete.count_by-at (λ b. b == 44) x (xs ++ ys) true is, complete.count_by-at (λ b. b == 44) x xs true is, count-append xs ys)
      | inr other ↦ omega (arith, complete.count_by-at (λ b. b == 44) x (xs ++ ys) false other, complete.count_by-at (λ b. b == 44) x xs false other, count-append xs ys)
    ]

comma_separates : (gap before : List ℕ) → IsGap gap → IsGap before → IsSeparator (gap ++ codes "," ++ before)
comma_separates gap before g b = record {
  not_empty = omega (arith, length-append (gap ++ codes ",") before, length-append gap (codes ","));
  only = list_all-append (λ byte. is_gap_byte byte || byte == 44) (gap ++ codes ",") before
      ∙ and_from _ _ (list_all-append (λ byte. is_gap_byte byte || byte == 44) gap (codes ",") ∙ and_from _ _ (gap_separates gap g) refl) (gap_separates before b);
  one_comma =
      let one : count_by (λ byte. byte == 44) (codes ",") ≡ 1 = refl in
      omega (arith, count-append (gap ++ codes ",") before, count-append gap (codes ","), gap_no_comma gap g, gap_no_comma before b);
}

number_goes_on : (d : DecimalView) (byte : ℕ) (bytes : List ℕ) → SpellsDecimal (byte ∷ bytes) d → is_run_byte byte ≡ true
number_goes_on d byte bytes s = complete.number_byte_runs byte (all_first is_number_byte byte bytes (numeral_bytes (byte ∷ bytes) s.1.0 s.1.1))

-- a value goes on with what it begins with
value_goes_on : (value : Value) (bytes after : List ℕ) → SpellsValue bytes value → begins (goes_on (is_text value)) (bytes ++ after) ≡ true
value_goes_on (Number d) [] after s = absurd (false≢true (complete.value_first number_of number_is (Number d) [] s))
value_goes_on (Number d) (byte ∷ bytes) after s = number_goes_on d byte bytes s
value_goes_on (Date date) [] after s = absurd (false≢true (complete.value_first number_of number_is (Date date) [] s))
value_goes_on (Date date) (byte ∷ bytes) after s = ap (begins (goes_on false)) (ap (λ (b : List ℕ). b ++ after) (s.0 ∙ s.1.at_sign))
value_goes_on (Text text) bytes after s = ap (λ (b : List ℕ). begins (goes_on true) (b ++ after)) s.0

gap_apart : (gap bytes : List ℕ) (value : Value) (spelling after : List ℕ) → bytes ≡ spelling ++ after → SpellsValue spelling value → begins (goes_on (is_text value)) (gap ++ bytes) ≡ false → 0 < length gap
gap_apart [] bytes value spelling after joined s ends = absurd (false≢true (sym ends ∙ ap (begins (goes_on (is_text value))) joined ∙ value_goes_on value spelling after s))
gap_apart (byte ∷ gap) bytes value spelling after joined s ends = omega arith

-- ---- a step behind each place

single_stepped : (name : List ℕ) (op : Op) (text bytes : List ℕ) (value : Value) (n : ℕ) → Leaves text bytes (Signed name op) → ValueHere bytes value n → Stepped text bytes (Closed name op (value ∷ [])) n
single_stepped name op text bytes value n l here = record {
  token = here.spelling;
  after = here.after;
  joined = here.joined;
  long = here.long;
  some = here.some;
  leaves = (
    l.0,
    l.1,
    here.spelling,
    [],
    ap (λ (t : List ℕ). t ++ here.spelling) l.2 ∙ sym (append-[] (l.0 ++ l.1 ++ here.spelling)),
    l.3,
    l.4,
    refl,
    inl (record { value = value; only = refl; spelled = here.spelled; ended = here.ended }),
  );
}

signed_stepped : (name : List ℕ) (op : Op) (text : List ℕ) (byte : ℕ) (bytes : List ℕ) (next : Place) (n : ℕ) → is_white byte ≡ false → (byte == 10) ≡ false → list_all is_data_byte (byte ∷ bytes) ≡ true → IsNarrow (byte ∷ bytes) → Leaves text (byte ∷ bytes) (Signed name op) → step number_of (Signed name op) (byte ∷ bytes) ≡ Ok (next, n) → Stepped text (byte ∷ bytes) next n
signed_stepped name op text byte bytes next n white line all narrow l h =
    elim (refused.branch (Result (Place × ℕ) Reason) (begins_with (codes "(") (byte ∷ bytes)) (begins_with (codes ",") (byte ∷ bytes)) (begins_with (codes ")") (byte ∷ bytes)) (Ok (Opened name op, 1)) (Err BadComma) (Err BadNumber) (value_at number_of (byte ∷ bytes) >>= (λ v. Ok (Closed name op (v.0 ∷ []), v.1))) (Ok (next, n)) h) [
      | refused.first_is a e ↦
          let same : (Opened name op, 1) ≡ (next, n) = cc e in
          subst (λ (p : Place × ℕ). Stepped text (byte ∷ bytes) p.0 p.1) same (record {
            token = codes "(";
            after = bytes;
            joined = places.first_is 40 (byte ∷ bytes) a;
            long = refl;
            some = omega arith;
            leaves = (l.0, l.1, [], ap (λ (t : List ℕ). t ++ codes "(") l.2 ∙ sym (append-[] (l.0 ++ l.1 ++ codes "(")), l.3, l.4, refl);
          })
      | refused.second_is b e ↦ absurd (cc e)
      | refused.third_is c e ↦ absurd (cc e)
      | refused.none_is a b c e ↦
          let starts = refused.value_byte byte white line (refused.and_true (40 == byte) false a) (refused.and_true (41 == byte) false c) (refused.and_true (44 == byte) false b) in
          let outer = bind_ok (value_at number_of (byte ∷ bytes)) (λ v. Ok (Closed name op (v.0 ∷ []), v.1)) (next, n) e in
          let here = value_here byte bytes outer.0 starts all narrow outer.1 in
          let same : (Closed name op (outer.0.0 ∷ []), outer.0.1) ≡ (next, n) = let f = outer.2 in cc f in
          subst (λ (p : Place × ℕ). Stepped text (byte ∷ bytes) p.0 p.1) same (single_stepped name op text (byte ∷ bytes) outer.0.0 outer.0.1 l here)
    ]

-- a further value, where the vector so far and what separates it are given
further_stepped : (name : List ℕ) (op : Op) (held : List Value) (text bytes : List ℕ) (next : Place) (n : ℕ) (f : FurtherHere name op held bytes next n)
    → VectorSoFar (text ++ f.here.spelling) name op (held ++ f.value ∷ []) (is_text f.value) f.here.after → Stepped text bytes next n
further_stepped name op held text bytes next n f v =
    let whole : VectorSoFar (text ++ f.here.spelling) name op (held ++ f.value ∷ []) (is_text f.value) ([] ++ f.here.after) = v in
    subst (λ (p : Place). Stepped text bytes p n) f.next_is (record {
      token = f.here.spelling;
      after = f.here.after;
      joined = f.here.joined;
      long = f.here.long;
      some = f.here.some;
      leaves = (is_text f.value, text ++ f.here.spelling, [], sym (append-[] (text ++ f.here.spelling)), whole, refl);
    })

opened_stepped : (name : List ℕ) (op : Op) (text : List ℕ) (byte : ℕ) (bytes : List ℕ) (next : Place) (n : ℕ) → is_white byte ≡ false → (byte == 10) ≡ false → list_all is_data_byte (byte ∷ bytes) ≡ true → IsNarrow (byte ∷ bytes) → Leaves text (byte ∷ bytes) (Opened name op) → step number_of (Opened name op) (byte ∷ bytes) ≡ Ok (next, n) → Stepped text (byte ∷ bytes) next n
opened_stepped name op text byte bytes next n white line all narrow l h =
    elim (refused.branch (Result (Place × ℕ) Reason) (begins_with (codes "(") (byte ∷ bytes)) (begins_with (codes ",") (byte ∷ bytes)) (begins_with (codes ")") (byte ∷ bytes)) (Err BadNumber) (Err BadComma) (Err EmptyVector) (further_at number_of name op [] (byte ∷ bytes)) (Ok (next, n)) h) [
      | refused.first_is a e ↦ absurd (cc e)
      | refused.second_is b e ↦ absurd (cc e)
      | refused.third_is c e ↦ absurd (cc e)
      | refused.none_is a b c e ↦
          let starts = refused.value_byte byte white line (refused.and_true (40 == byte) false a) (refused.and_true (41 == byte) false c) (refused.and_true (44 == byte) false b) in
          let f = further_here name op [] byte bytes next n starts all narrow e in
          further_stepped name op [] text (byte ∷ bytes) next n f (record {
            opening = l.0;
            gap = l.1;
            before = l.2;
            inner = f.here.spelling;
            joined = ap (λ (t : List ℕ). t ++ f.here.spelling) l.3;
            is_opening = l.4;
            is_gap = l.5;
            is_before = l.6;
            spelled = f.here.spelled;
            of_kind = kind_push [] f.value refl;
            ended = f.here.ended;
          })
    ]

-- the vector so far, a separator and one more value
vector_push : {front name : List ℕ} {op : Op} {held : List Value} {kind : Bool} {follows : List ℕ} (separator spelling after : List ℕ) (value : Value) → VectorSoFar front name op held kind follows → IsSeparator separator → SpellsValue spelling value → AreOfKind (is_text value) held → begins (goes_on (is_text value)) after ≡ false
    → VectorSoFar (front ++ (separator ++ spelling)) name op (held ++ value ∷ []) (is_text value) after
vector_push {held = held} separator spelling after value v sep s of_kind ended = record {
  opening = v.opening;
  gap = v.gap;
  before = v.before;
  inner = v.inner ++ separator ++ spelling;
  joined = ap (λ (t : List ℕ). t ++ (separator ++ spelling)) v.joined ∙ simp append_assoc;
  is_opening = v.is_opening;
  is_gap = v.is_gap;
  is_before = v.is_before;
  spelled = values_push held v.inner separator spelling value v.spelled sep s;
  of_kind = kind_push held value of_kind;
  ended = ended;
}

comma_stepped : (name : List ℕ) (op : Op) (held : List Value) (text : List ℕ) (byte : ℕ) (bytes : List ℕ) (next : Place) (n : ℕ) → is_white byte ≡ false → (byte == 10) ≡ false → list_all is_data_byte (byte ∷ bytes) ≡ true → IsNarrow (byte ∷ bytes) → Leaves text (byte ∷ bytes) (Comma name op held) → step number_of (Comma name op held) (byte ∷ bytes) ≡ Ok (next, n) → Stepped text (byte ∷ bytes) next n
comma_stepped name op held text byte bytes next n white line all narrow l h =
    elim (refused.branch (Result (Place × ℕ) Reason) (begins_with (codes "(") (byte ∷ bytes)) (begins_with (codes ",") (byte ∷ bytes)) (begins_with (codes ")") (byte ∷ bytes)) (Err BadNumber) (Err BadComma) (Err BadComma) (further_at number_of name op held (byte ∷ bytes)) (Ok (next, n)) h) [
      | refused.first_is a e ↦ absurd (cc e)
      | refused.second_is b e ↦ absurd (cc e)
      | refused.third_is c e ↦ absurd (cc e)
      | refused.none_is a b c e ↦
          let starts = refused.value_byte byte white line (refused.and_true (40 == byte) false a) (refused.and_true (41 == byte) false c) (refused.and_true (44 == byte) false b) in
          let f = further_here name op held byte bytes next n starts all narrow e in
          let separator = l.2 ++ codes "," ++ l.3 in
          let apart : l.1 ++ (separator ++ f.here.spelling) ≡ (l.1 ++ l.2 ++ codes "," ++ l.3) ++ f.here.spelling = simp append_assoc in
          let grouped : l.1 ++ (separator ++ f.here.spelling) ≡ text ++ f.here.spelling = apart ∙ sym (ap (λ (t : List ℕ). t ++ f.here.spelling) l.4) in
          further_stepped name op held text (byte ∷ bytes) next n f
          (subst (λ (t : List ℕ). VectorSoFar t name op (held ++ f.value ∷ []) (is_text f.value) f.here.after) grouped
          (vector_push separator f.here.spelling f.here.after f.value l.5 (comma_separates l.2 l.3 l.6 l.7) f.here.spelled f.of_kind f.here.ended))
    ]

texts : (values : List Value) → AreOfKind true values → list_all is_text values ≡ true
texts [] h = refl
texts (Number d ∷ values) h = absurd (false≢true h)
texts (Date d ∷ values) h = absurd (false≢true h)
texts (Text t ∷ values) h = texts values h

others : (values : List Value) → AreOfKind false values → list_any is_text values ≡ false
others [] h = refl
others (Number d ∷ values) h = others values h
others (Date d ∷ values) h = others values h
others (Text t ∷ values) h = absurd (false≢true h)

closed_up : (opening gap before inner after : List ℕ) → (opening ++ gap ++ codes "(" ++ before ++ inner) ++ after ++ codes ")" ≡ opening ++ gap ++ (codes "(" ++ before ++ inner ++ after ++ codes ")") ++ []
closed_up opening gap before inner after =
    let whole : (opening ++ gap ++ codes "(" ++ before ++ inner) ++ after ++ codes ")" ≡ opening ++ gap ++ (codes "(" ++ before ++ inner ++ after ++ codes ")") = simp append_assoc in
    whole ∙ sym (append-[] (opening ++ gap ++ (codes "(" ++ before ++ inner ++ after ++ codes ")")))

pub kind_of : (kind : Bool) (values : List Value) → AreOfKind kind values → AreOfOneKind values
kind_of true values h = inl (texts values h)
kind_of false values h = inr (others values h)

valued_closes : (name : List ℕ) (op : Op) (held : List Value) (text bytes : List ℕ) → Leaves text (41 ∷ bytes) (Valued name op held) → Stepped text (41 ∷ bytes) (Closed name op held) 1
valued_closes name op held text bytes l =
    let v = l.4 in
    let body = codes "(" ++ v.before ++ v.inner ++ l.2 ++ codes ")" in
    record {
      token = codes ")";
      after = bytes;
      joined = refl;
      long = refl;
      some = omega arith;
      leaves = (
        v.opening,
        v.gap,
        body,
        [],
        ap (λ (t : List ℕ). t ++ codes ")") (l.3 ∙ ap (λ (t : List ℕ). t ++ l.2) v.joined) ∙ closed_up v.opening v.gap v.before v.inner l.2,
        v.is_opening,
        v.is_gap,
        refl,
        inr (record { before = v.before; inner = v.inner; after = l.2; joined = refl; is_before = v.is_before; spelled = v.spelled; is_after = l.5; one_kind = kind_of l.0 held v.of_kind }),
      );
    }

valued_comma : (name : List ℕ) (op : Op) (held : List Value) (text bytes : List ℕ) → Leaves text (44 ∷ bytes) (Valued name op held) → Stepped text (44 ∷ bytes) (Comma name op held) 1
valued_comma name op held text bytes l =
    let moved : l.2 ++ 44 ∷ bytes ≡ l.2 ++ codes "," ++ [] ++ bytes = simp append_assoc in
    record {
      token = codes ",";
      after = bytes;
      joined = refl;
      long = refl;
      some = omega arith;
      leaves = (l.0, l.1, l.2, [], ap (λ (t : List ℕ). t ++ codes ",") l.3 ∙ sym (append-[] (l.1 ++ l.2 ++ codes ",")), subst (VectorSoFar l.1 name op held l.0) moved l.4, l.5, refl);
    }

valued_stepped : (name : List ℕ) (op : Op) (held : List Value) (text : List ℕ) (byte : ℕ) (bytes : List ℕ) (next : Place) (n : ℕ) → is_white byte ≡ false → (byte == 10) ≡ false → list_all is_data_byte (byte ∷ bytes) ≡ true → IsNarrow (byte ∷ bytes) → Leaves text (byte ∷ bytes) (Valued name op held) → step number_of (Valued name op held) (byte ∷ bytes) ≡ Ok (next, n) → Stepped text (byte ∷ bytes) next n
valued_stepped name op held text byte bytes next n white line all narrow l h =
    elim (refused.branch (Result (Place × ℕ) Reason) (begins_with (codes "(") (byte ∷ bytes)) (begins_with (codes ",") (byte ∷ bytes)) (begins_with (codes ")") (byte ∷ bytes)) (Err BadNumber) (Ok (Comma name op held, 1)) (Ok (Closed name op held, 1)) (further_at number_of name op held (byte ∷ bytes)) (Ok (next, n)) h) [
      | refused.first_is a e ↦ absurd (cc e)
      | refused.second_is b e ↦
          let same : (Comma name op held, 1) ≡ (next, n) = cc e in
          let is : byte ∷ bytes ≡ 44 ∷ bytes = places.first_is 44 (byte ∷ bytes) b in
          subst (λ (p : Place × ℕ). Stepped text (byte ∷ bytes) p.0 p.1) same
          (subst (λ (x : List ℕ). Stepped text x (Comma name op held) 1) (sym is) (valued_comma name op held text bytes (subst (λ (x : List ℕ). Leaves text x (Valued name op held)) is l)))
      | refused.third_is c e ↦
          let same : (Closed name op held, 1) ≡ (next, n) = cc e in
          let is : byte ∷ bytes ≡ 41 ∷ bytes = places.first_is 41 (byte ∷ bytes) c in
          subst (λ (p : Place × ℕ). Stepped text (byte ∷ bytes) p.0 p.1) same
          (subst (λ (x : List ℕ). Stepped text x (Closed name op held) 1) (sym is) (valued_closes name op held text bytes (subst (λ (x : List ℕ). Leaves text x (Valued name op held)) is l)))
      | refused.none_is a b c e ↦
          let starts = refused.value_byte byte white line (refused.and_true (40 == byte) false a) (refused.and_true (41 == byte) false c) (refused.and_true (44 == byte) false b) in
          let f = further_here name op held byte bytes next n starts all narrow e in
          let kinds : l.0 ≡ is_text f.value = same_kind held l.4.inner l.0 (is_text f.value) l.4.spelled l.4.of_kind f.of_kind in
          let ends : begins (goes_on (is_text f.value)) (l.2 ++ byte ∷ bytes) ≡ false = subst (λ (k : Bool). begins (goes_on k) (l.2 ++ byte ∷ bytes) ≡ false) kinds l.4.ended in
          let separates : IsSeparator l.2 = record {
            not_empty = gap_apart l.2 (byte ∷ bytes) f.value f.here.spelling f.here.after f.here.joined f.here.spelled ends;
            only = gap_separates l.2 l.5;
            one_comma = omega (arith, gap_no_comma l.2 l.5);
          } in
          let grouped : l.1 ++ (l.2 ++ f.here.spelling) ≡ text ++ f.here.spelling = sym (ap (λ (t : List ℕ). t ++ f.here.spelling) l.3 ∙ append_assoc l.1 l.2 f.here.spelling) in
          further_stepped name op held text (byte ∷ bytes) next n f
          (subst (λ (t : List ℕ). VectorSoFar t name op (held ++ f.value ∷ []) (is_text f.value) f.here.after) grouped
          (vector_push l.2 f.here.spelling f.here.after f.value l.4 separates f.here.spelled f.of_kind f.here.ended))
    ]

pub step_sound : (place : Place) (text : List ℕ) (byte : ℕ) (bytes : List ℕ) (next : Place) (n : ℕ) → is_white byte ≡ false → (byte == 10) ≡ false → list_all is_data_byte (byte ∷ bytes) ≡ true → IsNarrow (byte ∷ bytes) → Leaves text (byte ∷ bytes) place → step number_of place (byte ∷ bytes) ≡ Ok (next, n) → Stepped text (byte ∷ bytes) next n
step_sound Idle text byte bytes next n white line all narrow l h = idle_stepped text byte bytes next n l h
step_sound (Named name) text byte bytes next n white line all narrow l h = named_stepped name text byte bytes next n l h
step_sound (Signed name op) text byte bytes next n white line all narrow l h = signed_stepped name op text byte bytes next n white line all narrow l h
step_sound (Opened name op) text byte bytes next n white line all narrow l h = opened_stepped name op text byte bytes next n white line all narrow l h
step_sound (Comma name op held) text byte bytes next n white line all narrow l h = comma_stepped name op held text byte bytes next n white line all narrow l h
step_sound (Valued name op held) text byte bytes next n white line all narrow l h = valued_stepped name op held text byte bytes next n white line all narrow l h
step_sound (Closed name op held) text byte bytes next n white line all narrow l h = absurd (cc h)

-- ---- a line

-- the bytes behind the text are read to a place, or a token among them is not due
pub data LineAnswer (text bytes : List ℕ) : Result Place Reason → Type 0 where
  passed : {place : Place} → Leaves (text ++ bytes) [] place → LineAnswer text bytes (Ok place)
  stopped : {reason : Reason} (due : Due) (front rest : List ℕ) → bytes ≡ front ++ rest → begins is_white rest ≡ false → LeavesDue (text ++ front) rest due → IsMisplaced due rest reason → LineAnswer text bytes (Err reason)

-- the front of the bytes belongs to the text
answer_shift : (text front bytes : List ℕ) (r : Result Place Reason) → LineAnswer (text ++ front) bytes r → LineAnswer text (front ++ bytes) r
answer_shift text front bytes (Ok place) (passed l) = passed (subst (λ (t : List ℕ). Leaves t [] place) (append_assoc text front bytes) l)
answer_shift text front bytes (Err reason) (stopped due part rest joined token l m) =
    stopped due (front ++ part) rest (ap (λ (b : List ℕ). front ++ b) joined ∙ sym (append_assoc front part rest)) token (subst (λ (t : List ℕ). LeavesDue t rest due) (append_assoc text front part) l) m

pub result_cases : {A : Type 0} (r : Result A Reason) → ((x : A) × (r ≡ Ok x)) ⊎ ((e : Reason) × (r ≡ Err e))
result_cases (Ok x) = inl (x, refl)
result_cases (Err e) = inr (e, refl)

pub white_first : (place : Place) (byte : ℕ) (bytes : List ℕ) → (byte == 10) ≡ false → is_white byte ≡ true → read_from number_of place 0 (byte ∷ bytes) ≡ read_from number_of place 0 bytes
white_first place byte bytes line white = rw (line, white) refl

pub token_first : (place : Place) (byte : ℕ) (bytes : List ℕ) (r : Result (Place × ℕ) Reason) → (byte == 10) ≡ false → is_white byte ≡ false → step number_of place (byte ∷ bytes) ≡ r → read_from number_of place 0 (byte ∷ bytes) ≡ (r >>= (λ next. read_from number_of next.0 (next.1 - 1) bytes))
token_first place byte bytes r line white stepped = rw (stepped, line, white) refl

-- past a token
past_token : (next : Place) (byte : ℕ) (bytes token after : List ℕ) (n : ℕ) → byte ∷ bytes ≡ token ++ after → n ≡ length token → 0 < n → read_from number_of next (n - 1) bytes ≡ read_from number_of next 0 after
past_token next byte bytes [] after n joined long some = absurd (omega arith)
past_token next byte bytes (t ∷ token) after n joined long some =
    let rest : bytes ≡ token ++ after = cc joined in
    let skip : n - 1 ≡ length token = omega arith in
    ap (λ (k : ℕ). read_from number_of next k bytes) skip ∙ ap (read_from number_of next (length token)) rest ∙ complete.skipped number_of number_is next token after

narrow_one : (byte : ℕ) (bytes front white : List ℕ) → byte ∷ bytes ≡ front ++ white → IsWhite white → length front ≤ 132 → IsNarrow bytes
narrow_one byte bytes [] white joined is_white_is short =
    let whole : IsWhite (byte ∷ bytes) = subst (λ (b : List ℕ). IsWhite b) (sym joined) is_white_is in
    record { front = []; white = bytes; joined = refl; is_white = all_rest is_white byte bytes whole; short = omega arith }
narrow_one byte bytes (f ∷ front) white joined is_white_is short =
    let rest : bytes ≡ front ++ white = cc joined in
    record { front = front; white = white; joined = rest; is_white = is_white_is; short = omega arith }

narrow_rest : (front rest : List ℕ) → IsNarrow (front ++ rest) → IsNarrow rest
narrow_rest [] rest narrow = narrow
narrow_rest (byte ∷ front) rest narrow = narrow_rest front rest (narrow_one byte (front ++ rest) narrow.front narrow.white narrow.joined narrow.is_white narrow.short)

data_rest : (front rest : List ℕ) → list_all is_data_byte (front ++ rest) ≡ true → list_all is_data_byte rest ≡ true
data_rest front rest h = (and_parts (list_all is_data_byte front) (list_all is_data_byte rest) (sym (list_all-append is_data_byte front rest) ∙ h)).1

pub line_answer : (fuel : ℕ) (place : Place) (text bytes : List ℕ) → length bytes ≤ fuel → list_all is_data_byte bytes ≡ true → IsNarrow bytes → Leaves text bytes place → LineAnswer text bytes (read_from number_of place 0 bytes)
line_answer fuel place text [] fits all narrow l = passed (subst (λ (t : List ℕ). Leaves t [] place) (sym (append-[] text)) l)
line_answer zero place text (byte ∷ bytes) fits all narrow l = absurd (omega arith)
line_answer (suc fuel) place text (byte ∷ bytes) fits all narrow l =
    let line : (byte == 10) ≡ false = differs is_data_byte byte 10 (all_first is_data_byte byte bytes all) refl in
    elim (cases_Bool (is_white byte)) [
      | inl white ↦
          let more = line_answer fuel place (text ++ byte ∷ []) bytes (omega arith) (all_rest is_data_byte byte bytes all) (narrow_rest (byte ∷ []) bytes narrow) (white_more place text byte bytes white l) in
          subst (LineAnswer text (byte ∷ bytes)) (sym (white_first place byte bytes line white)) (answer_shift text (byte ∷ []) bytes (read_from number_of place 0 bytes) more)
      | inr token ↦ elim (result_cases (step number_of place (byte ∷ bytes))) [
        | inl read ↦
            let next = read.0.0 in
            let s = step_sound place text byte bytes next read.0.1 token line all narrow l read.1 in
            let is : read_from number_of place 0 (byte ∷ bytes) ≡ read_from number_of next 0 s.after = token_first place byte bytes (Ok read.0) line token read.1 ∙ past_token next byte bytes s.token s.after read.0.1 s.joined s.long s.some in
            let all_after = data_rest s.token s.after (subst (λ (b : List ℕ). list_all is_data_byte b ≡ true) s.joined all) in
            let narrow_after = narrow_rest s.token s.after (subst IsNarrow s.joined narrow) in
            let more = line_answer fuel next (text ++ s.token) s.after (omega (arith, fits, ap length s.joined, length-append s.token s.after, s.long, s.some)) all_after narrow_after s.leaves in
            subst (LineAnswer text (byte ∷ bytes)) (sym is) (subst (λ (b : List ℕ). LineAnswer text b (read_from number_of next 0 s.after)) (sym s.joined) (answer_shift text s.token s.after (read_from number_of next 0 s.after) more))
        | inr fault ↦
            let at = leaves_at place text (byte ∷ bytes) l in
            let misplaced = refused.step_misplaced place at.due byte bytes fault.0 at.at token line all narrow fault.1 in
            subst (LineAnswer text (byte ∷ bytes)) (sym (token_first place byte bytes (Err fault.0) line token fault.1))
            (stopped at.due [] (byte ∷ bytes) refl token (subst (λ (t : List ℕ). LeavesDue t (byte ∷ bytes) at.due) (sym (append-[] text)) at.leaves) misplaced)
      ]
    ]
