-- What is refused is a token that is not due.
use Rattle.std.proofs.Common.{◌≡◌, ℕ, ◌+◌, ◌<◌, ◌≤◌, Bool, true, false, cond, ◌&&◌, ◌||◌, not, List, [], ◌∷◌, ◌++◌, length, drop, refl, ap, sym, ◌∙◌, arith, append_assoc, ◌⊎◌, inl, inr, length-append, subst, Some, None, Ok, Err, Result, codes}
use Rattle.std.specs.List.{list_all, list_any, take_while, flat_map}
use Rattle.std.specs.Prelude.{◌==◌, nat_lt, Option}
use Rattle.std.specs.Bool.{beq}
use Rattle.std.proofs.lemmas.Bool.{and_from, and_right, or_cases, false≢true, cases_Bool, eqb-true, ne_eqb, ltb-true, ltb-false}
use Rattle.sk_decimal.specs.Number.{DecimalView}
use Rattle.sk_decimal.specs.Reading.{number_of}
use Rattle.sk_decimal.proofs.Exact.{number_is, number_has, not_number_is, too_wide_is, not_number_has, too_wide_has}
use Rattle.sk_decimal.specs.declared.decimal.NumberFault.{NumberFault}
use Rattle.sk_decimal.specs.declared.decimal.NumberFault.TheVariants.{NotNumber, TooWide}
use Rattle.sk_grammar.specs.declared.value.Value.{Value}
use Rattle.sk_grammar.specs.declared.value.Value.TheVariants.{Number, Date, Text}
use Rattle.sk_grammar.specs.declared.value.Op.{Op}
use Rattle.sk_grammar.specs.declared.value.Op.TheVariants.{Set, Append}
use Rattle.sk_grammar.specs.declared.fault.Reason.{Reason}
use Rattle.sk_grammar.specs.declared.fault.Reason.TheVariants.{BadName, BadDate, BadNumber, NumberTooWide, TextOpen, TextTooLong, MixedKinds, NoAssign, BadComma, EmptyVector, AfterValue}
use Rattle.sk_grammar.specs.Spelling.{IsWhite}
use Rattle.sk_grammar.specs.Document.{is_data_byte, is_run_byte, is_text, doubled, quoted, IsDate}
use Rattle.sk_grammar.specs.Lines.{is_white, is_line_feed}
use Rattle.sk_grammar.proofs.Lists.{all_first, all_rest, or_parts}
use Rattle.std.proofs.lemmas.List.Sums.{take_while-cons}
use Rattle.std.proofs.lemmas.Bool.{eqb-false}
use Rattle.sk_grammar.specs.Refusal.{Due, NameDue, SignDue, BodyDue, FirstDue, NextDue, MoreDue, NothingDue, AreOfKind, HoldsKind, HasQuoted, BeginsWithValue, IsValueDue, IsInVector, value_after_sign, value_after_opening, value_after_comma, value_after_value, in_vector_after_opening, in_vector_after_comma, in_vector_after_value, behind_sign, behind_opening, behind_comma, kind_after_comma, kind_after_value, IsMisplaced, no_name, long_name, no_sign, no_number, end_outside, vector_inside, wide_number, open_text, long_text, bare_date, long_date, other_kind, comma_first, end_behind_comma, empty_vector, behind_value, begins, begins_with, run_at, name_at}
use Rattle.sk_grammar.specs.declared.place.Place.{Place}
use Rattle.sk_grammar.specs.declared.place.Place.TheVariants.{Named, Signed, Opened, Comma, Valued, Closed}
use Rattle.sk_grammar.specs.Reading.{◌>>=◌, added, further_at, step}
use Rattle.sk_grammar.specs.ValueReading.{text_from, text_value, run_value, number_value, value_at}
use Rattle.sk_grammar.proofs.Complete as complete
use Rattle.sk_grammar.proofs.Places as places

-- a text that is spelled is read, so none is where none is read
no_text : (bytes : List ℕ) → list_any is_line_feed (39 ∷ bytes) ≡ false → text_from false bytes ≡ None → (text after : List ℕ) → ¬ HasQuoted (39 ∷ bytes) text after
no_text bytes one none text after q =
    let rest : bytes ≡ (flat_map doubled text ++ codes "'") ++ after = cc (q.0) in
    let read : text_from false bytes ≡ Some text = ap (text_from false) rest ∙ complete.text_from-quoted text after (places.quoted_one_line number_of number_is not_number_is too_wide_is (39 ∷ bytes) text after q one) q.1 in
    let bad : None ≡ Some text = sym none ∙ read in
    cc bad

text_misplaced : (due : Due) (bytes : List ℕ) (reason : Reason) → list_any is_line_feed (39 ∷ bytes) ≡ false → IsValueDue due → (o : Option (List ℕ)) → text_from false bytes ≡ o → text_value number_of o ≡ Err reason → IsMisplaced due (39 ∷ bytes) reason
text_misplaced due bytes reason one value None is h =
    let same : TextOpen ≡ reason = cc h in
    subst (IsMisplaced due (39 ∷ bytes)) same (open_text value refl (no_text bytes one is))
text_misplaced due bytes reason one value (Some text) is h =
    let q = places.text_read_so bytes text is in
    elim (cases_Bool (nat_lt 80 (length text))) [
      | inl long ↦
          let same : TextTooLong ≡ reason = let e : Err TextTooLong ≡ Err reason = rw long at h in cc e in
          subst (IsMisplaced due (39 ∷ bytes)) same (long_text text q.after value (ap (λ (b : List ℕ). 39 ∷ b) q.joined, q.ended) (ltb-true 80 (length text) long))
      | inr short ↦ absurd (let e : Ok (Text text, length (quoted text)) ≡ Err reason = rw short at h in cc e)
    ]

number_misplaced : (due : Due) (bytes : List ℕ) (reason : Reason) → IsValueDue due → 0 < length (run_at bytes) → begins_with (codes "@") bytes ≡ false → (r : Result DecimalView NumberFault) → number_of (run_at bytes) ≡ r → number_value number_of (run_at bytes) r ≡ Err reason → IsMisplaced due bytes reason
number_misplaced due bytes reason value some no_at (Ok d) is h = absurd (cc h)
number_misplaced due bytes reason value some no_at (Err NotNumber) is h =
    let same : BadNumber ≡ reason = cc h in
    subst (IsMisplaced due bytes) same (no_number value some no_at (not_number_has (run_at bytes) is))
number_misplaced due bytes reason value some no_at (Err TooWide) is h =
    let same : NumberTooWide ≡ reason = cc h in
    subst (IsMisplaced due bytes) same (wide_number value (too_wide_has (run_at bytes) is))

bad_date : (due : Due) (bytes : List ℕ) → IsValueDue due → begins_with (codes "@") bytes ≡ true → (length (run_at bytes) == 1 || nat_lt 80 (length (run_at bytes))) ≡ true → IsMisplaced due bytes BadDate
bad_date due bytes value at bad =
    elim (or_cases (length (run_at bytes) == 1) (nat_lt 80 (length (run_at bytes))) bad) [
      | inl one ↦ bare_date value at (eqb-true (length (run_at bytes)) 1 one)
      | inr long ↦ long_date value at (ltb-true 80 (length (run_at bytes)) long)
    ]

-- what a run's value is, by its first byte
run_answer : (bytes : List ℕ) (at : Bool) → begins_with (codes "@") bytes ≡ at → begins is_run_byte bytes ≡ true
    → value_at number_of bytes ≡ cond at (cond (length (run_at bytes) == 1 || nat_lt 80 (length (run_at bytes))) (Err BadDate) (Ok (Date (run_at bytes), length (run_at bytes)))) (number_value number_of (run_at bytes) (number_of (run_at bytes)))
run_answer bytes at at_is run =
    places.run_value_is number_of number_is not_number_is too_wide_is bytes run
    ∙ ap (λ (b : Bool). cond b (cond (length (run_at bytes) == 1 || nat_lt 80 (length (run_at bytes))) (Err BadDate) (Ok (Date (run_at bytes), length (run_at bytes)))) (number_value number_of (run_at bytes) (number_of (run_at bytes))))
    (places.at_kept number_of number_is not_number_is too_wide_is bytes run ∙ at_is)

run_misplaced : (due : Due) (bytes : List ℕ) (reason : Reason) → IsValueDue due → begins is_run_byte bytes ≡ true → 0 < length (run_at bytes) → value_at number_of bytes ≡ Err reason → IsMisplaced due bytes reason
run_misplaced due bytes reason value run some h =
    elim (cases_Bool (begins_with (codes "@") bytes)) [
      | inl at ↦ elim (cases_Bool (length (run_at bytes) == 1 || nat_lt 80 (length (run_at bytes)))) [
        | inl bad ↦
            let same : BadDate ≡ reason =
            let e : Err BadDate ≡ Err reason = sym (ap (λ (b : Bool). cond b (Err BadDate) (Ok (Date (run_at bytes), length (run_at bytes)))) bad) ∙ sym (run_answer bytes true at run) ∙ h in cc e in
            subst (IsMisplaced due bytes) same (bad_date due bytes value at bad)
        | inr fine ↦ absurd (
            let e : Ok (Date (run_at bytes), length (run_at bytes)) ≡ Err reason = sym (ap (λ (b : Bool). cond b (Err BadDate) (Ok (Date (run_at bytes), length (run_at bytes)))) fine) ∙ sym (run_answer bytes true at run) ∙ h in cc e)
      ]
      | inr no_at ↦ number_misplaced due bytes reason value some no_at (number_of (run_at bytes)) refl (sym (run_answer bytes false no_at run) ∙ h)
    ]

run_some : (byte : ℕ) (bytes : List ℕ) → is_run_byte byte ≡ true → 0 < length (run_at (byte ∷ bytes))
run_some byte bytes run = let is = places.run_is byte bytes run in omega (arith, ap length is)

-- what is refused as a value, where one is due
value_misplaced : (due : Due) (byte : ℕ) (bytes : List ℕ) (reason : Reason) → list_any is_line_feed (byte ∷ bytes) ≡ false → IsValueDue due → complete.begins_value byte ≡ true → value_at number_of (byte ∷ bytes) ≡ Err reason → IsMisplaced due (byte ∷ bytes) reason
value_misplaced due byte bytes reason one value starts h =
    elim (cases_Bool (byte == 39)) [
      | inl quote ↦
          let is : byte ≡ 39 = eqb-true byte 39 quote in
          let h' : text_value number_of (text_from false bytes) ≡ Err reason = sym (ap (λ (b : Bool). cond b (text_value number_of (text_from false bytes)) (run_value number_of (run_at (byte ∷ bytes)))) quote) ∙ h in
          subst (λ (b : ℕ). IsMisplaced due (b ∷ bytes) reason) (sym is) (text_misplaced due bytes reason (subst (λ (b : ℕ). list_any is_line_feed (b ∷ bytes) ≡ false) is one) value (text_from false bytes) refl h')
      | inr other ↦
          let run : is_run_byte byte ≡ true = elim (or_cases (is_run_byte byte) (byte == 39) starts) [ inl r ↦ r | inr q ↦ absurd (false≢true (sym other ∙ q)) ] in
          run_misplaced due (byte ∷ bytes) reason value run (run_some byte bytes run) h
    ]

-- ---- a value that is read is spelled so

data_text : (text : List ℕ) (rest : List ℕ) → list_all is_data_byte (flat_map doubled text ++ rest) ≡ true → list_all is_data_byte text ≡ true
data_text [] rest h = refl
data_text (byte ∷ text) rest h =
    elim (cases_Bool (byte == 39)) [
      | inl quote ↦
          let whole : list_all is_data_byte (byte ∷ byte ∷ (flat_map doubled text ++ rest)) ≡ true = ap (λ (b : Bool). list_all is_data_byte (cond b (byte ∷ byte ∷ []) (byte ∷ []) ++ flat_map doubled text ++ rest)) (sym quote) ∙ h in
          and_from _ _ (all_first is_data_byte byte (byte ∷ (flat_map doubled text ++ rest)) whole) (data_text text rest (all_rest is_data_byte byte (flat_map doubled text ++ rest) (all_rest is_data_byte byte (byte ∷ (flat_map doubled text ++ rest)) whole)))
      | inr other ↦
          let whole : list_all is_data_byte (byte ∷ (flat_map doubled text ++ rest)) ≡ true = ap (λ (b : Bool). list_all is_data_byte (cond b (byte ∷ byte ∷ []) (byte ∷ []) ++ flat_map doubled text ++ rest)) (sym other) ∙ h in
          and_from _ _ (all_first is_data_byte byte (flat_map doubled text ++ rest) whole) (data_text text rest (all_rest is_data_byte byte (flat_map doubled text ++ rest) whole))
    ]

pub all_taken : (test : ℕ → Bool) (xs : List ℕ) → list_all test (take_while test xs) ≡ true
all_taken test [] = refl
all_taken test (x ∷ xs) =
    elim (cases_Bool (test x)) [
      | inl here ↦ rw (take_while-cons test x xs) (rw here (and_from _ _ here (all_taken test xs)))
      | inr other ↦ rw (take_while-cons test x xs) (rw other refl)
    ]

all_front : (test other : ℕ → Bool) (xs : List ℕ) → list_all test xs ≡ true → list_all test (take_while other xs) ≡ true
all_front test other [] h = refl
all_front test other (x ∷ xs) h =
    elim (cases_Bool (other x)) [
      | inl here ↦ rw (take_while-cons other x xs) (rw here (and_from _ _ (all_first test x xs h) (all_front test other xs (all_rest test x xs h))))
      | inr stop ↦ rw (take_while-cons other x xs) (rw stop refl)
    ]

-- a run and what follows it
pub record RunSplit (bytes run after : List ℕ) : Type 0 where
  pub joined : bytes ≡ run ++ after
  pub ended : begins is_run_byte after ≡ false

pub run_split : (bytes : List ℕ) → (after : List ℕ) × RunSplit bytes (run_at bytes) after
run_split [] = ([], record { joined = refl; ended = refl })
run_split (byte ∷ bytes) =
    elim (cases_Bool (is_run_byte byte)) [
      | inl run ↦
          let more = run_split bytes in
          (more.0, record { joined = ap (λ (b : List ℕ). byte ∷ b) more.1.joined ∙ sym (ap (λ (r : List ℕ). r ++ more.0) (places.run_is byte bytes run)); ended = more.1.ended })
      | inr other ↦
          let none : run_at (byte ∷ bytes) ≡ [] = take_while-cons is_run_byte byte bytes ∙ ap (λ (b : Bool). cond b (byte ∷ run_at bytes) []) other in
          (byte ∷ bytes, record { joined = sym (ap (λ (r : List ℕ). r ++ byte ∷ bytes) none); ended = other })
    ]

-- at most 132 bytes, and white space
pub record IsNarrow (bytes : List ℕ) : Type 0 where
  pub front : List ℕ
  pub white : List ℕ
  pub joined : bytes ≡ front ++ white
  pub is_white : IsWhite white
  pub short : length front ≤ 132

no_white_quote : (bytes after : List ℕ) → list_all is_white (bytes ++ 39 ∷ after) ≡ false
no_white_quote [] after = refl
no_white_quote (byte ∷ bytes) after = and_right _ _ (no_white_quote bytes after)

before_white : (bytes after front white : List ℕ) → bytes ++ 39 ∷ after ≡ front ++ white → IsWhite white → length bytes + 1 ≤ length front
before_white bytes after [] white joined is_white = absurd (false≢true (sym (no_white_quote bytes after) ∙ subst (λ (b : List ℕ). IsWhite b) (sym joined) is_white))
before_white [] after (f ∷ front) white joined is_white = omega arith
before_white (byte ∷ bytes) after (f ∷ front) white joined is_white =
    let more : bytes ++ 39 ∷ after ≡ front ++ white = cc joined in
    omega (arith, before_white bytes after front white more is_white)

-- a text's closing quote is no white space
quoted_narrow : (text after : List ℕ) → IsNarrow (quoted text ++ after) → length (quoted text) ≤ 132
quoted_narrow text after n =
    let regrouped : (39 ∷ flat_map doubled text) ++ 39 ∷ after ≡ n.front ++ n.white = sym (append_assoc (39 ∷ flat_map doubled text) (codes "'") after) ∙ n.joined in
    let before = before_white (39 ∷ flat_map doubled text) after n.front n.white regrouped n.is_white in
    omega (arith, n.short, length-append (39 ∷ flat_map doubled text) (codes "'"), before)

-- what a value that was read says
pub record ReadsValue (bytes : List ℕ) (value : Value) : Type 0 where
  pub after : List ℕ
  pub has : BeginsWithValue bytes value after

text_has : (bytes : List ℕ) (v : Value × ℕ) → list_all is_data_byte (39 ∷ bytes) ≡ true → IsNarrow (39 ∷ bytes) → (o : Option (List ℕ)) → text_from false bytes ≡ o → text_value number_of o ≡ Ok v → ReadsValue (39 ∷ bytes) v.0
text_has bytes v all narrow None is h = absurd (cc h)
text_has bytes v all narrow (Some text) is h =
    let q = places.text_read_so bytes text is in
    let whole : 39 ∷ bytes ≡ quoted text ++ q.after = ap (λ (b : List ℕ). 39 ∷ b) q.joined in
    let data_all : list_all is_data_byte (flat_map doubled text ++ (codes "'" ++ q.after)) ≡ true = subst (λ (b : List ℕ). list_all is_data_byte b ≡ true) (q.joined ∙ append_assoc (flat_map doubled text) (codes "'") q.after) (all_rest is_data_byte 39 bytes all) in
    elim (cases_Bool (nat_lt 80 (length text))) [
      | inl long ↦ absurd (let e : Err TextTooLong ≡ Ok v = rw long at h in cc e)
      | inr short ↦
          let same : (Text text, length (quoted text)) ≡ v = let e : Ok (Text text, length (quoted text)) ≡ Ok v = rw short at h in cc e in
          subst (λ (w : Value × ℕ). ReadsValue (39 ∷ bytes) w.0) same (record {
            after = q.after;
            has = record {
              spelling = quoted text;
              joined = whole;
              spelled = (refl, record { short = ltb-false 80 (length text) short; fits_line = quoted_narrow text q.after (subst IsNarrow whole narrow); bytes = data_text text (codes "'" ++ q.after) data_all });
              ended = q.ended;
            };
          })
    ]

not_bare_is : (run rest : List ℕ) → run ≡ 64 ∷ rest → (length run == 1) ≡ false → 0 < length rest
not_bare_is run [] is fine = absurd (eqb-false (length run) 1 fine (ap length is))
not_bare_is run (byte ∷ rest) is fine = omega arith

date_has : (run : List ℕ) → begins_with (codes "@") run ≡ true → (length run == 1 || nat_lt 80 (length run)) ≡ false → list_all is_run_byte run ≡ true → list_all is_data_byte run ≡ true → IsDate run
date_has run at fine runs datas =
    let parts = or_parts (length run == 1) (nat_lt 80 (length run)) fine in
    let is = places.first_is 64 run at in
    record {
      rest = drop 1 run;
      at_sign = is;
      not_bare = not_bare_is run (drop 1 run) is parts.0;
      short = ltb-false 80 (length run) parts.1;
      run = runs;
      bytes = datas;
    }

number_has_value : (bytes after : List ℕ) (v : Value × ℕ) → RunSplit bytes (run_at bytes) after → (r : Result DecimalView NumberFault) → number_of (run_at bytes) ≡ r → number_value number_of (run_at bytes) r ≡ Ok v → ReadsValue bytes v.0
number_has_value bytes after v split (Ok d) is h =
    let same : (Number d, length (run_at bytes)) ≡ v = cc h in
    subst (λ (w : Value × ℕ). ReadsValue bytes w.0) same (record {
      after = after;
      has = record { spelling = run_at bytes; joined = split.joined; spelled = number_has (run_at bytes) d is; ended = split.ended };
    })
number_has_value bytes after v split (Err NotNumber) is h = absurd (cc h)
number_has_value bytes after v split (Err TooWide) is h = absurd (cc h)

run_has : (bytes : List ℕ) (v : Value × ℕ) → begins is_run_byte bytes ≡ true → list_all is_data_byte bytes ≡ true → value_at number_of bytes ≡ Ok v → ReadsValue bytes v.0
run_has bytes v run all h =
    let split = run_split bytes in
    elim (cases_Bool (begins_with (codes "@") bytes)) [
      | inl at ↦ elim (cases_Bool (length (run_at bytes) == 1 || nat_lt 80 (length (run_at bytes)))) [
        | inl bad ↦ absurd (
            let e : Err BadDate ≡ Ok v = sym (ap (λ (b : Bool). cond b (Err BadDate) (Ok (Date (run_at bytes), length (run_at bytes)))) bad) ∙ sym (run_answer bytes true at run) ∙ h in cc e)
        | inr fine ↦
            let e : Ok (Date (run_at bytes), length (run_at bytes)) ≡ Ok v = sym (ap (λ (b : Bool). cond b (Err BadDate) (Ok (Date (run_at bytes), length (run_at bytes)))) fine) ∙ sym (run_answer bytes true at run) ∙ h in
            let same : (Date (run_at bytes), length (run_at bytes)) ≡ v = cc e in
            subst (λ (w : Value × ℕ). ReadsValue bytes w.0) same (record {
              after = split.0;
              has = record {
                spelling = run_at bytes;
                joined = split.1.joined;
                spelled = (refl, date_has (run_at bytes) (places.at_kept number_of number_is not_number_is too_wide_is bytes run ∙ at) fine (all_taken is_run_byte bytes) (all_front is_data_byte is_run_byte bytes all));
                ended = split.1.ended;
              };
            })
      ]
      | inr no_at ↦ number_has_value bytes split.0 v split.1 (number_of (run_at bytes)) refl (sym (run_answer bytes false no_at run) ∙ h)
    ]

-- a value that is read is right in itself
pub value_has : (byte : ℕ) (bytes : List ℕ) (v : Value × ℕ) → complete.begins_value byte ≡ true → list_all is_data_byte (byte ∷ bytes) ≡ true → IsNarrow (byte ∷ bytes) → value_at number_of (byte ∷ bytes) ≡ Ok v → ReadsValue (byte ∷ bytes) v.0
value_has byte bytes v starts all narrow h =
    elim (cases_Bool (byte == 39)) [
      | inl quote ↦
          let is : byte ≡ 39 = eqb-true byte 39 quote in
          let h' : text_value number_of (text_from false bytes) ≡ Ok v = sym (ap (λ (b : Bool). cond b (text_value number_of (text_from false bytes)) (run_value number_of (run_at (byte ∷ bytes)))) quote) ∙ h in
          subst (λ (b : ℕ). ReadsValue (b ∷ bytes) v.0) (sym is) (text_has bytes v (subst (λ (b : ℕ). list_all is_data_byte (b ∷ bytes) ≡ true) is all) (subst (λ (b : ℕ). IsNarrow (b ∷ bytes)) is narrow) (text_from false bytes) refl h')
      | inr other ↦
          let run : is_run_byte byte ≡ true = elim (or_cases (is_run_byte byte) (byte == 39) starts) [ inl r ↦ r | inr q ↦ absurd (false≢true (sym other ∙ q)) ] in
          run_has (byte ∷ bytes) v run all h
    ]

-- ---- a token

pub bind_err : {A B : Type 0} (r : Result A Reason) (f : A → Result B Reason) (reason : Reason) → (r >>= f) ≡ Err reason → (r ≡ Err reason) ⊎ ((x : A) × (r ≡ Ok x) × (f x ≡ Err reason))
bind_err (Ok x) f reason h = inr (x, refl, h)
bind_err (Err e) f reason h = let same : e ≡ reason = cc h in inl (ap (λ (x : Reason). Err x) same)

kind_cases : (a b : Bool) → (a ≡ b) ⊎ (a ≡ not b)
kind_cases true true = inl refl
kind_cases true false = inr refl
kind_cases false true = inr refl
kind_cases false false = inl refl

added_kind : (head value : Value) (values : List Value) (reason : Reason) (kind : Bool) → AreOfKind kind (head ∷ values) → added number_of (head ∷ values) value ≡ Err reason → (kind ≡ not (is_text value)) × (MixedKinds ≡ reason)
added_kind head value values reason kind of_kind h =
    elim (kind_cases kind (is_text value)) [
      | inl same ↦
          let all : list_all (λ held. beq (is_text held) (is_text value)) (head ∷ values) ≡ true = subst (λ (k : Bool). list_all (λ held. beq (is_text held) k) (head ∷ values) ≡ true) same of_kind in
          absurd (let e : Ok ((head ∷ values) ++ value ∷ []) ≡ Err reason = sym (ap (λ (b : Bool). cond b (Ok ((head ∷ values) ++ value ∷ [])) (Err MixedKinds)) all) ∙ h in cc e)
      | inr other ↦
          let refused = places.kind_refused number_of number_is not_number_is too_wide_is value head values (subst (λ (k : Bool). AreOfKind k (head ∷ values)) other of_kind) in
          let e : Err MixedKinds ≡ Err reason = sym refused ∙ h in
          (other, cc e)
    ]

-- a further value of a vector that is refused
further_misplaced : (due : Due) (name : List ℕ) (op : Op) (held : List Value) (byte : ℕ) (bytes : List ℕ) (reason : Reason) → IsValueDue due → complete.begins_value byte ≡ true → list_all is_data_byte (byte ∷ bytes) ≡ true → IsNarrow (byte ∷ bytes)
    → ((value : Value) → added number_of held value ≡ Err reason → HoldsKind due (not (is_text value)) × (MixedKinds ≡ reason))
    → further_at number_of name op held (byte ∷ bytes) ≡ Err reason → IsMisplaced due (byte ∷ bytes) reason
further_misplaced due name op held byte bytes reason value starts all narrow mixed h =
    elim (bind_err (value_at number_of (byte ∷ bytes)) (λ v. added number_of held v.0 >>= (λ vs. Ok (Valued name op vs, v.1))) reason h) [
      | inl refused ↦ value_misplaced due byte bytes reason (complete.one_line (byte ∷ bytes) all) value starts refused
      | inr read ↦ elim (bind_err (added number_of held read.0.0) (λ vs. Ok (Valued name op vs, read.0.1)) reason read.2) [
        | inl refused ↦
            let kinds = mixed read.0.0 refused in
            let has = value_has byte bytes read.0 starts all narrow read.1 in
            subst (IsMisplaced due (byte ∷ bytes)) kinds.1 (other_kind read.0.0 has.after kinds.0 has.has)
        | inr fine ↦ absurd (cc (fine.2))
      ]
    ]

pub turned : (k byte : ℕ) → (k == byte) ≡ false → (byte == k) ≡ false
turned k byte h = ne_eqb byte k (λ e. eqb-false k byte h (sym e))

pub and_true : (b c : Bool) → (b && true) ≡ c → b ≡ c
and_true true c h = h
and_true false c h = h

-- which branch of three tests was taken
pub data Branch (A : Type 0) (a b c : Bool) (x y z w e : A) : Type 0 where
  first_is : a ≡ true → x ≡ e → Branch A a b c x y z w e
  second_is : b ≡ true → y ≡ e → Branch A a b c x y z w e
  third_is : c ≡ true → z ≡ e → Branch A a b c x y z w e
  none_is : a ≡ false → b ≡ false → c ≡ false → w ≡ e → Branch A a b c x y z w e

pub branch : (A : Type 0) (a b c : Bool) (x y z w e : A) → cond a x (cond b y (cond c z w)) ≡ e → Branch A a b c x y z w e
branch A true b c x y z w e h = first_is refl h
branch A false true c x y z w e h = second_is refl h
branch A false false true x y z w e h = third_is refl h
branch A false false false x y z w e h = none_is refl refl refl h

-- the first byte of a token that is no parenthesis and no comma begins a value
pub value_byte : (byte : ℕ) → is_white byte ≡ false → (byte == 10) ≡ false → (40 == byte) ≡ false → (41 == byte) ≡ false → (44 == byte) ≡ false → complete.begins_value byte ≡ true
value_byte byte white line left right comma_is =
    let whites = or_parts (byte == 32) (byte == 9) white in
    elim (cases_Bool (byte == 39)) [
      | inl quote ↦ places.or_right (is_run_byte byte) (byte == 39) quote
      | inr other ↦ complete.or_left (is_run_byte byte) (byte == 39)
          (rw (whites.0, whites.1, line, turned 44 byte comma_is, turned 40 byte left, turned 41 byte right, other) refl)
    ]

-- what is refused behind `(`, a comma or a value
vector_misplaced : (due : Due) (byte : ℕ) (bytes : List ℕ) (reason : Reason) → IsInVector due → begins_with (codes "(") (byte ∷ bytes) ≡ true → BadNumber ≡ reason → IsMisplaced due (byte ∷ bytes) reason
vector_misplaced due byte bytes reason v h same = subst (IsMisplaced due (byte ∷ bytes)) same (vector_inside v h)

-- what reading refuses at a place is a token that is not due there, by its row
pub step_misplaced : (place : Place) (due : Due) (byte : ℕ) (bytes : List ℕ) (reason : Reason) → places.IsAt place due → is_white byte ≡ false → (byte == 10) ≡ false → list_all is_data_byte (byte ∷ bytes) ≡ true → IsNarrow (byte ∷ bytes)
    → step number_of place (byte ∷ bytes) ≡ Err reason → IsMisplaced due (byte ∷ bytes) reason
step_misplaced place due byte bytes reason places.idle white line all narrow h =
    elim (cases_Bool (length (name_at (byte ∷ bytes)) == 0 || nat_lt 32 (length (name_at (byte ∷ bytes))))) [
      | inl bad ↦
          let e : Err BadName ≡ Err reason = sym (ap (λ (b : Bool). cond b (Err BadName) (Ok (Named (name_at (byte ∷ bytes)), length (name_at (byte ∷ bytes))))) bad) ∙ h in
          let same : BadName ≡ reason = cc e in
          subst (IsMisplaced NameDue (byte ∷ bytes)) same
          (elim (or_cases (length (name_at (byte ∷ bytes)) == 0) (nat_lt 32 (length (name_at (byte ∷ bytes)))) bad) [
            | inl none ↦ no_name (omega arith) (eqb-true (length (name_at (byte ∷ bytes))) 0 none)
            | inr long ↦ long_name (ltb-true 32 (length (name_at (byte ∷ bytes))) long)
          ])
      | inr fine ↦ absurd (
          let e : Ok (Named (name_at (byte ∷ bytes)), length (name_at (byte ∷ bytes))) ≡ Err reason = sym (ap (λ (b : Bool). cond b (Err BadName) (Ok (Named (name_at (byte ∷ bytes)), length (name_at (byte ∷ bytes))))) fine) ∙ h in cc e)
    ]
step_misplaced place due byte bytes reason (places.named name) white line all narrow h =
    elim (branch (Result (Place × ℕ) Reason) (begins_with (codes "=") (byte ∷ bytes)) (begins_with (codes "+=") (byte ∷ bytes)) false (Ok (Signed name Set, 1)) (Ok (Signed name Append, 2)) (Err NoAssign) (Err NoAssign) (Err reason) h) [
      | first_is a e ↦ absurd (cc e)
      | second_is b e ↦ absurd (cc e)
      | third_is c e ↦ absurd (false≢true c)
      | none_is a b c e ↦ let same : NoAssign ≡ reason = cc e in subst (IsMisplaced SignDue (byte ∷ bytes)) same (no_sign a b)
    ]
step_misplaced place due byte bytes reason (places.signed name op) white line all narrow h =
    elim (branch (Result (Place × ℕ) Reason) (begins_with (codes "(") (byte ∷ bytes)) (begins_with (codes ",") (byte ∷ bytes)) (begins_with (codes ")") (byte ∷ bytes)) (Ok (Opened name op, 1)) (Err BadComma) (Err BadNumber) (value_at number_of (byte ∷ bytes) >>= (λ v. Ok (Closed name op (v.0 ∷ []), v.1))) (Err reason) h) [
      | first_is a e ↦ absurd (cc e)
      | second_is b e ↦ let same : BadComma ≡ reason = cc e in subst (IsMisplaced BodyDue (byte ∷ bytes)) same (comma_first behind_sign b)
      | third_is c e ↦ let same : BadNumber ≡ reason = cc e in subst (IsMisplaced BodyDue (byte ∷ bytes)) same (end_outside c)
      | none_is a b c e ↦
          let starts = value_byte byte white line (and_true (40 == byte) false a) (and_true (41 == byte) false c) (and_true (44 == byte) false b) in
          elim (bind_err (value_at number_of (byte ∷ bytes)) (λ v. Ok (Closed name op (v.0 ∷ []), v.1)) reason e) [
            | inl refused ↦ value_misplaced BodyDue byte bytes reason (complete.one_line (byte ∷ bytes) all) value_after_sign starts refused
            | inr read ↦ absurd (cc (read.2))
          ]
    ]
step_misplaced place due byte bytes reason (places.opened name op) white line all narrow h =
    elim (branch (Result (Place × ℕ) Reason) (begins_with (codes "(") (byte ∷ bytes)) (begins_with (codes ",") (byte ∷ bytes)) (begins_with (codes ")") (byte ∷ bytes)) (Err BadNumber) (Err BadComma) (Err EmptyVector) (further_at number_of name op [] (byte ∷ bytes)) (Err reason) h) [
      | first_is a e ↦ let same : BadNumber ≡ reason = cc e in subst (IsMisplaced FirstDue (byte ∷ bytes)) same (vector_inside in_vector_after_opening a)
      | second_is b e ↦ let same : BadComma ≡ reason = cc e in subst (IsMisplaced FirstDue (byte ∷ bytes)) same (comma_first behind_opening b)
      | third_is c e ↦ let same : EmptyVector ≡ reason = cc e in subst (IsMisplaced FirstDue (byte ∷ bytes)) same (empty_vector c)
      | none_is a b c e ↦
          let starts = value_byte byte white line (and_true (40 == byte) false a) (and_true (41 == byte) false c) (and_true (44 == byte) false b) in
          further_misplaced FirstDue name op [] byte bytes reason value_after_opening starts all narrow (λ value h. absurd (cc h)) e
    ]
step_misplaced place due byte bytes reason (places.comma name op {kind = kind} held values k) white line all narrow h =
    elim (branch (Result (Place × ℕ) Reason) (begins_with (codes "(") (byte ∷ bytes)) (begins_with (codes ",") (byte ∷ bytes)) (begins_with (codes ")") (byte ∷ bytes)) (Err BadNumber) (Err BadComma) (Err BadComma) (further_at number_of name op (held ∷ values) (byte ∷ bytes)) (Err reason) h) [
      | first_is a e ↦ let same : BadNumber ≡ reason = cc e in subst (IsMisplaced (NextDue kind) (byte ∷ bytes)) same (vector_inside in_vector_after_comma a)
      | second_is b e ↦ let same : BadComma ≡ reason = cc e in subst (IsMisplaced (NextDue kind) (byte ∷ bytes)) same (comma_first behind_comma b)
      | third_is c e ↦ let same : BadComma ≡ reason = cc e in subst (IsMisplaced (NextDue kind) (byte ∷ bytes)) same (end_behind_comma c)
      | none_is a b c e ↦
          let starts = value_byte byte white line (and_true (40 == byte) false a) (and_true (41 == byte) false c) (and_true (44 == byte) false b) in
          further_misplaced (NextDue kind) name op (held ∷ values) byte bytes reason value_after_comma starts all narrow
          (λ value h. let kinds = added_kind held value values reason kind k h in (subst (HoldsKind (NextDue kind)) kinds.0 kind_after_comma, kinds.1)) e
    ]
step_misplaced place due byte bytes reason (places.valued name op {kind = kind} held values k) white line all narrow h =
    elim (branch (Result (Place × ℕ) Reason) (begins_with (codes "(") (byte ∷ bytes)) (begins_with (codes ",") (byte ∷ bytes)) (begins_with (codes ")") (byte ∷ bytes)) (Err BadNumber) (Ok (Comma name op (held ∷ values), 1)) (Ok (Closed name op (held ∷ values), 1)) (further_at number_of name op (held ∷ values) (byte ∷ bytes)) (Err reason) h) [
      | first_is a e ↦ let same : BadNumber ≡ reason = cc e in subst (IsMisplaced (MoreDue kind) (byte ∷ bytes)) same (vector_inside in_vector_after_value a)
      | second_is b e ↦ absurd (cc e)
      | third_is c e ↦ absurd (cc e)
      | none_is a b c e ↦
          let starts = value_byte byte white line (and_true (40 == byte) false a) (and_true (41 == byte) false c) (and_true (44 == byte) false b) in
          further_misplaced (MoreDue kind) name op (held ∷ values) byte bytes reason value_after_value starts all narrow
          (λ value h. let kinds = added_kind held value values reason kind k h in (subst (HoldsKind (MoreDue kind)) kinds.0 kind_after_value, kinds.1)) e
    ]
step_misplaced place due byte bytes reason (places.closed name op values) white line all narrow h =
    let same : AfterValue ≡ reason = cc h in subst (IsMisplaced NothingDue (byte ∷ bytes)) same (behind_value (omega arith))
