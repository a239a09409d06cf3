-- A place that a text leaves is the place at which reading stands, and a token that is not due is refused there.
use Rattle.std.proofs.Common.{◌≡◌, ℕ, ◌<◌, Bool, true, false, cond, ◌||◌, not, List, [], ◌∷◌, ◌++◌, length, drop, refl, ap, sym, ◌∙◌, arith, append_assoc, ◌⊎◌, inl, inr, subst, Some, None, Ok, Err, Result, codes}
use Rattle.std.specs.List.{list_all, list_any, flat_map}
use Rattle.std.specs.Prelude.{◌==◌, nat_lt, Option, option_map}
use Rattle.std.specs.Bool.{beq, IsFalse}
use Rattle.std.proofs.lemmas.Bool.{and_parts, false≢true, cases_Bool, eqb-true, eq-eqb, lt-ltb}
use Rattle.sk_decimal.specs.Number.{DecimalView, SpellsDecimal, IsNumberSpelling, IsTooWide}
use Rattle.sk_decimal.specs.declared.decimal.NumberFault.{NumberFault}
use Rattle.sk_decimal.specs.declared.decimal.NumberFault.TheVariants.{NotNumber, TooWide}
use Rattle.sk_grammar.specs.declared.value.Value.{Value}
use Rattle.sk_grammar.specs.declared.value.Value.TheVariants.{Date, Text}
use Rattle.sk_grammar.specs.declared.value.Op.{Op}
use Rattle.sk_grammar.specs.declared.fault.Reason.{Reason}
use Rattle.sk_grammar.specs.declared.fault.Reason.TheVariants.{BadName, BadDate, BadNumber, NumberTooWide, TextOpen, TextTooLong, MixedKinds, NoAssign}
use Rattle.sk_grammar.specs.Lines.{is_white, is_line_feed}
use Rattle.sk_grammar.specs.Document.{is_run_byte, is_text, doubled, quoted}
use Rattle.sk_grammar.specs.Spelling.{SpellsOpening, SpellsValue, SpellsValues, SpellsVector, IsWhite, IsGap}
use Rattle.sk_grammar.specs.Refusal.{Due, NameDue, SignDue, BodyDue, FirstDue, NextDue, MoreDue, NothingDue, HasQuoted, BeginsWithValue, IsValueDue, HoldsKind, kind_after_comma, kind_after_value, IsMisplaced, no_name, long_name, no_sign, no_number, end_outside, vector_inside, wide_number, open_text, long_text, bare_date, long_date, other_kind, comma_first, end_behind_comma, empty_vector, behind_value, LeavesDue, SpellsOpenVector, AreOfKind, begins, begins_with, goes_on, run_at, name_at}
use Rattle.sk_grammar.specs.declared.place.Place.{Place}
use Rattle.sk_grammar.specs.declared.place.Place.TheVariants.{Idle, Named, Signed, Opened, Comma, Valued, Closed}
use Rattle.sk_grammar.specs.Reading.{◌>>=◌, added, step, read_from}
use Rattle.sk_grammar.specs.ValueReading.{text_from, text_value, run_value, number_value, value_at}
use Rattle.sk_decimal.proofs.Forms.{is_number_byte, numeral_bytes, numeral_length}
use Rattle.sk_grammar.proofs.Complete as complete
use Rattle.sk_grammar.proofs.Lists.{differs, differs_from, all_first, or_parts, none_first, none_rest}
use Rattle.std.proofs.lemmas.List.Sums.{take_while-cons}

-- the place leaves this due
pub data IsAt : Place → Due → Type 0 where
  idle : IsAt Idle NameDue
  named : (name : List ℕ) → IsAt (Named name) SignDue
  signed : (name : List ℕ) (op : Op) → IsAt (Signed name op) BodyDue
  opened : (name : List ℕ) (op : Op) → IsAt (Opened name op) FirstDue
  comma : (name : List ℕ) (op : Op) {kind : Bool} (value : Value) (values : List Value) → AreOfKind kind (value ∷ values) → IsAt (Comma name op (value ∷ values)) (NextDue kind)
  valued : (name : List ℕ) (op : Op) {kind : Bool} (value : Value) (values : List Value) → AreOfKind kind (value ∷ values) → IsAt (Valued name op (value ∷ values)) (MoreDue kind)
  closed : (name : List ℕ) (op : Op) (values : List Value) → IsAt (Closed name op values) NothingDue

module _ (number_of : List ℕ → Result DecimalView NumberFault) (exact : (bytes : List ℕ) (d : DecimalView) → SpellsDecimal bytes d → number_of bytes ≡ Ok d) where
  -- reading a text and a rest comes to this place before the rest
  pub record ComesTo (text rest : List ℕ) (due : Due) : Type 0 where
    pub place : Place
    pub at : IsAt place due
    pub read : read_from number_of Idle 0 (text ++ rest) ≡ read_from number_of place 0 rest

  opened_vector : (text follows : List ℕ) (kind : Bool) (s : SpellsOpenVector text kind follows) → read_from number_of Idle 0 (text ++ follows) ≡ read_from number_of (Valued s.name s.op s.values) 0 follows
  opened_vector text follows kind s =
      let regrouped : text ++ follows ≡ s.opening ++ (s.gap ++ (codes "(" ++ (s.before ++ (s.inner ++ follows)))) = ap (λ (b : List ℕ). b ++ follows) s.joined ∙ simp append_assoc in
      ap (λ (b : List ℕ). read_from number_of Idle 0 b) regrouped
      ∙ complete.opening_read number_of exact s.name s.op s.opening (s.gap ++ (codes "(" ++ (s.before ++ (s.inner ++ follows)))) s.is_opening
      ∙ complete.gap_read number_of exact (Signed s.name s.op) s.gap (codes "(" ++ (s.before ++ (s.inner ++ follows))) refl s.is_gap
      ∙ complete.token_read number_of exact (Signed s.name s.op) (Opened s.name s.op) (codes "(") (s.before ++ (s.inner ++ follows)) refl refl
      ∙ complete.gap_read number_of exact (Opened s.name s.op) s.before (s.inner ++ follows) refl s.is_before
      ∙ complete.values_read number_of exact s.name s.op (Opened s.name s.op) [] complete.opened kind refl s.values s.inner follows s.of_kind s.spelled s.ended

  pub at_valued : (name : List ℕ) (op : Op) (kind : Bool) (values : List Value) (inner : List ℕ) → SpellsValues inner values → AreOfKind kind values → IsAt (Valued name op values) (MoreDue kind)
  at_valued name op kind [] inner s k = absurd s
  at_valued name op kind (value ∷ values) inner s k = valued name op value values k

  pub at_comma : (name : List ℕ) (op : Op) (kind : Bool) (values : List Value) (inner : List ℕ) → SpellsValues inner values → AreOfKind kind values → IsAt (Comma name op values) (NextDue kind)
  at_comma name op kind [] inner s k = absurd s
  at_comma name op kind (value ∷ values) inner s k = comma name op value values k

  closed_at : (name : List ℕ) (op : Op) (text rest opening gap body tail : List ℕ) → text ≡ opening ++ gap ++ body ++ tail → SpellsOpening opening name op → IsGap gap → IsWhite tail
      → (((value : Value) × SpellsValue body value × IsFalse (begins (goes_on (is_text value)) (tail ++ rest))) ⊎ ((values : List Value) × SpellsVector body values)) → ComesTo text rest NothingDue
  closed_at name op text rest opening gap body tail joined o g t end =
      let regrouped : text ++ rest ≡ opening ++ (gap ++ (body ++ (tail ++ rest))) = ap (λ (b : List ℕ). b ++ rest) joined ∙ simp append_assoc in
      let front =
      ap (λ (b : List ℕ). read_from number_of Idle 0 b) regrouped
      ∙ complete.opening_read number_of exact name op opening (gap ++ (body ++ (tail ++ rest))) o
      ∙ complete.gap_read number_of exact (Signed name op) gap (body ++ (tail ++ rest)) refl g in
      elim end [
        | inl single ↦ record {
          place = Closed name op (single.0 ∷ []);
          at = closed name op (single.0 ∷ []);
          read = front ∙ complete.single_read number_of exact name op single.0 body (tail ++ rest) single.1 single.2 ∙ complete.white_read number_of exact (Closed name op (single.0 ∷ [])) tail rest t;
        }
        | inr vector ↦ record {
          place = Closed name op vector.0;
          at = closed name op vector.0;
          read = front ∙ complete.vector_read number_of exact name op vector.0 body (tail ++ rest) vector.1 ∙ complete.white_read number_of exact (Closed name op vector.0) tail rest t;
        }
      ]

  pub comes_to : (due : Due) (text rest : List ℕ) → LeavesDue text rest due → ComesTo text rest due
  comes_to NameDue text rest white = record { place = Idle; at = idle; read = complete.white_read number_of exact Idle text rest white }
  comes_to SignDue text rest l =
      let indent = l.0 in
      let name = l.1 in
      let space = l.2 in
      let regrouped : text ++ rest ≡ indent ++ (name ++ (space ++ rest)) = ap (λ (b : List ℕ). b ++ rest) l.3 ∙ simp append_assoc in
      let read : name_at (name ++ (space ++ rest)) ≡ name = ap name_at (sym (append_assoc name space rest)) ∙ l.7 in
      let stepped : step number_of Idle (name ++ (space ++ rest)) ≡ Ok (Named name, length name) = ap (complete.named number_of exact) read ∙ complete.named_is number_of exact name l.5 in
      record {
        place = Named name;
        at = named name;
        read =
            ap (λ (b : List ℕ). read_from number_of Idle 0 b) regrouped
            ∙ complete.white_read number_of exact Idle indent (name ++ (space ++ rest)) l.4
            ∙ complete.token_read number_of exact Idle (Named name) name (space ++ rest) (complete.name_token name l.5) stepped
            ∙ complete.white_read number_of exact (Named name) space rest l.6;
      }
  comes_to BodyDue text rest l =
      let regrouped : text ++ rest ≡ l.0 ++ (l.3 ++ rest) = ap (λ (b : List ℕ). b ++ rest) l.4 ∙ simp append_assoc in
      record {
        place = Signed l.1 l.2;
        at = signed l.1 l.2;
        read =
            ap (λ (b : List ℕ). read_from number_of Idle 0 b) regrouped
            ∙ complete.opening_read number_of exact l.1 l.2 l.0 (l.3 ++ rest) l.5
            ∙ complete.gap_read number_of exact (Signed l.1 l.2) l.3 rest refl l.6;
      }
  comes_to FirstDue text rest l =
      let regrouped : text ++ rest ≡ l.0 ++ (l.3 ++ (codes "(" ++ (l.4 ++ rest))) = ap (λ (b : List ℕ). b ++ rest) l.5 ∙ simp append_assoc in
      record {
        place = Opened l.1 l.2;
        at = opened l.1 l.2;
        read =
            ap (λ (b : List ℕ). read_from number_of Idle 0 b) regrouped
            ∙ complete.opening_read number_of exact l.1 l.2 l.0 (l.3 ++ (codes "(" ++ (l.4 ++ rest))) l.6
            ∙ complete.gap_read number_of exact (Signed l.1 l.2) l.3 (codes "(" ++ (l.4 ++ rest)) refl l.7
            ∙ complete.token_read number_of exact (Signed l.1 l.2) (Opened l.1 l.2) (codes "(") (l.4 ++ rest) refl refl
            ∙ complete.gap_read number_of exact (Opened l.1 l.2) l.4 rest refl l.8;
      }
  comes_to (NextDue kind) text rest l =
      let s = l.4 in
      let follows = ((l.1 ++ codes ",") ++ l.2) ++ rest in
      let regrouped : text ++ rest ≡ l.0 ++ follows = ap (λ (b : List ℕ). b ++ rest) l.3 ∙ simp append_assoc in
      let behind : follows ≡ l.1 ++ (codes "," ++ (l.2 ++ rest)) = simp append_assoc in
      record {
        place = Comma s.name s.op s.values;
        at = at_comma s.name s.op kind s.values s.inner s.spelled s.of_kind;
        read =
            ap (λ (b : List ℕ). read_from number_of Idle 0 b) regrouped
            ∙ opened_vector l.0 follows kind s
            ∙ ap (λ (b : List ℕ). read_from number_of (Valued s.name s.op s.values) 0 b) behind
            ∙ complete.gap_read number_of exact (Valued s.name s.op s.values) l.1 (codes "," ++ (l.2 ++ rest)) refl l.5
            ∙ complete.token_read number_of exact (Valued s.name s.op s.values) (Comma s.name s.op s.values) (codes ",") (l.2 ++ rest) refl refl
            ∙ complete.gap_read number_of exact (Comma s.name s.op s.values) l.2 rest refl l.6;
      }
  comes_to (MoreDue kind) text rest l =
      let s = l.3 in
      let regrouped : text ++ rest ≡ l.0 ++ (l.1 ++ rest) = ap (λ (b : List ℕ). b ++ rest) l.2 ∙ append_assoc l.0 l.1 rest in
      record {
        place = Valued s.name s.op s.values;
        at = at_valued s.name s.op kind s.values s.inner s.spelled s.of_kind;
        read =
            ap (λ (b : List ℕ). read_from number_of Idle 0 b) regrouped
            ∙ opened_vector l.0 (l.1 ++ rest) kind s
            ∙ complete.gap_read number_of exact (Valued s.name s.op s.values) l.1 rest refl l.4;
      }
  comes_to NothingDue text rest l = closed_at l.1 l.2 text rest l.0 l.3 l.4 l.5 l.6 l.7 l.8 l.9 l.10

-- ---- a token that is not due is refused

pub or_right : (a b : Bool) → b ≡ true → (a || b) ≡ true
or_right true b h = refl
or_right false b h = h

pub one_error : (r : Result Place Reason) (a b : Reason) → r ≡ Err a → r ≡ Err b → a ≡ b
one_error r a b p q = cc (p, q)

number_no_at : (bytes : List ℕ) → list_all is_number_byte bytes ≡ true → begins_with (codes "@") bytes ≡ false
number_no_at [] all = refl
number_no_at (byte ∷ bytes) all = rw (differs_from is_number_byte byte 64 (all_first is_number_byte byte bytes all) refl) refl

pub run_first : (bytes : List ℕ) → 0 < length (run_at bytes) → begins is_run_byte bytes ≡ true
run_first [] some = absurd (omega arith)
run_first (byte ∷ bytes) some =
    elim (cases_Bool (is_run_byte byte)) [
      | inl run ↦ run
      | inr other ↦ absurd (let none : run_at (byte ∷ bytes) ≡ [] = take_while-cons is_run_byte byte bytes ∙ ap (λ (b : Bool). cond b (byte ∷ run_at bytes) []) other in omega (arith, ap length none))
    ]

pub run_is : (byte : ℕ) (bytes : List ℕ) → is_run_byte byte ≡ true → run_at (byte ∷ bytes) ≡ byte ∷ run_at bytes
run_is byte bytes run = take_while-cons is_run_byte byte bytes ∙ ap (λ (b : Bool). cond b (byte ∷ run_at bytes) []) run

pub run_begins : (bytes : List ℕ) → begins is_run_byte bytes ≡ true → begins complete.begins_value bytes ≡ true
run_begins [] run = absurd (false≢true run)
run_begins (byte ∷ bytes) run = rw run refl

-- bytes that begin with one byte
pub first_is : (k : ℕ) (bytes : List ℕ) → begins_with (k ∷ []) bytes ≡ true → bytes ≡ k ∷ drop 1 bytes
first_is k [] h = absurd (false≢true h)
first_is k (byte ∷ bytes) h = ap (λ (b : ℕ). b ∷ bytes) (sym (eqb-true k byte (and_parts (k == byte) true h).0))

pub at_begins : (bytes : List ℕ) → begins_with (codes "@") bytes ≡ true → begins is_run_byte bytes ≡ true
at_begins bytes h = ap (begins is_run_byte) (first_is 64 bytes h)

quote_begins : (bytes : List ℕ) → begins_with (codes "'") bytes ≡ true → begins complete.begins_value bytes ≡ true
quote_begins bytes h = ap (begins complete.begins_value) (first_is 39 bytes h)

pub other_kind_differs : (a b : Bool) → beq a (not b) ≡ true → beq a b ≡ false
other_kind_differs true true h = absurd (false≢true h)
other_kind_differs true false h = refl
other_kind_differs false true h = refl
other_kind_differs false false h = absurd (false≢true h)

-- a text that is read is spelled so
pub record Quotes (bytes text : List ℕ) : Type 0 where
  pub after : List ℕ
  pub joined : bytes ≡ (flat_map doubled text ++ codes "'") ++ after
  pub ended : begins (goes_on true) after ≡ false

pub mapped : (byte : ℕ) (o : Option (List ℕ)) (text : List ℕ) → option_map (λ t. byte ∷ t) o ≡ Some text → (t : List ℕ) × (o ≡ Some t) × (byte ∷ t ≡ text)
mapped byte None text h = absurd (cc h)
mapped byte (Some t) text h = (t, refl, cc h)

abbrev from_quote : Bool → List ℕ → List ℕ
from_quote false bytes = bytes
from_quote true bytes = 39 ∷ bytes

quote_joined : (byte : ℕ) (bytes text after : List ℕ) → (byte == 39) ≡ true → bytes ≡ (flat_map doubled text ++ codes "'") ++ after → 39 ∷ byte ∷ bytes ≡ (flat_map doubled (byte ∷ text) ++ codes "'") ++ after
quote_joined byte bytes text after quote joined = rw (eqb-true byte 39 quote) (ap (λ (b : List ℕ). 39 ∷ 39 ∷ b) joined)

text_read_from : (flag : Bool) (bytes text : List ℕ) → text_from flag bytes ≡ Some text → Quotes (from_quote flag bytes) text
text_read_from false [] text h = absurd (cc h)
text_read_from true [] text h =
    let empty : [] ≡ text = cc h in
    subst (λ (t : List ℕ). Quotes (39 ∷ []) t) empty (record { after = []; joined = refl; ended = refl })
text_read_from false (byte ∷ bytes) text h =
    elim (cases_Bool (byte == 39)) [
      | inl quote ↦
          let more : text_from true bytes ≡ Some text = rw quote at h in
          rw (eqb-true byte 39 quote) (text_read_from true bytes text more)
      | inr other ↦ elim (cases_Bool (byte == 10)) [
        | inl line ↦ absurd (let none : None ≡ Some text = rw (other, line) at h in cc none)
        | inr no_line ↦
            let more : option_map (λ t. byte ∷ t) (text_from false bytes) ≡ Some text = rw (other, no_line) at h in
            let split = mapped byte (text_from false bytes) text more in
            let rest = text_read_from false bytes split.0 split.1 in
            subst (λ (t : List ℕ). Quotes (byte ∷ bytes) t) split.2
            (record { after = rest.after; joined = rw other (ap (λ (b : List ℕ). byte ∷ b) rest.joined); ended = rest.ended })
      ]
    ]
text_read_from true (byte ∷ bytes) text h =
    elim (cases_Bool (byte == 39)) [
      | inl quote ↦
          let more : option_map (λ t. byte ∷ t) (text_from false bytes) ≡ Some text = rw quote at h in
          let split = mapped byte (text_from false bytes) text more in
          let rest = text_read_from false bytes split.0 split.1 in
          subst (λ (t : List ℕ). Quotes (39 ∷ byte ∷ bytes) t) split.2
          (record { after = rest.after; joined = quote_joined byte bytes split.0 rest.after quote rest.joined; ended = rest.ended })
      | inr other ↦
          let empty : [] ≡ text = let more : Some [] ≡ Some text = rw other at h in cc more in
          subst (λ (t : List ℕ). Quotes (39 ∷ byte ∷ bytes) t) empty (record { after = byte ∷ bytes; joined = refl; ended = other })
    ]

pub text_read_so : (bytes text : List ℕ) → text_from false bytes ≡ Some text → Quotes bytes text
text_read_so bytes text h = text_read_from false bytes text h

module _ (number_of : List ℕ → Result DecimalView NumberFault)
    (exact : (bytes : List ℕ) (d : DecimalView) → SpellsDecimal bytes d → number_of bytes ≡ Ok d)
    (no_number_is : (bytes : List ℕ) → ¬ IsNumberSpelling bytes → number_of bytes ≡ Err NotNumber)
    (wide_is : (bytes : List ℕ) → IsTooWide bytes → number_of bytes ≡ Err TooWide) where
  further_refused : (name : List ℕ) (op : Op) (place : Place) (held : List Value) → complete.Further number_of exact name op place held → (byte : ℕ) (bytes : List ℕ) (reason : Reason) → complete.begins_value byte ≡ true → value_at number_of (byte ∷ bytes) ≡ Err reason → step number_of place (byte ∷ bytes) ≡ Err reason
  further_refused name op place held further byte bytes reason starts refused =
      complete.further_step number_of exact name op place held further byte bytes starts
      ∙ ap (λ (r : Result (Value × ℕ) Reason). r >>= (λ v. added number_of held v.0 >>= (λ vs. Ok (Valued name op vs, v.1)))) refused

  -- what begins as a value where one is due is refused as a value
  value_refused : (place : Place) (due : Due) (bytes : List ℕ) (reason : Reason) → IsAt place due → IsValueDue due → begins complete.begins_value bytes ≡ true → value_at number_of bytes ≡ Err reason → step number_of place bytes ≡ Err reason
  value_refused place due [] reason at value starts refused = absurd (false≢true starts)
  value_refused place due (byte ∷ bytes) reason (signed name op) value starts refused =
      rw (differs_from complete.begins_value byte 40 starts refl, differs_from complete.begins_value byte 44 starts refl, differs_from complete.begins_value byte 41 starts refl)
      (ap (λ (r : Result (Value × ℕ) Reason). r >>= (λ v. Ok (Closed name op (v.0 ∷ []), v.1))) refused)
  value_refused place due (byte ∷ bytes) reason (opened name op) value starts refused = further_refused name op (Opened name op) [] complete.opened byte bytes reason starts refused
  value_refused place due (byte ∷ bytes) reason (comma name op v vs k) value starts refused = further_refused name op (Comma name op (v ∷ vs)) (v ∷ vs) complete.comma byte bytes reason starts refused
  value_refused place due (byte ∷ bytes) reason (valued name op v vs k) value starts refused = further_refused name op (Valued name op (v ∷ vs)) (v ∷ vs) complete.valued byte bytes reason starts refused
  value_refused place due (byte ∷ bytes) reason idle value starts refused = elim value [ ]
  value_refused place due (byte ∷ bytes) reason (named name) value starts refused = elim value [ ]
  value_refused place due (byte ∷ bytes) reason (closed name op values) value starts refused = elim value [ ]

  pub run_value_is : (bytes : List ℕ) → begins is_run_byte bytes ≡ true → value_at number_of bytes ≡ run_value number_of (run_at bytes)
  run_value_is [] run = absurd (false≢true run)
  run_value_is (byte ∷ bytes) run = ap (λ (b : Bool). cond b (text_value number_of (text_from false bytes)) (run_value number_of (run_at (byte ∷ bytes)))) (differs is_run_byte byte 39 run refl)

  -- the run begins with `@` where the bytes do
  pub at_kept : (bytes : List ℕ) → begins is_run_byte bytes ≡ true → begins_with (codes "@") (run_at bytes) ≡ begins_with (codes "@") bytes
  at_kept [] run = absurd (false≢true run)
  at_kept (byte ∷ bytes) run = ap (begins_with (codes "@")) (run_is byte bytes run)

  number_refused : (bytes : List ℕ) (fault : NumberFault) (reason : Reason) → begins is_run_byte bytes ≡ true → begins_with (codes "@") bytes ≡ false → number_of (run_at bytes) ≡ Err fault → number_value number_of (run_at bytes) (Err fault) ≡ Err reason → value_at number_of bytes ≡ Err reason
  number_refused bytes fault reason run no_at is faulted =
      run_value_is bytes run
      ∙ ap (λ (b : Bool). cond b (cond (length (run_at bytes) == 1 || nat_lt 80 (length (run_at bytes))) (Err BadDate) (Ok (Date (run_at bytes), length (run_at bytes)))) (number_value number_of (run_at bytes) (number_of (run_at bytes)))) (at_kept bytes run ∙ no_at)
      ∙ ap (number_value number_of (run_at bytes)) is
      ∙ faulted

  date_refused : (bytes : List ℕ) → begins_with (codes "@") bytes ≡ true → (length (run_at bytes) == 1 || nat_lt 80 (length (run_at bytes))) ≡ true → value_at number_of bytes ≡ Err BadDate
  date_refused bytes at bad =
      run_value_is bytes (at_begins bytes at)
      ∙ ap (λ (b : Bool). cond b (cond (length (run_at bytes) == 1 || nat_lt 80 (length (run_at bytes))) (Err BadDate) (Ok (Date (run_at bytes), length (run_at bytes)))) (number_value number_of (run_at bytes) (number_of (run_at bytes)))) (at_kept bytes (at_begins bytes at) ∙ at)
      ∙ ap (λ (b : Bool). cond b (Err BadDate) (Ok (Date (run_at bytes), length (run_at bytes)))) bad

  no_text_read : (bytes : List ℕ) → ((text after : List ℕ) → ¬ HasQuoted (39 ∷ bytes) text after) → (o : Option (List ℕ)) → text_from false bytes ≡ o → o ≡ None
  no_text_read bytes none None is = refl
  no_text_read bytes none (Some text) is =
      let q = text_read_so bytes text is in
      absurd (none text q.after (ap (λ (b : List ℕ). 39 ∷ b) q.joined, q.ended))

  quote_value : (bytes : List ℕ) → begins_with (codes "'") bytes ≡ true → value_at number_of bytes ≡ text_value number_of (text_from false (drop 1 bytes))
  quote_value bytes h = ap (value_at number_of) (first_is 39 bytes h)

  open_text_refused : (bytes : List ℕ) → begins_with (codes "'") bytes ≡ true → ((text after : List ℕ) → ¬ HasQuoted bytes text after) → value_at number_of bytes ≡ Err TextOpen
  open_text_refused bytes h none =
      let behind : (text after : List ℕ) → ¬ HasQuoted (39 ∷ drop 1 bytes) text after = λ text after q. none text after (first_is 39 bytes h ∙ q.0, q.1) in
      quote_value bytes h ∙ ap (text_value number_of) (no_text_read (drop 1 bytes) behind _ refl)

  -- a text that stands on one line has no line feed
  text_one_line : (text rest : List ℕ) → list_any is_line_feed (flat_map doubled text ++ rest) ≡ false → list_any is_line_feed text ≡ false
  text_one_line [] rest h = refl
  text_one_line (byte ∷ text) rest h =
      elim (cases_Bool (byte == 39)) [
        | inl quote ↦
            let whole : list_any is_line_feed (byte ∷ byte ∷ (flat_map doubled text ++ rest)) ≡ false = ap (λ (b : Bool). list_any is_line_feed (cond b (byte ∷ byte ∷ []) (byte ∷ []) ++ flat_map doubled text ++ rest)) (sym quote) ∙ h in
            let here : (byte == 10) ≡ false = ap (λ (k : ℕ). k == 10) (eqb-true byte 39 quote) in
            rw here (text_one_line text rest (none_rest is_line_feed byte (flat_map doubled text ++ rest) (none_rest is_line_feed byte (byte ∷ (flat_map doubled text ++ rest)) whole)))
        | inr other ↦
            let whole : list_any is_line_feed (byte ∷ (flat_map doubled text ++ rest)) ≡ false = ap (λ (b : Bool). list_any is_line_feed (cond b (byte ∷ byte ∷ []) (byte ∷ []) ++ flat_map doubled text ++ rest)) (sym other) ∙ h in
            let here : (byte == 10) ≡ false = none_first is_line_feed byte (flat_map doubled text ++ rest) whole in
            rw here (text_one_line text rest (none_rest is_line_feed byte (flat_map doubled text ++ rest) whole))
      ]

  pub quoted_one_line : (bytes text after : List ℕ) → HasQuoted bytes text after → list_any is_line_feed bytes ≡ false → list_any is_line_feed text ≡ false
  quoted_one_line bytes text after q one =
      let whole : list_any is_line_feed (39 ∷ (flat_map doubled text ++ (codes "'" ++ after))) ≡ false = subst (λ (b : List ℕ). list_any is_line_feed b ≡ false) (q.0 ∙ ap (λ (b : List ℕ). 39 ∷ b) (append_assoc (flat_map doubled text) (codes "'") after)) one in
      text_one_line text (codes "'" ++ after) (none_rest is_line_feed 39 (flat_map doubled text ++ (codes "'" ++ after)) whole)

  long_text_refused : (bytes text after : List ℕ) → list_any is_line_feed bytes ≡ false → HasQuoted bytes text after → 80 < length text → value_at number_of bytes ≡ Err TextTooLong
  long_text_refused bytes text after one q long =
      ap (value_at number_of) q.0
      ∙ ap (text_value number_of) (complete.text_from-quoted text after (quoted_one_line bytes text after q one) q.1)
      ∙ ap (λ (b : Bool). cond b (Err TextTooLong) (Ok (Text text, length (quoted text)))) (lt-ltb 80 (length text) long)

  pub kind_refused : (value first : Value) (values : List Value) → AreOfKind (not (is_text value)) (first ∷ values) → added number_of (first ∷ values) value ≡ Err MixedKinds
  kind_refused value first values kind =
      let other : beq (is_text first) (not (is_text value)) ≡ true = (and_parts _ _ kind).0 in
      let differs_is : beq (is_text first) (is_text value) ≡ false = other_kind_differs (is_text first) (is_text value) other in
      rw differs_is refl

  held_comma : (value first : Value) (values : List Value) (kind : Bool) → HoldsKind (NextDue kind) (not (is_text value)) → AreOfKind kind (first ∷ values) → AreOfKind (not (is_text value)) (first ∷ values)
  held_comma value first values kind kind_after_comma k = k

  held_valued : (value first : Value) (values : List Value) (kind : Bool) → HoldsKind (MoreDue kind) (not (is_text value)) → AreOfKind kind (first ∷ values) → AreOfKind (not (is_text value)) (first ∷ values)
  held_valued value first values kind kind_after_value k = k

  further_spelling_refused : (name : List ℕ) (op : Op) (place : Place) (first : Value) (values : List Value) → complete.Further number_of exact name op place (first ∷ values) → (value : Value) (spelling after : List ℕ) → AreOfKind (not (is_text value)) (first ∷ values) → SpellsValue spelling value → begins (goes_on (is_text value)) after ≡ false → step number_of place (spelling ++ after) ≡ Err MixedKinds
  further_spelling_refused name op place first values further value [] after kind s ended = absurd (false≢true (complete.value_first number_of exact value [] s))
  further_spelling_refused name op place first values further value (byte ∷ bytes) after kind s ended =
      complete.further_step number_of exact name op place (first ∷ values) further byte (bytes ++ after) (complete.value_first number_of exact value (byte ∷ bytes) s)
      ∙ ap (λ (r : Result (Value × ℕ) Reason). r >>= (λ v. added number_of (first ∷ values) v.0 >>= (λ vs. Ok (Valued name op vs, v.1)))) (complete.value_read number_of exact value (byte ∷ bytes) after s ended)
      ∙ ap (λ (r : Result (List Value) Reason). r >>= (λ vs. Ok (Valued name op vs, length (byte ∷ bytes)))) (kind_refused value first values kind)

  further_kind_refused : (name : List ℕ) (op : Op) (place : Place) (first : Value) (values : List Value) → complete.Further number_of exact name op place (first ∷ values) → (value : Value) (after : List ℕ) → AreOfKind (not (is_text value)) (first ∷ values) → {bytes : List ℕ} → BeginsWithValue bytes value after → step number_of place bytes ≡ Err MixedKinds
  further_kind_refused name op place first values further value after kind has =
      ap (step number_of place) has.joined ∙ further_spelling_refused name op place first values further value has.spelling after kind has.spelled has.ended

  pub misplaced_refused : (place : Place) (due : Due) (bytes : List ℕ) (reason : Reason) → list_any is_line_feed bytes ≡ false → IsAt place due → IsMisplaced due bytes reason → step number_of place bytes ≡ Err reason
  misplaced_refused place due bytes reason one idle (no_name some none) = rw (eq-eqb (length (name_at bytes)) 0 none) refl
  misplaced_refused place due bytes reason one idle (long_name long) =
      ap (λ (b : Bool). cond b (Err BadName) (Ok (Named (name_at bytes), length (name_at bytes)))) (or_right (length (name_at bytes) == 0) _ (lt-ltb 32 (length (name_at bytes)) long))
  misplaced_refused place due bytes reason one (named name) (no_sign a b) = rw (a, b) refl
  misplaced_refused place due bytes reason one at (no_number value some no_at none) =
      value_refused place due bytes BadNumber at value (run_begins bytes (run_first bytes some)) (number_refused bytes NotNumber BadNumber (run_first bytes some) no_at (no_number_is (run_at bytes) none) refl)
  misplaced_refused place due bytes reason one (signed name op) (end_outside h) = ap (step number_of (Signed name op)) (first_is 41 bytes h)
  misplaced_refused place due bytes reason one (opened name op) (vector_inside v h) = ap (step number_of (Opened name op)) (first_is 40 bytes h)
  misplaced_refused place due bytes reason one (comma name op first values k) (vector_inside v h) = ap (step number_of (Comma name op (first ∷ values))) (first_is 40 bytes h)
  misplaced_refused place due bytes reason one (valued name op first values k) (vector_inside v h) = ap (step number_of (Valued name op (first ∷ values))) (first_is 40 bytes h)
  misplaced_refused place due bytes reason one at (wide_number value wide) =
      let all = numeral_bytes (run_at bytes) wide.0.0 wide.0.1 in
      let run = run_first bytes (numeral_length (run_at bytes) wide.0.0 wide.0.1) in
      value_refused place due bytes NumberTooWide at value (run_begins bytes run)
      (number_refused bytes TooWide NumberTooWide run (sym (at_kept bytes run) ∙ number_no_at (run_at bytes) all) (wide_is (run_at bytes) wide) refl)
  misplaced_refused place due bytes reason one at (open_text value quote none) =
      value_refused place due bytes TextOpen at value (quote_begins bytes quote) (open_text_refused bytes quote none)
  misplaced_refused place due bytes reason one at (long_text text after value q long) =
      value_refused place due bytes TextTooLong at value (ap (begins complete.begins_value) q.0) (long_text_refused bytes text after one q long)
  misplaced_refused place due bytes reason one at (bare_date value h bare) =
      value_refused place due bytes BadDate at value (run_begins bytes (at_begins bytes h)) (date_refused bytes h (complete.or_left _ _ (eq-eqb (length (run_at bytes)) 1 bare)))
  misplaced_refused place due bytes reason one at (long_date value h long) =
      value_refused place due bytes BadDate at value (run_begins bytes (at_begins bytes h)) (date_refused bytes h (or_right (length (run_at bytes) == 1) _ (lt-ltb 80 (length (run_at bytes)) long)))
  misplaced_refused place due bytes reason one (comma name op {kind = kind} first values k) (other_kind value after holds has) =
      further_kind_refused name op (Comma name op (first ∷ values)) first values complete.comma value after (held_comma value first values kind holds k) has
  misplaced_refused place due bytes reason one (valued name op {kind = kind} first values k) (other_kind value after holds has) =
      further_kind_refused name op (Valued name op (first ∷ values)) first values complete.valued value after (held_valued value first values kind holds k) has
  misplaced_refused place due bytes reason one (signed name op) (comma_first b h) = ap (step number_of (Signed name op)) (first_is 44 bytes h)
  misplaced_refused place due bytes reason one (opened name op) (comma_first b h) = ap (step number_of (Opened name op)) (first_is 44 bytes h)
  misplaced_refused place due bytes reason one (comma name op first values k) (comma_first b h) = ap (step number_of (Comma name op (first ∷ values))) (first_is 44 bytes h)
  misplaced_refused place due bytes reason one (comma name op first values k) (end_behind_comma h) = ap (step number_of (Comma name op (first ∷ values))) (first_is 41 bytes h)
  misplaced_refused place due bytes reason one (opened name op) (empty_vector h) = ap (step number_of (Opened name op)) (first_is 41 bytes h)
  misplaced_refused place due bytes reason one (closed name op values) (behind_value some) = refl
  misplaced_refused _ _ bytes _ one idle (vector_inside v h) = elim v [ ]
  misplaced_refused _ _ bytes _ one (named name) (vector_inside v h) = elim v [ ]
  misplaced_refused _ _ bytes _ one (signed name op) (vector_inside v h) = elim v [ ]
  misplaced_refused _ _ bytes _ one (closed name op values) (vector_inside v h) = elim v [ ]
  misplaced_refused _ _ bytes _ one idle (other_kind value after holds has) = elim holds [ ]
  misplaced_refused _ _ bytes _ one (named name) (other_kind value after holds has) = elim holds [ ]
  misplaced_refused _ _ bytes _ one (signed name op) (other_kind value after holds has) = elim holds [ ]
  misplaced_refused _ _ bytes _ one (opened name op) (other_kind value after holds has) = elim holds [ ]
  misplaced_refused _ _ bytes _ one (closed name op values) (other_kind value after holds has) = elim holds [ ]
  misplaced_refused _ _ bytes _ one idle (comma_first b h) = elim b [ ]
  misplaced_refused _ _ bytes _ one (named name) (comma_first b h) = elim b [ ]
  misplaced_refused _ _ bytes _ one (valued name op first values k) (comma_first b h) = elim b [ ]
  misplaced_refused _ _ bytes _ one (closed name op values) (comma_first b h) = elim b [ ]

  -- ---- one reason

  abbrev pub end_of_line : Place → Result Place Reason
  end_of_line Idle = Ok Idle
  end_of_line (Named name) = Err NoAssign
  end_of_line (Signed name op) = Ok (Signed name op)
  end_of_line (Opened name op) = Ok (Opened name op)
  end_of_line (Comma name op values) = Ok (Comma name op values)
  end_of_line (Valued name op values) = Ok (Valued name op values)
  end_of_line (Closed name op values) = Ok (Closed name op values)

  no_value_here : (value : Value) (spelling after : List ℕ) → [] ≡ spelling ++ after → SpellsValue spelling value → ⊥
  no_value_here value [] after joined s = false≢true (complete.value_first number_of exact value [] s)
  no_value_here value (byte ∷ spelling) after joined s = cc joined

  -- at the end of the line a sign alone can be missing
  refused_at_end : (place : Place) (due : Due) (reason : Reason) → IsAt place due → IsMisplaced due [] reason → end_of_line place ≡ Err reason
  refused_at_end place due reason (named name) (no_sign a b) = refl
  refused_at_end place due reason at (no_name some none) = absurd (omega arith)
  refused_at_end place due reason at (long_name long) = absurd (omega arith)
  refused_at_end place due reason at (no_number value some no_at none) = absurd (omega arith)
  refused_at_end place due reason at (end_outside h) = absurd (false≢true h)
  refused_at_end place due reason at (vector_inside v h) = absurd (false≢true h)
  refused_at_end place due reason at (wide_number value wide) = absurd (omega (arith, numeral_length [] wide.0.0 wide.0.1))
  refused_at_end place due reason at (open_text value h none) = absurd (false≢true h)
  refused_at_end place due reason at (long_text text after value q long) = absurd (cc (q.0))
  refused_at_end place due reason at (bare_date value h bare) = absurd (false≢true h)
  refused_at_end place due reason at (long_date value h long) = absurd (false≢true h)
  refused_at_end place due reason at (other_kind value after holds has) = absurd (no_value_here value has.spelling after has.joined has.spelled)
  refused_at_end place due reason at (comma_first b h) = absurd (false≢true h)
  refused_at_end place due reason at (end_behind_comma h) = absurd (false≢true h)
  refused_at_end place due reason at (empty_vector h) = absurd (false≢true h)
  refused_at_end place due reason at (behind_value some) = absurd (omega arith)

  pub refused_here : (place : Place) (due : Due) (rest : List ℕ) (reason : Reason) → list_any is_line_feed rest ≡ false → IsAt place due → IsMisplaced due rest reason → begins (λ byte. is_white byte || byte == 10) rest ≡ false → (read_from number_of place 0 rest >>= end_of_line) ≡ Err reason
  refused_here place due [] reason one at misplaced token = refused_at_end place due reason at misplaced
  refused_here place due (byte ∷ bytes) reason one at misplaced token =
      let stepped : step number_of place (byte ∷ bytes) ≡ Err reason = misplaced_refused place due (byte ∷ bytes) reason one at misplaced in
      let no_white : is_white byte ≡ false = (or_parts (is_white byte) (byte == 10) token).0 in
      let no_line : (byte == 10) ≡ false = (or_parts (is_white byte) (byte == 10) token).1 in
      rw (stepped, no_line, no_white) refl

  -- the first token that is not due has one reason, however the text before it is taken apart
  pub one_reason : (text rest text' rest' : List ℕ) (due due' : Due) (reason reason' : Reason) → text ++ rest ≡ text' ++ rest'
      → list_any is_line_feed rest ≡ false → LeavesDue text rest due → IsMisplaced due rest reason → begins (λ byte. is_white byte || byte == 10) rest ≡ false
      → list_any is_line_feed rest' ≡ false → LeavesDue text' rest' due' → IsMisplaced due' rest' reason' → begins (λ byte. is_white byte || byte == 10) rest' ≡ false
      → reason ≡ reason'
  one_reason text rest text' rest' due due' reason reason' same one l m t one' l' m' t' =
      let c = comes_to number_of exact due text rest l in
      let c' = comes_to number_of exact due' text' rest' l' in
      let first : (read_from number_of Idle 0 (text ++ rest) >>= end_of_line) ≡ Err reason = ap (λ (r : Result Place Reason). r >>= end_of_line) c.read ∙ refused_here c.place due rest reason one c.at m t in
      let second : (read_from number_of Idle 0 (text' ++ rest') >>= end_of_line) ≡ Err reason' = ap (λ (r : Result Place Reason). r >>= end_of_line) c'.read ∙ refused_here c'.place due' rest' reason' one' c'.at m' t' in
      one_error _ reason reason' first (ap (λ (b : List ℕ). read_from number_of Idle 0 b >>= end_of_line) same ∙ second)
