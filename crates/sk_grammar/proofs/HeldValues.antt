-- Values are read back from their spellings.
use Rattle.std.proofs.Common.{◌≡◌, ◌≢◌, ℕ, ◌<◌, ◌≤◌, suc, List, [], ◌∷◌, ◌++◌, length, map, Bool, true, false, cond, ◌&&◌, ◌||◌, refl, ap, sym, ◌∙◌, append_assoc, append-nil, get_or, subst, arith, inl, inr, codes, Some, None, Ok, Err, Result}
use Rattle.std.specs.List.{All, list_all, list_any, flat_map}
use Rattle.std.specs.Bool.{beq}
use Rattle.std.specs.Prelude.{◌==◌, nat_lt, Option, option_map}
use Rattle.std.proofs.lemmas.Bool.{cases_Bool, and_parts, and_from, eqb-true, false≢true}
use Rattle.std.proofs.lemmas.List.{map-append, append_cancel_right}
use Rattle.std.proofs.lemmas.List.Concat.{flat_map-append}
use Rattle.std.proofs.lemmas.List.Folds.{list_all-append, list_any-append}
use Rattle.sk_decimal.specs.Number.{DecimalView}
use Rattle.sk_decimal.specs.Reading.{number_of}
use Rattle.sk_decimal.specs.declared.decimal.NumberFault.{NumberFault}
use Rattle.sk_decimal.specs.declared.decimal.NumberFault.TheVariants.{NotNumber, TooWide}
use Rattle.sk_decimal.proofs.Exact.{number_is, number_has}
use Rattle.sk_decimal.proofs.Printed.{plain_spelling_spells}
use Rattle.sk_grammar.specs.declared.fault.Reason.{Reason}
use Rattle.sk_grammar.specs.declared.fault.Reason.TheVariants.{BadDate, TextTooLong}
use Rattle.sk_grammar.specs.declared.value.Value.{Value}
use Rattle.sk_grammar.specs.declared.value.Value.TheVariants.{Number, Date, Text}
use Rattle.sk_grammar.specs.Document.{is_text, is_run_byte, doubled, quoted, IsValue, AreOfOneKind}
use Rattle.sk_grammar.specs.Canonical.{value_text, is_number, ended_by_line_feeds}
use Rattle.sk_grammar.specs.Lines.{is_line_feed, held_lines, IsEnded}
use Rattle.sk_grammar.specs.Refusal.{run_at, begins_with, AreOfKind}
use Rattle.sk_grammar.specs.ValueReading.{text_from, text_value, date_of, number_value, run_value, value_at}
use Rattle.sk_grammar.specs.Taken.{IsSplitAtFeed}
use Rattle.sk_grammar.specs.HeldValues.{value_if_read, value_of_line, held_values, values_text, only_text, IsHeldValue, HoldsValues}
use Rattle.sk_grammar.proofs.Complete as complete
use Rattle.sk_grammar.proofs.CanonicalLines.{value_line}
use Rattle.sk_grammar.proofs.HeldLines.{ended_behind, ended_line, line_behind, held_front, none_held, ended_rest, text_of_held}
use Rattle.sk_grammar.proofs.Lists.{append-[], none_if_all, take_while-append, differs, or_parts}
use Rattle.sk_grammar.proofs.OneKind.{kind_more, first_speaks}
use Rattle.sk_grammar.proofs.Places.{mapped}
use Rattle.sk_grammar.proofs.Refused.{all_taken}
use Rattle.sk_grammar.proofs.Written.{text_spells}

-- ---- a valid value

pub value_feeds : (value : Value) → IsValue value → list_any is_line_feed (value_text value) ≡ false
value_feeds value valid = complete.one_line (value_text value) (value_line value valid).bytes

pub valid_held : (value : Value) → IsValue value → IsHeldValue value
valid_held value valid = record {
  one_line = value_feeds value valid;
  read = ap value_of_line (sym (append-[] (value_text value)))
      ∙ ap value_if_read (complete.value_read number_of number_is value (value_text value) [] (text_spells plain_spelling_spells value valid) refl);
}

-- ---- a text that was read

text_feeds : (flag : Bool) (bytes text : List ℕ) → text_from flag bytes ≡ Some text → list_any is_line_feed text ≡ false
text_feeds false [] text h = absurd (cc h)
text_feeds true [] text h = let empty : [] ≡ text = cc h in subst (λ (t : List ℕ). list_any is_line_feed t ≡ false) empty refl
text_feeds false (byte ∷ bytes) text h =
    elim (cases_Bool (byte == 39)) [
      | inl quote ↦ text_feeds true bytes text (rw quote at h)
      | inr other ↦ elim (cases_Bool (byte == 10)) [
        | inl line ↦ absurd (let none : None ≡ Some text = rw (other, line) at h in cc none)
        | inr no_line ↦
            let more : option_map (λ t. byte ∷ t) (text_from false bytes) ≡ Some text = rw (other, no_line) at h in
            let split = mapped byte (text_from false bytes) text more in
            subst (λ (t : List ℕ). list_any is_line_feed t ≡ false) split.2 (ap (λ (b : Bool). b || list_any is_line_feed split.0) no_line ∙ text_feeds false bytes split.0 split.1)
      ]
    ]
text_feeds true (byte ∷ bytes) text h =
    elim (cases_Bool (byte == 39)) [
      | inl quote ↦
          let more : option_map (λ t. byte ∷ t) (text_from false bytes) ≡ Some text = rw quote at h in
          let split = mapped byte (text_from false bytes) text more in
          subst (λ (t : List ℕ). list_any is_line_feed t ≡ false) split.2 (ap (λ (b : ℕ). is_line_feed b || list_any is_line_feed split.0) (eqb-true byte 39 quote) ∙ text_feeds false bytes split.0 split.1)
      | inr other ↦
          let empty : [] ≡ text = let more : Some [] ≡ Some text = rw other at h in cc more in
          subst (λ (t : List ℕ). list_any is_line_feed t ≡ false) empty refl
    ]

doubled_feeds : (text : List ℕ) → list_any is_line_feed text ≡ false → list_any is_line_feed (flat_map doubled text) ≡ false
doubled_feeds [] none = refl
doubled_feeds (byte ∷ text) none =
    elim (cases_Bool (byte == 10)) [
      | inl line ↦ absurd (false≢true (sym none ∙ ap (λ (b : Bool). b || list_any is_line_feed text) line))
      | inr no_line ↦
          let rest = doubled_feeds text (ap (λ (b : Bool). b || list_any is_line_feed text) (sym no_line) ∙ none) in
          elim (cases_Bool (byte == 39)) [
            | inl quote ↦ rw quote (rw no_line rest)
            | inr other ↦ rw other (rw no_line rest)
          ]
    ]

quoted_feeds : (text : List ℕ) → list_any is_line_feed text ≡ false → list_any is_line_feed (quoted text) ≡ false
quoted_feeds text none = list_any-append is_line_feed (flat_map doubled text) (codes "'") ∙ rw (doubled_feeds text none) refl

text_held : (text : List ℕ) → list_any is_line_feed text ≡ false → nat_lt 80 (length text) ≡ false → IsHeldValue (Text text)
text_held text none short = record {
  one_line = quoted_feeds text none;
  read = ap (λ (o : Option (List ℕ)). value_if_read (text_value number_of o)) (ap (text_from false) (sym (append-[] (flat_map doubled text ++ codes "'"))) ∙ complete.text_from-quoted text [] none refl) ∙ rw short refl;
}

text_is_held : (bytes : List ℕ) (v : Value × ℕ) (o : Option (List ℕ)) → text_from false bytes ≡ o → text_value number_of o ≡ Ok v → IsHeldValue v.0
text_is_held bytes v None is h = absurd (cc h)
text_is_held bytes v (Some text) is h =
    elim (cases_Bool (nat_lt 80 (length text))) [
      | inl long ↦ absurd (let e : Err TextTooLong ≡ Ok v = rw long at h in cc e)
      | inr short ↦
          let same : (Text text, length (quoted text)) ≡ v = let e : Ok (Text text, length (quoted text)) ≡ Ok v = rw short at h in cc e in
          subst (λ (w : Value × ℕ). IsHeldValue w.0) same (text_held text (text_feeds false bytes text is) short)
    ]

-- ---- a run that was read

date_held : (run : List ℕ) → list_all is_run_byte run ≡ true → begins_with (codes "@") run ≡ true → (length run == 1 || nat_lt 80 (length run)) ≡ false → IsHeldValue (Date run)
date_held [] runs at fine = absurd (false≢true at)
date_held (byte ∷ bytes) runs at fine =
    let run = byte ∷ bytes in
    let whole : run_at run ≡ run = ap run_at (sym (append-[] run)) ∙ take_while-append is_run_byte run [] runs refl in
    let first = and_parts (is_run_byte byte) (list_all is_run_byte bytes) runs in
    record {
      one_line = none_if_all is_run_byte is_line_feed (λ b h. differs is_run_byte b 10 h refl) run runs;
      read = ap (λ (b : Bool). value_if_read (cond b (text_value number_of (text_from false bytes)) (run_value number_of (run_at run)))) (complete.run_no_quote byte first.0)
          ∙ ap (λ (r : List ℕ). value_if_read (run_value number_of r)) whole
          ∙ ap (λ (b : Bool). value_if_read (cond b (date_of run) (number_value number_of run (number_of run)))) at
          ∙ ap (λ (b : Bool). value_if_read (cond b (Err BadDate) (Ok (Date run, length run)))) fine;
    }

date_is_held : (run : List ℕ) (v : Value × ℕ) → list_all is_run_byte run ≡ true → begins_with (codes "@") run ≡ true → date_of run ≡ Ok v → IsHeldValue v.0
date_is_held run v runs at h =
    elim (cases_Bool (length run == 1 || nat_lt 80 (length run))) [
      | inl bad ↦ absurd (let e : Err BadDate ≡ Ok v = sym (ap (λ (b : Bool). cond b (Err BadDate) (Ok (Date run, length run))) bad) ∙ h in cc e)
      | inr fine ↦
          let e : Ok (Date run, length run) ≡ Ok v = sym (ap (λ (b : Bool). cond b (Err BadDate) (Ok (Date run, length run))) fine) ∙ h in
          let same : (Date run, length run) ≡ v = cc e in
          subst (λ (w : Value × ℕ). IsHeldValue w.0) same (date_held run runs at fine)
    ]

number_is_held : (run : List ℕ) (v : Value × ℕ) (r : Result DecimalView NumberFault) → number_of run ≡ r → number_value number_of run r ≡ Ok v → IsHeldValue v.0
number_is_held run v (Ok d) is h =
    let same : (Number d, length run) ≡ v = cc h in
    subst (λ (w : Value × ℕ). IsHeldValue w.0) same (valid_held (Number d) (number_has run d is).0)
number_is_held run v (Err NotNumber) is h = absurd (cc h)
number_is_held run v (Err TooWide) is h = absurd (cc h)

run_is_held : (run : List ℕ) (v : Value × ℕ) → list_all is_run_byte run ≡ true → run_value number_of run ≡ Ok v → IsHeldValue v.0
run_is_held run v runs h =
    let date = date_of run in
    let number = number_value number_of run (number_of run) in
    elim (cases_Bool (begins_with (codes "@") run)) [
      | inl at ↦ date_is_held run v runs at (sym (ap (λ (b : Bool). cond b date number) at) ∙ h)
      | inr other ↦ number_is_held run v (number_of run) refl (sym (ap (λ (b : Bool). cond b date number) other) ∙ h)
    ]

-- what is read as a value is held as it
pub is_held : (bytes : List ℕ) (v : Value × ℕ) → value_at number_of bytes ≡ Ok v → IsHeldValue v.0
is_held [] v h = absurd (cc h)
is_held (byte ∷ bytes) v h =
    let text = text_value number_of (text_from false bytes) in
    let run = run_value number_of (run_at (byte ∷ bytes)) in
    elim (cases_Bool (byte == 39)) [
      | inl quote ↦ text_is_held bytes v (text_from false bytes) refl (sym (ap (λ (b : Bool). cond b text run) quote) ∙ h)
      | inr other ↦ run_is_held (run_at (byte ∷ bytes)) v (all_taken is_run_byte (byte ∷ bytes)) (sym (ap (λ (b : Bool). cond b text run) other) ∙ h)
    ]

-- ---- one more value

values_more : (values : List Value) (value : Value) → values_text (values ++ value ∷ []) ≡ values_text values ++ (value_text value ++ 10 ∷ [])
values_more values value =
    ap ended_by_line_feeds (map-append value_text values (value ∷ []))
    ∙ flat_map-append (λ (line : List ℕ). line ++ 10 ∷ []) (map value_text values) (value_text value ∷ [])
    ∙ ap (λ (text : List ℕ). values_text values ++ text) (append-[] (value_text value ++ 10 ∷ []))

pub value_behind : (text more : List ℕ) (value : Value) → IsEnded text → IsHeldValue value → more ≡ text ++ (value_text value ++ 10 ∷ []) → held_values more ≡ held_values text ++ value ∷ []
value_behind text more value ended held is =
    ap held_values is
    ∙ ap (map value_of_line) (line_behind text (value_text value) ended held.one_line)
    ∙ map-append value_of_line (held_lines text) (value_text value ∷ [])
    ∙ ap (λ (v : Value). held_values text ++ v ∷ []) held.read

or_none : (b : Bool) → b ≡ (b || false)
or_none true = refl
or_none false = refl

and_all : (b : Bool) → b ≡ (b && true)
and_all true = refl
and_all false = refl

last_any : (values : List Value) (value : Value) → (list_any is_text values || is_text value) ≡ list_any is_text (values ++ value ∷ [])
last_any values value = ap (λ (b : Bool). list_any is_text values || b) (or_none (is_text value)) ∙ sym (list_any-append is_text values (value ∷ []))

last_all : (values : List Value) (value : Value) → (list_all is_number values && is_number value) ≡ list_all is_number (values ++ value ∷ [])
last_all values value = ap (λ (b : Bool). list_all is_number values && b) (and_all (is_number value)) ∙ sym (list_all-append is_number values (value ∷ []))

pub value_pushed : (text more : List ℕ) (texts numbers texts' numbers' : Bool) (value : Value) → HoldsValues text texts numbers → IsHeldValue value → AreOfKind (is_text value) (held_values text)
    → more ≡ text ++ (value_text value ++ 10 ∷ []) → texts' ≡ (texts || is_text value) → numbers' ≡ (numbers && is_number value) → HoldsValues more texts' numbers'
value_pushed text more texts numbers texts' numbers' value holds held kind is texts_is numbers_is =
    let values = held_values text in
    let behind = value_behind text more value holds.ended held is in
    record {
      ended = subst IsEnded (sym is) (ended_behind text (value_text value ++ 10 ∷ []) holds.ended (ended_line (value_text value)));
      written = is ∙ ap (λ (t : List ℕ). t ++ (value_text value ++ 10 ∷ [])) holds.written ∙ sym (values_more values value) ∙ ap values_text (sym behind);
      one_kind = subst AreOfOneKind (sym behind) (kind_more values value kind);
      texts = texts_is ∙ ap (λ (b : Bool). b || is_text value) holds.texts ∙ last_any values value ∙ ap (list_any is_text) (sym behind);
      numbers = numbers_is ∙ ap (λ (b : Bool). b && is_number value) holds.numbers ∙ last_all values value ∙ ap (list_all is_number) (sym behind);
    }

-- ---- the kind of the values

any_is_first : (value : Value) (values : List Value) → AreOfOneKind (value ∷ values) → list_any is_text (value ∷ values) ≡ is_text value
any_is_first value values (inl all) = let t = (and_parts (is_text value) (list_all is_text values) all).0 in ap (λ (b : Bool). b || list_any is_text values) t ∙ sym t
any_is_first value values (inr none) = none ∙ sym (or_parts (is_text value) (list_any is_text values) none).0

kind_of_values : (values : List Value) (kind : Bool) → 0 < length values → AreOfOneKind values → beq (list_any is_text values) kind ≡ list_all (λ held. beq (is_text held) kind) values
kind_of_values [] kind some one = absurd (omega arith)
kind_of_values (value ∷ values) kind some one = ap (λ (b : Bool). beq b kind) (any_is_first value values one) ∙ first_speaks (value ∷ values) value kind (omega arith) refl one

no_text : (values : List Value) → values_text values ≢ [] → 0 < length values
no_text [] some = absurd (some refl)
no_text (value ∷ values) some = omega arith

pub kind_held : (text : List ℕ) (texts numbers kind : Bool) → HoldsValues text texts numbers → 0 < length text → beq texts kind ≡ list_all (λ held. beq (is_text held) kind) (held_values text)
kind_held text texts numbers kind holds some =
    ap (λ (b : Bool). beq b kind) holds.texts ∙ kind_of_values (held_values text) kind (no_text (held_values text) (λ none. omega (arith, ap length holds.written, ap length none))) holds.one_kind

-- what stands in front of a value is of its kind
pub kind_in_front : (front back : List Value) (value : Value) → AreOfOneKind (front ++ value ∷ back) → AreOfKind (is_text value) front
kind_in_front front back value one =
    let kind = complete.kind_of_all (front ++ value ∷ back) one in
    let parts = and_parts _ _ (sym (list_all-append (λ v. beq (is_text v) kind.0) front (value ∷ back)) ∙ kind.1) in
    let same = complete.beq-true (is_text value) kind.0 (and_parts _ _ parts.1).0 in
    subst (λ (k : Bool). AreOfKind k front) (sym same) parts.0

-- ---- one value

pub only_held : (text line behind : List ℕ) (texts numbers : Bool) → HoldsValues text texts numbers → IsSplitAtFeed text line behind → length behind < 1 → Some line ≡ only_text (held_values text)
only_held text line [] texts numbers holds split short =
    let one : held_values text ≡ value_of_line line ∷ [] = ap (map value_of_line) (held_front text line [] split) in
    let whole : line ++ 10 ∷ [] ≡ value_text (value_of_line line) ++ 10 ∷ [] =
    sym split.joined ∙ holds.written ∙ ap values_text one ∙ append-[] (value_text (value_of_line line) ++ 10 ∷ []) in
    ap (λ (t : List ℕ). Some t) (append_cancel_right line (value_text (value_of_line line)) (10 ∷ []) whole) ∙ ap only_text (sym one)
only_held text line (byte ∷ behind) texts numbers holds split short = absurd (omega arith)

two_held : (line : List ℕ) (lines : List (List ℕ)) → lines ≢ [] → None ≡ only_text (map value_of_line (line ∷ lines))
two_held line [] some = absurd (some refl)
two_held line (next ∷ lines) some = refl

pub more_held : (text line behind : List ℕ) (texts numbers : Bool) → HoldsValues text texts numbers → IsSplitAtFeed text line behind → 1 ≤ length behind → None ≡ only_text (held_values text)
more_held text line behind texts numbers holds split long =
    let ended = ended_rest text line behind split holds.ended in
    two_held line (held_lines behind) (λ none. omega (arith, ap length (sym (text_of_held behind ended) ∙ ap ended_by_line_feeds none)))
    ∙ ap (λ (ls : List (List ℕ)). only_text (map value_of_line ls)) (sym (held_front text line behind split))

pub none_is_held : (text : List ℕ) → list_any is_line_feed text ≡ false → None ≡ only_text (held_values text)
none_is_held text none = ap (λ (ls : List (List ℕ)). only_text (map value_of_line ls)) (sym (none_held text none))

-- ---- value by value

pub value_next : (rest line behind : List ℕ) (values all more : List Value) (v : Value × ℕ) → IsSplitAtFeed rest line behind → value_at number_of line ≡ Ok v → values ++ held_values rest ≡ all → more ≡ values ++ v.0 ∷ [] → more ++ held_values behind ≡ all
value_next rest line behind values all more v split read left is =
    ap (λ (vs : List Value). vs ++ held_values behind) is
    ∙ append_assoc values (v.0 ∷ []) (held_values behind)
    ∙ ap (λ (w : Value). values ++ (w ∷ held_values behind)) (sym (ap value_if_read read))
    ∙ ap (λ (ls : List (List ℕ)). values ++ map value_of_line ls) (sym (held_front rest line behind split))
    ∙ left

pub values_taken : (rest : List ℕ) (values all : List Value) → list_any is_line_feed rest ≡ false → values ++ held_values rest ≡ all → values ≡ all
values_taken rest values all none left = sym (append-[] values) ∙ ap (λ (ls : List (List ℕ)). values ++ map value_of_line ls) (sym (none_held rest none)) ∙ left

pub all_held : (values : List Value) → All IsValue values → All IsHeldValue values
all_held values valid = λ k d below. valid_held (get_or values k d) (valid k d below)
