-- What is spelled as a clock string is read as it, and what is read is spelled so.
use Rattle.std.proofs.Common.{◌≡◌, ℕ, zero, suc, ◌<◌, ◌≤◌, Bool, true, false, cond, if◌then◌else◌, ◌&&◌, ◌⊎◌, ltb, leb, List, [], ◌∷◌, ◌++◌, append_assoc, append-nil, length, length-append, codes, Option, Some, None, option_map, refl, ap, sym, ◌∙◌, subst, inl, inr, arith}
use Rattle.std.specs.Prelude.{◌==◌, Contains, All}
use Rattle.std.specs.Char.{is_ascii_digit}
use Rattle.std.specs.List.{list_all}
use Rattle.std.specs.Str.Parse.{digits_value}
use Rattle.std.proofs.lemmas.Bool.{false≢true, cases_Bool, and_parts, and_from, eqb-true, lt-ltb, le-leb}
use Rattle.std.proofs.lemmas.List.Elements.{All-contains}
use Rattle.std.proofs.lemmas.Map.Views.{Contains-from_any}
use Rattle.std.proofs.lemmas.Option.{same_Some}
use Rattle.sk_decimal.specs.Number.{AreDigits}
use Rattle.sk_clock.specs.ClockText.{Reading, SpellsClock, SpellsPartition, SpellsFields, SpellsDigits, IsFieldSeparator, AreBlanks}
use Rattle.sk_clock.specs.Scan.{Parts, is_blank, is_mark, is_count, front, behind, field_behind, next_field, values_from, values_of, parts_at, parts_of, reading_with, reading_of}
use Rattle.sk_clock.proofs.ScanLemmas.{begins, front-append, behind-append, front-behind, all_front, behind_stops, is_count-le, values_then, values_from-step, values_from-none}

-- ---- bytes

abbrev is_slash : ℕ → Bool
is_slash byte = byte == 47

-- a digit is no other byte that a clock string has
digit_apart : (other : ℕ → Bool) (byte : ℕ) → ((b : ℕ) → other b ≡ true → is_ascii_digit b ≡ false) → is_ascii_digit byte ≡ true → other byte ≡ false
digit_apart other byte apart digit = elim (cases_Bool (other byte)) [
  | inl is ↦ absurd (false≢true (sym (apart byte is) ∙ digit))
  | inr not ↦ not
]

blank_no_digit : (byte : ℕ) → is_blank byte ≡ true → is_ascii_digit byte ≡ false
blank_no_digit byte blank = rw (eqb-true byte 32 blank) refl

marks_all : (P : ℕ → Type 0) → P 46 → P 58 → P 45 → P 44 → All P (codes ".:-,")
marks_all P a b c d zero e h = a
marks_all P a b c d (suc zero) e h = b
marks_all P a b c d (suc (suc zero)) e h = c
marks_all P a b c d (suc (suc (suc zero))) e h = d
marks_all P a b c d (suc (suc (suc (suc k)))) e h = absurd (omega arith)

abbrev IsMark : ℕ → Type 0
IsMark byte = (is_mark byte ≡ true) × (is_ascii_digit byte ≡ false) × (is_blank byte ≡ false) × (is_slash byte ≡ false)

mark_is : (byte : ℕ) → Contains (codes ".:-,") byte → IsMark byte
mark_is byte has = All-contains IsMark (codes ".:-,") byte (marks_all IsMark (refl, refl, refl, refl) (refl, refl, refl, refl) (refl, refl, refl, refl) (refl, refl, refl, refl)) has

mark_has : (byte : ℕ) → is_mark byte ≡ true → Contains (codes ".:-,") byte
mark_has byte mark = Contains-from_any {eq = λ a b. a == b} (λ a b same. eqb-true a b same) byte (codes ".:-,") mark

begins_apart : (one other : ℕ → Bool) → ((byte : ℕ) → one byte ≡ true → other byte ≡ false) → (bytes : List ℕ) → begins one bytes ≡ true → begins other bytes ≡ false
begins_apart one other apart [] begin = refl
begins_apart one other apart (byte ∷ bytes) begin = apart byte begin

digit_no_blank : (byte : ℕ) → is_ascii_digit byte ≡ true → is_blank byte ≡ false
digit_no_blank byte digit = digit_apart is_blank byte blank_no_digit digit

digit_no_mark : (byte : ℕ) → is_ascii_digit byte ≡ true → is_mark byte ≡ false
digit_no_mark byte digit = digit_apart is_mark byte (λ b mark. (mark_is b (mark_has b mark)).1) digit

digit_no_slash : (byte : ℕ) → is_ascii_digit byte ≡ true → is_slash byte ≡ false
digit_no_slash byte digit = digit_apart is_slash byte (λ b slash. rw (eqb-true b 47 slash) refl) digit

digits_begin : (digits rest : List ℕ) → AreDigits digits → begins is_ascii_digit (digits ++ rest) ≡ true
digits_begin [] rest are = absurd (omega (arith, are.0))
digits_begin (byte ∷ digits) rest are = (and_parts (is_ascii_digit byte) (list_all is_ascii_digit digits) are.1).0

fields_begin : (values fields rest : List ℕ) → SpellsFields fields values → begins is_ascii_digit (fields ++ rest) ≡ true
fields_begin [] fields rest spells = absurd spells
fields_begin (value ∷ []) fields rest spells = digits_begin fields rest spells.0
fields_begin (value ∷ next ∷ values) fields rest (first, separator, others, joined, digits, between, more) =
    rw (joined, append_assoc, append_assoc) (digits_begin first (separator ++ (others ++ rest)) digits.0)

-- blanks go from the front of what begins with none
blanks_behind : (blanks rest : List ℕ) → AreBlanks blanks → begins is_blank rest ≡ false → behind is_blank (blanks ++ rest) ≡ rest
blanks_behind blanks rest are stops = behind-append is_blank blanks rest are stops

no_bytes_begin : (test : ℕ → Bool) → begins test [] ≡ false
no_bytes_begin test = refl

only_blanks : (blanks : List ℕ) → AreBlanks blanks → behind is_blank blanks ≡ []
only_blanks blanks are = ap (λ (xs : List ℕ). behind is_blank xs) (sym (append-nil blanks)) ∙ blanks_behind blanks [] are refl

field_behind-digit : (rest : List ℕ) → begins is_ascii_digit rest ≡ true → field_behind rest ≡ Some rest
field_behind-digit [] begin = absurd (false≢true begin)
field_behind-digit (byte ∷ rest) begin = rw (digit_no_mark byte begin) refl

blanks_no_digit : (blanks rest : List ℕ) → AreBlanks blanks → begins is_ascii_digit rest ≡ false → begins is_ascii_digit (blanks ++ rest) ≡ false
blanks_no_digit [] rest are stops = stops
blanks_no_digit (byte ∷ blanks) rest are stops = blank_no_digit byte (and_parts (is_blank byte) (list_all is_blank blanks) are).0

some_blanks_no_digit : (blanks rest : List ℕ) → 0 < length blanks → AreBlanks blanks → begins is_ascii_digit (blanks ++ rest) ≡ false
some_blanks_no_digit [] rest some are = absurd (omega arith)
some_blanks_no_digit (byte ∷ blanks) rest some are = blank_no_digit byte (and_parts (is_blank byte) (list_all is_blank blanks) are).0

-- what stands behind a separator
next_field-separator : (separator rest : List ℕ) → IsFieldSeparator separator → begins is_ascii_digit rest ≡ true
    → (next_field (separator ++ rest) ≡ Some rest) × (begins is_ascii_digit (separator ++ rest) ≡ false) × (begins is_slash (behind is_blank (separator ++ rest)) ≡ false)
next_field-separator separator rest (inl blanks) begin =
    let no_blank = begins_apart is_ascii_digit is_blank digit_no_blank rest begin in
    let gone = blanks_behind separator rest blanks.1 no_blank in (
      ap field_behind gone ∙ field_behind-digit rest begin,
      some_blanks_no_digit separator rest blanks.0 blanks.1,
      ap (λ (xs : List ℕ). begins is_slash xs) gone ∙ begins_apart is_ascii_digit is_slash digit_no_slash rest begin,
    )
next_field-separator separator rest (inr (before, byte, after, joined, has, before_blank, after_blank)) begin =
    let no_blank = begins_apart is_ascii_digit is_blank digit_no_blank rest begin in
    let is = mark_is byte has in
    let same : separator ++ rest ≡ before ++ (byte ∷ (after ++ rest)) = ap (λ (xs : List ℕ). xs ++ rest) joined ∙ append_assoc before (byte ∷ after) rest in
    let gone = ap (λ (xs : List ℕ). behind is_blank xs) same ∙ blanks_behind before (byte ∷ (after ++ rest)) before_blank is.2 in (
      ap field_behind gone
          ∙ (ap (λ (b : Bool). Some (cond b (behind is_blank (after ++ rest)) (byte ∷ (after ++ rest)))) is.0
          ∙ ap (λ (xs : List ℕ). Some xs) (blanks_behind after rest after_blank no_blank)),
      ap (λ (xs : List ℕ). begins is_ascii_digit xs) same ∙ blanks_no_digit before (byte ∷ (after ++ rest)) before_blank is.1,
      ap (λ (xs : List ℕ). begins is_slash xs) gone ∙ is.3,
    )

-- ---- what is spelled is read

count_is : (most : ℕ) (digits : List ℕ) → AreDigits digits → length digits ≤ most → is_count most digits ≡ true
count_is most digits are few = and_from (ltb 0 (length digits)) (leb (length digits) most) (lt-ltb 0 (length digits) are.0) (le-leb (length digits) most few)

front_digits : (digits rest : List ℕ) → AreDigits digits → begins is_ascii_digit rest ≡ false → front is_ascii_digit (digits ++ rest) ≡ digits
front_digits digits rest are stops = front-append is_ascii_digit digits rest are.1 stops

behind_digits : (digits rest : List ℕ) → AreDigits digits → begins is_ascii_digit rest ≡ false → behind is_ascii_digit (digits ++ rest) ≡ rest
behind_digits digits rest are stops = behind-append is_ascii_digit digits rest are.1 stops

-- one field, and what follows it
field_read : (steps : ℕ) (digits rest : List ℕ) (value : ℕ) (next : Option (List ℕ)) → SpellsDigits 16 digits value → begins is_ascii_digit rest ≡ false → next_field rest ≡ next
    → values_from (suc steps) (digits ++ rest) ≡ values_then value next steps
field_read steps digits rest value next spells stops is =
    let at = front_digits digits rest spells.0 stops in
    let count = ap (λ (xs : List ℕ). is_count 16 xs) at ∙ count_is 16 digits spells.0 spells.1 in
    let after = ap next_field (behind_digits digits rest spells.0 stops) ∙ is in
    let value_is : digits_value 10 (front is_ascii_digit (digits ++ rest)) ≡ value = ap (λ (xs : List ℕ). digits_value 10 xs) at ∙ sym spells.2 in
    values_from-step steps (digits ++ rest) next count after ∙ ap (λ (v : ℕ). values_then v next steps) value_is

fields_some : (values fields : List ℕ) → SpellsFields fields values → 0 < length fields
fields_some [] fields spells = absurd spells
fields_some (value ∷ []) fields spells = spells.0.0
fields_some (value ∷ next ∷ values) fields (first, separator, others, joined, digits, between, more) =
    omega (arith, digits.0.0, ap length joined, length-append first separator, length-append (first ++ separator) others)

values_read : (values fields after : List ℕ) (steps : ℕ) → SpellsFields fields values → AreBlanks after → length fields ≤ steps → values_from steps (fields ++ after) ≡ Some values
values_read [] fields after steps spells blanks many = absurd spells
values_read (value ∷ values) fields after zero spells blanks many = absurd (omega (arith, fields_some (value ∷ values) fields spells))
values_read (value ∷ []) fields after (suc steps) spells blanks many =
    field_read steps fields after value None spells
    (ap (λ (xs : List ℕ). begins is_ascii_digit xs) (sym (append-nil after)) ∙ blanks_no_digit after [] blanks refl)
    (ap field_behind (only_blanks after blanks))
values_read (value ∷ next ∷ values) fields after (suc steps) (first, separator, others, joined, digits, between, more) blanks many =
    let tail = others ++ after in
    let begin = fields_begin (next ∷ values) others after more in
    let gap = next_field-separator separator tail between begin in
    let same : fields ++ after ≡ first ++ (separator ++ tail) = ap (λ (xs : List ℕ). xs ++ after) joined ∙ (append_assoc (first ++ separator) others after ∙ append_assoc first separator tail) in
    let few : length others ≤ steps = omega (arith, digits.0.0, ap length joined, length-append first separator, length-append (first ++ separator) others) in
    ap (λ (xs : List ℕ). values_from (suc steps) xs) same
    ∙ (field_read steps first (separator ++ tail) value (Some tail) digits gap.1 gap.0
    ∙ ap (λ (o : Option (List ℕ)). option_map (λ (vs : List ℕ). value ∷ vs) o) (values_read (next ∷ values) others after steps more blanks few))

no_slash : (values fields after : List ℕ) → SpellsFields fields values → AreBlanks after → begins is_slash (behind is_blank (behind is_ascii_digit (fields ++ after))) ≡ false
no_slash [] fields after spells blanks = absurd spells
no_slash (value ∷ []) fields after spells blanks =
    let stops = ap (λ (xs : List ℕ). begins is_ascii_digit xs) (sym (append-nil after)) ∙ blanks_no_digit after [] blanks refl in
    ap (λ (xs : List ℕ). begins is_slash (behind is_blank xs)) (behind_digits fields after spells.0 stops) ∙ ap (λ (xs : List ℕ). begins is_slash xs) (only_blanks after blanks)
no_slash (value ∷ next ∷ values) fields after (first, separator, others, joined, digits, between, more) blanks =
    let tail = others ++ after in
    let gap = next_field-separator separator tail between (fields_begin (next ∷ values) others after more) in
    let same : fields ++ after ≡ first ++ (separator ++ tail) = ap (λ (xs : List ℕ). xs ++ after) joined ∙ (append_assoc (first ++ separator) others after ∙ append_assoc first separator tail) in
    ap (λ (xs : List ℕ). begins is_slash (behind is_blank (behind is_ascii_digit xs))) same
    ∙ (ap (λ (xs : List ℕ). begins is_slash (behind is_blank xs)) (behind_digits first (separator ++ tail) digits.0 gap.1) ∙ gap.2)

parts_at-none : (bytes digits rest : List ℕ) → begins is_slash rest ≡ false → parts_at bytes digits rest ≡ record { partition = None; fields = bytes }
parts_at-none bytes digits [] not = refl
parts_at-none bytes digits (byte ∷ rest) not =
    ap (λ (b : Bool). if b && is_count 4 digits then record { partition = Some (digits_value 10 digits); fields = behind is_blank rest } else record { partition = None; fields = bytes }) not

parts_at-some : (bytes digits rest : List ℕ) → is_count 4 digits ≡ true → parts_at bytes digits (47 ∷ rest) ≡ record { partition = Some (digits_value 10 digits); fields = behind is_blank rest }
parts_at-some bytes digits rest count =
    ap (λ (b : Bool). if b then record { partition = Some (digits_value 10 digits); fields = behind is_blank rest } else record { partition = None; fields = bytes }) count

parts_read : (partition : Option ℕ) (part rest : List ℕ) → SpellsPartition part partition → begins is_ascii_digit rest ≡ true → begins is_slash (behind is_blank (behind is_ascii_digit rest)) ≡ false
    → (parts_of (part ++ rest) ≡ record { partition = partition; fields = rest }) × (begins is_ascii_digit (part ++ rest) ≡ true)
parts_read None part rest none begin not =
    let same : part ++ rest ≡ rest = ap (λ (xs : List ℕ). xs ++ rest) none in (
      ap parts_of same ∙ parts_at-none rest (front is_ascii_digit rest) (behind is_blank (behind is_ascii_digit rest)) not,
      ap (λ (xs : List ℕ). begins is_ascii_digit xs) same ∙ begin,
    )
parts_read (Some p) part rest (digits, before, after, joined, spells, before_blank, after_blank) begin not =
    let tail : List ℕ = before ++ (47 ∷ (after ++ rest)) in
    let same : part ++ rest ≡ digits ++ tail = ap (λ (xs : List ℕ). xs ++ rest) joined
    ∙ (append_assoc (digits ++ before ++ codes "/") after rest ∙ (append_assoc (digits ++ before) (codes "/") (after ++ rest) ∙ append_assoc digits before (47 ∷ (after ++ rest)))) in
    let stops = blanks_no_digit before (47 ∷ (after ++ rest)) before_blank refl in
    let no_blank = begins_apart is_ascii_digit is_blank digit_no_blank rest begin in
    let at = front_digits digits tail spells.0 stops in
    let slash = ap (λ (xs : List ℕ). behind is_blank xs) (behind_digits digits tail spells.0 stops) ∙ blanks_behind before (47 ∷ (after ++ rest)) before_blank refl in (
      ap parts_of same
          ∙ (ap (λ (xs : List ℕ). parts_at (digits ++ tail) xs (behind is_blank (behind is_ascii_digit (digits ++ tail)))) at
          ∙ (ap (λ (xs : List ℕ). parts_at (digits ++ tail) digits xs) slash
          ∙ (parts_at-some (digits ++ tail) digits (after ++ rest) (count_is 4 digits spells.0 spells.1)
          ∙ (ap (λ (n : ℕ). record { partition = Some n; fields = behind is_blank (after ++ rest) }) (sym spells.2)
          ∙ ap (λ (xs : List ℕ). record { partition = Some p; fields = xs }) (blanks_behind after rest after_blank no_blank))))),
      ap (λ (xs : List ℕ). begins is_ascii_digit xs) same ∙ digits_begin digits tail spells.0,
    )

pub clock_read : (text : List ℕ) (reading : Reading) → SpellsClock text reading → reading_of text ≡ Some reading
clock_read text reading spells =
    let rest = spells.fields ++ spells.after in
    let begin = fields_begin reading.values spells.fields spells.after spells.are_fields in
    let parts = parts_read reading.partition spells.part rest spells.is_part begin (no_slash reading.values spells.fields spells.after spells.are_fields spells.is_after) in
    let same : text ≡ spells.before ++ (spells.part ++ rest) = spells.joined ∙ (append_assoc (spells.before ++ spells.part) spells.fields spells.after ∙ append_assoc spells.before spells.part rest) in
    let gone = ap (λ (xs : List ℕ). behind is_blank xs) same ∙ blanks_behind spells.before (spells.part ++ rest) spells.is_before (begins_apart is_ascii_digit is_blank digit_no_blank (spells.part ++ rest) parts.1) in
    let values = values_read reading.values spells.fields spells.after (length rest) spells.are_fields spells.is_after (omega (arith, length-append spells.fields spells.after)) in
    ap (λ (xs : List ℕ). reading_with (parts_of xs)) gone
    ∙ (ap reading_with parts.0
    ∙ ap (λ (o : Option (List ℕ)). option_map (λ (vs : List ℕ). record { partition = reading.partition; values = vs }) o) values)

-- ---- what is read is spelled

option_cases : {A : Type 0} (o : Option A) → (o ≡ None) ⊎ ((x : A) × (o ≡ Some x))
option_cases None = inl refl
option_cases (Some x) = inr (x, refl)

field_behind-none : (bytes : List ℕ) → field_behind bytes ≡ None → bytes ≡ []
field_behind-none [] is = refl
field_behind-none (byte ∷ bytes) is = cc

-- where no further field follows, all that follows is blank
blanks_after : (rest : List ℕ) → next_field rest ≡ None → AreBlanks rest
blanks_after rest is =
    let none = field_behind-none (behind is_blank rest) is in
    let same : rest ≡ front is_blank rest = front-behind is_blank rest ∙ (ap (λ (xs : List ℕ). front is_blank rest ++ xs) none ∙ append-nil (front is_blank rest)) in
    subst (λ (xs : List ℕ). AreBlanks xs) (sym same) (all_front is_blank rest)

-- what the next field is parted by
record IsParted (rest more : List ℕ) : Type 0 where
  separator : List ℕ
  joined : rest ≡ separator ++ more
  is_separator : IsFieldSeparator separator

parted_by_blanks : (rest more blanks : List ℕ) → rest ≡ blanks ++ more → AreBlanks blanks → begins is_ascii_digit rest ≡ false → begins is_ascii_digit more ≡ true → IsParted rest more
parted_by_blanks rest more [] joined are stops begin = absurd (false≢true (sym stops ∙ (ap (λ (xs : List ℕ). begins is_ascii_digit xs) joined ∙ begin)))
parted_by_blanks rest more (byte ∷ blanks) joined are stops begin = record { separator = byte ∷ blanks; joined = joined; is_separator = inl (omega arith, are) }

parted_at : (rest blanks at more : List ℕ) → rest ≡ blanks ++ at → AreBlanks blanks → begins is_ascii_digit rest ≡ false → begins is_ascii_digit more ≡ true → field_behind at ≡ Some more → IsParted rest more
parted_at rest blanks [] more joined are stops begin is = cc
parted_at rest blanks (byte ∷ bytes) more joined are stops begin is = elim (cases_Bool (is_mark byte)) [
  | inl mark ↦
      let same : behind is_blank bytes ≡ more = same_Some _ _ (sym (ap (λ (b : Bool). Some (cond b (behind is_blank bytes) (byte ∷ bytes))) mark) ∙ is) in
      let split : bytes ≡ front is_blank bytes ++ more = front-behind is_blank bytes ∙ ap (λ (xs : List ℕ). front is_blank bytes ++ xs) same in
      record {
        separator = blanks ++ byte ∷ front is_blank bytes;
        joined = joined ∙ (ap (λ (xs : List ℕ). blanks ++ (byte ∷ xs)) split ∙ sym (append_assoc blanks (byte ∷ front is_blank bytes) more));
        is_separator = inr (blanks, byte, front is_blank bytes, refl, mark_has byte mark, are, all_front is_blank bytes);
      }
  | inr other ↦
      let same : (byte ∷ bytes) ≡ more = same_Some _ _ (sym (ap (λ (b : Bool). Some (cond b (behind is_blank bytes) (byte ∷ bytes))) other) ∙ is) in
      parted_by_blanks rest more blanks (joined ∙ ap (λ (xs : List ℕ). blanks ++ xs) same) are stops begin
]

parted : (rest more : List ℕ) → next_field rest ≡ Some more → begins is_ascii_digit rest ≡ false → begins is_ascii_digit more ≡ true → IsParted rest more
parted rest more is stops begin =
    parted_at rest (front is_blank rest) (behind is_blank rest) more (front-behind is_blank rest) (all_front is_blank rest) stops begin is

-- fields, and blanks behind them
record AreFields (bytes values : List ℕ) : Type 0 where
  fields : List ℕ
  after : List ℕ
  joined : bytes ≡ fields ++ after
  are_fields : SpellsFields fields values
  is_after : AreBlanks after

digits_spelled : (most : ℕ) (bytes : List ℕ) → is_count most (front is_ascii_digit bytes) ≡ true → SpellsDigits most (front is_ascii_digit bytes) (digits_value 10 (front is_ascii_digit bytes))
digits_spelled most bytes count =
    let both = is_count-le most (front is_ascii_digit bytes) count in
    ((both.0, all_front is_ascii_digit bytes), both.1, refl)

fields_more : (bytes more values : List ℕ) → is_count 16 (front is_ascii_digit bytes) ≡ true → next_field (behind is_ascii_digit bytes) ≡ Some more → AreFields more values
    → AreFields bytes (digits_value 10 (front is_ascii_digit bytes) ∷ values)
fields_more bytes more [] count is are = absurd are.are_fields
fields_more bytes more (next ∷ values) count is are =
    let begin = ap (λ (xs : List ℕ). begins is_ascii_digit xs) are.joined ∙ fields_begin (next ∷ values) are.fields are.after are.are_fields in
    let gap = parted (behind is_ascii_digit bytes) more is (behind_stops is_ascii_digit bytes) begin in
    let digits = front is_ascii_digit bytes in
    record {
      fields = digits ++ gap.separator ++ are.fields;
      after = are.after;
      joined = front-behind is_ascii_digit bytes
          ∙ (ap (λ (xs : List ℕ). digits ++ xs) (gap.joined ∙ ap (λ (xs : List ℕ). gap.separator ++ xs) are.joined)
          ∙ sym (append_assoc (digits ++ gap.separator) are.fields are.after ∙ append_assoc digits gap.separator (are.fields ++ are.after)));
      are_fields = (digits, gap.separator, are.fields, refl, digits_spelled 16 bytes count, gap.is_separator, are.are_fields);
      is_after = are.is_after;
    }

fields_last : (bytes : List ℕ) → is_count 16 (front is_ascii_digit bytes) ≡ true → next_field (behind is_ascii_digit bytes) ≡ None
    → AreFields bytes (digits_value 10 (front is_ascii_digit bytes) ∷ [])
fields_last bytes count is = record {
  fields = front is_ascii_digit bytes;
  after = behind is_ascii_digit bytes;
  joined = front-behind is_ascii_digit bytes;
  are_fields = digits_spelled 16 bytes count;
  is_after = blanks_after (behind is_ascii_digit bytes) is;
}

more_values : {P : Type 0} (value : ℕ) (o : Option (List ℕ)) (values : List ℕ) → option_map (λ (vs : List ℕ). value ∷ vs) o ≡ Some values → ((more : List ℕ) → o ≡ Some more → (value ∷ more) ≡ values → P) → P
more_values value None values is go = cc
more_values value (Some more) values is go = go more refl (same_Some _ _ is)

values_spelled : (steps : ℕ) (bytes values : List ℕ) → values_from steps bytes ≡ Some values → AreFields bytes values
values_spelled zero bytes values is = cc
values_spelled (suc steps) bytes values is = elim (cases_Bool (is_count 16 (front is_ascii_digit bytes))) [
  | inl count ↦ elim (option_cases (next_field (behind is_ascii_digit bytes))) [
    | inl none ↦
        let same = same_Some _ _ (sym (values_from-step steps bytes None count none) ∙ is) in
        subst (λ (vs : List ℕ). AreFields bytes vs) same (fields_last bytes count none)
    | inr some ↦
        let read = sym (values_from-step steps bytes (Some some.0) count some.1) ∙ is in
        more_values (digits_value 10 (front is_ascii_digit bytes)) (values_from steps some.0) values read
        (λ more is_more same. subst (λ (vs : List ℕ). AreFields bytes vs) same (fields_more bytes some.0 more count some.1 (values_spelled steps some.0 more is_more)))
  ]
  | inr not ↦ let none = sym (values_from-none (suc steps) bytes not) ∙ is in cc
]

-- a partition part or none in front
record ArePartsOf (bytes : List ℕ) (parts : Parts) : Type 0 where
  part : List ℕ
  joined : bytes ≡ part ++ parts.fields
  is_part : SpellsPartition part parts.partition

none_in_front : (bytes : List ℕ) → ArePartsOf bytes (record { partition = None; fields = bytes })
none_in_front bytes = record { part = []; joined = refl; is_part = refl }

parts_at-spelled : (bytes blanks rest : List ℕ) → bytes ≡ front is_ascii_digit bytes ++ (blanks ++ rest) → AreBlanks blanks → ArePartsOf bytes (parts_at bytes (front is_ascii_digit bytes) rest)
parts_at-spelled bytes blanks [] joined are = none_in_front bytes
parts_at-spelled bytes blanks (byte ∷ rest) joined are =
    let digits = front is_ascii_digit bytes in
    let some : Parts = record { partition = Some (digits_value 10 digits); fields = behind is_blank rest } in
    let none : Parts = record { partition = None; fields = bytes } in
    elim (cases_Bool (byte == 47 && is_count 4 digits)) [
      | inl named ↦
          let both = and_parts (byte == 47) (is_count 4 digits) named in
          let slash = eqb-true byte 47 both.0 in
          let split : bytes ≡ digits ++ blanks ++ codes "/" ++ front is_blank rest ++ behind is_blank rest =
          joined ∙ (ap (λ (b : ℕ). digits ++ (blanks ++ (b ∷ rest))) slash
          ∙ (ap (λ (xs : List ℕ). digits ++ (blanks ++ (47 ∷ xs))) (front-behind is_blank rest)
          ∙ (sym (append_assoc digits blanks (47 ∷ (front is_blank rest ++ behind is_blank rest)))
          ∙ (sym (append_assoc (digits ++ blanks) (codes "/") (front is_blank rest ++ behind is_blank rest))
          ∙ sym (append_assoc (digits ++ blanks ++ codes "/") (front is_blank rest) (behind is_blank rest)))))) in
          subst (λ (parts : Parts). ArePartsOf bytes parts) (sym (ap (λ (b : Bool). if b then some else none) named)) record {
            part = digits ++ blanks ++ codes "/" ++ front is_blank rest;
            joined = split;
            is_part = (digits, blanks, front is_blank rest, refl, digits_spelled 4 bytes both.1, are, all_front is_blank rest);
          }
      | inr bare ↦ subst (λ (parts : Parts). ArePartsOf bytes parts) (sym (ap (λ (b : Bool). if b then some else none) bare)) (none_in_front bytes)
    ]

parts_spelled : (bytes : List ℕ) → ArePartsOf bytes (parts_of bytes)
parts_spelled bytes =
    let rest = behind is_ascii_digit bytes in
    parts_at-spelled bytes (front is_blank rest) (behind is_blank rest)
    (front-behind is_ascii_digit bytes ∙ ap (λ (xs : List ℕ). front is_ascii_digit bytes ++ xs) (front-behind is_blank rest)) (all_front is_blank rest)

reading_values : {P : Type 0} (partition : Option ℕ) (o : Option (List ℕ)) (reading : Reading) → option_map (λ (vs : List ℕ). record { partition = partition; values = vs }) o ≡ Some reading
    → ((values : List ℕ) → o ≡ Some values → record { partition = partition; values = values } ≡ reading → P) → P
reading_values partition None reading is go = cc
reading_values partition (Some values) reading is go = go values refl (same_Some _ _ is)

pub clock_spelled : (text : List ℕ) (reading : Reading) → reading_of text ≡ Some reading → SpellsClock text reading
clock_spelled text reading is =
    let bytes = behind is_blank text in
    let parts = parts_spelled bytes in
    reading_values (parts_of bytes).partition (values_of (parts_of bytes).fields) reading is (λ values is_values same.
    let are = values_spelled (length (parts_of bytes).fields) (parts_of bytes).fields values is_values in
    subst (λ (r : Reading). SpellsClock text r) same record {
      before = front is_blank text;
      part = parts.part;
      fields = are.fields;
      after = are.after;
      joined = front-behind is_blank text
          ∙ (ap (λ (xs : List ℕ). front is_blank text ++ xs) (parts.joined ∙ ap (λ (xs : List ℕ). parts.part ++ xs) are.joined)
          ∙ sym (append_assoc (front is_blank text ++ parts.part) are.fields are.after ∙ append_assoc (front is_blank text) parts.part (are.fields ++ are.after)));
      is_before = all_front is_blank text;
      is_part = parts.is_part;
      are_fields = are.are_fields;
      is_after = are.is_after;
    })
