-- What is spelled is read.
use Rattle.std.proofs.Common.{◌≡◌, ℕ, ◌+◌, ◌-◌, ◌<◌, ◌≤◌, suc, Bool, true, false, cond, ◌&&◌, ◌||◌, not, List, [], ◌∷◌, ◌++◌, length, take, drop, refl, ap, sym, ◌∙◌, arith, append_assoc, ◌⊎◌, inl, inr, length-append, subst, Some, Ok, Err, Result, codes}
use Rattle.std.specs.List.{list_all, list_any, take_while, flat_map}
use Rattle.std.specs.Prelude.{◌==◌, nat_lt, count_by}
use Rattle.std.specs.Bool.{beq}
use Rattle.std.specs.Prelude.{nat_eq}
use Rattle.std.specs.List.{ends_with}
use Rattle.std.proofs.lemmas.List.Sums.{sum_by-cons}
use Rattle.std.proofs.lemmas.List.Folds.{list_all-append}
use Rattle.std.proofs.lemmas.Bool.{and_parts, and_from, and_left, and_right, or_cases, false≢true, cases_Bool, eqb-true, ne_eqb, le-ltb}
use Rattle.sk_decimal.specs.Number.{DecimalView, SpellsDecimal}
use Rattle.sk_decimal.specs.declared.decimal.NumberFault.{NumberFault}
use Rattle.sk_decimal.proofs.Forms.{is_number_byte, numeral_bytes, numeral_length, list_all-weaker}
use Rattle.sk_grammar.specs.declared.value.Value.{Value}
use Rattle.sk_grammar.specs.declared.value.Value.TheVariants.{Number, Date, Text}
use Rattle.sk_grammar.specs.Document.{doubled, quoted, is_data_byte, is_run_byte, is_name_byte, is_text, IsDate, IsText, IsName, AreOfOneKind, ItemView}
use Rattle.sk_grammar.specs.Spelling.{SpellsItem, SpellsOpening, SpellsVector, SpellsSingle, sign_of, SpellsValue, SpellsValues, IsWhite, IsGap, is_gap_byte}
use Rattle.sk_grammar.specs.declared.value.Op.{Op}
use Rattle.sk_grammar.specs.declared.value.Op.TheVariants.{Set, Append}
use Rattle.sk_grammar.specs.declared.fault.Reason.{Reason}
use Rattle.sk_grammar.specs.declared.fault.Reason.TheVariants.{BadName}
use Rattle.sk_grammar.specs.Lines.{is_white, is_line_feed}
use Rattle.sk_grammar.specs.Refusal.{begins, begins_with, goes_on, run_at, name_at, AreOfKind}
use Rattle.sk_grammar.specs.declared.place.Place.{Place}
use Rattle.sk_grammar.specs.declared.place.Place.TheVariants.{Idle, Named, Signed, Opened, Comma, Valued, Closed}
use Rattle.sk_grammar.specs.Reading.{◌>>=◌, further_at, added, step, end_line, read_from}
use Rattle.sk_grammar.specs.ValueReading.{text_from, value_at}
use Rattle.sk_grammar.proofs.Lists.{append-[], take-length-append, drop-length-append, take_while-append, differs, differs_from, all_first, all_rest, none_if_all, none_first, none_rest}

-- a text and its closing quote
pub text_from-quoted : (text rest : List ℕ) → list_any is_line_feed text ≡ false → begins (λ byte. byte == 39) rest ≡ false → text_from false ((flat_map doubled text ++ codes "'") ++ rest) ≡ Some text
text_from-quoted [] [] one stops = refl
text_from-quoted [] (b ∷ rest) one stops = rw stops refl
text_from-quoted (byte ∷ text) rest one stops =
    let more = text_from-quoted text rest (none_rest is_line_feed byte text one) stops in
    let no_line : (byte == 10) ≡ false = none_first is_line_feed byte text one in
    elim (cases_Bool (byte == 39)) [
      | inl quote ↦ rw quote (rw quote (rw more refl))
      | inr other ↦ rw other (rw other (rw no_line (rw more refl)))
    ]

-- bytes of data lines have no line feed
pub one_line : (bytes : List ℕ) → list_all is_data_byte bytes ≡ true → list_any is_line_feed bytes ≡ false
one_line bytes all = none_if_all is_data_byte is_line_feed (λ b h. differs is_data_byte b 10 h refl) bytes all

-- a byte of a number belongs to a run, and is neither a quote nor `@`
pub number_byte_runs : (byte : ℕ) → is_number_byte byte ≡ true → is_run_byte byte ≡ true
number_byte_runs byte h =
    rw (
      differs is_number_byte byte 32 h refl,
      differs is_number_byte byte 9 h refl,
      differs is_number_byte byte 10 h refl,
      differs is_number_byte byte 44 h refl,
      differs is_number_byte byte 40 h refl,
      differs is_number_byte byte 41 h refl,
      differs is_number_byte byte 39 h refl,
    ) refl

-- a byte of a run is no quote
pub run_no_quote : (byte : ℕ) → is_run_byte byte ≡ true → (byte == 39) ≡ false
run_no_quote byte h = differs is_run_byte byte 39 h refl

pub beq-true : (a b : Bool) → beq a b ≡ true → a ≡ b
beq-true true true h = refl
beq-true true false h = absurd (false≢true h)
beq-true false true h = absurd (false≢true h)
beq-true false false h = refl

pub or_left : (a b : Bool) → a ≡ true → (a || b) ≡ true
or_left a b h = rw h refl

white_if_no_line : (byte : ℕ) → is_gap_byte byte ≡ true → (byte == 10) ≡ false → is_white byte ≡ true
white_if_no_line byte gap other =
    elim (or_cases (is_white byte) (byte == 10) gap) [ inl white ↦ white | inr line ↦ absurd (false≢true (sym other ∙ line)) ]

pub count_by-at : (test : ℕ → Bool) (x : ℕ) (xs : List ℕ) (b : Bool) → test x ≡ b → count_by test (x ∷ xs) ≡ cond b 1 0 + count_by test xs
count_by-at test x xs b h = sum_by-cons (λ y. cond (test y) 1 0) x xs ∙ ap (λ (c : Bool). cond c 1 0 + count_by test xs) h

gap_unless_comma : (byte : ℕ) → (is_gap_byte byte || byte == 44) ≡ true → (byte == 44) ≡ false → is_gap_byte byte ≡ true
gap_unless_comma byte here other =
    elim (or_cases (is_gap_byte byte) (byte == 44) here) [ inl gap ↦ gap | inr comma_is ↦ absurd (false≢true (sym other ∙ comma_is)) ]

gap_if_no_comma : (bytes : List ℕ) → list_all (λ byte. is_gap_byte byte || byte == 44) bytes ≡ true → count_by (λ byte. byte == 44) bytes ≡ 0 → IsGap bytes
gap_if_no_comma [] all none = refl
gap_if_no_comma (byte ∷ bytes) all none =
    let here = all_first (λ b. is_gap_byte b || b == 44) byte bytes all in
    let more = all_rest (λ b. is_gap_byte b || b == 44) byte bytes all in
    elim (cases_Bool (byte == 44)) [
      | inl is_comma ↦ absurd (omega (arith, count_by-at (λ b. b == 44) byte bytes true is_comma))
      | inr other ↦ and_from _ _ (gap_unless_comma byte here other) (gap_if_no_comma bytes more (omega (arith, count_by-at (λ b. b == 44) byte bytes false other)))
    ]

-- a byte between two values goes on with neither a run nor a text
separator_byte_stops : (kind : Bool) (byte : ℕ) → (is_gap_byte byte || byte == 44) ≡ true → goes_on kind byte ≡ false
separator_byte_stops true byte h = differs (λ b. is_gap_byte b || b == 44) byte 39 h refl
separator_byte_stops false byte h =
    elim (cases_Bool (is_run_byte byte)) [
      | inl run ↦ absurd (false≢true (rw (differs is_run_byte byte 32 run refl, differs is_run_byte byte 9 run refl, differs is_run_byte byte 10 run refl, differs is_run_byte byte 44 run refl) at h))
      | inr other ↦ other
    ]

separator_stops : (kind : Bool) (separator rest : List ℕ) → 0 < length separator → list_all (λ byte. is_gap_byte byte || byte == 44) separator ≡ true → begins (goes_on kind) (separator ++ rest) ≡ false
separator_stops kind [] rest some all = absurd (omega arith)
separator_stops kind (byte ∷ separator) rest some all = separator_byte_stops kind byte (all_first (λ b. is_gap_byte b || b == 44) byte separator all)

gap_byte_stops : (kind : Bool) (byte : ℕ) → is_gap_byte byte ≡ true → goes_on kind byte ≡ false
gap_byte_stops kind byte h = separator_byte_stops kind byte (or_left (is_gap_byte byte) (byte == 44) h)

pub gap_stops : (kind : Bool) (gap rest : List ℕ) → IsGap gap → begins (goes_on kind) rest ≡ false → begins (goes_on kind) (gap ++ rest) ≡ false
gap_stops kind [] rest is_gap stops = stops
gap_stops kind (byte ∷ gap) rest is_gap stops = gap_byte_stops kind byte (all_first is_gap_byte byte gap is_gap)

parenthesis_stops : (kind : Bool) (rest : List ℕ) → begins (goes_on kind) (41 ∷ rest) ≡ false
parenthesis_stops true rest = refl
parenthesis_stops false rest = refl

white_is_gap : (bytes : List ℕ) → IsWhite bytes → IsGap bytes
white_is_gap bytes white = list_all-weaker is_white is_gap_byte (λ b h. or_left (is_white b) (b == 10) h) bytes white

all_texts : (values : List Value) → list_all is_text values ≡ true → AreOfKind true values
all_texts [] h = refl
all_texts (Number d ∷ values) h = absurd (false≢true h)
all_texts (Date d ∷ values) h = absurd (false≢true h)
all_texts (Text t ∷ values) h = all_texts values h

no_texts : (values : List Value) → list_any is_text values ≡ false → AreOfKind false values
no_texts [] h = refl
no_texts (Number d ∷ values) h = no_texts values h
no_texts (Date d ∷ values) h = no_texts values h
no_texts (Text t ∷ values) h = absurd (false≢true (sym h))

pub kind_of_all : (values : List Value) → AreOfOneKind values → (kind : Bool) × AreOfKind kind values
kind_of_all values (inl texts) = (true, all_texts values texts)
kind_of_all values (inr others) = (false, no_texts values others)

pub white_stops : (kind : Bool) (bytes : List ℕ) → IsWhite bytes → begins (goes_on kind) bytes ≡ false
white_stops kind [] white = refl
white_stops kind (byte ∷ bytes) white = gap_byte_stops kind byte (all_first is_gap_byte byte bytes (white_is_gap (byte ∷ bytes) white))

pub name_token : (name : List ℕ) → IsName name → begins (λ byte. not (byte == 10 || byte == 32 || byte == 9)) name ≡ true
name_token [] is_name = absurd (omega (arith, is_name.not_empty))
name_token (byte ∷ name) is_name =
    let first = all_first is_name_byte byte name is_name.bytes in
    rw (differs is_name_byte byte 10 first refl, differs is_name_byte byte 32 first refl, differs is_name_byte byte 9 first refl) refl

pub unless : (b : Bool) (x y : List ℕ) → b ≡ false → cond b x y ≡ y
unless b x y h = rw h refl

pub provided : (b : Bool) (x y : List ℕ) → b ≡ true → cond b x y ≡ x
provided b x y h = rw h refl

pub white_no_name : (byte : ℕ) → is_white byte ≡ true → is_name_byte byte ≡ false
white_no_name byte white =
    elim (or_cases (byte == 32) (byte == 9) white) [
      | inl blank ↦ rw (eqb-true byte 32 blank) refl
      | inr tab ↦ rw (eqb-true byte 9 tab) refl
    ]

-- which part of a run is the name, before what follows it
abbrev pub name_of_run : List ℕ → List ℕ → List ℕ
name_of_run bytes run =
    cond (ends_with nat_eq run (codes "+") && begins_with (codes "=") (drop (length run) bytes)) (take (length run - 1) run) run

pub whole_run : (name behind : List ℕ) → begins_with (codes "=") behind ≡ false → name_of_run (name ++ behind) name ≡ name
whole_run name behind other =
    let after : drop (length name) (name ++ behind) ≡ behind = drop-length-append name behind in
    let no_sign : begins_with (codes "=") (drop (length name) (name ++ behind)) ≡ false = ap (begins_with (codes "=")) after ∙ other in
    unless _ _ _ (and_right _ _ no_sign)

pub name_read : (name space rest : List ℕ) (op : Op) → IsName name → IsWhite space → (op ≡ Set → ends_with nat_eq name (codes "+") ≡ true → 0 < length space) → name_at (name ++ (space ++ (sign_of op ++ rest))) ≡ name
name_read name (w ∷ space) rest op is_name white apart =
    let first : is_white w ≡ true = all_first is_white w space white in
    let stops : is_name_byte w ≡ false = white_no_name w first in
    let behind = (w ∷ space) ++ (sign_of op ++ rest) in
    let run : take_while is_name_byte (name ++ behind) ≡ name = take_while-append is_name_byte name behind is_name.bytes stops in
    let other : (61 == w) ≡ false = differs_from is_white w 61 first refl in
    ap (name_of_run (name ++ behind)) run ∙ whole_run name behind (rw other refl)
name_read name [] rest Set is_name white apart =
    let run : take_while is_name_byte (name ++ (61 ∷ rest)) ≡ name = take_while-append is_name_byte name (61 ∷ rest) is_name.bytes refl in
    let no_plus : ends_with nat_eq name (codes "+") ≡ false =
    elim (cases_Bool (ends_with nat_eq name (codes "+"))) [
      | inl plus ↦ absurd (let nothing : 0 < 0 = apart refl plus in omega arith)
      | inr other ↦ other
    ] in
    ap (name_of_run (name ++ (61 ∷ rest))) run ∙ unless _ _ _ (and_left _ _ no_plus)
name_read name [] rest Append is_name white apart =
    let run_is : list_all is_name_byte (name ++ codes "+") ≡ true = rw (list_all-append is_name_byte name (codes "+")) (and_from _ _ is_name.bytes refl) in
    let grouped : name ++ (43 ∷ 61 ∷ rest) ≡ (name ++ codes "+") ++ (61 ∷ rest) = sym (append_assoc name (codes "+") (61 ∷ rest)) in
    let run : take_while is_name_byte ((name ++ codes "+") ++ (61 ∷ rest)) ≡ name ++ codes "+" = take_while-append is_name_byte (name ++ codes "+") (61 ∷ rest) run_is refl in
    let last : length (name ++ codes "+") - 1 ≡ length name = omega (arith, length-append name (codes "+")) in
    let ends : ends_with nat_eq (name ++ codes "+") (codes "+") ≡ true = rw (last, drop-length-append name (codes "+")) refl in
    let sign : begins_with (codes "=") (drop (length (name ++ codes "+")) ((name ++ codes "+") ++ (61 ∷ rest))) ≡ true =
    ap (begins_with (codes "=")) (drop-length-append (name ++ codes "+") (61 ∷ rest)) in
    let front : take (length (name ++ codes "+") - 1) (name ++ codes "+") ≡ name = rw (last) (take-length-append name (codes "+")) in
    ap name_at grouped ∙ ap (name_of_run ((name ++ codes "+") ++ (61 ∷ rest))) run ∙ provided _ _ _ (and_from _ _ ends sign) ∙ front

pub same_item : (a b : ItemView) → a.name ≡ b.name → a.op ≡ b.op → a.values ≡ b.values → a ≡ b
same_item a b name op values = λ i. record { name = name i; op = op i; values = values i }

pub one_result : {a b : Place} (r : Result Place Reason) → r ≡ Ok a → r ≡ Ok b → a ≡ b
one_result r p q = cc (p, q)

-- how a value begins
abbrev pub begins_value : ℕ → Bool
begins_value byte = is_run_byte byte || byte == 39

-- a byte that begins a token
abbrev pub begins_token : ℕ → Bool
begins_token byte = not (byte == 10 || byte == 32 || byte == 9)

module _ (number_of : List ℕ → Result DecimalView NumberFault) (exact : (bytes : List ℕ) (d : DecimalView) → SpellsDecimal bytes d → number_of bytes ≡ Ok d) where
  number_read : (bytes rest : List ℕ) (d : DecimalView) → SpellsDecimal bytes d → begins is_run_byte rest ≡ false → value_at number_of (bytes ++ rest) ≡ Ok (Number d, length bytes)
  number_read [] rest d s stops = absurd (omega (arith, numeral_length [] _ s.1.1))
  number_read (byte ∷ bytes) rest d s stops =
      let all = numeral_bytes _ _ s.1.1 in
      let runs = list_all-weaker is_number_byte is_run_byte number_byte_runs (byte ∷ bytes) all in
      let run : run_at ((byte ∷ bytes) ++ rest) ≡ byte ∷ bytes = take_while-append is_run_byte (byte ∷ bytes) rest runs stops in
      let no_quote : (byte == 39) ≡ false = run_no_quote byte (and_parts _ _ runs).0 in
      let no_at : (64 == byte) ≡ false = differs_from is_number_byte byte 64 (and_parts _ _ all).0 refl in
      let value : number_of (byte ∷ bytes) ≡ Ok d = exact _ d s in
      rw (run, no_quote) (rw (no_at, value) refl)

  date_read : (bytes rest : List ℕ) → IsDate bytes → begins is_run_byte rest ≡ false → value_at number_of (bytes ++ rest) ≡ Ok (Date bytes, length bytes)
  date_read [] rest d stops = absurd (omega (arith, ap length d.at_sign))
  date_read (byte ∷ bytes) rest d stops =
      let run : run_at ((byte ∷ bytes) ++ rest) ≡ byte ∷ bytes = take_while-append is_run_byte (byte ∷ bytes) rest d.run stops in
      let no_quote : (byte == 39) ≡ false = run_no_quote byte (and_parts _ _ d.run).0 in
      let at_sign : byte ≡ 64 = cc (d.at_sign) in
      let rest_is : bytes ≡ d.rest = cc (d.at_sign) in
      let long : (suc (length bytes) == 1) ≡ false = ne_eqb _ _ (λ e. omega (arith, ap length rest_is)) in
      let short : nat_lt 80 (suc (length bytes)) ≡ false = le-ltb _ _ d.short in
      rw (run, no_quote) (rw (at_sign, long, short) refl)

  text_read : (text rest : List ℕ) → IsText text → begins (λ byte. byte == 39) rest ≡ false → value_at number_of (quoted text ++ rest) ≡ Ok (Text text, length (quoted text))
  text_read text rest d stops =
      let short : nat_lt 80 (length text) ≡ false = le-ltb _ _ d.short in
      rw (text_from-quoted text rest (one_line text d.bytes) stops) (rw short refl)

  -- a value's spelling, before what does not go on with it
  pub value_read : (value : Value) (bytes rest : List ℕ) → SpellsValue bytes value → begins (goes_on (is_text value)) rest ≡ false → value_at number_of (bytes ++ rest) ≡ Ok (value, length bytes)
  value_read (Number d) bytes rest s stops = number_read bytes rest d s stops
  value_read (Date date) bytes rest s stops = rw s.0 (date_read date rest s.1 stops)
  value_read (Text text) bytes rest s stops = rw s.0 (text_read text rest s.1 stops)

  -- ---- past the bytes of a token, and past white space

  pub skipped : (place : Place) (bytes rest : List ℕ) → read_from number_of place (length bytes) (bytes ++ rest) ≡ read_from number_of place 0 rest
  skipped place [] rest = refl
  skipped place (byte ∷ bytes) rest = skipped place bytes rest

  pub token_read : (place next : Place) (bytes rest : List ℕ) → begins begins_token bytes ≡ true → step number_of place (bytes ++ rest) ≡ Ok (next, length bytes) → read_from number_of place 0 (bytes ++ rest) ≡ read_from number_of next 0 rest
  token_read place next [] rest starts stepped = absurd (false≢true starts)
  token_read place next (byte ∷ bytes) rest starts stepped =
      let no_line : (byte == 10) ≡ false = differs begins_token byte 10 starts refl in
      let no_blank : (byte == 32) ≡ false = differs begins_token byte 32 starts refl in
      let no_tab : (byte == 9) ≡ false = differs begins_token byte 9 starts refl in
      let one : suc (length bytes) - 1 ≡ length bytes = omega arith in
      rw (stepped, no_line, no_blank, no_tab) (rw one (skipped next bytes rest))

  pub white_read : (place : Place) (bytes rest : List ℕ) → IsWhite bytes → read_from number_of place 0 (bytes ++ rest) ≡ read_from number_of place 0 rest
  white_read place [] rest white = refl
  white_read place (byte ∷ bytes) rest white =
      let both = and_parts (is_white byte) (list_all is_white bytes) white in
      let no_line : (byte == 10) ≡ false = differs is_white byte 10 both.0 refl in
      let here : is_white byte ≡ true = both.0 in
      rw (no_line, here) (white_read place bytes rest both.1)

  pub gap_read : (place : Place) (bytes rest : List ℕ) → end_line number_of place ≡ Ok place → IsGap bytes → read_from number_of place 0 (bytes ++ rest) ≡ read_from number_of place 0 rest
  gap_read place [] rest stays gap = refl
  gap_read place (byte ∷ bytes) rest stays gap =
      let both = and_parts (is_gap_byte byte) (list_all is_gap_byte bytes) gap in
      elim (cases_Bool (byte == 10)) [
        | inl line ↦ rw (line, stays) (gap_read place bytes rest stays both.1)
        | inr other ↦
            let here : is_white byte ≡ true = white_if_no_line byte both.0 other in
            rw (other, here) (gap_read place bytes rest stays both.1)
      ]

  -- ---- values

  pub value_first : (value : Value) (bytes : List ℕ) → SpellsValue bytes value → begins begins_value bytes ≡ true
  value_first (Number d) [] s = absurd (omega (arith, numeral_length [] _ s.1.1))
  value_first (Number d) (byte ∷ bytes) s = or_left (is_run_byte byte) (byte == 39) (number_byte_runs byte (all_first is_number_byte byte bytes (numeral_bytes _ _ s.1.1)))
  value_first (Date date) [] s = absurd (omega (arith, ap length (s.0 ∙ s.1.at_sign)))
  value_first (Date date) (byte ∷ bytes) s = or_left (is_run_byte byte) (byte == 39) (all_first is_run_byte byte bytes (subst (λ (d : List ℕ). list_all is_run_byte d ≡ true) (sym s.0) s.1.run))
  value_first (Text text) bytes s = rw s.0 refl

  pub value_token : (bytes : List ℕ) → begins begins_value bytes ≡ true → begins begins_token bytes ≡ true
  value_token [] h = absurd (false≢true h)
  value_token (byte ∷ bytes) h =
      rw (differs begins_value byte 10 h refl, differs begins_value byte 32 h refl, differs begins_value byte 9 h refl) refl

  -- a single value behind its sign
  pub single_read : (name : List ℕ) (op : Op) (value : Value) (bytes rest : List ℕ) → SpellsValue bytes value → begins (goes_on (is_text value)) rest ≡ false → read_from number_of (Signed name op) 0 (bytes ++ rest) ≡ read_from number_of (Closed name op (value ∷ [])) 0 rest
  single_read name op value [] rest s stops = absurd (false≢true (value_first value [] s))
  single_read name op value (byte ∷ bytes) rest s stops =
      let first : begins_value byte ≡ true = value_first value (byte ∷ bytes) s in
      let value_is = value_read value (byte ∷ bytes) rest s stops in
      token_read (Signed name op) (Closed name op (value ∷ [])) (byte ∷ bytes) rest (value_token (byte ∷ bytes) first)
      (rw (differs_from begins_value byte 40 first refl, differs_from begins_value byte 44 first refl, differs_from begins_value byte 41 first refl)
      (ap (λ (r : Result (Value × ℕ) Reason). r >>= (λ v. Ok (Closed name op (v.0 ∷ []), v.1))) value_is))

  -- ---- a vector

  -- a value of a vector behind `(`, a comma or another value
  pub data Further (name : List ℕ) (op : Op) : Place → List Value → Type 0 where
    opened : Further name op (Opened name op) []
    comma : {values : List Value} → Further name op (Comma name op values) values
    valued : {values : List Value} → Further name op (Valued name op values) values

  pub further_step : (name : List ℕ) (op : Op) (place : Place) (held : List Value) → Further name op place held → (byte : ℕ) (bytes : List ℕ) → begins_value byte ≡ true → step number_of place (byte ∷ bytes) ≡ further_at number_of name op held (byte ∷ bytes)
  further_step name op place held opened byte bytes first =
      rw (differs_from begins_value byte 40 first refl, differs_from begins_value byte 44 first refl, differs_from begins_value byte 41 first refl) refl
  further_step name op place held comma byte bytes first =
      rw (differs_from begins_value byte 40 first refl, differs_from begins_value byte 44 first refl, differs_from begins_value byte 41 first refl) refl
  further_step name op place held valued byte bytes first =
      rw (differs_from begins_value byte 40 first refl, differs_from begins_value byte 44 first refl, differs_from begins_value byte 41 first refl) refl

  pub further_read : (name : List ℕ) (op : Op) (place : Place) (held : List Value) → Further name op place held → (kind : Bool) → AreOfKind kind held → (value : Value) (bytes rest : List ℕ) → beq (is_text value) kind ≡ true → SpellsValue bytes value → begins (goes_on kind) rest ≡ false → read_from number_of place 0 (bytes ++ rest) ≡ read_from number_of (Valued name op (held ++ value ∷ [])) 0 rest
  further_read name op place held further kind of_kind value [] rest same s stops = absurd (false≢true (value_first value [] s))
  further_read name op place held further kind of_kind value (byte ∷ bytes) rest same s stops =
      let first : begins_value byte ≡ true = value_first value (byte ∷ bytes) s in
      let same_kind : is_text value ≡ kind = beq-true (is_text value) kind same in
      let ends : begins (goes_on (is_text value)) rest ≡ false = rw same_kind stops in
      let value_is : value_at number_of ((byte ∷ bytes) ++ rest) ≡ Ok (value, length (byte ∷ bytes)) = value_read value (byte ∷ bytes) rest s ends in
      let held_is : list_all (λ v. beq (is_text v) (is_text value)) held ≡ true = rw same_kind of_kind in
      let added_is : added number_of held value ≡ Ok (held ++ value ∷ []) = rw held_is refl in
      token_read place (Valued name op (held ++ value ∷ [])) (byte ∷ bytes) rest (value_token (byte ∷ bytes) first)
      (further_step name op place held further byte (bytes ++ rest) first
      ∙ ap (λ (r : Result (Value × ℕ) Reason). r >>= (λ v. added number_of held v.0 >>= (λ vs. Ok (Valued name op vs, v.1)))) value_is
      ∙ ap (λ (r : Result (List Value) Reason). r >>= (λ vs. Ok (Valued name op vs, length (byte ∷ bytes)))) added_is)

  -- what stands between two values leaves a place at which the next one may stand
  pub separated : (name : List ℕ) (op : Op) (held : List Value) (bytes rest : List ℕ) → list_all (λ byte. is_gap_byte byte || byte == 44) bytes ≡ true → count_by (λ byte. byte == 44) bytes ≤ 1
      → (place : Place) × Further name op place held × (read_from number_of (Valued name op held) 0 (bytes ++ rest) ≡ read_from number_of place 0 rest)
  separated name op held [] rest all one = (Valued name op held, valued, refl)
  separated name op held (byte ∷ bytes) rest all one =
      let here = all_first (λ byte. is_gap_byte byte || byte == 44) byte bytes all in
      let more = all_rest (λ byte. is_gap_byte byte || byte == 44) byte bytes all in
      elim (cases_Bool (byte == 44)) [
        | inl is_comma ↦
            let counted = count_by-at (λ b. b == 44) byte bytes true is_comma in
            let byte_is : byte ≡ 44 = eqb-true byte 44 is_comma in
            let gap : IsGap bytes = gap_if_no_comma bytes more (omega arith) in
            (Comma name op held, comma, rw byte_is (gap_read (Comma name op held) bytes rest refl gap))
        | inr other ↦
            let counted = count_by-at (λ b. b == 44) byte bytes false other in
            let gap : is_gap_byte byte ≡ true = gap_unless_comma byte here other in
            let next = separated name op held bytes rest more (omega arith) in
            (next.0, next.1, gap_read (Valued name op held) (byte ∷ []) (bytes ++ rest) refl (rw gap refl) ∙ next.2)
      ]

  pub values_read : (name : List ℕ) (op : Op) (place : Place) (held : List Value) → Further name op place held → (kind : Bool) → AreOfKind kind held → (values : List Value) (bytes rest : List ℕ) → AreOfKind kind values → SpellsValues bytes values → begins (goes_on kind) rest ≡ false
      → read_from number_of place 0 (bytes ++ rest) ≡ read_from number_of (Valued name op (held ++ values)) 0 rest
  values_read name op place held further kind of_kind [] bytes rest same s stops = absurd s
  values_read name op place held further kind of_kind (value ∷ []) bytes rest same s stops =
      further_read name op place held further kind of_kind value bytes rest (and_parts (beq (is_text value) kind) true same).0 s stops
  values_read name op place held further kind of_kind (value ∷ next ∷ values) bytes rest same s stops =
      let first = s.0 in
      let separator = s.1 in
      let others = s.2 in
      let kinds = and_parts (beq (is_text value) kind) (list_all (λ v. beq (is_text v) kind) (next ∷ values)) same in
      let regrouped : bytes ++ rest ≡ first ++ (separator ++ (others ++ rest)) = ap (λ (b : List ℕ). b ++ rest) s.3 ∙ simp append_assoc in
      let ends : begins (goes_on kind) (separator ++ (others ++ rest)) ≡ false = separator_stops kind separator (others ++ rest) s.5.not_empty s.5.only in
      let one = further_read name op place held further kind of_kind value first (separator ++ (others ++ rest)) kinds.0 s.4 ends in
      let between = separated name op (held ++ value ∷ []) separator (others ++ rest) s.5.only s.5.one_comma in
      let held_kind : AreOfKind kind (held ++ value ∷ []) = rw (list_all-append (λ v. beq (is_text v) kind) held (value ∷ [])) (and_from _ _ of_kind (and_from _ _ kinds.0 refl)) in
      let more = values_read name op between.0 (held ++ value ∷ []) between.1 kind held_kind (next ∷ values) others rest kinds.1 s.6 stops in
      let listed : (held ++ value ∷ []) ++ next ∷ values ≡ held ++ value ∷ next ∷ values = append_assoc held (value ∷ []) (next ∷ values) in
      ap (λ (b : List ℕ). read_from number_of place 0 b) regrouped ∙ one ∙ between.2 ∙ more ∙ ap (λ (vs : List Value). read_from number_of (Valued name op vs) 0 rest) listed

  pub vector_read : (name : List ℕ) (op : Op) (values : List Value) (bytes rest : List ℕ) → SpellsVector bytes values → read_from number_of (Signed name op) 0 (bytes ++ rest) ≡ read_from number_of (Closed name op values) 0 rest
  vector_read name op values bytes rest s =
      let kind = (kind_of_all values s.one_kind).0 in
      let of_kind = (kind_of_all values s.one_kind).1 in
      let ending = s.after ++ (41 ∷ rest) in
      let regrouped : bytes ++ rest ≡ codes "(" ++ (s.before ++ (s.inner ++ ending)) = ap (λ (b : List ℕ). b ++ rest) s.joined ∙ simp append_assoc in
      ap (λ (b : List ℕ). read_from number_of (Signed name op) 0 b) regrouped
      ∙ token_read (Signed name op) (Opened name op) (codes "(") (s.before ++ (s.inner ++ ending)) refl refl
      ∙ gap_read (Opened name op) s.before (s.inner ++ ending) refl s.is_before
      ∙ values_read name op (Opened name op) [] opened kind refl values s.inner ending of_kind s.spelled (gap_stops kind s.after (41 ∷ rest) s.is_after (parenthesis_stops kind rest))
      ∙ gap_read (Valued name op values) s.after (41 ∷ rest) refl s.is_after
      ∙ token_read (Valued name op values) (Closed name op values) (codes ")") rest refl refl

  -- ---- the name and the sign

  pub sign_read : (name : List ℕ) (op : Op) (rest : List ℕ) → read_from number_of (Named name) 0 (sign_of op ++ rest) ≡ read_from number_of (Signed name op) 0 rest
  sign_read name Set rest = token_read (Named name) (Signed name Set) (codes "=") rest refl refl
  sign_read name Append rest = token_read (Named name) (Signed name Append) (codes "+=") rest refl refl

  -- what step makes of a name
  abbrev pub named : List ℕ → Result (Place × ℕ) Reason
  named name = cond (length name == 0 || nat_lt 32 (length name)) (Err BadName) (Ok (Named name, length name))

  pub named_is : (name : List ℕ) → IsName name → named name ≡ Ok (Named name, length name)
  named_is name is_name =
      let some : (length name == 0) ≡ false = ne_eqb (length name) 0 (λ e. omega (arith, is_name.not_empty)) in
      let short : nat_lt 32 (length name) ≡ false = le-ltb 32 (length name) is_name.short in
      rw (some, short) refl

  pub opening_read : (name : List ℕ) (op : Op) (bytes rest : List ℕ) → SpellsOpening bytes name op → read_from number_of Idle 0 (bytes ++ rest) ≡ read_from number_of (Signed name op) 0 rest
  opening_read name op bytes rest s =
      let behind = s.space ++ (sign_of op ++ rest) in
      let regrouped : bytes ++ rest ≡ s.indent ++ (name ++ behind) = ap (λ (b : List ℕ). b ++ rest) s.joined ∙ simp append_assoc in
      let read : name_at (name ++ behind) ≡ name = name_read name s.space rest op s.is_name s.is_space s.plus_apart in
      let stepped : step number_of Idle (name ++ behind) ≡ Ok (Named name, length name) = ap named read ∙ named_is name s.is_name in
      ap (λ (b : List ℕ). read_from number_of Idle 0 b) regrouped
      ∙ white_read Idle s.indent (name ++ behind) s.is_indent
      ∙ token_read Idle (Named name) name behind (name_token name s.is_name) stepped
      ∙ white_read (Named name) s.space (sign_of op ++ rest) s.is_space
      ∙ sign_read name op rest

  body_read : (item : ItemView) (body tail : List ℕ) → IsWhite tail → (SpellsSingle body item.values ⊎ SpellsVector body item.values) → read_from number_of (Signed item.name item.op) 0 (body ++ tail) ≡ read_from number_of (Closed item.name item.op item.values) 0 tail
  body_read item body tail white (inl single) =
      single_read item.name item.op single.value body tail single.spelled (white_stops (is_text single.value) tail white)
      ∙ ap (λ (vs : List Value). read_from number_of (Closed item.name item.op vs) 0 tail) (sym single.only)
  body_read item body tail white (inr vector) = vector_read item.name item.op item.values body tail vector

  -- what spells an item is read as it
  pub item_read : (item : ItemView) (bytes : List ℕ) → SpellsItem bytes item → read_from number_of Idle 0 bytes ≡ Ok (Closed item.name item.op item.values)
  item_read item bytes s =
      let regrouped : bytes ≡ s.opening ++ (s.gap ++ (s.body ++ s.tail)) = s.joined ∙ simp append_assoc in
      ap (λ (b : List ℕ). read_from number_of Idle 0 b) regrouped
      ∙ opening_read item.name item.op s.opening (s.gap ++ (s.body ++ s.tail)) s.is_opening
      ∙ gap_read (Signed item.name item.op) s.gap (s.body ++ s.tail) refl s.is_gap
      ∙ body_read item s.body s.tail s.is_tail s.is_body
      ∙ ap (λ (b : List ℕ). read_from number_of (Closed item.name item.op item.values) 0 b) (sym (append-[] s.tail))
      ∙ white_read (Closed item.name item.op item.values) s.tail [] s.is_tail

  -- so no bytes spell two items
  pub one_item : (a b : ItemView) (bytes : List ℕ) → SpellsItem bytes a → SpellsItem bytes b → a ≡ b
  one_item a b bytes s t =
      let same : Closed a.name a.op a.values ≡ Closed b.name b.op b.values = one_result (read_from number_of Idle 0 bytes) (item_read a bytes s) (item_read b bytes t) in
      let name : a.name ≡ b.name = cc same in
      let op : a.op ≡ b.op = cc same in
      let values : a.values ≡ b.values = cc same in
      same_item a b name op values
