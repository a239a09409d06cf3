-- Bytes that pass a test, in front and behind.
use Rattle.std.proofs.Common.{◌≡◌, ℕ, zero, suc, ◌+◌, ◌<◌, ◌≤◌, Bool, true, false, cond, List, [], ◌∷◌, ◌++◌, ◌-◌, ltb, leb, ltb-true, leb-true, Option, Some, None, option_map, append_assoc, length-append, length, take, drop, refl, ap, sym, ◌∙◌, inl, inr, arith}
use Rattle.std.specs.Char.{is_ascii_digit}
use Rattle.std.specs.List.{list_all, prefix_len}
use Rattle.std.proofs.lemmas.Bool.{cases_Bool, and_parts, and_from}
use Rattle.std.proofs.lemmas.List.{take_at, drop_at, take-append-drop}
use Rattle.std.specs.Str.Parse.{digits_value}
use Rattle.std.proofs.lemmas.Option.{same_Some}
use Rattle.sk_clock.specs.declared.reading.Values.{Values}
use Rattle.sk_clock.specs.Values.{KeepsValues}
use Rattle.sk_clock.specs.Scan.{is_blank, is_mark, is_count, front, behind, field_behind, next_field, values_from, values_of}

-- the first byte passes
abbrev pub begins : (ℕ → Bool) → List ℕ → Bool
begins test [] = false
begins test (byte ∷ bytes) = test byte

prefix_len-append : (test : ℕ → Bool) (xs ys : List ℕ) → list_all test xs ≡ true → begins test ys ≡ false → prefix_len test (xs ++ ys) ≡ length xs
prefix_len-append test [] [] all stops = refl
prefix_len-append test [] (y ∷ ys) all stops = rw stops refl
prefix_len-append test (x ∷ xs) ys all stops =
    let both = and_parts (test x) (list_all test xs) all in
    let here : test x ≡ true = both.0 in
    rw (here, prefix_len-append test xs ys both.1 stops) (omega arith)

pub front-append : (test : ℕ → Bool) (xs ys : List ℕ) → list_all test xs ≡ true → begins test ys ≡ false → front test (xs ++ ys) ≡ xs
front-append test xs ys all stops = take_at xs ys (prefix_len test (xs ++ ys)) (sym (prefix_len-append test xs ys all stops))

pub behind-append : (test : ℕ → Bool) (xs ys : List ℕ) → list_all test xs ≡ true → begins test ys ≡ false → behind test (xs ++ ys) ≡ ys
behind-append test xs ys all stops = drop_at xs ys (prefix_len test (xs ++ ys)) (sym (prefix_len-append test xs ys all stops))

pub front-behind : (test : ℕ → Bool) (bytes : List ℕ) → bytes ≡ front test bytes ++ behind test bytes
front-behind test bytes = sym (take-append-drop (prefix_len test bytes) bytes)

one_more : (test : ℕ → Bool) (byte : ℕ) (bytes : List ℕ) → test byte ≡ true → prefix_len test (byte ∷ bytes) ≡ suc (prefix_len test bytes)
one_more test byte bytes pass =
    let next : 1 + prefix_len test bytes ≡ suc (prefix_len test bytes) = omega arith in
    ap (λ (b : Bool). cond b (1 + prefix_len test bytes) 0) pass ∙ next

pub front-cons : (test : ℕ → Bool) (byte : ℕ) (bytes : List ℕ) → test byte ≡ true → front test (byte ∷ bytes) ≡ byte ∷ front test bytes
front-cons test byte bytes pass = ap (λ (n : ℕ). take n (byte ∷ bytes)) (one_more test byte bytes pass)

pub behind-cons : (test : ℕ → Bool) (byte : ℕ) (bytes : List ℕ) → test byte ≡ true → behind test (byte ∷ bytes) ≡ behind test bytes
behind-cons test byte bytes pass = ap (λ (n : ℕ). drop n (byte ∷ bytes)) (one_more test byte bytes pass)

pub behind-none : (test : ℕ → Bool) (byte : ℕ) (bytes : List ℕ) → test byte ≡ false → behind test (byte ∷ bytes) ≡ byte ∷ bytes
behind-none test byte bytes fail = ap (λ (b : Bool). drop (cond b (1 + prefix_len test bytes) 0) (byte ∷ bytes)) fail

pub all_front : (test : ℕ → Bool) (bytes : List ℕ) → list_all test (front test bytes) ≡ true
all_front test [] = refl
all_front test (byte ∷ bytes) = elim (cases_Bool (test byte)) [
  | inl pass ↦ ap (λ (xs : List ℕ). list_all test xs) (front-cons test byte bytes pass) ∙ and_from (test byte) (list_all test (front test bytes)) pass (all_front test bytes)
  | inr fail ↦ ap (λ (b : Bool). list_all test (take (cond b (1 + prefix_len test bytes) 0) (byte ∷ bytes))) fail
]

pub behind_stops : (test : ℕ → Bool) (bytes : List ℕ) → begins test (behind test bytes) ≡ false
behind_stops test [] = refl
behind_stops test (byte ∷ bytes) = elim (cases_Bool (test byte)) [
  | inl pass ↦ ap (λ (xs : List ℕ). begins test xs) (behind-cons test byte bytes pass) ∙ behind_stops test bytes
  | inr fail ↦ ap (λ (xs : List ℕ). begins test xs) (behind-none test byte bytes fail) ∙ fail
]

pub is_count-le : (most : ℕ) (digits : List ℕ) → is_count most digits ≡ true → (0 < length digits) × (length digits ≤ most)
is_count-le most digits is =
    let both = and_parts (ltb 0 (length digits)) (leb (length digits) most) is in
    (ltb-true 0 (length digits) both.0, leb-true (length digits) most both.1)

-- ---- the values of fields, one after the other

-- what is left is read as the rest of the values
pub record ReadsOn (bytes rest : List ℕ) (values : Values) : Type 0 where
  pub before : List ℕ
  pub steps : ℕ
  pub kept : KeepsValues before values
  pub many : length rest ≤ steps
  pub read : option_map (λ (more : List ℕ). before ++ more) (values_from steps rest) ≡ values_of bytes

pub values_from-none : (steps : ℕ) (rest : List ℕ) → is_count 16 (front is_ascii_digit rest) ≡ false → values_from steps rest ≡ None
values_from-none zero rest not = refl
values_from-none (suc steps) rest not = rw not refl

pub reads_none : (bytes rest : List ℕ) (values : Values) → ReadsOn bytes rest values → is_count 16 (front is_ascii_digit rest) ≡ false → values_of bytes ≡ None
reads_none bytes rest values on not = sym on.read ∙ ap (λ (o : Option (List ℕ)). option_map (λ (more : List ℕ). on.before ++ more) o) (values_from-none on.steps rest not)

length-behind : (test : ℕ → Bool) (bytes : List ℕ) → length (front test bytes) + length (behind test bytes) ≡ length bytes
length-behind test bytes = sym (length-append (front test bytes) (behind test bytes)) ∙ sym (ap length (front-behind test bytes))

field_behind-shorter : (bytes more : List ℕ) → field_behind bytes ≡ Some more → length more ≤ length bytes
field_behind-shorter [] more is = cc
field_behind-shorter (byte ∷ bytes) more is = elim (cases_Bool (is_mark byte)) [
  | inl mark ↦
      let same = same_Some _ _ (sym (ap (λ (b : Bool). Some (cond b (behind is_blank bytes) (byte ∷ bytes))) mark) ∙ is) in
      omega (arith, ap length same, length-behind is_blank bytes)
  | inr other ↦
      let same = same_Some _ _ (sym (ap (λ (b : Bool). Some (cond b (behind is_blank bytes) (byte ∷ bytes))) other) ∙ is) in
      omega (arith, ap length same)
]

-- the next field's text is shorter than this one's
pub next_shorter : (rest more : List ℕ) → is_count 16 (front is_ascii_digit rest) ≡ true → next_field (behind is_ascii_digit rest) ≡ Some more → length more < length rest
next_shorter rest more count next =
    let some = (is_count-le 16 (front is_ascii_digit rest) count).0 in
    omega (arith, length-behind is_ascii_digit rest, length-behind is_blank (behind is_ascii_digit rest), field_behind-shorter (behind is_blank (behind is_ascii_digit rest)) more next)

abbrev pub values_then : ℕ → Option (List ℕ) → ℕ → Option (List ℕ)
values_then value None steps = Some (value ∷ [])
values_then value (Some rest) steps = option_map (λ (values : List ℕ). value ∷ values) (values_from steps rest)

pub values_from-step : (steps : ℕ) (rest : List ℕ) (next : Option (List ℕ)) → is_count 16 (front is_ascii_digit rest) ≡ true → next_field (behind is_ascii_digit rest) ≡ next
    → values_from (suc steps) rest ≡ values_then (digits_value 10 (front is_ascii_digit rest)) next steps
values_from-step steps rest None count is = rw (count, is) refl
values_from-step steps rest (Some more) count is = rw (count, is) refl

pub reads_last : (bytes rest : List ℕ) (values : Values) (on : ReadsOn bytes rest values) → is_count 16 (front is_ascii_digit rest) ≡ true → next_field (behind is_ascii_digit rest) ≡ None
    → values_of bytes ≡ Some (on.before ++ digits_value 10 (front is_ascii_digit rest) ∷ [])
reads_last bytes rest values on count next =
    let some = (is_count-le 16 (front is_ascii_digit rest) count).0 in
    let more : on.steps ≡ suc (on.steps - 1) = omega (arith, on.many, length-behind is_ascii_digit rest) in
    let step = ap (λ (n : ℕ). values_from n rest) more ∙ values_from-step (on.steps - 1) rest None count next in
    sym on.read ∙ ap (λ (o : Option (List ℕ)). option_map (λ (more : List ℕ). on.before ++ more) o) step

joined_again : (before : List ℕ) (value : ℕ) (o : Option (List ℕ)) → option_map (λ (more : List ℕ). (before ++ value ∷ []) ++ more) o
    ≡ option_map (λ (more : List ℕ). before ++ more) (option_map (λ (values : List ℕ). value ∷ values) o)
joined_again before value None = refl
joined_again before value (Some more) = ap (λ (xs : List ℕ). Some xs) (append_assoc before (value ∷ []) more)

pub reads_more : (bytes rest more : List ℕ) (values new : Values) (on : ReadsOn bytes rest values) → is_count 16 (front is_ascii_digit rest) ≡ true → next_field (behind is_ascii_digit rest) ≡ Some more
    → KeepsValues (on.before ++ digits_value 10 (front is_ascii_digit rest) ∷ []) new → ReadsOn bytes more new
reads_more bytes rest more values new on count next kept =
    let some = (is_count-le 16 (front is_ascii_digit rest) count).0 in
    let again : on.steps ≡ suc (on.steps - 1) = omega (arith, on.many, length-behind is_ascii_digit rest) in
    let step = ap (λ (n : ℕ). values_from n rest) again ∙ values_from-step (on.steps - 1) rest (Some more) count next in
    record {
      before = on.before ++ digits_value 10 (front is_ascii_digit rest) ∷ [];
      steps = on.steps - 1;
      kept = kept;
      many = omega (arith, on.many, next_shorter rest more count next);
      read = joined_again on.before (digits_value 10 (front is_ascii_digit rest)) (values_from (on.steps - 1) more)
          ∙ (ap (λ (o : Option (List ℕ)). option_map (λ (m : List ℕ). on.before ++ m) o) (sym step) ∙ on.read);
    }

pub reads_first : (bytes : List ℕ) (values : Values) → values.first.items ≡ [] → values.more ≡ false → ReadsOn bytes bytes values
reads_first bytes values none no_more = record {
  before = [];
  steps = length bytes;
  kept = record { first = none; more = no_more };
  many = omega arith;
  read = elim (values_of bytes) as (λ (o : Option (List ℕ)). option_map (λ (more : List ℕ). more) o ≡ o) [ None ↦ refl | Some more ↦ refl ];
}
