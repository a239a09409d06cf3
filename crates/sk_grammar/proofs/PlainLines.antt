-- Lines that a canonical text has in data mode.
use Rattle.std.proofs.Common.{◌≡◌, ℕ, ◌+◌, ◌-◌, ◌*◌, ◌/◌, ◌%◌, ◌^◌, ◌<◌, ◌≤◌, ◌≢◌, suc, zero, List, [], ◌∷◌, ◌++◌, length, take, drop, replicate, Bool, true, false, cond, ◌||◌, not, refl, ap, sym, ◌∙◌, inl, inr, subst, arith, codes, add-one, length-append}
use Rattle.std.specs.List.{list_all, list_any, prefix_len, suffix_len, AllByRecursion, flat_map}
use Rattle.std.specs.Prelude.{◌==◌, nat_le, nat_abs, decimal, pos, negsuc, ℤ}
use Rattle.std.proofs.lemmas.Bool.{and_parts, and_from, cases_Bool, false≢true, or_cases, le-leb, leb-true, eqb-true, eqb-false}
use Rattle.std.proofs.lemmas.Bool.Decides.{nat_tests}
use Rattle.std.proofs.lemmas.List.{length-replicate, length-take-le}
use Rattle.std.proofs.lemmas.List.Folds.{list_all-append, list_any-append}
use Rattle.std.proofs.lemmas.Slice.Eq.{bytes_eq-Decides}
use Rattle.std.proofs.lemmas.Nat.{pow-add, div-add-mod', mul-le}
use Rattle.std.proofs.lemmas.Fmt.{length-decimal-le_wide}
use Rattle.std.proofs.Math.Nat.{div-lt_iff_lt-mul, one-le-pow, mod-lt}
use Rattle.sk_decimal.specs.Number.{DecimalView, IsDecimal, SpellsDecimal, plain_spelling, minus_of, fraction_digits, padded_decimal}
use Rattle.sk_decimal.proofs.Forms.{is_number_byte, numeral_bytes}
use Rattle.sk_decimal.proofs.Printed.{plain_spelling_spells}
use Rattle.sk_grammar.specs.declared.value.Value.{Value}
use Rattle.sk_grammar.specs.declared.value.Value.TheVariants.{Number, Date, Text}
use Rattle.sk_grammar.specs.Lines.{is_white, is_line_feed, is_carriage_return, without_trailing, without_leading, trimmed, is_marker, begins_data, begins_text}
use Rattle.sk_grammar.specs.Document.{is_data_byte, is_name_byte, doubled, quoted, IsValue, IsDate, IsText}
use Rattle.sk_grammar.specs.Spelling.{is_data_line}
use Rattle.sk_grammar.specs.Canonical.{value_text}
use Rattle.sk_grammar.proofs.Trailing.{Trail, trail, trail_length}
use Rattle.sk_grammar.proofs.Lists.{all_first, all_rest, none_if_all, or_parts, none_first, append-[], take-length-append}
use Rattle.sk_grammar.proofs.Validity.{trailing_is}

pub all_both : (test : ℕ → Bool) (xs ys : List ℕ) → list_all test xs ≡ true → list_all test ys ≡ true → list_all test (xs ++ ys) ≡ true
all_both test xs ys p q = list_all-append test xs ys ∙ and_from _ _ p q

pub or_right : (a b : Bool) → b ≡ true → (a || b) ≡ true
or_right true b h = refl
or_right false b h = h

none_of_all : (xs : List ℕ) → list_all is_carriage_return xs ≡ true → list_any is_carriage_return xs ≡ false → xs ≡ []
none_of_all [] all none = refl
none_of_all (x ∷ xs) all none = absurd (false≢true (sym (none_first is_carriage_return x xs none) ∙ all_first is_carriage_return x xs all))

-- a line with none of the bytes has none at its end
pub none_trailing : (xs : List ℕ) → list_any is_carriage_return xs ≡ false → without_trailing is_carriage_return xs ≡ xs
none_trailing xs none =
    let t = trail is_carriage_return xs in
    let parts = or_parts (list_any is_carriage_return t.front) (list_any is_carriage_return t.back) (sym (list_any-append is_carriage_return t.front t.back) ∙ ap (list_any is_carriage_return) (sym t.joined) ∙ none) in
    let empty : t.back ≡ [] = none_of_all t.back t.passes parts.1 in
    trailing_is xs ∙ sym (t.joined ∙ ap (λ (b : List ℕ). t.front ++ b) empty ∙ append-[] t.front)

pub all_weaker : (a b : ℕ → Bool) → ((x : ℕ) → a x ≡ true → b x ≡ true) → (xs : List ℕ) → list_all a xs ≡ true → list_all b xs ≡ true
all_weaker a b h [] all = refl
all_weaker a b h (x ∷ xs) all = and_from _ _ (h x (all_first a x xs all)) (all_weaker a b h xs (all_rest a x xs all))

-- ---- no marker

-- a test that white space fails
abbrev pub FailsWhite : (ℕ → Bool) → Type 0
FailsWhite test = (x : ℕ) → is_white x ≡ true → test x ≡ false

lead_any : (test : ℕ → Bool) → FailsWhite test → (xs : List ℕ) → list_any test (without_leading is_white xs) ≡ list_any test xs
lead_any test fails [] = refl
lead_any test fails (x ∷ xs) =
    elim (cases_Bool (is_white x)) [
      | inl white ↦
          let one : 1 + prefix_len is_white xs ≡ suc (prefix_len is_white xs) = omega arith in
          let size : prefix_len is_white (x ∷ xs) ≡ suc (prefix_len is_white xs) = ap (λ (b : Bool). cond b (1 + prefix_len is_white xs) 0) white ∙ one in
          ap (λ (n : ℕ). list_any test (drop n (x ∷ xs))) size ∙ lead_any test fails xs ∙ sym (ap (λ (b : Bool). b || list_any test xs) (fails x white))
      | inr other ↦ rw other refl
    ]

none_white : (test : ℕ → Bool) → FailsWhite test → (xs : List ℕ) → list_all is_white xs ≡ true → list_any test xs ≡ false
none_white test fails xs all = none_if_all is_white test fails xs all

trailing_white : (xs : List ℕ) → without_trailing is_white xs ≡ (trail is_white xs).front
trailing_white xs =
    let t = trail is_white xs in
    let size = trail_length is_white xs t in
    let whole : length xs ≡ length t.front + length t.back = ap length t.joined ∙ length-append t.front t.back in
    let kept : length xs - suffix_len is_white xs ≡ length t.front = omega (arith, size, whole) in
    ap (λ (n : ℕ). take n xs) kept ∙ ap (take (length t.front)) t.joined ∙ take-length-append t.front t.back

or_none : (a b : Bool) → b ≡ false → (a || b) ≡ a
or_none true b h = refl
or_none false b h = h

trail_any : (test : ℕ → Bool) → FailsWhite test → (xs : List ℕ) → list_any test (without_trailing is_white xs) ≡ list_any test xs
trail_any test fails xs =
    let t = trail is_white xs in
    let whole : list_any test xs ≡ (list_any test t.front || list_any test t.back) = ap (list_any test) t.joined ∙ list_any-append test t.front t.back in
    ap (list_any test) (trailing_white xs) ∙ sym (whole ∙ or_none (list_any test t.front) (list_any test t.back) (none_white test fails t.back t.passes))

-- a marker passes a test as its word does
marker_any : (test : ℕ → Bool) → FailsWhite test → (line word : List ℕ) → trimmed line ≡ word → list_any test word ≡ list_any test line
marker_any test fails line word is = ap (list_any test) (sym is) ∙ lead_any test fails (without_trailing is_white line) ∙ trail_any test fails line

both_values : (x : Bool) → x ≡ not x → ⊥
both_values true h = false≢true (sym h)
both_values false h = false≢true h

no_word : (test : ℕ → Bool) → FailsWhite test → (line word : List ℕ) (has : Bool) → list_any test word ≡ not has → list_any test line ≡ has → ¬ (trimmed line ≡ word)
no_word test fails line word has other here is = both_values has (sym here ∙ sym (marker_any test fails line word is) ∙ other)

-- a line that passes a test otherwise than both words is no marker
pub no_marker : (test : ℕ → Bool) → FailsWhite test → (line : List ℕ) (has : Bool) → list_any test (codes "\\begindata") ≡ not has → list_any test (codes "\\begintext") ≡ not has → list_any test line ≡ has → is_marker line ≡ false
no_marker test fails line has data_word text_word here =
    elim (cases_Bool (is_marker line)) [
      | inr other ↦ other
      | inl marker ↦ elim (or_cases (begins_data line) (begins_text line) marker) [
        | inl d ↦ absurd (no_word test fails line (codes "\\begindata") has data_word here ((bytes_eq-Decides (trimmed line) (codes "\\begindata")).0 d))
        | inr t ↦ absurd (no_word test fails line (codes "\\begintext") has text_word here ((bytes_eq-Decides (trimmed line) (codes "\\begintext")).0 t))
      ]
    ]

abbrev pub is_byte_of : ℕ → ℕ → Bool
is_byte_of k x = x == k

pub white_is_not : (k : ℕ) → is_white k ≡ false → FailsWhite (is_byte_of k)
white_is_not k other x white =
    elim (cases_Bool (x == k)) [
      | inr differs ↦ differs
      | inl same ↦ absurd (false≢true (sym other ∙ subst (λ (y : ℕ). is_white y ≡ true) (eqb-true x k same) white))
    ]

-- ---- plain lines

pub record IsPlainLine (line : List ℕ) : Type 0 where
  pub bytes : list_all is_data_byte line ≡ true
  pub short : length line ≤ 132
  pub no_marker : is_marker line ≡ false

pub plain_data_line : (line : List ℕ) → IsPlainLine line → is_data_line line ≡ true
plain_data_line line p =
    let t = trail is_white line in
    let whole : length line ≡ length t.front + length t.back = ap length t.joined ∙ length-append t.front t.back in
    let bound : length (without_trailing is_white line) ≤ 132 = omega (arith, p.short, whole, ap length (trailing_white line)) in
    and_from _ _ (le-leb (length (without_trailing is_white line)) 132 bound) p.bytes

-- ---- numbers

number_is_data : (x : ℕ) → is_number_byte x ≡ true → is_data_byte x ≡ true
number_is_data x h = grind (arith, nat_tests)

number_no_slash : (x : ℕ) → is_number_byte x ≡ true → is_byte_of 92 x ≡ false
number_no_slash x h = grind (arith, nat_tests)

pub record IsNumberText (text : List ℕ) : Type 0 where
  pub bytes : list_all is_data_byte text ≡ true
  pub no_slash : list_any (is_byte_of 92) text ≡ false
  pub short : length text ≤ 41

minus_short : (z : ℤ) → length (minus_of z) ≤ 1
minus_short (pos n) = omega arith
minus_short (negsuc n) = omega arith

padded_short : (width r k : ℕ) → width ≤ k → 0 < k → r < 10 ^ k → r < 10 ^ 64 → length (padded_decimal width r) ≤ k
padded_short width r k le some below narrow =
    omega (arith, length-append (replicate (width - length (decimal r)) 48) (decimal r), length-replicate {A = ℕ} (width - length (decimal r)) 48, length-decimal-le_wide k r some below narrow)

whole_le : (m s : ℕ) → m / 10 ^ s ≤ m
whole_le m s =
    let some : 1 ≤ 10 ^ s = one-le-pow s 10 (omega arith) in
    let product : m / 10 ^ s * 1 ≤ m / 10 ^ s * 10 ^ s = mul-le (m / 10 ^ s) 1 (m / 10 ^ s) (10 ^ s) (omega arith) some in
    omega (arith, div-add-mod' m (10 ^ s), product)

whole_short : (m s : ℕ) → s ≤ 38 → m < 10 ^ 39 → length (decimal (m / 10 ^ s)) ≤ 39 - s
whole_short m s le below =
    let back : 39 - s + s ≡ 39 = omega arith in
    let split : 10 ^ 39 ≡ 10 ^ (39 - s) * 10 ^ s = ap (λ (k : ℕ). 10 ^ k) (sym back) ∙ pow-add 10 (39 - s) s in
    let some : 0 < 10 ^ s = one-le-pow s 10 (omega arith) in
    let less : m < 10 ^ (39 - s) * 10 ^ s = subst (λ (k : ℕ). m < k) split below in
    let small : m / 10 ^ s < 10 ^ (39 - s) = (div-lt_iff_lt-mul some).1 less in
    let narrow : m / 10 ^ s < 10 ^ 64 = omega (arith, whole_le m s, below) in
    length-decimal-le_wide (39 - s) (m / 10 ^ s) (omega arith) small narrow

fraction_short : (m s : ℕ) → m < 10 ^ 39 → length (fraction_digits s m) ≤ s + 1
fraction_short m s below =
    elim (cases_Bool (s == 0)) [
      | inl none ↦ rw none (omega arith)
      | inr some ↦
          let positive : s ≢ 0 = eqb-false s 0 some in
          let rest : m % 10 ^ s < 10 ^ s = mod-lt m (one-le-pow s 10 (omega arith)) in
          let narrow : m % 10 ^ s < 10 ^ 64 = omega (arith, div-add-mod' m (10 ^ s), below) in
          let pad = padded_short s (m % 10 ^ s) s (omega arith) (omega arith) rest narrow in
          rw some (omega (arith, pad))
    ]

pub plain_short : (d : DecimalView) → IsDecimal d → length (plain_spelling d) ≤ 41
plain_short d valid =
    let m = nat_abs d.coefficient in
    let below : m < 10 ^ 39 = omega (arith, valid.coefficient) in
    let front = minus_of d.coefficient in
    let whole = decimal (m / 10 ^ d.scale) in
    omega (arith, minus_short d.coefficient, whole_short m d.scale valid.scale below, fraction_short m d.scale below, valid.scale, length-append (front ++ whole) (fraction_digits d.scale m), length-append front whole)

pub number_text : (d : DecimalView) → IsDecimal d → IsNumberText (plain_spelling d)
number_text d valid =
    let spelled = plain_spelling_spells d valid in
    let all : list_all is_number_byte (plain_spelling d) ≡ true = numeral_bytes (plain_spelling d) spelled.1.0 spelled.1.1 in
    record {
      bytes = all_weaker is_number_byte is_data_byte number_is_data (plain_spelling d) all;
      no_slash = none_if_all is_number_byte (is_byte_of 92) number_no_slash (plain_spelling d) all;
      short = plain_short d valid;
    }
