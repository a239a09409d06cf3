-- The fields of a record are made of bytes that an id may have, and none of them needs quotes.
use Rattle.std.proofs.Common.{◌≡◌, ℕ, zero, suc, ◌+◌, ◌-◌, ◌*◌, ◌/◌, ◌%◌, ◌^◌, ◌<◌, ◌≤◌, Bool, true, false, List, [], ◌∷◌, ◌++◌, length, replicate, codes, refl, ap, inl, inr, arith}
use Rattle.std.specs.Prelude.{ℤ, pos, negsuc, nat_abs, nat_le, ◌==◌, ◌||◌, decimal}
use Rattle.std.specs.Fmt.{digits, digits_onto, digit_glyph}
use Rattle.std.specs.List.{list_all, list_any}
use Rattle.std.proofs.lemmas.Bool.{and_parts, and_from, cases_Bool}
use Rattle.std.proofs.lemmas.Bool.Decides.{nat_tests}
use Rattle.csv.specs.Writing.{default_writer, needs_byte}
use Rattle.sk_decimal.specs.Number.{minus_of, fraction_digits, padded_decimal}
use Rattle.sk_decimal.specs.Fixed.{fixed_text}
use Rattle.sk_grammar.proofs.PlainLines.{all_both}
use Rattle.sk_obs.specs.Observation.{is_id_byte}

abbrev pub IsPlain : List ℕ → Type 0
IsPlain text = list_all is_id_byte text ≡ true

pub both : (a b : List ℕ) → IsPlain a → IsPlain b → IsPlain (a ++ b)
both a b p q = all_both is_id_byte a b p q

digit_byte : (d : ℕ) → d < 10 → is_id_byte (digit_glyph false d) ≡ true
digit_byte d h = grind (arith, nat_tests)

digits_plain : (k n : ℕ) (acc : List ℕ) → IsPlain acc → IsPlain (digits_onto k 10 false n acc)
digits_plain zero n acc h = h
digits_plain (suc k) n acc h =
    let next : IsPlain (digit_glyph false (n % 10) ∷ acc) = and_from _ _ (digit_byte (n % 10) (omega arith)) h in
    elim (cases_Bool (n / 10 == 0)) [
      | inl last ↦ rw last next
      | inr more ↦ rw more (digits_plain k (n / 10) (digit_glyph false (n % 10) ∷ acc) next)
    ]

pub number : (n : ℕ) → IsPlain (decimal n)
unfolding digits
number n = digits_plain 64 n [] refl

zeros : (k : ℕ) → IsPlain (replicate k 48)
zeros zero = refl
zeros (suc k) = zeros k

padded : (width n : ℕ) → IsPlain (padded_decimal width n)
padded width n = both (replicate (width - length (decimal n)) 48) (decimal n) (zeros (width - length (decimal n))) (number n)

minus : (z : ℤ) → IsPlain (minus_of z)
minus (pos n) = refl
minus (negsuc n) = refl

pub fixed : (z : ℤ) → IsPlain (fixed_text 9 z)
fixed z =
    let whole = decimal (nat_abs z / 10 ^ 9) in
    both (minus_of z ++ whole) (fraction_digits 9 (nat_abs z)) (both (minus_of z) whole (minus z) (number (nat_abs z / 10 ^ 9)))
    (padded 9 (nat_abs z % 10 ^ 9))

unquoted_byte : (b : ℕ) → is_id_byte b ≡ true → needs_byte default_writer b ≡ false
unquoted_byte b h = grind (arith, nat_tests)

pub unquoted : (text : List ℕ) → IsPlain text → list_any (needs_byte default_writer) text ≡ false
unquoted [] h = refl
unquoted (b ∷ rest) h =
    let parts = and_parts (is_id_byte b) (list_all is_id_byte rest) h in
    rw (unquoted_byte b parts.0) (unquoted rest parts.1)
