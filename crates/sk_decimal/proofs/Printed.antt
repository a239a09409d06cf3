-- The plain spelling of a decimal spells it.
use Rattle.std.proofs.Common.{◌≡◌, ℕ, ◌+◌, ◌-◌, ◌*◌, ◌/◌, ◌%◌, ◌^◌, ◌<◌, ◌≤◌, zero, suc, List, [], ◌∷◌, ◌++◌, length, replicate, Bool, true, false, cond, refl, ap, sym, ◌∙◌, append_assoc, length-append, ◌⊎◌, inl, inr, arith, codes}
use Rattle.std.specs.Prelude.{ℤ, pos, negsuc, nat_abs, ◌*ℤ◌, decimal, ◌==◌}
use Rattle.std.specs.List.{list_all}
use Rattle.std.specs.Char.{is_ascii_digit, digit_value}
use Rattle.std.specs.Str.Parse.{digits_value, digits_value_after, AllDigits}
use Rattle.std.proofs.lemmas.Str.Parse.{digit_from_value}
use Rattle.std.proofs.lemmas.Fmt.{decimal_is_IsNumeral_wide, length-decimal-le_wide}
use Rattle.std.proofs.lemmas.Bool.{and_from, le-leb, cases_Bool, cases_lt}
use Rattle.std.proofs.lemmas.Nat.{div-add-mod', mod_below, mul-le, pow-add}
use Rattle.std.proofs.lemmas.Int.{ints}
use Rattle.std.proofs.Math.Nat.{pow-suc, one-le-pow}
use Rattle.std.proofs.Math.Dec.{eqb-suc-zero}
use Rattle.sk_decimal.specs.Number.{DecimalView, IsDecimal, SpellsDecimal, SpellsNumeral, HasValue, Numeral, IsSign, padded_decimal, minus_of, fraction_digits, plain_spelling, signed}
use Rattle.sk_decimal.proofs.Forms.{list_all-both}
use Rattle.sk_decimal.proofs.Numerals.{append-[]}
use Rattle.sk_decimal.proofs.Deciding.{after-append}
use Rattle.sk_decimal.specs.Fixed.{HasUnits, fixed_text}
use Rattle.sk_decimal.proofs.Values.{ten_pos, cancel_ten, nat_abs-signed}
use Rattle.sk_decimal.proofs.Quotients.{neg-mul}

are_ascii : (ds : List ℕ) → AllDigits 10 ds → list_all is_ascii_digit ds ≡ true
are_ascii [] all = refl
are_ascii (c ∷ cs) all =
    let range = digit_from_value c all.0 in
    and_from _ _ (and_from _ _ (le-leb 48 c range.0) (le-leb c 57 range.1)) (are_ascii cs all.1)

zeros_are : (k : ℕ) → list_all is_ascii_digit (replicate k 48) ≡ true
zeros_are zero = refl
zeros_are (suc k) = zeros_are k

zeros_value : (k : ℕ) (ds : List ℕ) → digits_value_after 10 0 (replicate k 48 ++ ds) ≡ digits_value_after 10 0 ds
zeros_value zero ds = refl
zeros_value (suc k) ds = zeros_value k ds

length-replicate : (k x : ℕ) → length (replicate k x) ≡ k
length-replicate zero x = refl
length-replicate (suc k) x = ap suc (length-replicate k x)

-- digits behind a number: its place value moves up by their count
after_value : (n : ℕ) (ds : List ℕ) → digits_value_after 10 n ds ≡ n * 10 ^ length ds + digits_value_after 10 0 ds
after_value n [] = omega arith
after_value n (d ∷ ds) =
    let here = after_value (n * 10 + digit_value d) ds in
    let alone = after_value (0 * 10 + digit_value d) ds in
    here ∙ omega (arith, alone, ap (λ (q : ℕ). n * q) (pow-suc 10 (length ds)))

-- zeros in front and the digits of r, at a width of at least one
padded_digits : (width r : ℕ) → r < 10 ^ 64 → list_all is_ascii_digit (padded_decimal width r) ≡ true
padded_digits width r narrow = list_all-both is_ascii_digit (replicate (width - length (decimal r)) 48) (decimal r) (zeros_are (width - length (decimal r))) (are_ascii (decimal r) (decimal_is_IsNumeral_wide r narrow).0.1)

padded_value : (width r : ℕ) → r < 10 ^ 64 → digits_value_after 10 0 (padded_decimal width r) ≡ r
padded_value width r narrow = zeros_value (width - length (decimal r)) (decimal r) ∙ (decimal_is_IsNumeral_wide r narrow).1

padded_length : (width r : ℕ) → 0 < width → r < 10 ^ width → r < 10 ^ 64 → length (padded_decimal width r) ≡ width
padded_length width r some below narrow =
    omega (arith, length-append (replicate (width - length (decimal r)) 48) (decimal r), length-replicate (width - length (decimal r)) 48, length-decimal-le_wide width r some below narrow)

minus_is : (z : ℤ) → (negative : Bool) × (minus_of z ≡ cond negative (codes "-") []) × (z ≡ signed negative (nat_abs z))
minus_is (pos n) = (false, refl, refl)
minus_is (negsuc n) = (true, refl, refl)

-- the parts of a plain spelling
abbrev fraction_of : ℕ → ℕ → List ℕ
fraction_of scale m = cond (scale == 0) [] (padded_decimal scale (m % 10 ^ scale))

fraction_point : (whole : List ℕ) (scale m : ℕ) → (whole ++ fraction_digits scale m ≡ whole ++ codes "." ++ fraction_of scale m) ⊎ ((whole ++ fraction_digits scale m ≡ whole) × (fraction_of scale m ≡ []))
fraction_point whole scale m =
    elim (cases_Bool (scale == 0)) [
      | inl none ↦ inr (ap (λ (b : Bool). whole ++ cond b [] (codes "." ++ padded_decimal scale (m % 10 ^ scale))) none ∙ append-[] whole, ap (λ (b : Bool). cond b [] (padded_decimal scale (m % 10 ^ scale))) none)
      | inr some ↦ inl (ap (λ (b : Bool). whole ++ cond b [] (codes "." ++ padded_decimal scale (m % 10 ^ scale))) some
          ∙ sym (append_assoc whole (codes ".") (padded_decimal scale (m % 10 ^ scale)))
          ∙ ap (λ (b : Bool). whole ++ codes "." ++ cond b [] (padded_decimal scale (m % 10 ^ scale))) (sym some))
    ]

sign_is : (z : ℤ) (negative : Bool) → minus_of z ≡ cond negative (codes "-") [] → IsSign negative (minus_of z)
sign_is z true is = is
sign_is z false is = inl is

sized : (number m scale len : ℕ) → number ≡ m → len ≡ scale → number * 10 ^ (0 + scale) ≡ m * 10 ^ (0 + len)
sized number m scale len is long = ap (λ (x : ℕ). x * 10 ^ (0 + scale)) is ∙ ap (λ (x : ℕ). m * 10 ^ (0 + x)) (sym long)

rest_le : (m n : ℕ) → m % n ≤ m
rest_le m n = omega (arith, div-add-mod' m n)

whole_le : (m s : ℕ) → m / 10 ^ s ≤ m
whole_le m s =
    let some : 1 ≤ 10 ^ s = one-le-pow s 10 (omega arith) in
    let product : m / 10 ^ s * 1 ≤ m / 10 ^ s * 10 ^ s = mul-le (m / 10 ^ s) 1 (m / 10 ^ s) (10 ^ s) (omega arith) some in
    omega (arith, div-add-mod' m (10 ^ s), product)

fraction_suc : (s m : ℕ) → fraction_of (suc s) m ≡ padded_decimal (suc s) (m % 10 ^ suc s)
fraction_suc s m = ap (λ (b : Bool). cond b [] (padded_decimal (suc s) (m % 10 ^ suc s))) (eqb-suc-zero s)

fraction_all : (scale m : ℕ) → m < 10 ^ 64 → list_all is_ascii_digit (fraction_of scale m) ≡ true
fraction_all zero m narrow = refl
fraction_all (suc s) m narrow = ap (list_all is_ascii_digit) (fraction_suc s m) ∙ padded_digits (suc s) (m % 10 ^ suc s) (omega (arith, rest_le m (10 ^ suc s)))

-- the digits are the coefficient, and their count behind the point the scale
fraction_value : (scale m : ℕ) → m < 10 ^ 64 → (digits_value 10 (decimal (m / 10 ^ scale) ++ fraction_of scale m) ≡ m) × (length (fraction_of scale m) ≡ scale)
fraction_value zero m narrow =
    (ap (digits_value 10) (append-[] (decimal (m / 1))) ∙ (decimal_is_IsNumeral_wide (m / 1) (omega arith)).1 ∙ omega arith, refl)
fraction_value (suc s) m narrow =
    let q = m / 10 ^ suc s in
    let r = m % 10 ^ suc s in
    let pad = padded_decimal (suc s) r in
    let r_narrow : r < 10 ^ 64 = omega (arith, rest_le m (10 ^ suc s)) in
    let q_narrow : q < 10 ^ 64 = omega (arith, whole_le m (suc s)) in
    let r_below : r < 10 ^ suc s = mod_below m (10 ^ suc s) (one-le-pow (suc s) 10 (omega arith)) in
    let long : length pad ≡ suc s = padded_length (suc s) r (omega arith) r_below r_narrow in (
      ap (λ (f : List ℕ). digits_value 10 (decimal q ++ f)) (fraction_suc s m)
          ∙ after-append 0 (decimal q) pad
          ∙ ap (λ (n : ℕ). digits_value_after 10 n pad) (decimal_is_IsNumeral_wide q q_narrow).1
          ∙ after_value q pad
          ∙ ap (λ (n : ℕ). q * 10 ^ n + digits_value_after 10 0 pad) long
          ∙ ap (λ (n : ℕ). q * 10 ^ suc s + n) (padded_value (suc s) r r_narrow)
          ∙ div-add-mod' m (10 ^ suc s),
      ap length (fraction_suc s m) ∙ long,
    )

-- the plain spelling is that of a numeral with the value
pub record SpellsValue (bytes : List ℕ) (d : DecimalView) : Type 0 where
  pub numeral : Numeral
  pub spells : SpellsNumeral bytes numeral
  pub has : HasValue numeral d

plain_value : (d : DecimalView) → nat_abs d.coefficient < 10 ^ 64 → SpellsValue (plain_spelling d) d
plain_value d narrow =
    let m = nat_abs d.coefficient in
    let sign = minus_is d.coefficient in
    let whole = decimal (m / 10 ^ d.scale) in
    let q_narrow : m / 10 ^ d.scale < 10 ^ 64 = omega (arith, whole_le m d.scale) in
    let numeral = decimal_is_IsNumeral_wide (m / 10 ^ d.scale) q_narrow in
    let value = fraction_value d.scale m narrow in record {
      numeral = record { negative = sign.0; whole = whole; fraction = fraction_of d.scale m; up = 0; down = 0 };
      spells = record {
        sign = minus_of d.coefficient;
        middle = whole ++ fraction_digits d.scale m;
        power = [];
        joined = append_assoc (minus_of d.coefficient) whole (fraction_digits d.scale m) ∙ sym (append-[] (minus_of d.coefficient ++ (whole ++ fraction_digits d.scale m)));
        is_sign = sign_is d.coefficient sign.0 sign.1;
        has_point = fraction_point whole d.scale m;
        are_digits = (omega (arith, numeral.0.0, length-append whole (fraction_of d.scale m)), list_all-both is_ascii_digit whole (fraction_of d.scale m) (are_ascii whole numeral.0.1) (fraction_all d.scale m narrow));
        has_power = inr (refl, refl, refl);
      };
      has = record { sign = sign.2; size = sized (digits_value 10 (whole ++ fraction_of d.scale m)) m d.scale (length (fraction_of d.scale m)) value.0 value.1 };
    }

-- the plain spelling spells the decimal
pub plain_spelling_spells : (d : DecimalView) → IsDecimal d → SpellsDecimal (plain_spelling d) d
plain_spelling_spells d valid =
    let value = plain_value d (omega (arith, valid.coefficient)) in
    (valid, (value.numeral, value.spells, value.has))

-- ---- how long it is

whole_below : (m s : ℕ) → m < 2 ^ 127 → s ≤ 38 → m / 10 ^ s < 10 ^ (39 - s)
whole_below m s narrow le =
    let sum : 39 ≡ 39 - s + s = omega arith in
    let all : 10 ^ 39 ≡ 10 ^ (39 - s) * 10 ^ s = ap (λ (n : ℕ). 10 ^ n) sum ∙ pow-add 10 (39 - s) s in
    elim (cases_lt (m / 10 ^ s) (10 ^ (39 - s))) [
      | inl below ↦ below
      | inr above ↦ absurd (omega (arith, all, mul-le (10 ^ (39 - s)) (10 ^ s) (m / 10 ^ s) (10 ^ s) above (omega arith), div-add-mod' m (10 ^ s)))
    ]

whole_length : (m s : ℕ) → m < 2 ^ 127 → s ≤ 38 → length (decimal (m / 10 ^ s)) ≤ 39 - s
whole_length m s narrow le = length-decimal-le_wide (39 - s) (m / 10 ^ s) (omega arith) (whole_below m s narrow le) (omega (arith, whole_le m s))

fraction_length : (s m : ℕ) → m < 10 ^ 64 → length (fraction_digits s m) ≤ s + 1
fraction_length zero m narrow = omega arith
fraction_length (suc s) m narrow =
    let pad = padded_decimal (suc s) (m % 10 ^ suc s) in
    let text : fraction_digits (suc s) m ≡ 46 ∷ pad = ap (λ (b : Bool). cond b [] (codes "." ++ pad)) (eqb-suc-zero s) in
    let below : m % 10 ^ suc s < 10 ^ suc s = mod_below m (10 ^ suc s) (one-le-pow (suc s) 10 (omega arith)) in
    omega (arith, ap length text, padded_length (suc s) (m % 10 ^ suc s) (omega arith) below (omega (arith, rest_le m (10 ^ suc s))))

minus_length : (z : ℤ) → length (minus_of z) ≤ 1
minus_length (pos n) = omega arith
minus_length (negsuc n) = omega arith

pub length-plain_spelling : (d : DecimalView) → IsDecimal d → length (plain_spelling d) ≤ 41
length-plain_spelling d valid =
    let m = nat_abs d.coefficient in
    let whole = decimal (m / 10 ^ d.scale) in
    let fraction = fraction_digits d.scale m in
    omega (
      arith,
      length-append (minus_of d.coefficient ++ whole) fraction,
      length-append (minus_of d.coefficient) whole,
      minus_length d.coefficient,
      whole_length m d.scale valid.coefficient valid.scale,
      fraction_length d.scale m (omega (arith, valid.coefficient)),
      valid.scale,
    )

-- ---- the text with a fixed count of decimals

some_product : (c k : ℕ) → 0 < k → 0 < suc c * k
some_product c k some = omega (arith, mul-le 1 1 (suc c) k (omega arith) some)

same_sign : (negative : Bool) (z : ℤ) (k : ℕ) → 0 < k → z *ℤ pos k ≡ signed negative (nat_abs (z *ℤ pos k)) → z ≡ signed negative (nat_abs z)
same_sign false (pos c) k some e = refl
same_sign false (negsuc c) k some e = absurd (omega (arith, ints, e, some_product c k some))
same_sign true (pos zero) k some e = refl
same_sign true (pos (suc c)) k some e = absurd (omega (arith, ints, e, some_product c k some))
same_sign true (negsuc c) k some e = refl

nat_abs-mul : (z : ℤ) (k : ℕ) → nat_abs (z *ℤ pos k) ≡ nat_abs z * k
nat_abs-mul (pos c) k = refl
nat_abs-mul (negsuc c) k = ap nat_abs (neg-mul (pos (suc c)) k) ∙ nat_abs-signed true (suc c * k)

-- the value of more places is that of the decimal with the same units
same_value : (n : Numeral) (places : ℕ) (units : ℤ) (d : DecimalView) → HasUnits places d units → HasValue n (record { coefficient = units; scale = places }) → HasValue n d
same_value n places units d same has =
    let k = 10 ^ (places - d.scale) in
    let number = digits_value 10 (n.whole ++ n.fraction) in
    let deep = 10 ^ (n.down + length n.fraction) in
    let c = nat_abs d.coefficient in
    let size : nat_abs units ≡ c * k = ap nat_abs same.1 ∙ nat_abs-mul d.coefficient k in
    let up : 10 ^ (n.up + places) ≡ 10 ^ (n.up + d.scale) * k = ap (λ (e : ℕ). 10 ^ e) (deeper n.up places d.scale same.0) ∙ pow-add 10 (n.up + d.scale) (places - d.scale) in
    let product : number * 10 ^ (n.up + d.scale) * k ≡ c * deep * k = joined number (10 ^ (n.up + d.scale)) k (10 ^ (n.up + places)) up ∙ has.size ∙ ap (λ (x : ℕ). x * deep) size ∙ swapped c k deep in
    record {
      sign = same_sign n.negative d.coefficient k (ten_pos (places - d.scale)) (sym same.1 ∙ has.sign ∙ ap (λ (z : ℤ). signed n.negative (nat_abs z)) same.1);
      size = cancel_ten (number * 10 ^ (n.up + d.scale)) (c * deep) (places - d.scale) product;
    }
  where
    deeper : (up places scale : ℕ) → scale ≤ places → up + places ≡ up + scale + (places - scale)
    deeper up places scale le = omega arith

    joined : (number p k all : ℕ) → all ≡ p * k → number * p * k ≡ number * all
    joined number p k all e = omega arith ∙ ap (λ (x : ℕ). number * x) (sym e)

    swapped : (c k deep : ℕ) → c * k * deep ≡ c * deep * k
    swapped c k deep = omega arith

pub fixed_text_spells : (places : ℕ) (units : ℤ) (d : DecimalView) → IsDecimal d → HasUnits places d units → nat_abs units < 2 ^ 127 → SpellsDecimal (fixed_text places units) d
fixed_text_spells places units d valid same narrow =
    let value = plain_value (record { coefficient = units; scale = places }) (omega (arith, narrow)) in
    (valid, (value.numeral, value.spells, same_value value.numeral places units d same value.has))
