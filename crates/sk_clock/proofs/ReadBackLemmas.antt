-- The canonical text of a tick is a clock string, which stands for it.
use Rattle.std.proofs.Common.{◌≡◌, ℕ, zero, suc, ◌+◌, ◌-◌, ◌%◌, ◌^◌, ◌<◌, ◌≤◌, true, List, [], ◌∷◌, ◌++◌, append-nil, append_assoc, length, length-append, replicate, codes, decimal, Some, Ok, refl, ap, sym, ◌∙◌, inl, inr, lit<, arith, rules}
use Rattle.std.specs.Prelude.{All, slice_index}
use Rattle.std.specs.Char.{is_ascii_digit}
use Rattle.std.specs.Int.{IsInRange}
use Rattle.std.specs.List.{list_all, join_with_byte}
use Rattle.std.specs.Str.Parse.{digits_value}
use Rattle.std.proofs.lemmas.Str.Parse.{IsNumeralModel, numerals_by_value}
use Rattle.std.proofs.lemmas.Fmt.{digits_decimal, digits_value-decimal, decimal_nonempty, length-decimal-le}
use Rattle.std.proofs.lemmas.List.{length-replicate}
use Rattle.sk_checks.specs.Checks.{NoneRefuses}
use Rattle.sk_decimal.specs.Number.{padded_decimal}
use Rattle.sk_clock.specs.Clock.{ClockView, IsClock, AreDigitsOf, AreLaterDigits, Encodes, count, count_checks, count_in, clock_text, delimiter_byte, field_values, padded_fields, partition_at, text_in, total, product}
use Rattle.sk_clock.specs.ClockText.{Reading, SpellsClock, SpellsDigits, SpellsFields, IsFieldSeparator, StandsFor, HasLowValue, text_checks, count_of}
use Rattle.sk_clock.proofs.CanonicalLemmas.{count_has}
use Rattle.sk_clock.proofs.RadixLemmas.{digits_have}
use Rattle.std.proofs.Math.Nat.{le-mul_of_pos_right}
use Rattle.sk_clock.proofs.FieldLemmas.{product-some}
use Rattle.sk_clock.proofs.SpelledLemmas.{clock_read}
use Rattle.sk_clock.proofs.TickLemmas.{partition_at_is, holds_in, judged_text}

own : IsNumeralModel (λ ds. list_all is_ascii_digit ds ≡ true) (digits_value 10)
own = numerals_by_value (λ ds. list_all is_ascii_digit ds ≡ true) (search rules)

zeros_pass : (k : ℕ) (ds : List ℕ) → list_all is_ascii_digit ds ≡ true → list_all is_ascii_digit (replicate k 48 ++ ds) ≡ true
zeros_pass zero ds all = all
zeros_pass (suc k) ds all = zeros_pass k ds all

zeros_add_nothing : (k : ℕ) (ds : List ℕ) → digits_value 10 (replicate k 48 ++ ds) ≡ digits_value 10 ds
zeros_add_nothing zero ds = refl
zeros_add_nothing (suc k) ds = zeros_add_nothing k ds

length-padded_decimal : (width n : ℕ) → length (padded_decimal width n) ≡ width - length (decimal n) + length (decimal n)
length-padded_decimal width n =
    length-append (replicate (width - length (decimal n)) 48) (decimal n)
    ∙ ap (λ (k : ℕ). k + length (decimal n)) (length-replicate {A = ℕ} (width - length (decimal n)) 48)

-- a padded number is its digits
pub padded_spelled : (width most n : ℕ) → width ≤ most → 0 < most → n < 10 ^ most → n < 2 ^ 64 → SpellsDigits most (padded_decimal width n) n
padded_spelled width most n short some small fits =
    let zeros = width - length (decimal n) in
    let digits = length-decimal-le most n some small fits in
    let many = length-padded_decimal width n in
    let some_digit = decimal_nonempty n fits in (
      (omega arith, zeros_pass zeros (decimal n) (digits_decimal own n fits)),
      omega arith,
      sym (zeros_add_nothing zeros (decimal n) ∙ digits_value-decimal own n fits),
    )

-- ---- its parts

abbrev marks : List ℕ
marks = codes ".:-, "

separator_of : (code : ℕ) → IsInRange 1 5 code → IsFieldSeparator (slice_index marks (code - 1) ∷ [])
separator_of zero range = absurd (omega (arith, range.0))
separator_of (suc zero) range = inr ([], 46, [], refl, (0, lit< tt, refl), refl, refl)
separator_of (suc (suc zero)) range = inr ([], 58, [], refl, (1, lit< tt, refl), refl, refl)
separator_of (suc (suc (suc zero))) range = inr ([], 45, [], refl, (2, lit< tt, refl), refl, refl)
separator_of (suc (suc (suc (suc zero)))) range = inr ([], 44, [], refl, (3, lit< tt, refl), refl, refl)
separator_of (suc (suc (suc (suc (suc zero))))) range = inl (lit< tt, refl)
separator_of (suc (suc (suc (suc (suc (suc code)))))) range = absurd (omega (arith, range.1))

-- how large moduli, offsets and values are
abbrev AreSmall : List ℕ → List ℕ → List ℕ → Type 0
AreSmall (modulus ∷ moduli) (offset ∷ offsets) (value ∷ values) = (modulus + offset ≤ 10 ^ 16) × (value < 10 ^ 16) × AreSmall moduli offsets values
AreSmall [] [] [] = Unit {0}
AreSmall _ _ _ = ⊥

field_spelled : (modulus offset value : ℕ) → modulus + offset ≤ 10 ^ 16 → value < 10 ^ 16 → SpellsDigits 16 (padded_decimal (length (decimal (modulus + offset - 1))) value) value
field_spelled modulus offset value few small =
    padded_spelled (length (decimal (modulus + offset - 1))) 16 value (length-decimal-le 16 (modulus + offset - 1) (lit< tt) (omega arith) (omega arith)) (lit< tt) small (omega arith)

fields_spelled : (delimiter : ℕ) (moduli offsets values : List ℕ) → IsFieldSeparator (delimiter ∷ []) → AreSmall moduli offsets values → 0 < length moduli
    → SpellsFields (join_with_byte delimiter (padded_fields moduli offsets values)) values
fields_spelled delimiter [] offsets values between small some = absurd (omega arith)
fields_spelled delimiter (m ∷ moduli) [] values between small some = absurd small
fields_spelled delimiter (m ∷ moduli) (o ∷ offsets) [] between small some = absurd small
fields_spelled delimiter (m ∷ []) (o ∷ []) (v ∷ []) between small some = field_spelled m o v small.0 small.1
fields_spelled delimiter (m ∷ []) (o ∷ p ∷ offsets) (v ∷ values) between small some = absurd small.2
fields_spelled delimiter (m ∷ []) (o ∷ []) (v ∷ w ∷ values) between small some = absurd small.2
fields_spelled delimiter (m ∷ n ∷ moduli) (o ∷ []) (v ∷ values) between small some = absurd small.2
fields_spelled delimiter (m ∷ n ∷ moduli) (o ∷ p ∷ offsets) (v ∷ []) between small some = absurd small.2
fields_spelled delimiter (m ∷ n ∷ moduli) (o ∷ p ∷ offsets) (v ∷ w ∷ values) between small some =
    let first = padded_decimal (length (decimal (m + o - 1))) v in
    let others = join_with_byte delimiter (padded_fields (n ∷ moduli) (p ∷ offsets) (w ∷ values)) in
    let joined : first ++ (delimiter ∷ others) ≡ first ++ (delimiter ∷ []) ++ others = sym (append_assoc first (delimiter ∷ []) others) in
    (first, delimiter ∷ [], others, joined, field_spelled m o v small.0 small.1, between, fields_spelled delimiter (n ∷ moduli) (p ∷ offsets) (w ∷ values) between small.2 (omega arith))

later_small : (moduli offsets values : List ℕ) → All (IsInRange 1 (2 ^ 53 - 1)) moduli → All (λ offset. offset ≤ 2 ^ 32) offsets → AreLaterDigits moduli offsets values → AreSmall moduli offsets values
later_small [] [] [] moduli_fit offsets_fit digits = tt
later_small [] [] (v ∷ values) moduli_fit offsets_fit digits = absurd digits
later_small [] (o ∷ offsets) values moduli_fit offsets_fit digits = absurd digits
later_small (m ∷ moduli) [] values moduli_fit offsets_fit digits = absurd digits
later_small (m ∷ moduli) (o ∷ offsets) [] moduli_fit offsets_fit digits = absurd digits
later_small (m ∷ moduli) (o ∷ offsets) (v ∷ values) moduli_fit offsets_fit digits =
    let modulus = moduli_fit 0 0 (omega arith) in
    let offset = offsets_fit 0 0 (omega arith) in (
      omega (arith, modulus.1, offset),
      omega (arith, modulus.1, offset, digits.1),
      later_small moduli offsets values (λ k d h. moduli_fit (suc k) d (omega arith)) (λ k d h. offsets_fit (suc k) d (omega arith)) digits.2,
    )

-- the first field's value may pass its modulus, and is small with the count
digits_small : (moduli offsets values : List ℕ) → All (IsInRange 1 (2 ^ 53 - 1)) moduli → All (λ offset. offset ≤ 2 ^ 32) offsets → AreDigitsOf moduli offsets values → count moduli offsets values < 2 ^ 53
    → AreSmall moduli offsets values
digits_small [] offsets values moduli_fit offsets_fit digits small = absurd digits
digits_small (m ∷ moduli) [] values moduli_fit offsets_fit digits small = absurd digits
digits_small (m ∷ moduli) (o ∷ offsets) [] moduli_fit offsets_fit digits small = absurd digits
digits_small (m ∷ moduli) (o ∷ offsets) (v ∷ values) moduli_fit offsets_fit digits small =
    let modulus = moduli_fit 0 0 (omega arith) in
    let offset = offsets_fit 0 0 (omega arith) in
    let later : All (IsInRange 1 (2 ^ 53 - 1)) moduli = λ k d h. moduli_fit (suc k) d (omega arith) in
    let whole = le-mul_of_pos_right (v - o) (product-some moduli later) in (
      omega (arith, modulus.1, offset),
      omega (arith, offset, whole, small),
      later_small moduli offsets values later (λ k d h. offsets_fit (suc k) d (omega arith)) digits.1,
    )

-- no value is below its offset, and there are as many as fields
not_low : (moduli offsets values : List ℕ) → AreLaterDigits moduli offsets values → ¬ HasLowValue offsets values
not_low [] [] [] digits = λ low. low
not_low [] [] (v ∷ values) digits = absurd digits
not_low [] (o ∷ offsets) values digits = absurd digits
not_low (m ∷ moduli) [] values digits = absurd digits
not_low (m ∷ moduli) (o ∷ offsets) [] digits = absurd digits
not_low (m ∷ moduli) (o ∷ offsets) (v ∷ values) digits = λ low. elim low [
  | inl here ↦ omega (arith, digits.0, here)
  | inr later ↦ not_low moduli offsets values digits.2 later
]

none_low : (moduli offsets values : List ℕ) → AreDigitsOf moduli offsets values → ¬ HasLowValue offsets values
none_low [] offsets values digits = absurd digits
none_low (m ∷ moduli) [] values digits = absurd digits
none_low (m ∷ moduli) (o ∷ offsets) [] digits = absurd digits
none_low (m ∷ moduli) (o ∷ offsets) (v ∷ values) digits = λ low. elim low [
  | inl here ↦ omega (arith, digits.0, here)
  | inr later ↦ not_low moduli offsets values digits.1 later
]

length-field_values-le : (moduli offsets : List ℕ) (n : ℕ) → length (field_values moduli offsets n) ≤ length moduli
length-field_values-le [] offsets n = omega arith
length-field_values-le (m ∷ moduli) [] n = omega arith
length-field_values-le (m ∷ moduli) (o ∷ offsets) n =
    let rest = length-field_values-le moduli offsets (n % product moduli) in omega arith

canonical_spelled : (clock : ClockView) (p n : ℕ) → IsClock clock → p < 10 ^ 4 → n < 2 ^ 53
    → SpellsClock (text_in clock p n) (record { partition = Some p; values = field_values clock.moduli clock.offsets n })
canonical_spelled clock p n is few small =
    let values = field_values clock.moduli clock.offsets n in
    let fields = join_with_byte (delimiter_byte clock) (padded_fields clock.moduli clock.offsets values) in
    let digits = digits_have clock.moduli clock.offsets n is.moduli.1 is.as_many is.moduli.0.0 in
    let bounded = digits_small clock.moduli clock.offsets values is.moduli.1 is.offsets digits.1 (omega (arith, digits.0)) in
    let part = decimal p ++ codes "/" in
    let number : SpellsDigits 4 (decimal p) p = ((decimal_nonempty p (omega arith), digits_decimal own p (omega arith)), length-decimal-le 4 p (lit< tt) few (omega arith), sym (digits_value-decimal own p (omega arith))) in
    let parted : part ≡ decimal p ++ [] ++ codes "/" ++ [] = sym (append-nil (decimal p ++ [] ++ codes "/") ∙ ap (λ (xs : List ℕ). xs ++ codes "/") (append-nil (decimal p))) in
    record {
      before = [];
      part = part;
      fields = fields;
      after = [];
      joined = sym (append-nil (part ++ fields));
      is_before = refl;
      is_part = (decimal p, [], [], parted, number, refl, refl);
      are_fields = fields_spelled (delimiter_byte clock) clock.moduli clock.offsets values (separator_of clock.delimiter is.delimiter) bounded is.moduli.0.0;
      is_after = refl;
    }

-- the text of a tick is read as it
pub canonical_reads : (clock : ClockView) (tick : ℕ) → IsClock clock → tick ≤ total clock → NoneRefuses (text_checks clock (clock_text clock tick)) × StandsFor clock (clock_text clock tick) tick
canonical_reads clock tick is up =
    let p = partition_at clock tick in
    let n = count_in clock p tick in
    let at = partition_at_is clock tick is up in
    let has = count_has clock tick p is at in
    let holds = holds_in clock p n has.0 in
    let many = is.partitions.some in
    let end = is.partitions.each (p - 1) (record { start = 0; end = 0 }) (omega (arith, has.0.0.0, has.0.0.1)) in
    let spells = canonical_spelled clock p n is (omega (arith, has.0.0.1)) (omega (arith, holds.1, end.1)) in
    let digits = digits_have clock.moduli clock.offsets n is.moduli.1 is.as_many is.moduli.0.0 in
    let reading : Reading = record { partition = Some p; values = field_values clock.moduli clock.offsets n } in
    let same : count_of clock reading ≡ n = digits.0 in
    let refused : NoneRefuses (count_checks clock (Some p) n) = (λ none. none has.0.0, (λ none. none p (refl, has.0), tt)) in
    let encodes : Encodes clock (Some p) n tick = (p, (refl, has.0), has) in
    judged_text clock (clock_text clock tick) reading n (Ok tick) (clock_read (clock_text clock tick) reading spells) (length-field_values-le clock.moduli clock.offsets n)
    (none_low clock.moduli clock.offsets (field_values clock.moduli clock.offsets n) digits.1) (sym same) (refused, encodes)
