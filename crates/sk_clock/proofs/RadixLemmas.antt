-- The field values of a count: they exist, and they are the only ones.
use Rattle.std.proofs.Common.{◌≡◌, ℕ, suc, ◌+◌, ◌-◌, ◌*◌, ◌/◌, ◌%◌, ◌^◌, ◌<◌, ◌≤◌, List, [], ◌∷◌, length, refl, ap, sym, ◌∙◌, arith}
use Rattle.std.specs.Prelude.{All}
use Rattle.std.specs.Int.{IsInRange}
use Rattle.std.proofs.Math.Nat.{mul_comm}
use Rattle.std.proofs.lemmas.Nat.{mul-add-lt, div-mul-add, mod-mul-add, div_below, mod_below, div-add-mod'}
use Rattle.sk_clock.specs.Clock.{product, count, field_values, AreLaterDigits, AreDigitsOf}
use Rattle.sk_clock.proofs.FieldLemmas.{product-some}

abbrev ArePositive : List ℕ → Type 0
ArePositive moduli = All (IsInRange 1 (2 ^ 53 - 1)) moduli

-- the count of later fields is below the product of their moduli
later_below : (moduli offsets values : List ℕ) → AreLaterDigits moduli offsets values → count moduli offsets values < product moduli
later_below [] [] [] are = omega arith
later_below [] [] (v ∷ values) are = absurd are
later_below [] (o ∷ offsets) values are = absurd are
later_below (m ∷ moduli) [] values are = absurd are
later_below (m ∷ moduli) (o ∷ offsets) [] are = absurd are
later_below (m ∷ moduli) (o ∷ offsets) (v ∷ values) are =
    let rest = later_below moduli offsets values are.2 in
    let digit : v - o < m = omega (arith, are.0, are.1) in
    omega (arith, mul-add-lt (v - o) (product moduli) (count moduli offsets values) m digit rest, mul_comm (product moduli) m)

-- one field, and those behind it
one_field : (offset value rest unit : ℕ) → offset ≤ value → rest < unit → (value ≡ offset + ((value - offset) * unit + rest) / unit) × (rest ≡ ((value - offset) * unit + rest) % unit)
one_field offset value rest unit low below =
    let quotient = div-mul-add (value - offset) unit rest below in
    (omega arith, sym (mod-mul-add (value - offset) unit rest below))

later_are : (moduli offsets values : List ℕ) → AreLaterDigits moduli offsets values → values ≡ field_values moduli offsets (count moduli offsets values)
later_are [] [] [] are = refl
later_are [] [] (v ∷ values) are = absurd are
later_are [] (o ∷ offsets) values are = absurd are
later_are (m ∷ moduli) [] values are = absurd are
later_are (m ∷ moduli) (o ∷ offsets) [] are = absurd are
later_are (m ∷ moduli) (o ∷ offsets) (v ∷ values) are =
    let field = one_field o v (count moduli offsets values) (product moduli) are.0 (later_below moduli offsets values are.2) in
    ap (λ (n : ℕ). n ∷ values) field.0
    ∙ ap (λ (vs : List ℕ). (o + ((v - o) * product moduli + count moduli offsets values) / product moduli) ∷ vs)
    (later_are moduli offsets values are.2 ∙ ap (λ (n : ℕ). field_values moduli offsets n) field.1)

-- the digits of a count are its field values
pub digits_are : (moduli offsets values : List ℕ) → AreDigitsOf moduli offsets values → values ≡ field_values moduli offsets (count moduli offsets values)
digits_are [] offsets values are = absurd are
digits_are (m ∷ moduli) [] values are = absurd are
digits_are (m ∷ moduli) (o ∷ offsets) [] are = absurd are
digits_are (m ∷ moduli) (o ∷ offsets) (v ∷ values) are =
    let field = one_field o v (count moduli offsets values) (product moduli) are.0 (later_below moduli offsets values are.1) in
    ap (λ (n : ℕ). n ∷ values) field.0
    ∙ ap (λ (vs : List ℕ). (o + ((v - o) * product moduli + count moduli offsets values) / product moduli) ∷ vs)
    (later_are moduli offsets values are.1 ∙ ap (λ (n : ℕ). field_values moduli offsets n) field.1)

positive_tail : (m : ℕ) (moduli : List ℕ) → ArePositive (m ∷ moduli) → ArePositive moduli
positive_tail m moduli are k d h = are (suc k) d (omega arith)

-- a count of one field and those behind it
again : (offset n unit : ℕ) → 0 < unit → (offset + n / unit - offset) * unit + n % unit ≡ n
again offset n unit some =
    let less : offset + n / unit - offset ≡ n / unit = omega arith in
    ap (λ (q : ℕ). q * unit + n % unit) less ∙ div-add-mod' n unit

-- the field values of a count below the product have it, and are digits
later_have : (moduli offsets : List ℕ) (n : ℕ) → ArePositive moduli → length offsets ≡ length moduli → n < product moduli
    → (count moduli offsets (field_values moduli offsets n) ≡ n) × AreLaterDigits moduli offsets (field_values moduli offsets n)
later_have [] [] n are same below = (omega arith, tt)
later_have [] (o ∷ offsets) n are same below = absurd (omega arith)
later_have (m ∷ moduli) [] n are same below = absurd (omega arith)
later_have (m ∷ moduli) (o ∷ offsets) n are same below =
    let unit = product moduli in
    let some = product-some moduli (positive_tail m moduli are) in
    let rest = later_have moduli offsets (n % unit) (positive_tail m moduli are) (omega arith) (mod_below n unit some) in
    let digit = div_below n unit m some below in (
      ap (λ (r : ℕ). (o + n / unit - o) * unit + r) rest.0 ∙ again o n unit some,
      (omega arith, omega arith, rest.1),
    )

pub digits_have : (moduli offsets : List ℕ) (n : ℕ) → ArePositive moduli → length offsets ≡ length moduli → 0 < length moduli
    → (count moduli offsets (field_values moduli offsets n) ≡ n) × AreDigitsOf moduli offsets (field_values moduli offsets n)
digits_have [] offsets n are same some_fields = absurd (omega arith)
digits_have (m ∷ moduli) [] n are same some_fields = absurd (omega arith)
digits_have (m ∷ moduli) (o ∷ offsets) n are same some_fields =
    let unit = product moduli in
    let some = product-some moduli (positive_tail m moduli are) in
    let rest = later_have moduli offsets (n % unit) (positive_tail m moduli are) (omega arith) (mod_below n unit some) in (
      ap (λ (r : ℕ). (o + n / unit - o) * unit + r) rest.0 ∙ again o n unit some,
      (omega arith, rest.1),
    )
