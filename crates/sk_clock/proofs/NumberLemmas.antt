-- Values as whole numbers.
use Rattle.std.proofs.Common.{◌≡◌, ℕ, ◌<◌, List, [], ◌∷◌, length, map, get_or, Option, Some, None, MatchOption, All, ap, ◌∙◌, arith}
use Rattle.std.specs.Int.{IsInRange}
use Rattle.std.proofs.lemmas.List.{get_or-map, length-map}
use Rattle.sk_decimal.specs.Number.{DecimalView}
use Rattle.sk_grammar.specs.declared.value.Value.{Value}
use Rattle.sk_grammar.specs.declared.value.Value.TheVariants.{Number}
use Rattle.sk_grammar.specs.Variables.{VariableView, values_at, whole}
use Rattle.sk_clock.specs.Kernel.{IsOneFrom, IsWhole}
use Rattle.sk_clock.specs.Numbers.{IsWholeNumber}

-- what is said of a number is said of the value
pub of_value : (r : Option ℕ) (value : Value) (d : DecimalView) (low high : ℕ) → value ≡ Number d
    → MatchOption r ((n : ℕ) → IsWholeNumber d n → ¬ IsInRange low high n) (λ n. IsWholeNumber d n × IsInRange low high n)
    → MatchOption r ((n : ℕ) → value ≡ whole n → ¬ IsInRange low high n) (λ n. (value ≡ whole n) × IsInRange low high n)
of_value None value d low high is h = λ n same. h n cc
of_value (Some n) value d low high is h = (is ∙ ap (λ (d : DecimalView). Number d) h.0, h.1)

-- and of the variable whose one value it is
pub of_variable : (r : Option ℕ) (pool : List VariableView) (name : List ℕ) (d : DecimalView) (low high : ℕ) → values_at name pool ≡ Some (Number d ∷ [])
    → MatchOption r ((n : ℕ) → IsWholeNumber d n → ¬ IsInRange low high n) (λ n. IsWholeNumber d n × IsInRange low high n)
    → MatchOption r (¬ IsOneFrom pool name low high) (λ n. IsWhole pool name n × IsInRange low high n)
of_variable None pool name d low high is h = λ one. h one.0 (let same = one.1 in cc) one.2
of_variable (Some n) pool name d low high is h = (is ∙ ap (λ (d : DecimalView). Some (Number d ∷ [])) h.0, h.1)

-- where one value is no whole number in the range, not all are
pub stuck_at : (values : List Value) (i : ℕ) (value : Value) (low high : ℕ) → i < length values → value ≡ get_or values i value
    → ((n : ℕ) → value ≡ whole n → ¬ IsInRange low high n)
    → (ns : List ℕ) → values ≡ map whole ns → ¬ All (IsInRange low high) ns
stuck_at values i value low high in_list read none ns same = λ all.
    let lt : i < length ns = omega (arith, ap length same, length-map ns whole) in
    none (get_or ns i 0) (read ∙ (ap (λ (xs : List Value). get_or xs i value) same ∙ get_or-map whole ns i 0 value lt)) (all i 0 lt)
