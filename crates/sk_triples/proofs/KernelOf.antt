-- The triples that a kernel's variables give.
use Rattle.std.proofs.Common.{◌≡◌, ◌≢◌, ℕ, suc, ◌*◌, ◌<◌, ◌≤◌, ◌^◌, List, [], ◌∷◌, length, drop, Option, Some, None, refl, sym, ap, subst, inl, inr, arith, ◌∙◌}
use Rattle.std.proofs.Math.Nat.{one-le-mul}
use Rattle.std.proofs.lemmas.List.Elements.{All-drop}
use Rattle.std.specs.Prelude.{unwrap_or, All}
use Rattle.std.specs.List.{flat_map, AllZip}
use Rattle.std.proofs.lemmas.Slice.Zip.{AllZip-long}
use Rattle.sk_checks.specs.Checks.{FirstRefuses, NoneRefuses, each_after}
use Rattle.sk_grammar.specs.declared.value.Value.{Value}
use Rattle.sk_grammar.specs.Variables.{VariableView, values_at}
use Rattle.sk_clock.specs.Clock.{ClockView, IsClock, product, ticks_per, total}
use Rattle.sk_line.specs.Triple.{TripleView}
use Rattle.sk_line.specs.Triple.{coefficients_name}
use Rattle.sk_triples.specs.Kernel.{AreKept}
use Rattle.sk_triples.specs.Coefficients.{Row, row_values, rows_of, row_checks, values_for, triples_checks, AreTriplesOf, IsTripleOf}
use Rattle.sk_triples.specs.Reading.{AreRead}
use Rattle.sk_triples.specs.declared.triple.TriplesFault.{TriplesFault}
use Rattle.sk_triples.specs.declared.triple.TriplesFault.TheVariants.{Missing, NotTriples, TooMany}
use Rattle.sk_triples.proofs.Threes.{rows_back, are_threes}

abbrev pub AreRows : List Value → Type 0
AreRows values = values ≡ flat_map row_values (rows_of values)

module _ (pool : List VariableView) (clock : ClockView) (sc : ℕ) where
  pub missing : values_at (coefficients_name sc) pool ≡ None → FirstRefuses (triples_checks pool clock sc) Missing
  missing e = inl (e, refl)

  module _ (values : List Value) (found : values_at (coefficients_name sc) pool ≡ Some values) where
    are_for : values_for pool sc ≡ values
    are_for = ap (λ (o : Option (List Value)). unwrap_or o []) found

    is_there : values_at (coefficients_name sc) pool ≡ None → ⊥
    is_there e = let no : Some values ≡ None = sym found ∙ e in cc

    pub not_triples : ¬ AreRows values → FirstRefuses (triples_checks pool clock sc) NotTriples
    not_triples not = inr (is_there, inl ((λ rows e. not (sym are_for ∙ e ∙ ap (λ (rs : List Row). flat_map row_values rs) (sym (ap rows_of (sym are_for ∙ e) ∙ rows_back rows)))), refl))

    module _ (rows : AreRows values) where
      are_rows : ((rs : List Row) → values_for pool sc ≢ flat_map row_values rs) → ⊥
      are_rows none = none (rows_of values) (are_for ∙ rows)

      pub too_many : 50000 < length (rows_of values) → FirstRefuses (triples_checks pool clock sc) TooMany
      too_many many = inr (is_there, inr (are_rows, inl (subst (λ (vs : List Value). 50000 < length (rows_of vs)) (sym are_for) many, refl)))

      module _ (few : length (rows_of values) ≤ 50000) where
        not_many : 50000 < length (rows_of (values_for pool sc)) → ⊥
        not_many many = let more : 50000 < length (rows_of values) = subst (λ (vs : List Value). 50000 < length (rows_of vs)) are_for many in omega arith

        module _ (per_count whole : ℕ) (count : per_count ≡ ticks_per clock) (all : whole ≡ total clock) where
          pub row_refused : (fault : TriplesFault) → FirstRefuses (each_after None 1 (row_checks whole) (rows_of values)) fault → FirstRefuses (triples_checks pool clock sc) fault
          row_refused fault h =
              let here : FirstRefuses (each_after None 1 (row_checks (total clock)) (rows_of values)) fault = subst (λ (n : ℕ). FirstRefuses (each_after None 1 (row_checks n) (rows_of values)) fault) all h in
              inr (is_there, inr (are_rows, inr (not_many, subst (λ (vs : List Value). FirstRefuses (each_after None 1 (row_checks (total clock)) (rows_of vs)) fault) (sym are_for) here)))

          pub accepted : (triples : List TripleView) → AreRead whole (rows_of values) triples
              → NoneRefuses (triples_checks pool clock sc) × AreTriplesOf pool clock sc (record { triples = triples; per_count = per_count; total = whole })
          accepted triples read =
              let passed : NoneRefuses (each_after None 1 (row_checks (total clock)) (rows_of values)) = subst (λ (n : ℕ). NoneRefuses (each_after None 1 (row_checks n) (rows_of values))) all read.passed in (
                (is_there, (are_rows, (not_many, subst (λ (vs : List Value). NoneRefuses (each_after None 1 (row_checks (total clock)) (rows_of vs))) (sym are_for) passed))),
                record { rows = subst (λ (vs : List Value). AllZip IsTripleOf (rows_of vs) triples) (sym are_for) read.numbers; of_clock = (count, all) },
              )

-- ---- what is kept

positive_product : (ns : List ℕ) → All (λ n. 1 ≤ n) ns → 1 ≤ product ns
positive_product [] all = omega arith
positive_product (n ∷ ns) all = one-le-mul (all 0 0 (omega arith)) (positive_product ns (λ k d less. all (suc k) d (omega arith)))

pub positive_count : (clock : ClockView) → IsClock clock → 1 ≤ ticks_per clock
positive_count clock is = positive_product (drop 1 clock.moduli) (All-drop (λ n. 1 ≤ n) 1 clock.moduli (λ k d less. (is.moduli.1 k d less).0))

pub are_kept : (clock : ClockView) (values : List Value) (triples : List TripleView) (per_count whole : ℕ) → per_count ≡ ticks_per clock → whole ≡ total clock
    → IsClock clock → 0 < length values → AreRows values → length (rows_of values) ≤ 50000
    → AreRead whole (rows_of values) triples → AreKept (record { triples = triples; per_count = per_count; total = whole })
are_kept clock values triples per_count whole count all is some rows few read =
    let long : length triples ≡ length (rows_of values) = AllZip-long IsTripleOf (rows_of values) triples read.numbers in
    let three : length values ≡ length (rows_of values) * 3 = are_threes values rows in
    let from : 1 ≤ ticks_per clock = positive_count clock is in
    let to : ticks_per clock ≤ 2 ^ 32 = is.moduli.2 in
    let below : total clock < 2 ^ 53 = is.partitions.together in
    record {
      triples = record { some = omega arith; few = omega arith; each = read.kept; rise = read.rise };
      per_count = (omega arith, omega arith);
      total = omega arith;
    }
