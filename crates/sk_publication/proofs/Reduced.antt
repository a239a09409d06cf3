-- Numbers of units without the zeros at their end.
use Rattle.std.proofs.Common.{◌≡◌, ℕ, zero, suc, ◌-◌, ◌*◌, ◌%◌, ◌^◌, ◌<◌, ◌≤◌, ap, sym, ◌∙◌, inl, inr, arith}
use Rattle.std.specs.Prelude.{ℤ, pos, nat_abs, ◌*ℤ◌, ◌==◌}
use Rattle.std.specs.Int.RustNames.{int_div}
use Rattle.std.proofs.lemmas.Bool.{cases_Bool, eqb-true, eqb-false}
use Rattle.std.proofs.lemmas.Int.{ints, quot-rem, rem_below, unsigned_abs-mul}
use Rattle.std.proofs.Math.Nat.{pow-suc}
use Rattle.sk_decimal.specs.Number.{DecimalView, IsDecimal}
use Rattle.sk_decimal.specs.Fixed.{HasUnits}
use Rattle.sk_publishing.specs.Published.{reduced}
use Rattle.sk_line.proofs.Products.{twice}

-- a tenth of a multiple of ten
tenth : (z : ℤ) → nat_abs z % 10 ≡ 0 → int_div z (pos 10) *ℤ pos 10 ≡ z
tenth z whole = omega (arith, ints, quot-rem z (pos 10), rem_below z (pos 10) (omega arith))

smaller : (z : ℤ) → nat_abs z % 10 ≡ 0 → nat_abs (int_div z (pos 10)) ≤ nat_abs z
smaller z whole = omega (arith, ap nat_abs (tenth z whole), unsigned_abs-mul (int_div z (pos 10)) (pos 10))

times_one : (z : ℤ) → z ≡ z *ℤ pos 1
times_one z = omega (arith, ints)

power_more : (places scale : ℕ) → scale ≤ places → 10 ^ (suc places - scale) ≡ 10 ^ (places - scale) * 10
power_more places scale h =
    let next : suc places - scale ≡ suc (places - scale) = omega arith in
    ap (λ (k : ℕ). 10 ^ k) next ∙ pow-suc 10 (places - scale)

raised : (places : ℕ) (units : ℤ) (d : DecimalView) → nat_abs units % 10 ≡ 0 → HasUnits places d (int_div units (pos 10)) → HasUnits (suc places) d units
raised places units d whole h = (
  omega (arith, h.0),
  sym (tenth units whole) ∙ ap (λ (z : ℤ). z *ℤ pos 10) h.1 ∙ twice d.coefficient (10 ^ (places - d.scale)) 10
      ∙ ap (λ (k : ℕ). d.coefficient *ℤ pos k) (sym (power_more places d.scale h.0)),
)

here : (places : ℕ) (units : ℤ) → HasUnits places (record { coefficient = units; scale = places }) units
here places units =
    let none : places - places ≡ 0 = omega arith in
    (omega arith, times_one units ∙ ap (λ (k : ℕ). units *ℤ pos (10 ^ k)) (sym none))

-- what is left has the value
pub reduced_units : (places : ℕ) (units : ℤ) → HasUnits places (reduced places units) units
reduced_units zero units = here 0 units
reduced_units (suc places) units =
    elim (cases_Bool (nat_abs units % 10 == 0)) [
      | inl whole ↦ rw whole (raised places units (reduced places (int_div units (pos 10))) (eqb-true (nat_abs units % 10) 0 whole) (reduced_units places (int_div units (pos 10))))
      | inr rest ↦ rw rest (here (suc places) units)
    ]

-- and is a decimal
pub reduced_decimal : (places : ℕ) (units : ℤ) → places ≤ 38 → nat_abs units < 2 ^ 127 → IsDecimal (reduced places units)
reduced_decimal zero units few small = record { coefficient = small; scale = omega arith; reduced = λ some. absurd (omega arith) }
reduced_decimal (suc places) units few small =
    elim (cases_Bool (nat_abs units % 10 == 0)) [
      | inl whole ↦
          let less = smaller units (eqb-true (nat_abs units % 10) 0 whole) in
          rw whole (reduced_decimal places (int_div units (pos 10)) (omega arith) (omega arith))
      | inr rest ↦
          let d : IsDecimal (record { coefficient = units; scale = suc places }) = record { coefficient = small; scale = few; reduced = λ some. eqb-false (nat_abs units % 10) 0 rest } in
          rw rest d
    ]
