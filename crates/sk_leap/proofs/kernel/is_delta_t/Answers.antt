use Rattle.std.proofs.Common.{◌≡◌, ◌∙◌, sym, ap, SFits, rules}
use Rattle.std.specs.Prelude.{ℤ}
use Rattle.std.specs.Int.{w128}
use Rattle.sk_decimal.specs.Fixed.{units_of}
use Rattle.sk_leap.proofs.Tables.{delta_from, delta_units, from_bits, to_bits}
use Rattle.sk_leap.proofs.kernel.is_delta_t.Goals as goal

pub returns-in-Some-to_fixed : goal.returns-in-Some-to_fixed
returns-in-Some-to_fixed c =
    let units : c.in-Some-to_fixed.seconds.units ≡ units_of 3 c.in-Some.number = ap (λ s. s.units) c.in-Some-to_fixed.ensures.1 in
    let fits : SFits w128 c.in-Some-to_fixed.seconds.units = search rules in (
      (λ test. delta_from c.args.values.now c.in-Some.number (sym c.in-Some.ensures) c.in-Some-to_fixed.ensures.0.0 (sym units ∙ from_bits c.in-Some-to_fixed.seconds.units fits test)),
      (λ value. to_bits c.in-Some-to_fixed.seconds.units (units ∙ delta_units c.args.values.now c.in-Some.number (sym c.in-Some.ensures) value)),
    )
