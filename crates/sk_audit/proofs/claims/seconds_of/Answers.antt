use Rattle.std.proofs.Common.{ℤ, Some, sym, ap, ◌∙◌, subst}
use Rattle.sk_decimal.specs.Fixed.{FitsWide}
use Rattle.sk_audit.proofs.Numbers.{has_units, same_number}
use Rattle.sk_audit.proofs.Reading.{some_iff, fits_wide}
use Rattle.sk_audit.proofs.claims.seconds_of.Goals as goal

pub returns : goal.returns
returns c = λ units small e.
    let has = has_units 18 units c.in-Number.number (same_number _ _ (sym c.in-Number.is ∙ e)) in
    let fits : FitsWide units = fits_wide units small in
    some_iff c.to_fixed.result _ _ c.to_fixed.ensures (has.0, subst FitsWide has.1 fits) ∙ ap (λ (z : ℤ). Some (record { units = z })) (sym has.1)
