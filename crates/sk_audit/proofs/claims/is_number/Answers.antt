use Rattle.std.proofs.Common.{rules, sym, ap, subst, ◌∙◌}
use Rattle.std.specs.Prelude.{ℤ}
use Rattle.sk_decimal.specs.Number.{IsDecimal}
use Rattle.sk_decimal.specs.Fixed.{FitsWide}
use Rattle.sk_decimal.specs.declared.fixed.Fixed.{Fixed}
use Rattle.sk_grammar.specs.Document.{IsValue}
use Rattle.sk_grammar.specs.declared.value.Value.TheVariants.{Number}
use Rattle.sk_audit.proofs.Numbers.{is_reduced, has_units, same_number, no_true}
use Rattle.sk_audit.proofs.claims.is_number.Goals as goal

pub returns-in-Some : goal.returns-in-Some
returns-in-Some g c =
    let valid : IsDecimal c.in-Number.claimed = subst IsValue c.in-Number.is c.requires.valid in
    let is = ap (λ (f : Fixed g.row.S). f.units) c.in-Some.ensures.1 in (
      (λ h. c.in-Number.is ∙ ap Number (is_reduced g.row.S c.args.number.units c.in-Number.claimed c.requires.places c.requires.size valid
          (c.in-Some.ensures.0.0, sym (ap (λ (f : Fixed g.row.S). f.units) (c.is_same.ensures.0 h)) ∙ is))),
      (λ e. c.is_same.ensures.1 (ap (λ (u : ℤ). record { units = u }) (is ∙ sym (has_units g.row.S c.args.number.units c.in-Number.claimed (same_number _ _ (sym c.in-Number.is ∙ e))).1))),
    )

pub returns-in-None : goal.returns-in-None
returns-in-None g c = (
  (λ h. absurd (no_true h)),
  (λ e. let has = has_units g.row.S c.args.number.units c.in-Number.claimed (same_number _ _ (sym c.in-Number.is ∙ e)) in
      let fits : FitsWide c.args.number.units = search rules in
      absurd (c.in-None.ensures (has.0, subst FitsWide has.1 fits))),
)
