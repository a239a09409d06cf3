use Rattle.std.proofs.Common.{◌≡◌, ◌≤◌, ◌++◌, ℕ, List, ap, ◌∙◌, subst, arith}
use Rattle.sk_decimal.specs.Number.{SpellsDecimal}
use Rattle.sk_decimal.specs.Fixed.{fixed_text}
use Rattle.sk_decimal.proofs.Exact.{one_decimal}
use Rattle.sk_decimal.proofs.Printed.{fixed_text_spells}
use Rattle.sk_publishing.specs.Published.{reduced}
use Rattle.sk_publication.proofs.Reduced.{reduced_decimal, reduced_units}
use Rattle.sk_publication.proofs.numbers.decimal_of.Goals as goal

pub returns-in-Ok : goal.returns-in-Ok
returns-in-Ok g c =
    let units = c.args.number.units in
    let text : c.as_slice.result.now ≡ fixed_text g.row.S units =
    c.as_slice.ensures.value ∙ c.in_ok-print.ensures.ok ∙ ap (λ (t : List ℕ). t ++ fixed_text g.row.S units) c.new-text.ensures.items in
    let few : g.row.S ≤ 38 = omega (arith, c.requires.places) in
    one_decimal (fixed_text g.row.S units) c.in-Ok.decimal (reduced g.row.S units)
    (subst (λ (bytes : List ℕ). SpellsDecimal bytes c.in-Ok.decimal) text c.in-Ok.ensures.spelled)
    (fixed_text_spells g.row.S units (reduced g.row.S units) (reduced_decimal g.row.S units few c.requires.size) (reduced_units g.row.S units) c.requires.size)
