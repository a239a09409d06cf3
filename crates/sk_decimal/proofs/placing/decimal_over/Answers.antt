use Rattle.std.proofs.Common.{rules, arith, ◌∙◌, FitsSigned}
use Rattle.std.specs.Int.{w128}
use Rattle.std.proofs.lemmas.Int.{to_z-of_z}
use Rattle.sk_decimal.proofs.Reduced.{reduced_is, is_decimal, has_units}
use Rattle.sk_decimal.proofs.placing.decimal_over.Goals as goal

pub with_sign-requires : goal.with_sign-requires
with_sign-requires c = omega (arith, (reduced_is c.args.places c.args.size c.reduced-size.result.0 c.reduced-size.result.1 c.reduced-size.ensures).small)

pub new-requires : goal.new-requires
new-requires c =
    let left = reduced_is c.args.places c.args.size c.reduced-size.result.0 c.reduced-size.result.1 c.reduced-size.ensures in
    let fits : FitsSigned w128 c.with_sign.result = search rules in
    simp to_z-of_z (is_decimal c.args.negative c.args.places c.args.size c.reduced-size.result.0 c.reduced-size.result.1 c.with_sign.result left c.requires.size c.requires.places c.with_sign.ensures)

pub returns : goal.returns
returns c =
    let left = reduced_is c.args.places c.args.size c.reduced-size.result.0 c.reduced-size.result.1 c.reduced-size.ensures in
    let fits : FitsSigned w128 c.with_sign.result = search rules in
    let coefficient = simp to_z-of_z at c.new.ensures.coefficient in
    has_units c.args.negative c.args.places c.args.size c.reduced-size.result.0 c.reduced-size.result.1 c.new.result left (coefficient ∙ c.with_sign.ensures) c.new.ensures.scale
