use Rattle.std.proofs.Common.{rules, pos, ◌+ℤ◌, FitsSigned}
use Rattle.std.proofs.lemmas.Int.{to_z-of_z}
use Rattle.std.specs.Int.{w128}
use Rattle.sk_decimal.proofs.Quotients.{ceiling_whole, ceiling_next}
use Rattle.sk_decimal.proofs.division.ceil_div.Goals as goal

pub returns-then-rem_euclid-eq0 : goal.returns-then-rem_euclid-eq0
returns-then-rem_euclid-eq0 c =
    let fits : FitsSigned w128 c.floor_div-floor.result = search rules in
    simp to_z-of_z (ceiling_whole c.args.a c.args.b c.floor_div-floor.result c.rem_euclid.result c.requires (search rules) (search rules) (search rules))

pub returns-else-rem_euclid-eq0 : goal.returns-else-rem_euclid-eq0
returns-else-rem_euclid-eq0 c =
    let fits : FitsSigned w128 c.floor_div-floor.result = search rules in
    let next : FitsSigned w128 (c.floor_div-floor.result +ℤ pos 1) = search rules in
    simp to_z-of_z (ceiling_next c.args.a c.args.b c.floor_div-floor.result c.rem_euclid.result c.requires (search rules) (search rules) (search rules))
