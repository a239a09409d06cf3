use Rattle.std.proofs.Common.{rules, FitsSigned}
use Rattle.std.specs.Int.{w128}
use Rattle.std.proofs.lemmas.Int.{to_z-of_z}
use Rattle.sk_ratio.proofs.Positive.{product_positive}
use Rattle.sk_ratio.proofs.ratio.positive_product.Goals as goal

pub returns-in-Some-clause-positive : goal.returns-in-Some-clause-positive
returns-in-Some-clause-positive c =
    let a : FitsSigned w128 c.args.a = c.ranges.a in
    let b : FitsSigned w128 c.args.b = c.ranges.b in
    let product : FitsSigned w128 c.in-Some.product = search rules in
    let value = simp to_z-of_z at c.in-Some.ensures.1 in
    simp to_z-of_z (product_positive c.args.a c.args.b c.in-Some.product c.requires.a c.requires.b value)
