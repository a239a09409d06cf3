use Rattle.std.proofs.Common.{rules, ◌-◌, FitsSigned}
use Rattle.std.specs.Int.{w128}
use Rattle.std.proofs.lemmas.Int.{to_z-of_z}
use Rattle.sk_ratio.proofs.Positive.{power_positive}
use Rattle.sk_ratio.proofs.ratio.Ratio.divisor.Goals as goal

pub positive_product-requires-clause-b : goal.positive_product-requires-clause-b
positive_product-requires-clause-b c =
    let fits : FitsSigned w128 c.pow.result = search rules in
    simp to_z-of_z (rw c.pow.ensures (power_positive (18 - c.args.places)))
