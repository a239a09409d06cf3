use Rattle.std.proofs.Common.{rules, ◌≡◌, ℕ, ◌-◌, ◌*◌, ◌^◌, ◌<◌, ◌∙◌, ap, arith, FitsSigned}
use Rattle.std.specs.Int.{w128}
use Rattle.std.proofs.lemmas.Int.{ints, to_z-of_z}
use Rattle.sk_decimal.proofs.Reduced.{reduced_is, is_decimal}
use Rattle.sk_decimal.proofs.FewDigits.{placed_down}
use Rattle.sk_decimal.proofs.Wide.{placed_up}
use Rattle.sk_decimal.proofs.short.placed.Goals as goal

pub returns-then-raise-lower : goal.returns-then-raise-lower
returns-then-raise-lower c =
    let product : c.from.result * c.from-then-raise-lower.result ≡ c.args.size * 10 ^ (c.args.raise - c.args.lower) = ap (λ (x : ℕ). x * c.from-then-raise-lower.result) c.from.ensures ∙ ap (λ (x : ℕ). c.args.size * x) (c.from-then-raise-lower.ensures ∙ c.pow-scale.ensures) in
    placed_up c.args.negative c.args.size c.args.raise c.args.lower (c.from.result * c.from-then-raise-lower.result) c.new.result c.if-raise-lower.true product (search (rules, ints)) (search (rules, ints)) c.new.ensures.scale

pub new-requires-2 : goal.new-requires-2
new-requires-2 c =
    let left = reduced_is (c.args.lower - c.args.raise) c.args.size c.reduced-size.result.0 c.reduced-size.result.1 c.reduced-size.ensures in
    let fits : FitsSigned w128 c.with_sign-2.result = search rules in
    simp to_z-of_z (is_decimal c.args.negative (c.args.lower - c.args.raise) c.args.size c.reduced-size.result.0 c.reduced-size.result.1 c.with_sign-2.result left (omega (arith, c.requires.size)) (omega (arith, c.requires.powers.1)) (c.with_sign-2.ensures ∙ search rules))

pub returns : goal.returns
returns c =
    let left = reduced_is (c.args.lower - c.args.raise) c.args.size c.reduced-size.result.0 c.reduced-size.result.1 c.reduced-size.ensures in
    let fits : FitsSigned w128 c.with_sign-2.result = search rules in
    let coefficient = simp to_z-of_z at c.new-2.ensures.coefficient in
    placed_down c.args.negative c.args.size c.args.raise c.args.lower c.reduced-size.result.0 c.reduced-size.result.1 c.new-2.result (omega arith) (omega (arith, c.requires.powers.1)) (omega (arith, c.requires.size)) left (coefficient ∙ search (rules, ints)) c.new-2.ensures.scale
