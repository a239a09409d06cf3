use Rattle.std.proofs.Common.{◌≡◌, ◌∙◌, ap, arith, rules}
use Rattle.std.proofs.lemmas.Int.{ints, to_z-of_z}
use mir.Syntax.{w128}
use mir.Val.{to_z, of_z}
use Rattle.std.specs.Prelude.{ℤ, pos}
use Rattle.std.specs.Int.{int_div_euclid, int_rem_euclid}
use Rattle.sk_audit.proofs.Quotients.{passed_on}
use Rattle.sk_audit.proofs.Stepping.{exact_floor, no_remainder}
use Rattle.sk_audit.proofs.products.is_step_between.Goals as goal

pub returns-then-rem_euclid-ne0-clause-no : goal.returns-then-rem_euclid-ne0-clause-no
returns-then-rem_euclid-ne0-clause-no c _ n is from to =
    let number : to_z w128 (of_z w128 c.args.number) ≡ c.args.number = to_z-of_z w128 c.args.number c.ranges.number in
    let step : to_z w128 c.args.step ≡ pos c.args.step = omega (arith, ints) in
    c.if-rem_euclid-ne0.true (ap (of_z w128) (c.rem_euclid.ensures.value ∙ ap (λ (x : ℤ). int_rem_euclid x (to_z w128 c.args.step)) number
    ∙ ap (int_rem_euclid c.args.number) step ∙ no_remainder c.args.number n c.args.step c.requires.positive is))

pub returns-then-steps-bounds-clause-no : goal.returns-then-steps-bounds-clause-no
returns-then-steps-bounds-clause-no c _ n is from to =
    let number : to_z w128 (of_z w128 c.args.number) ≡ c.args.number = to_z-of_z w128 c.args.number c.ranges.number in
    let step : to_z w128 c.args.step ≡ pos c.args.step = omega (arith, ints) in
    let steps : c.div_euclid-steps.result ≡ n =
    c.div_euclid-steps.ensures ∙ ap (λ (x : ℤ). int_div_euclid x (to_z w128 c.args.step)) number
    ∙ ap (int_div_euclid c.args.number) step ∙ exact_floor c.args.number n c.args.step c.requires.positive is in
    let seen : to_z w128 (of_z w128 c.div_euclid-steps.result) ≡ c.div_euclid-steps.result = passed_on c.div_euclid-steps.result c.div_euclid-steps.type_inv in
    let least : to_z w128 (of_z w128 c.args.bounds.least) ≡ c.args.bounds.least = search rules in
    let less = c.if-steps-bounds.true in
    omega (arith, ints)

pub returns-clause-no : goal.returns-clause-no
returns-clause-no c e n is from to =
    let number : to_z w128 (of_z w128 c.args.number) ≡ c.args.number = to_z-of_z w128 c.args.number c.ranges.number in
    let step : to_z w128 c.args.step ≡ pos c.args.step = omega (arith, ints) in
    let steps : c.div_euclid-steps.result ≡ n =
    c.div_euclid-steps.ensures ∙ ap (λ (x : ℤ). int_div_euclid x (to_z w128 c.args.step)) number
    ∙ ap (int_div_euclid c.args.number) step ∙ exact_floor c.args.number n c.args.step c.requires.positive is in
    let seen : to_z w128 (of_z w128 c.div_euclid-steps.result) ≡ c.div_euclid-steps.result = passed_on c.div_euclid-steps.result c.div_euclid-steps.type_inv in
    let greatest : to_z w128 (of_z w128 c.args.bounds.greatest) ≡ c.args.bounds.greatest = search rules in
    omega (arith, ints)
