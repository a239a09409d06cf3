use Rattle.std.proofs.Common.{◌≡◌, ◌^◌, ap, ◌∙◌, arith}
use Rattle.std.proofs.lemmas.Int.{ints}
use Rattle.std.specs.Prelude.{ℤ, pos, ◌-ℤ◌, ◌*ℤ◌}
use Rattle.std.specs.Int.{int_div_euclid}
use mir.Syntax.{w128}
use mir.Val.{to_z, of_z}
use Rattle.sk_triples.proofs.Wide.{passed_on, passed_small}
use Rattle.sk_commands.proofs.drawn.drift_of.Goals as goal

abbrev passed : ℤ → ℤ
passed z = to_z w128 (of_z w128 z)

pub returns : goal.returns
returns c =
    let first : ℤ = c.args.first.units in
    let rate : ℤ = c.args.rate.units in
    let own_first : passed first ≡ first = passed_small first (omega (arith, ints, c.requires.first)) (omega (arith, ints, c.requires.first_slow)) in
    let own_rate : passed rate ≡ rate = passed_small rate (omega (arith, ints, c.requires.positive)) (omega (arith, ints, c.requires.slow)) in
    let apart : passed (rate -ℤ first) ≡ rate -ℤ first =
    passed_small (rate -ℤ first) (omega (arith, ints, c.requires.first_slow, c.requires.positive)) (omega (arith, ints, c.requires.slow, c.requires.first)) in
    let product : passed ((rate -ℤ first) *ℤ pos (10 ^ 15)) ≡ (rate -ℤ first) *ℤ pos (10 ^ 15) =
    passed_small ((rate -ℤ first) *ℤ pos (10 ^ 15)) (omega (arith, ints, c.requires.first_slow, c.requires.positive)) (omega (arith, ints, c.requires.slow, c.requires.first)) in
    passed_on c.floor_div.result c.floor_div.type_inv ∙ c.floor_div.ensures.value
    ∙ ap (λ (z : ℤ). int_div_euclid (passed (passed (z -ℤ passed first) *ℤ pos (10 ^ 15))) (passed first)) own_rate
    ∙ ap (λ (z : ℤ). int_div_euclid (passed (passed (rate -ℤ z) *ℤ pos (10 ^ 15))) z) own_first
    ∙ ap (λ (z : ℤ). int_div_euclid (passed (z *ℤ pos (10 ^ 15))) first) apart
    ∙ ap (λ (z : ℤ). int_div_euclid z first) product
