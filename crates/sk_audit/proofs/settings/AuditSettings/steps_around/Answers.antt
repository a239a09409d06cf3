use Rattle.std.proofs.Common.{◌↔◌, arith, subst, sym}
use Rattle.std.proofs.lemmas.Int.{ints}
use mir.Syntax.{w128}
use mir.Val.{to_z, of_z}
use Rattle.std.specs.Prelude.{ℤ, ◌≤ℤ◌}
use Rattle.sk_publishing.specs.Rates.{IsAllowed}
use Rattle.sk_audit.proofs.Quotients.{allowed_between, passed_on, passed_small}
use Rattle.sk_audit.proofs.settings.AuditSettings.steps_around.Goals as goal

pub returns : goal.returns
returns c =
    let least = passed_on c.least_steps-least.result c.least_steps-least.type_inv in
    let greatest = passed_on c.lesser-greatest.result c.lesser-greatest.type_inv in
    let law : (n : ℤ) → IsAllowed c.args.self.now.rate_decimals c.args.self.now.band c.args.old_rate.units n
    ↔ ((c.least_steps-least.result ≤ℤ n) × (n ≤ℤ c.lesser-greatest.result)) =
    allowed_between c.args.self.now.rate_decimals c.args.self.now.band c.args.old_rate.units (to_z w128 (of_z w128 c.args.old_rate.units))
    c.least_steps-least.result c.greatest_steps-fast.result (to_z w128 (of_z w128 c.greatest_steps-fast.result))
    c.most_steps-most.result (to_z w128 (of_z w128 c.most_steps-most.result)) c.lesser-greatest.result c.grid-grid.result
    c.grid-grid.ensures.value (passed_small _ (omega (arith, ints)) (omega (arith, ints)))
    (passed_on c.greatest_steps-fast.result c.greatest_steps-fast.type_inv) (passed_on c.most_steps-most.result c.most_steps-most.type_inv)
    c.least_steps-least.ensures c.greatest_steps-fast.ensures c.most_steps-most.ensures c.lesser-greatest.ensures in
    λ n. subst (λ (x : ℤ). IsAllowed c.args.self.now.rate_decimals c.args.self.now.band c.args.old_rate.units n ↔ ((x ≤ℤ n) × (n ≤ℤ to_z w128 (of_z w128 c.lesser-greatest.result)))) (sym least)
    (subst (λ (x : ℤ). IsAllowed c.args.self.now.rate_decimals c.args.self.now.band c.args.old_rate.units n ↔ ((c.least_steps-least.result ≤ℤ n) × (n ≤ℤ x))) (sym greatest) (law n))
