use Rattle.std.proofs.Common.{◌≡◌, ◌^◌, rules, subst, sym}
use mir.Syntax.{w128}
use mir.Val.{to_z, of_z}
use Rattle.std.specs.Prelude.{ℤ, pos, ◌≤ℤ◌}
use Rattle.sk_audit.specs.Scene.{IsScene}
use Rattle.sk_audit.proofs.Widen.{allowed_ends}
use Rattle.sk_audit.proofs.scene.Scene.middle_rate.Goals as goal

pub middle_rate-requires-clause-positive : goal.middle_rate-requires-clause-positive
middle_rate-requires-clause-positive c =
    let least : to_z w128 (of_z w128 c.args.bounds.least) ≡ c.args.bounds.least = search rules in
    subst (λ (x : ℤ). pos 1 ≤ℤ x) (sym least) (allowed_ends c.args.self.now c.args.bounds.least c.args.bounds.greatest
    (subst IsScene c.self.view_is c.self.invariant) c.requires.least c.requires.greatest).positive

pub middle_rate-requires-clause-small : goal.middle_rate-requires-clause-small
middle_rate-requires-clause-small c =
    let greatest : to_z w128 (of_z w128 c.args.bounds.greatest) ≡ c.args.bounds.greatest = search rules in
    subst (λ (x : ℤ). x ≤ℤ pos (10 ^ 18)) (sym greatest) (allowed_ends c.args.self.now c.args.bounds.least c.args.bounds.greatest
    (subst IsScene c.self.view_is c.self.invariant) c.requires.least c.requires.greatest).small
