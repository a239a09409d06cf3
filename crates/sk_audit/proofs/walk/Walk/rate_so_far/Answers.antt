use Rattle.std.proofs.Common.{◌≡◌, rules, sym, subst, ap}
use mir.Syntax.{w128}
use mir.Val.{to_z, of_z}
use Rattle.sk_publishing.specs.Chain.{IsAllowedStep}
use Rattle.sk_audit.specs.Walking.{WalkView}
use Rattle.sk_audit.specs.Scene.{terms}
use Rattle.sk_audit.proofs.Evaluating.{interval_ends}
use Rattle.sk_audit.proofs.walk.Walk.rate_so_far.Goals as goal

pub middle_rate-requires-clause-least : goal.middle_rate-requires-clause-least
middle_rate-requires-clause-least c =
    let same : to_z w128 (of_z w128 c.self.inside.least) ≡ c.self.inside.least = search rules in
    let view = ap (λ (v : WalkView). v.least) c.self.view_is in
    subst (IsAllowedStep (terms c.args.scene.now)) (sym same) (subst (IsAllowedStep (terms c.args.scene.now)) (sym view)
    (interval_ends c.args.scene.now c.args.self.now c.requires.evaluated.0 c.requires.evaluated.1 (c.is_first.ensures.later c.if-is_first.false)).0)

pub middle_rate-requires-clause-greatest : goal.middle_rate-requires-clause-greatest
middle_rate-requires-clause-greatest c =
    let same : to_z w128 (of_z w128 c.self.inside.greatest) ≡ c.self.inside.greatest = search rules in
    let view = ap (λ (v : WalkView). v.greatest) c.self.view_is in
    subst (IsAllowedStep (terms c.args.scene.now)) (sym same) (subst (IsAllowedStep (terms c.args.scene.now)) (sym view)
    (interval_ends c.args.scene.now c.args.self.now c.requires.evaluated.0 c.requires.evaluated.1 (c.is_first.ensures.later c.if-is_first.false)).1)
