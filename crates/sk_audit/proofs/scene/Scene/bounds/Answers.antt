use Rattle.std.proofs.Common.{subst}
use Rattle.sk_publishing.specs.Rates.{InBand, IsLeastRate, IsGreatestRate}
use Rattle.sk_audit.specs.Given.{anchor_of, band_view, sight_at}
use Rattle.sk_audit.specs.Scene.{SceneView, IsScene, terms}
use Rattle.sk_audit.proofs.Ranges.{least_allowed_rate, greatest_allowed_rate}
use Rattle.sk_audit.proofs.scene.Scene.bounds.Goals as goal

pub returns-clause-least : goal.returns-clause-least
returns-clause-least c =
    let scene : SceneView = c.args.self.now in
    let given : IsScene scene = subst IsScene c.self.view_is c.self.invariant in
    least_allowed_rate (terms scene) (band_view scene.start.band) given.allowed (terms scene).gauge (anchor_of c.args.anchor) (sight_at 0 c.args.obs.now) c.bounds.result.least
    (subst (λ (v : SceneView). IsLeastRate (InBand (band_view v.start.band)) (terms v).gauge (anchor_of c.args.anchor) (sight_at 0 c.args.obs.now) c.bounds.result.least) c.self.view_is c.bounds.ensures.least)

pub returns-clause-greatest : goal.returns-clause-greatest
returns-clause-greatest c =
    let scene : SceneView = c.args.self.now in
    let given : IsScene scene = subst IsScene c.self.view_is c.self.invariant in
    greatest_allowed_rate (terms scene) (band_view scene.start.band) given.allowed (terms scene).gauge (anchor_of c.args.anchor) (sight_at 0 c.args.obs.now) c.bounds.result.greatest
    (subst (λ (v : SceneView). IsGreatestRate (InBand (band_view v.start.band)) (terms v).gauge (anchor_of c.args.anchor) (sight_at 0 c.args.obs.now) c.bounds.result.greatest) c.self.view_is c.bounds.ensures.greatest)
