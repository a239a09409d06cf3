use Rattle.std.proofs.Common.{subst, refl}
use Rattle.std.specs.Prelude.{ℤ}
use Rattle.sk_publishing.specs.Meets.{Meets}
use Rattle.sk_publishing.specs.Built.{middle_rate}
use Rattle.sk_audit.specs.Given.{anchor_of, sight_at}
use Rattle.sk_audit.specs.Walking.{WalkView}
use Rattle.sk_audit.specs.Scene.{SceneView, terms}
use Rattle.sk_audit.specs.Evaluated.{so_far}
use Rattle.sk_audit.proofs.Leaving.{first_can_end, later_can_end}
use Rattle.sk_audit.proofs.Widen.{between}
use Rattle.sk_audit.proofs.Evaluating.{rate_first, could_go_on}
use Rattle.sk_audit.proofs.walk.Walk.end_before.Goals as goal

pub returns-then-is_first-clause-some : goal.returns-then-is_first-clause-some
returns-then-is_first-clause-some c =
    let scene : SceneView = c.args.scene.now in
    let w : WalkView = c.args.self.now in
    let none = c.if-is_first.ensures.first refl in
    first_can_end scene c.args.place c.args.obs.now (so_far (terms scene) w) none c.requires.here
    (λ m. c.requires.misses (subst (λ (r : ℤ). Meets (terms scene).gauge (anchor_of w.anchor) r (sight_at c.args.place c.args.obs.now))
    (rate_first w.closed w.rate.units (middle_rate (terms scene) w.least w.greatest) none) m))

pub returns-then-not-is_empty-clause-none : goal.returns-then-not-is_empty-clause-none
returns-then-not-is_empty-clause-none c =
    could_go_on c.args.scene.now c.args.place c.args.obs.now c.args.self.now c.requires.next c.requires.evaluated (c.is_first.ensures.later c.if-is_first.false)
    c.running_over-running.result c.running_over-running.ensures c.requires.here c.requires.misses (between c.is_empty.ensures c.if-not-is_empty.true)

pub returns-clause-some : goal.returns-clause-some
returns-clause-some c =
    later_can_end c.args.scene.now c.args.place c.args.obs.now (so_far (terms c.args.scene.now) c.args.self.now)
    c.running_over-running.result (c.is_first.ensures.later c.if-is_first.false) c.requires.here c.running_over-running.ensures (c.is_empty.ensures.0 c.if-not-is_empty.false)
