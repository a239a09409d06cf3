use Rattle.std.proofs.Common.{ℕ, ◌^◌, ◌<◌, sym, subst, ap}
use Rattle.sk_audit.specs.Walking.{WalkView}
use Rattle.sk_audit.specs.Scene.{SceneView, terms}
use Rattle.sk_audit.specs.Evaluated.{so_far}
use Rattle.sk_audit.proofs.Leaving.{left_short, can_meet_left, lacks_rate}
use Rattle.sk_audit.proofs.Widen.{between}
use Rattle.sk_audit.proofs.Evaluating.{built, none_met, due_left, anchor_left}
use Rattle.sk_audit.proofs.walk.Walk.leave_or_drop.Goals as goal

pub anchor_on-anchor-requires-clause-short : goal.anchor_on-anchor-requires-clause-short
anchor_on-anchor-requires-clause-short c =
    let scene : SceneView = c.args.scene.now in
    let w : WalkView = c.args.self.now in
    subst (λ (k : ℕ). k < 2 ^ 53) (sym (ap (λ (v : WalkView). v.leave_tick) c.self.view_is))
    (left_short scene c.args.place c.args.obs.now (so_far (terms scene) w) c.requires.next.next
    (built scene c.args.place c.args.obs.now w c.requires.next c.requires.evaluated) c.requires.here)

pub bounds-bounds-requires : goal.bounds-bounds-requires
bounds-bounds-requires c =
    let scene : SceneView = c.args.scene.now in
    let w : WalkView = c.args.self.now in
    can_meet_left scene c.args.place c.args.obs.now (so_far (terms scene) w) c.requires.next.next
    (built scene c.args.place c.args.obs.now w c.requires.next c.requires.evaluated) c.requires.here c.anchor_on-anchor.result
    (anchor_left scene w c.anchor_on-anchor.result _ c.rate_so_far-rate.result.units c.self.view_is c.rate_so_far-rate.ensures.value c.anchor_on-anchor.ensures)

pub drop_or_stop-requires-clause-none : goal.drop_or_stop-requires-clause-none
drop_or_stop-requires-clause-none c =
    let scene : SceneView = c.args.scene.now in
    let w : WalkView = c.args.self.now in
    lacks_rate scene c.args.place c.args.obs.now (so_far (terms scene) w) c.requires.next.next
    (built scene c.args.place c.args.obs.now w c.requires.next c.requires.evaluated) c.requires.here c.args.ended c.anchor_on-anchor.result c.requires.ends
    (anchor_left scene w c.anchor_on-anchor.result _ c.rate_so_far-rate.result.units c.self.view_is c.rate_so_far-rate.ensures.value c.anchor_on-anchor.ensures)
    (none_met scene c.args.place c.args.obs.now w c.requires.next c.requires.evaluated c.anchor_on-anchor.result c.bounds-bounds.result
    c.bounds-bounds.ensures.least c.bounds-bounds.ensures.greatest (c.is_empty.ensures.0 c.if-is_empty.true))

pub begin_claimed-requires-clause-due : goal.begin_claimed-requires-clause-due
begin_claimed-requires-clause-due c =
    let scene : SceneView = c.args.scene.now in
    let w : WalkView = c.args.self.now in
    due_left scene c.args.place c.args.obs.now w c.requires.next c.requires.evaluated c.args.ended c.anchor_on-anchor.result c.bounds-bounds.result c.requires.here c.requires.ends
    (anchor_left scene w c.anchor_on-anchor.result _ c.rate_so_far-rate.result.units c.self.view_is c.rate_so_far-rate.ensures.value c.anchor_on-anchor.ensures)
    c.bounds-bounds.ensures.least c.bounds-bounds.ensures.greatest (between c.is_empty.ensures c.if-is_empty.false)
