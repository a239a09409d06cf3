use Rattle.std.proofs.Common.{arith, ap, sym, subst}
use Rattle.sk_audit.specs.declared.line.Line.{Line}
use Rattle.sk_audit.specs.Given.{CanMeet}
use Rattle.sk_audit.specs.Walking.{WalkView}
use Rattle.sk_audit.specs.Scene.{terms}
use Rattle.sk_audit.specs.Evaluated.{so_far}
use Rattle.sk_audit.proofs.Widen.{after_open, can_meet_open}
use Rattle.sk_audit.proofs.Evaluating.{built}
use Rattle.sk_audit.proofs.walk.Walk.take_next.Goals as goal

pub are_together-requires-clause-tick : goal.are_together-requires-clause-tick
are_together-requires-clause-tick c =
    let anchor = ap (λ (v : WalkView). v.anchor.ticks) c.self.view_is in
    let after = after_open c.args.scene.now c.args.place c.args.obs.now (so_far (terms c.args.scene.now) c.args.self.now)
    (built c.args.scene.now c.args.place c.args.obs.now c.args.self.now c.requires.next c.requires.evaluated) c.requires.next.next in
    let past = c.requires.next.next.not_past in
    omega arith

pub meets-requires-clause-line : goal.meets-requires-clause-line
meets-requires-clause-line c =
    subst (λ (s : Line). CanMeet c.args.scene.now.clock s c.args.obs.now) (sym (ap (λ (v : WalkView). v.anchor) c.self.view_is))
    (can_meet_open c.args.scene.now c.args.place c.args.obs.now (so_far (terms c.args.scene.now) c.args.self.now)
    (built c.args.scene.now c.args.place c.args.obs.now c.args.self.now c.requires.next c.requires.evaluated) c.requires.next.next)
