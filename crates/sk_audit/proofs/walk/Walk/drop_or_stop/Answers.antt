use Rattle.std.proofs.Common.{ap, arith, ◌+◌, length, subst, sym, inl}
use Rattle.sk_audit.specs.Given.{sight_at}
use Rattle.sk_audit.specs.Walking.{WalkView}
use Rattle.sk_audit.specs.Scene.{terms, all_of}
use Rattle.sk_audit.specs.Evaluated.{IsEvaluated, so_far}
use Rattle.sk_audit.proofs.Dropping.{one_more, room_gone, drops}
use Rattle.sk_audit.proofs.Evaluating.{stopped, waits}
use Rattle.sk_audit.proofs.walk.Walk.drop_or_stop.Goals as goal

pub returns-then-is_full-clause-refuted : goal.returns-then-is_full-clause-refuted
returns-then-is_full-clause-refuted c _ =
    let f : WalkView = so_far (terms c.args.scene.now) c.args.self.now in
    let number = ap length (ap (λ (v : WalkView). v.dropped) c.self.view_is) in
    let full = c.is_full.ensures.0 c.if-is_full.true in
    stopped c.args.scene.now c.args.place c.args.obs.now c.args.self.now c.requires.next c.requires.evaluated
    (λ kept dropped h. inl (c.requires.none kept dropped h, room_gone (terms c.args.scene.now) (all_of c.args.scene.now) c.args.place f kept dropped h (omega arith)))

pub returns-in-Ok-clause-on : goal.returns-in-Ok-clause-on
returns-in-Ok-clause-on c _ =
    let f : WalkView = so_far (terms c.args.scene.now) c.args.self.now in
    let number = ap length (ap (λ (v : WalkView). v.dropped) c.self.view_is) in
    let few = one_more c.is_full.ensures c.if-is_full.false in
    subst (IsEvaluated c.args.scene.now (c.args.place + 1)) (sym c.in-Ok.ensures.ok)
    (waits c.args.scene.now c.args.place c.args.obs.now c.args.self.now c.requires.next c.requires.evaluated
    (drops (terms c.args.scene.now) (all_of c.args.scene.now) c.args.place f (sight_at c.args.place c.args.obs.now) c.requires.next.next.at c.requires.next.next.rises c.requires.next.next.new (omega arith) c.requires.none))
