use Rattle.std.proofs.Common.{◌≡◌, ℕ, subst, sym, ap, ◌∙◌, ◌+◌, refl}
use Rattle.sk_publishing.specs.Row.{RowView}
use Rattle.sk_audit.specs.declared.interval.Running.{Running}
use Rattle.sk_audit.specs.Walking.{WalkView, gone_on, bounded}
use Rattle.sk_audit.specs.Scene.{SceneView}
use Rattle.sk_audit.specs.Evaluated.{IsEvaluated}
use Rattle.sk_audit.proofs.Evaluating.{covers_first, covers_later}
use Rattle.sk_audit.proofs.walk.Walk.cover.Goals as goal

pub returns-then-is_first : goal.returns-then-is_first
returns-then-is_first c =
    let scene : SceneView = c.args.scene.now in
    let w : WalkView = c.args.self.now in
    let new : gone_on w c.args.place c.args.obs.now.tick w.rate ≡ c.go_on.new.self =
    sym (c.go_on.ensures ∙ ap (λ (k : ℕ). gone_on w c.args.place k w.rate) (ap (λ (v : RowView). v.tick) c.obs.view_is)) in
    subst (IsEvaluated scene (c.args.place + 1)) new
    (covers_first scene c.args.place c.args.obs.now w c.requires.next c.requires.evaluated (c.if-is_first.ensures.first refl) c.requires.here c.requires.met)

pub returns : goal.returns
returns c =
    let scene : SceneView = c.args.scene.now in
    let w : WalkView = c.args.self.now in
    let r : Running = c.running_over-running.result in
    let new : gone_on (bounded w r) c.args.place c.args.obs.now.tick w.rate ≡ c.go_on-2.new.self =
    sym (c.go_on-2.ensures ∙ ap (λ (k : ℕ). gone_on c.set_running.new.self c.args.place k c.set_running.new.self.rate) (ap (λ (v : RowView). v.tick) c.obs.view_is)
    ∙ ap (λ (x : WalkView). gone_on x c.args.place c.args.obs.now.tick x.rate) c.set_running.ensures) in
    subst (IsEvaluated scene (c.args.place + 1)) new
    (covers_later scene c.args.place c.args.obs.now w c.requires.next c.requires.evaluated (c.is_first.ensures.later c.if-is_first.false) r c.running_over-running.ensures c.requires.here c.requires.met)
