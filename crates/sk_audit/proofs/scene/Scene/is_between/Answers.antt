use Rattle.std.proofs.Common.{◌≡◌, ℕ, ◌-◌, ◌^◌, sym, ap, ◌∙◌, rules}
use mir.Syntax.{w128}
use mir.Val.{to_z, of_z}
use Rattle.std.specs.Prelude.{pos, ◌*ℤ◌}
use Rattle.sk_audit.specs.Scene.{SceneView}
use Rattle.sk_audit.proofs.scene.Scene.is_between.Goals as goal

pub returns-clause-no : goal.returns-clause-no
returns-clause-no c e b =
    let rate : to_z w128 (of_z w128 c.args.rate.units) ≡ c.args.rate.units = search rules in
    let grid : c.grid.result ≡ 10 ^ (18 - c.args.self.now.settings.rate_decimals) =
    c.grid.ensures.value ∙ ap (λ (v : SceneView). 10 ^ (18 - v.settings.rate_decimals)) c.self.view_is in
    c.is_step_between.ensures.no e b.step (rate ∙ b.is ∙ ap (λ (g : ℕ). b.step *ℤ pos g) (sym grid)) b.from b.to
