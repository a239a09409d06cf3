use Rattle.std.proofs.Common.{◌≡◌, ℕ, ◌^◌, arith, rules, subst, sym, ap, ◌∙◌}
use Rattle.std.proofs.lemmas.Int.{ints}
use mir.Syntax.{w128}
use mir.Val.{to_z, of_z}
use Rattle.std.specs.Prelude.{ℤ, pos, ◌+ℤ◌, ◌*ℤ◌, ◌<ℤ◌}
use Rattle.sk_clock.specs.Clock.{ticks_per}
use Rattle.sk_publishing.specs.Row.{RowView}
use Rattle.sk_publishing.specs.Terms.{Gauge}
use Rattle.sk_publishing.specs.Meets.{line_at, scaled}
use Rattle.sk_line.specs.Line.{line_over}
use Rattle.sk_audit.specs.Given.{anchor_of}
use Rattle.sk_audit.specs.Scene.{SceneView, terms}
use Rattle.sk_audit.proofs.Quotients.{passed_on, passed_small, passed_seen}
use Rattle.sk_audit.proofs.scene.Scene.is_late.Goals as goal

pub returns : goal.returns
returns c =
    let g : Gauge = (terms c.args.self.now).gauge in
    let tick : c.obs.inside.tick ≡ c.args.obs.now.tick = ap (λ (r : RowView). r.tick) c.obs.view_is in
    let rate : to_z w128 (of_z w128 c.args.rate.units) ≡ c.args.rate.units = search rules in
    let count : c.ticks_per-ticks_per.result ≡ ticks_per c.args.self.now.clock = c.ticks_per-ticks_per.ensures.value ∙ ap (λ (v : SceneView). ticks_per v.clock) c.self.view_is in
    let line : to_z w128 (of_z w128 c.line_at-line.result) ≡ line_at g (anchor_of c.args.anchor) c.args.rate.units c.args.obs.now.tick =
    passed_on c.line_at-line.result c.line_at-line.type_inv ∙ c.line_at-line.ensures.value
    ∙ ap (λ (x : ℤ). line_over c.ticks_per-ticks_per.result (anchor_of c.args.anchor) x c.obs.inside.tick) rate
    ∙ ap (λ (k : ℕ). line_over c.ticks_per-ticks_per.result (anchor_of c.args.anchor) c.args.rate.units k) tick
    ∙ ap (λ (m : ℕ). line_over m (anchor_of c.args.anchor) c.args.rate.units c.args.obs.now.tick) count in
    let seen : to_z w128 (of_z w128 c.obs.inside.time.units) ≡ c.args.obs.now.time =
    passed_seen c.obs.inside.time.units c.obs.invariant.time ∙ ap (λ (r : RowView). r.time) c.obs.view_is in
    let tolerance : to_z w128 (of_z w128 c.self.inside.settings.tolerance.units) ≡ g.tolerance =
    passed_small _ (omega (arith, ints)) (omega (arith, ints)) ∙ ap (λ (v : SceneView). v.settings.tolerance.units) c.self.view_is in
    let latest : ℤ = scaled g (c.args.obs.now.time +ℤ g.tolerance) in
    let time : to_z w128 (of_z w128 c.latest.result) ≡ latest =
    passed_on c.latest.result c.latest.type_inv ∙ c.latest.ensures
    ∙ ap (λ (x : ℤ). ((x +ℤ to_z w128 (of_z w128 c.self.inside.settings.tolerance.units)) *ℤ pos (10 ^ 6)) *ℤ pos c.ticks_per-ticks_per.result) seen
    ∙ ap (λ (x : ℤ). ((c.args.obs.now.time +ℤ x) *ℤ pos (10 ^ 6)) *ℤ pos c.ticks_per-ticks_per.result) tolerance
    ∙ ap (λ (m : ℕ). ((c.args.obs.now.time +ℤ g.tolerance) *ℤ pos (10 ^ 6)) *ℤ pos m) count in (
      (λ h. subst (λ (x : ℤ). latest <ℤ x) line (subst (λ (x : ℤ). x <ℤ to_z w128 (of_z w128 c.line_at-line.result)) time (c.is_less.ensures.0 h))),
      (λ h. c.is_less.ensures.1 (subst (λ (x : ℤ). x <ℤ to_z w128 (of_z w128 c.line_at-line.result)) (sym time)
          (subst (λ (x : ℤ). latest <ℤ x) (sym line) h))),
    )
