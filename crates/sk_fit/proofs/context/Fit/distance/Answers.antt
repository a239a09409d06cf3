use Rattle.std.proofs.Common.{◌≡◌, ℕ, ◌*◌, ◌^◌, rules, ap, ◌∙◌}
use mir.Syntax.{w128}
use mir.Val.{to_z, of_z}
use Rattle.std.specs.Prelude.{ℤ, ◌-ℤ◌}
use Rattle.sk_decimal.specs.Quotient.{floor_quotient}
use Rattle.sk_clock.specs.Clock.{ticks_per}
use Rattle.sk_publishing.specs.Row.{RowView}
use Rattle.sk_publishing.specs.Terms.{Gauge}
use Rattle.sk_publishing.specs.Meets.{line_at}
use Rattle.sk_line.specs.Line.{line_over}
use Rattle.sk_fit.specs.Given.{anchor_of}
use Rattle.sk_fit.specs.Context.{FitView, terms}
use Rattle.sk_fit.proofs.Quotients.{passed_on, passed_seen}
use Rattle.sk_fit.proofs.context.Fit.distance.Goals as goal

pub returns : goal.returns
returns c =
    let g : Gauge = (terms c.args.self.now).gauge in
    let tick : c.obs.inside.tick ≡ c.args.obs.now.tick = ap (λ (r : RowView). r.tick) c.obs.view_is in
    let rate : to_z w128 (of_z w128 c.args.segment.rate.units) ≡ c.args.segment.rate.units = search rules in
    let count : c.ticks_per-ticks_per.result ≡ ticks_per c.args.self.now.clock = c.ticks_per-ticks_per.ensures.value ∙ ap (λ (v : FitView). ticks_per v.clock) c.self.view_is in
    let line : to_z w128 (of_z w128 c.line_at-line.result) ≡ line_at g (anchor_of c.args.segment.anchor) c.args.segment.rate.units c.args.obs.now.tick =
    passed_on c.line_at-line.result c.line_at-line.type_inv ∙ c.line_at-line.ensures.value
    ∙ ap (λ (x : ℤ). line_over c.ticks_per-ticks_per.result (anchor_of c.args.segment.anchor) x c.obs.inside.tick) rate
    ∙ ap (λ (k : ℕ). line_over c.ticks_per-ticks_per.result (anchor_of c.args.segment.anchor) c.args.segment.rate.units k) tick
    ∙ ap (λ (m : ℕ). line_over m (anchor_of c.args.segment.anchor) c.args.segment.rate.units c.args.obs.now.tick) count in
    let seen : to_z w128 (of_z w128 c.obs.inside.time.units) ≡ c.args.obs.now.time =
    passed_seen c.obs.inside.time.units c.obs.invariant.time ∙ ap (λ (r : RowView). r.time) c.obs.view_is in
    passed_on c.time_after.result c.time_after.type_inv ∙ c.time_after.ensures
    ∙ ap (λ (x : ℤ). x -ℤ floor_quotient (to_z w128 (of_z w128 c.line_at-line.result)) (10 ^ 6 * c.ticks_per-ticks_per.result)) seen
    ∙ ap (λ (x : ℤ). c.args.obs.now.time -ℤ floor_quotient x (10 ^ 6 * c.ticks_per-ticks_per.result)) line
    ∙ ap (λ (m : ℕ). c.args.obs.now.time -ℤ floor_quotient (line_at g (anchor_of c.args.segment.anchor) c.args.segment.rate.units c.args.obs.now.tick) (10 ^ 6 * m)) count
