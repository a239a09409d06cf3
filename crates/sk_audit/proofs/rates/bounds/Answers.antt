use Rattle.std.proofs.Common.{◌≡◌, ◌*◌, ◌^◌, arith, rules, subst, sym, ap, ◌∙◌}
use Rattle.std.proofs.lemmas.Int.{ints}
use mir.Syntax.{w128}
use mir.Val.{to_z, of_z}
use Rattle.std.specs.Prelude.{ℤ, pos, neg_ℤ, ◌≤ℤ◌}
use Rattle.sk_publishing.specs.Rates.{InBand, IsLeastRate, IsGreatestRate}
use Rattle.sk_publishing.specs.Row.{RowView}
use Rattle.sk_audit.specs.Given.{band_view, gauge_of, anchor_of, sight_at}
use Rattle.sk_audit.proofs.Quotients.{least_rate_from, greatest_rate_from, wanted_at, room_at, step_at, slow_band, passed_on, passed_small, passed_seen, sized_from}
use Rattle.sk_audit.proofs.rates.bounds.Goals as goal

pub least_gain-least-requires-clause-slow : goal.least_gain-least-requires-clause-slow
least_gain-least-requires-clause-slow c = slow_band c.args.settings.now.rate_decimals c.args.band.greatest c.requires.settings.rate_decimals_to c.requires.band.slow

pub returns-clause-least : goal.returns-clause-least
returns-clause-least c =
    let time : to_z w128 (of_z w128 c.obs.inside.time.units) ≡ c.args.obs.now.time = passed_seen c.obs.inside.time.units c.obs.invariant.time ∙ ap (λ (r : RowView). r.time) c.obs.view_is in
    let tick : c.obs.inside.tick ≡ c.args.obs.now.tick = ap (λ (r : RowView). r.tick) c.obs.view_is in
    let tolerance : to_z w128 (of_z w128 c.args.settings.now.tolerance.units) ≡ c.args.settings.now.tolerance.units = passed_small _ (omega (arith, ints)) (omega (arith, ints)) in
    let anchor : to_z w128 (of_z w128 c.args.line.time.units) ≡ c.args.line.time.units = search rules in
    let start = passed_on c.begun-start.result c.begun-start.type_inv in
    let low = passed_on c.wanted-low.result c.wanted-low.type_inv in
    let wanted : to_z w128 (of_z w128 c.wanted-low.result) ≡ wanted_at (gauge_of c.args.settings.now c.args.clock.now) (anchor_of c.args.line) (sight_at 0 c.args.obs.now) = cc in
    let step : c.step_gain-step.result ≡ step_at (gauge_of c.args.settings.now c.args.clock.now) (anchor_of c.args.line) (sight_at 0 c.args.obs.now) = cc in
    subst (IsLeastRate (InBand (band_view c.args.band)) (gauge_of c.args.settings.now c.args.clock.now) (anchor_of c.args.line) (sight_at 0 c.args.obs.now))
    (sym (passed_on c.least_gain-least.result c.least_gain-least.type_inv))
    (least_rate_from (gauge_of c.args.settings.now c.args.clock.now) (anchor_of c.args.line) (sight_at 0 c.args.obs.now) (band_view c.args.band) c.requires.band.not_empty
    _ _ _ wanted step c.least_gain-least.ensures)

pub returns-clause-greatest : goal.returns-clause-greatest
returns-clause-greatest c =
    let time : to_z w128 (of_z w128 c.obs.inside.time.units) ≡ c.args.obs.now.time = passed_seen c.obs.inside.time.units c.obs.invariant.time ∙ ap (λ (r : RowView). r.time) c.obs.view_is in
    let tick : c.obs.inside.tick ≡ c.args.obs.now.tick = ap (λ (r : RowView). r.tick) c.obs.view_is in
    let tolerance : to_z w128 (of_z w128 c.args.settings.now.tolerance.units) ≡ c.args.settings.now.tolerance.units = passed_small _ (omega (arith, ints)) (omega (arith, ints)) in
    let anchor : to_z w128 (of_z w128 c.args.line.time.units) ≡ c.args.line.time.units = search rules in
    let start = passed_on c.begun-start.result c.begun-start.type_inv in
    let high = passed_on c.room-high.result c.room-high.type_inv in
    let room : to_z w128 (of_z w128 c.room-high.result) ≡ room_at (gauge_of c.args.settings.now c.args.clock.now) (anchor_of c.args.line) (sight_at 0 c.args.obs.now) = cc in
    let step : c.step_gain-step.result ≡ step_at (gauge_of c.args.settings.now c.args.clock.now) (anchor_of c.args.line) (sight_at 0 c.args.obs.now) = cc in
    subst (IsGreatestRate (InBand (band_view c.args.band)) (gauge_of c.args.settings.now c.args.clock.now) (anchor_of c.args.line) (sight_at 0 c.args.obs.now))
    (sym (passed_on c.greatest_gain-greatest.result c.greatest_gain-greatest.type_inv))
    (greatest_rate_from (gauge_of c.args.settings.now c.args.clock.now) (anchor_of c.args.line) (sight_at 0 c.args.obs.now) (band_view c.args.band) c.requires.band.not_empty
    _ _ _ room step c.greatest_gain-greatest.ensures)

pub room-high-requires-clause-time_from : goal.room-high-requires-clause-time_from
room-high-requires-clause-time_from c =
    subst (λ (x : ℤ). neg_ℤ (pos (9 * 10 ^ 21)) ≤ℤ x) (sym (passed_seen c.obs.inside.time.units c.obs.invariant.time)) (sized_from c.obs.inside.time.units (9 * 10 ^ 21) c.obs.invariant.time)
