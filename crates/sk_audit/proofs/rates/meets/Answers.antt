use Rattle.std.proofs.Common.{◌≡◌, ◌-◌, ◌*◌, ◌^◌, arith, rules, subst, sym, ap, ◌∙◌}
use Rattle.std.proofs.lemmas.Int.{ints}
use mir.Syntax.{w128}
use mir.Val.{to_z, of_z}
use Rattle.std.specs.Prelude.{ℤ, pos, neg_ℤ, ◌*ℤ◌, ◌≤ℤ◌}
use Rattle.sk_publishing.specs.Row.{RowView}
use Rattle.sk_audit.specs.Given.{gauge_of, anchor_of, sight_at}
use Rattle.sk_audit.proofs.Quotients.{meets_by, wanted_at, room_at, passed_on, passed_small, passed_seen, sized_from}
use Rattle.sk_audit.proofs.rates.meets.Goals as goal

pub returns : goal.returns
returns c =
    let time : to_z w128 (of_z w128 c.obs.inside.time.units) ≡ c.args.obs.now.time = passed_seen c.obs.inside.time.units c.obs.invariant.time ∙ ap (λ (r : RowView). r.time) c.obs.view_is in
    let tick : c.obs.inside.tick ≡ c.args.obs.now.tick = ap (λ (r : RowView). r.tick) c.obs.view_is in
    let tolerance : to_z w128 (of_z w128 c.args.settings.now.tolerance.units) ≡ c.args.settings.now.tolerance.units = passed_small _ (omega (arith, ints)) (omega (arith, ints)) in
    let rate : to_z w128 (of_z w128 c.args.rate.units) ≡ c.args.rate.units = passed_small _ (omega (arith, ints)) (omega (arith, ints)) in
    let anchor : to_z w128 (of_z w128 c.args.line.time.units) ≡ c.args.line.time.units = search rules in
    let start = passed_on c.begun-start.result c.begun-start.type_inv in
    let low = passed_on c.wanted-low.result c.wanted-low.type_inv in
    let high = passed_on c.room-high.result c.room-high.type_inv in
    let gained = passed_on c.gain-gained.result c.gain-gained.type_inv in
    let wanted : to_z w128 (of_z w128 c.wanted-low.result) ≡ wanted_at (gauge_of c.args.settings.now c.args.clock.now) (anchor_of c.args.line) (sight_at 0 c.args.obs.now) = cc in
    let room : to_z w128 (of_z w128 c.room-high.result) ≡ room_at (gauge_of c.args.settings.now c.args.clock.now) (anchor_of c.args.line) (sight_at 0 c.args.obs.now) = cc in
    let gain : to_z w128 (of_z w128 c.gain-gained.result) ≡ (c.args.rate.units *ℤ pos (c.args.obs.now.tick - c.args.line.ticks)) = cc in
    let by = meets_by (gauge_of c.args.settings.now c.args.clock.now) (anchor_of c.args.line) (sight_at 0 c.args.obs.now) c.args.rate.units
    (to_z w128 (of_z w128 c.wanted-low.result)) (to_z w128 (of_z w128 c.gain-gained.result)) (to_z w128 (of_z w128 c.room-high.result)) wanted room gain in
    ((λ h. by.0 (c.is_within.ensures.0 h)), (λ m. c.is_within.ensures.1 (by.1 m)))

pub room-high-requires-clause-time_from : goal.room-high-requires-clause-time_from
room-high-requires-clause-time_from c =
    subst (λ (x : ℤ). neg_ℤ (pos (9 * 10 ^ 21)) ≤ℤ x) (sym (passed_seen c.obs.inside.time.units c.obs.invariant.time)) (sized_from c.obs.inside.time.units (9 * 10 ^ 21) c.obs.invariant.time)
