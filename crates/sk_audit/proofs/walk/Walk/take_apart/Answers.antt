use Rattle.std.proofs.Common.{◌≡◌, subst, ap, inr, arith}
use Rattle.std.specs.Prelude.{ℤ}
use Rattle.sk_publishing.specs.Terms.{Sight, Terms}
use Rattle.sk_publishing.specs.Row.{RowView}
use Rattle.sk_publishing.specs.Meets.{IsTooLarge}
use Rattle.sk_publishing.specs.Chain.{PartitionEnd}
use Rattle.sk_publishing.proofs.Steps.{ended_as}
use Rattle.sk_publishing.proofs.Fitting.{has_time_fall, partition_ends}
use Rattle.sk_audit.specs.declared.line.Line.{Line}
use Rattle.sk_audit.specs.Given.{anchor_of, sight_at}
use Rattle.sk_audit.specs.Walking.{WalkView, open_of}
use Rattle.sk_audit.specs.Scene.{terms}
use Rattle.sk_audit.specs.Evaluated.{so_far}
use Rattle.sk_audit.proofs.Leaving.{can_meet_anew}
use Rattle.sk_audit.proofs.Widen.{after_open, between}
use Rattle.sk_audit.proofs.Evaluating.{built, stopped, due_anew, not_late, anew_at}
use Rattle.sk_audit.proofs.walk.Walk.take_apart.Goals as goal

pub is_late-requires-clause-ahead : goal.is_late-requires-clause-ahead
is_late-requires-clause-ahead c =
    let anchor = ap (λ (v : WalkView). v.anchor.ticks) c.self.view_is in
    let after = after_open c.args.scene.now c.args.place c.args.obs.now (so_far (terms c.args.scene.now) c.args.self.now)
    (built c.args.scene.now c.args.place c.args.obs.now c.args.self.now c.requires.next c.requires.evaluated) c.requires.next.next in
    omega arith

pub returns-then-is_late-clause-refuted : goal.returns-then-is_late-clause-refuted
returns-then-is_late-clause-refuted c _ =
    let t : Terms = terms c.args.scene.now in
    let o : Sight = sight_at c.args.place c.args.obs.now in
    let f : WalkView = so_far t c.args.self.now in
    let anchor : c.self.inside.anchor ≡ f.anchor = ap (λ (v : WalkView). v.anchor) c.self.view_is in
    let late : IsTooLarge t.gauge (anchor_of f.anchor) f.rate.units o =
    subst (λ (s : Line). IsTooLarge t.gauge (anchor_of s) f.rate.units o) anchor
    (subst (λ (r : ℤ). IsTooLarge t.gauge (anchor_of c.self.inside.anchor) r o) c.rate_so_far-rate.ensures.value (c.is_late.ensures.0 c.if-is_late.true)) in
    stopped c.args.scene.now c.args.place c.args.obs.now c.args.self.now c.requires.next c.requires.evaluated
    (λ kept dropped h. inr (has_time_fall t kept h.front (ended_as t (open_of f h.covered) PartitionEnd) o c.requires.away late
    (partition_ends t kept h.front (open_of f h.covered) o h.low h.high f.least f.greatest c.requires.away h.built)))

pub anchor_on-line-requires-clause-ahead : goal.anchor_on-line-requires-clause-ahead
anchor_on-line-requires-clause-ahead c =
    let anchor = ap (λ (v : WalkView). v.anchor.ticks) c.self.view_is in
    let tick = ap (λ (r : RowView). r.tick) c.obs.view_is in
    let after = after_open c.args.scene.now c.args.place c.args.obs.now (so_far (terms c.args.scene.now) c.args.self.now)
    (built c.args.scene.now c.args.place c.args.obs.now c.args.self.now c.requires.next c.requires.evaluated) c.requires.next.next in
    omega arith

pub anchor_on-line-requires-clause-short : goal.anchor_on-line-requires-clause-short
anchor_on-line-requires-clause-short c =
    let tick = ap (λ (r : RowView). r.tick) c.obs.view_is in
    let past = c.requires.next.next.not_past in
    let short = c.requires.next.next.given.clocked.short in
    omega arith

pub bounds-bounds-requires : goal.bounds-bounds-requires
bounds-bounds-requires c =
    let t : Terms = terms c.args.scene.now in
    let o : Sight = sight_at c.args.place c.args.obs.now in
    let f : WalkView = so_far t c.args.self.now in
    let anchor : c.self.inside.anchor ≡ f.anchor = ap (λ (v : WalkView). v.anchor) c.self.view_is in
    can_meet_anew c.args.scene.now c.args.place c.args.obs.now f c.requires.next.next c.anchored_at-anchor.result
    (not_late t o c.self.inside.anchor f.anchor c.rate_so_far-rate.result.units f.rate.units anchor c.rate_so_far-rate.ensures.value (between c.is_late.ensures c.if-is_late.false))
    (anew_at c.args.scene.now c.args.obs.now c.args.self.now c.anchored_at-anchor.result c.anchor_on-line.result c.self.inside.anchor c.rate_so_far-rate.result.units c.obs.inside.tick anchor
    c.rate_so_far-rate.ensures.value (ap (λ (r : RowView). r.tick) c.obs.view_is) c.anchor_on-line.ensures c.anchored_at-anchor.ensures)

pub begin_claimed-requires-clause-due : goal.begin_claimed-requires-clause-due
begin_claimed-requires-clause-due c =
    let t : Terms = terms c.args.scene.now in
    let o : Sight = sight_at c.args.place c.args.obs.now in
    let f : WalkView = so_far t c.args.self.now in
    let anchor : c.self.inside.anchor ≡ f.anchor = ap (λ (v : WalkView). v.anchor) c.self.view_is in
    due_anew c.args.scene.now c.args.place c.args.obs.now c.args.self.now c.requires.next c.requires.evaluated c.anchored_at-anchor.result c.bounds-bounds.result c.requires.away
    (not_late t o c.self.inside.anchor f.anchor c.rate_so_far-rate.result.units f.rate.units anchor c.rate_so_far-rate.ensures.value (between c.is_late.ensures c.if-is_late.false))
    (anew_at c.args.scene.now c.args.obs.now c.args.self.now c.anchored_at-anchor.result c.anchor_on-line.result c.self.inside.anchor c.rate_so_far-rate.result.units c.obs.inside.tick anchor
    c.rate_so_far-rate.ensures.value (ap (λ (r : RowView). r.tick) c.obs.view_is) c.anchor_on-line.ensures c.anchored_at-anchor.ensures)
    c.bounds-bounds.ensures.least c.bounds-bounds.ensures.greatest
