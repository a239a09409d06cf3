use Rattle.std.proofs.Common.{◌≡◌, subst, ap, arith}
use Rattle.std.specs.Prelude.{◌+ℤ◌, ◌≤ℤ◌}
use Rattle.sk_publishing.specs.Terms.{Sight, Terms}
use Rattle.sk_publishing.specs.Meets.{line_at, scaled, IsTooLarge}
use Rattle.sk_publishing.specs.Chain.{PartitionEnd}
use Rattle.sk_publishing.proofs.Steps.{ended_as}
use Rattle.sk_publishing.proofs.Fitting.{has_time_fall, partition_ends}
use Rattle.sk_fit.specs.declared.chain.Segment.{Segment}
use Rattle.sk_fit.specs.Given.{sight_at, anchor_of}
use Rattle.sk_fit.specs.State.{FittingView, open_of, front_of}
use Rattle.sk_fit.specs.Context.{terms, all_of}
use Rattle.sk_fit.proofs.Widen.{after_open, between}
use Rattle.sk_fit.proofs.fitting.Fitting.cover_apart.Goals as goal

pub is_late-requires-clause-ahead : goal.is_late-requires-clause-ahead
is_late-requires-clause-ahead c =
    let anchor = ap (λ (v : FittingView). v.open_one.anchor.ticks) c.self.view_is in
    let after = after_open c.args.fit.now c.args.place c.args.obs.now c.args.self.now c.requires.built c.requires.next in
    omega arith

pub returns-then-is_late-clause-falls : goal.returns-then-is_late-clause-falls
returns-then-is_late-clause-falls c e kept dropped h =
    let t : Terms = terms c.args.fit.now in
    let o : Sight = sight_at c.args.place c.args.obs.now in
    let f : FittingView = c.args.self.now in
    let same : c.self.inside.open_one ≡ f.open_one = ap (λ (v : FittingView). v.open_one) c.self.view_is in
    let late = subst (λ (s : Segment). IsTooLarge t.gauge (anchor_of s.anchor) s.rate.units o) same (c.is_late.ensures.0 c.if-is_late.true) in
    has_time_fall t kept (front_of (all_of c.args.fit.now) f) (ended_as t (open_of (all_of c.args.fit.now) f) PartitionEnd) o c.requires.away late
    (partition_ends t kept (front_of (all_of c.args.fit.now) f) (open_of (all_of c.args.fit.now) f) o h.low h.high f.least f.greatest c.requires.away h.built)

pub leave_apart-requires-clause-not_late : goal.leave_apart-requires-clause-not_late
leave_apart-requires-clause-not_late c =
    let t : Terms = terms c.args.fit.now in
    let o : Sight = sight_at c.args.place c.args.obs.now in
    subst (λ (s : Segment). line_at t.gauge (anchor_of s.anchor) s.rate.units o.tick ≤ℤ scaled t.gauge (o.time +ℤ t.gauge.tolerance)) (ap (λ (v : FittingView). v.open_one) c.self.view_is)
    (between c.is_late.ensures c.if-is_late.false)
