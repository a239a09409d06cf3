use Rattle.std.proofs.Common.{◌≡◌, ap, arith, length, subst, sym}
use Rattle.sk_publishing.specs.Row.{RowView}
use Rattle.sk_publishing.specs.Terms.{Sight, Terms}
use Rattle.sk_publishing.specs.Chain.{SegmentView}
use Rattle.sk_fit.specs.declared.chain.Segment.{Segment}
use Rattle.sk_fit.specs.Given.{sight_at, segment_view, end_view}
use Rattle.sk_fit.specs.Pairs.{ended_with}
use Rattle.sk_fit.specs.Barriers.{IsBarrier}
use Rattle.sk_fit.specs.State.{FittingView}
use Rattle.sk_fit.specs.Context.{terms, all_of, Grows}
use Rattle.sk_fit.proofs.Dropping.{one_more, room_gone, drops}
use Rattle.sk_fit.proofs.fitting.Fitting.drop_or_stop.Goals as goal

pub returns-then-is_full-clause-stopped : goal.returns-then-is_full-clause-stopped
returns-then-is_full-clause-stopped c =
    let f : FittingView = c.args.self.now in
    let number = ap length (ap (λ (v : FittingView). v.dropped) c.self.view_is) in
    let full = c.is_full.ensures.0 c.if-is_full.true in
    let t : Terms = terms c.args.fit.now in
    let o : Sight = sight_at c.args.place c.args.obs.now in
    let same : c.self.inside.open_one ≡ f.open_one = ap (λ (v : FittingView). v.open_one) c.self.view_is in (
      ap (λ (r : RowView). r.number) c.obs.view_is,
      λ kept dropped h. (
        (c.requires.none kept dropped h).0,
        subst (λ (s : SegmentView). IsBarrier t.gauge c.args.fit.now.rows o s c.barrier.result) (sym (c.requires.none kept dropped h).1)
            (subst (λ (s : Segment). IsBarrier t.gauge c.args.fit.now.rows o (ended_with (segment_view (all_of c.args.fit.now) f.dropped s) (end_view c.args.ended)) c.barrier.result) same c.barrier.ensures),
        room_gone (terms c.args.fit.now) (all_of c.args.fit.now) c.args.place f kept dropped h (omega arith),
      ),
    )

pub returns-in-Ok-clause-moved : goal.returns-in-Ok-clause-moved
returns-in-Ok-clause-moved c =
    let f : FittingView = c.args.self.now in
    let number = ap length (ap (λ (v : FittingView). v.dropped) c.self.view_is) in
    let few = one_more c.is_full.ensures c.if-is_full.false in
    subst (Grows c.args.fit.now c.args.place c.args.obs.now f) (sym c.in-Ok.ensures.ok)
    (drops (terms c.args.fit.now) (all_of c.args.fit.now) c.args.place f (sight_at c.args.place c.args.obs.now) c.requires.next.at c.requires.next.rises c.requires.next.new (omega arith) (λ kept dropped h. (c.requires.none kept dropped h).0))
