use Rattle.std.proofs.Common.{◌≡◌, ℕ, subst, sym, ap, ◌∙◌, arith}
use Rattle.sk_publishing.specs.Row.{RowView}
use Rattle.sk_fit.specs.declared.chain.End.TheVariants.{Partition}
use Rattle.sk_fit.specs.Given.{anchor_of}
use Rattle.sk_fit.specs.State.{FittingView, begun_at}
use Rattle.sk_fit.specs.Context.{Grows}
use Rattle.sk_fit.proofs.Leaving.{can_meet_anew, anew_is_met, leaves_apart}
use Rattle.sk_fit.proofs.Widen.{after_open}
use Rattle.sk_fit.proofs.fitting.Fitting.leave_apart.Goals as goal

pub anchor_anew-anchor-requires-clause-ahead : goal.anchor_anew-anchor-requires-clause-ahead
anchor_anew-anchor-requires-clause-ahead c =
    let after = after_open c.args.fit.now c.args.place c.args.obs.now c.args.self.now c.requires.built c.requires.next in
    omega arith

pub anchor_anew-anchor-requires-clause-short : goal.anchor_anew-anchor-requires-clause-short
anchor_anew-anchor-requires-clause-short c =
    let past = c.requires.next.not_past in
    let short = c.requires.next.given.clocked.short in
    omega arith

pub beginning_at-requires : goal.beginning_at-requires
beginning_at-requires c =
    can_meet_anew c.args.fit.now c.args.place c.args.obs.now c.args.self.now c.requires.next c.anchor_anew-anchor.result c.requires.not_late c.anchor_anew-anchor.ensures

pub unreachable-requires : goal.unreachable-requires
unreachable-requires c =
    anew_is_met c.args.fit.now c.args.place c.args.obs.now c.args.self.now c.requires.next c.anchor_anew-anchor.result c.requires.not_late c.anchor_anew-anchor.ensures
    c.in_default.ensures.none

pub returns-clause-ok : goal.returns-clause-ok
returns-clause-ok c =
    let f : FittingView = c.args.self.now in
    let new : begun_at f Partition c.in-Some.beginning c.args.place c.args.obs.now.tick ≡ c.begin.new.self =
    sym (c.in_ok-begin.ensures.ok ∙ ap (λ (k : ℕ). begun_at f Partition c.in-Some.beginning c.args.place k) (ap (λ (r : RowView). r.tick) c.obs.view_is)) in
    subst (Grows c.args.fit.now c.args.place c.args.obs.now f) new
    (leaves_apart c.args.fit.now c.args.place c.args.obs.now f c.requires.next c.requires.built c.requires.away c.requires.not_late c.in-Some.beginning
    (ap anchor_of c.in-Some.ensures.same ∙ c.anchor_anew-anchor.ensures) c.in-Some.ensures.some)
