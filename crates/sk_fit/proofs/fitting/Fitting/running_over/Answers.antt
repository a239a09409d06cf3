use Rattle.std.proofs.Common.{◌≡◌, subst, sym, ap}
use Rattle.sk_publishing.specs.Terms.{Terms}
use Rattle.sk_publishing.specs.Rates.{IsLeastRate, IsGreatestRate}
use Rattle.sk_publishing.specs.Chain.{IsAllowedStep}
use Rattle.sk_fit.specs.declared.chain.Segment.{Segment}
use Rattle.sk_fit.specs.Given.{CanMeet, anchor_of, sight_at}
use Rattle.sk_fit.specs.State.{FittingView}
use Rattle.sk_fit.specs.Context.{terms, all_of}
use Rattle.sk_fit.proofs.Widen.{can_meet_open, widened_by}
use Rattle.sk_fit.proofs.fitting.Fitting.running_over.Goals as goal

pub bounds-bounds-requires : goal.bounds-bounds-requires
bounds-bounds-requires c =
    subst (λ (s : Segment). CanMeet c.args.fit.now.clock s.anchor c.args.obs.now) (sym (ap (λ (v : FittingView). v.open_one) c.self.view_is))
    (can_meet_open c.args.fit.now c.args.place c.args.obs.now c.args.self.now c.requires.built c.requires.next)

pub returns : goal.returns
returns c =
    let t : Terms = terms c.args.fit.now in
    let same : c.self.inside.open_one ≡ c.args.self.now.open_one = ap (λ (v : FittingView). v.open_one) c.self.view_is in
    widened_by t (all_of c.args.fit.now) c.args.place c.args.self.now (sight_at c.args.place c.args.obs.now) c.requires.built.0 c.requires.built.1 c.requires.built.2
    c.requires.later c.requires.next.at.place c.bounds-bounds.result.least c.bounds-bounds.result.greatest c.widened.result
    (subst (λ (s : Segment). IsLeastRate (IsAllowedStep t) t.gauge (anchor_of s.anchor) (sight_at c.args.place c.args.obs.now) c.bounds-bounds.result.least) same c.bounds-bounds.ensures.least)
    (subst (λ (s : Segment). IsGreatestRate (IsAllowedStep t) t.gauge (anchor_of s.anchor) (sight_at c.args.place c.args.obs.now) c.bounds-bounds.result.greatest) same c.bounds-bounds.ensures.greatest)
    c.widened.ensures.least_moves c.widened.ensures.least_stays c.widened.ensures.greatest_moves c.widened.ensures.greatest_stays
