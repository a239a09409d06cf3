use Rattle.std.proofs.Common.{subst}
use Rattle.sk_publishing.specs.Rates.{InBand, IsLeastRate, IsGreatestRate}
use Rattle.sk_fit.specs.Given.{anchor_of, band_view, sight_at}
use Rattle.sk_fit.specs.Context.{FitView, IsFit, terms}
use Rattle.sk_fit.proofs.Ranges.{least_allowed_rate, greatest_allowed_rate}
use Rattle.sk_fit.proofs.context.Fit.bounds.Goals as goal

pub returns-clause-least : goal.returns-clause-least
returns-clause-least c =
    let fit : FitView = c.args.self.now in
    let given : IsFit fit = subst IsFit c.self.view_is c.self.invariant in
    least_allowed_rate (terms fit) (band_view fit.start.band) given.allowed (terms fit).gauge (anchor_of c.args.anchor) (sight_at 0 c.args.obs.now) c.bounds.result.least
    (subst (λ (v : FitView). IsLeastRate (InBand (band_view v.start.band)) (terms v).gauge (anchor_of c.args.anchor) (sight_at 0 c.args.obs.now) c.bounds.result.least) c.self.view_is c.bounds.ensures.least)

pub returns-clause-greatest : goal.returns-clause-greatest
returns-clause-greatest c =
    let fit : FitView = c.args.self.now in
    let given : IsFit fit = subst IsFit c.self.view_is c.self.invariant in
    greatest_allowed_rate (terms fit) (band_view fit.start.band) given.allowed (terms fit).gauge (anchor_of c.args.anchor) (sight_at 0 c.args.obs.now) c.bounds.result.greatest
    (subst (λ (v : FitView). IsGreatestRate (InBand (band_view v.start.band)) (terms v).gauge (anchor_of c.args.anchor) (sight_at 0 c.args.obs.now) c.bounds.result.greatest) c.self.view_is c.bounds.ensures.greatest)
