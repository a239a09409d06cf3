use Rattle.std.proofs.Common.{◌≡◌, subst, sym, ap}
use Rattle.sk_publishing.specs.Terms.{Terms}
use Rattle.sk_publishing.specs.Rates.{IsLeastRate, IsGreatestRate}
use Rattle.sk_publishing.specs.Chain.{IsAllowedStep}
use Rattle.sk_audit.specs.declared.line.Line.{Line}
use Rattle.sk_audit.specs.Given.{CanMeet, anchor_of, sight_at}
use Rattle.sk_audit.specs.Walking.{WalkView}
use Rattle.sk_audit.specs.Scene.{terms, all_of}
use Rattle.sk_audit.specs.Evaluated.{so_far}
use Rattle.sk_audit.proofs.Widen.{can_meet_open, widened_by}
use Rattle.sk_audit.proofs.Evaluating.{built}
use Rattle.sk_audit.proofs.walk.Walk.running_over.Goals as goal

pub bounds-bounds-requires : goal.bounds-bounds-requires
bounds-bounds-requires c =
    subst (λ (s : Line). CanMeet c.args.scene.now.clock s c.args.obs.now) (sym (ap (λ (v : WalkView). v.anchor) c.self.view_is))
    (can_meet_open c.args.scene.now c.args.place c.args.obs.now (so_far (terms c.args.scene.now) c.args.self.now)
    (built c.args.scene.now c.args.place c.args.obs.now c.args.self.now c.requires.next c.requires.evaluated) c.requires.next.next)

pub returns : goal.returns
returns c kept dropped h =
    let t : Terms = terms c.args.scene.now in
    let same : c.self.inside.anchor ≡ c.args.self.now.anchor = ap (λ (v : WalkView). v.anchor) c.self.view_is in
    widened_by t (all_of c.args.scene.now) c.args.place (so_far t c.args.self.now) (sight_at c.args.place c.args.obs.now) kept dropped h
    c.requires.later c.requires.next.next.at.place c.bounds-bounds.result.least c.bounds-bounds.result.greatest c.narrowed.result
    (subst (λ (s : Line). IsLeastRate (IsAllowedStep t) t.gauge (anchor_of s) (sight_at c.args.place c.args.obs.now) c.bounds-bounds.result.least) same c.bounds-bounds.ensures.least)
    (subst (λ (s : Line). IsGreatestRate (IsAllowedStep t) t.gauge (anchor_of s) (sight_at c.args.place c.args.obs.now) c.bounds-bounds.result.greatest) same c.bounds-bounds.ensures.greatest)
    c.narrowed.ensures.least_moves c.narrowed.ensures.least_stays c.narrowed.ensures.greatest_moves c.narrowed.ensures.greatest_stays
