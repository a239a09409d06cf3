use Rattle.std.proofs.Common.{refl}
use Rattle.sk_fit.specs.Given.{sight_at}
use Rattle.sk_fit.specs.Context.{terms, all_of}
use Rattle.sk_fit.proofs.Barriers.{pair_within}
use Rattle.sk_fit.proofs.Leaving.{first_can_end, later_can_end}
use Rattle.sk_fit.proofs.fitting.Fitting.goes_on.Goals as goal

pub returns-then-is_first-clause-ends : goal.returns-then-is_first-clause-ends
returns-then-is_first-clause-ends c =
    first_can_end (terms c.args.fit.now) (all_of c.args.fit.now) c.args.place c.args.self.now (sight_at c.args.place c.args.obs.now)
    (c.if-is_first.ensures.first refl) c.requires.here (c.goes_on_first.ensures.misses c.if-goes_on_first.false)

pub returns-in-Some-clause-ends : goal.returns-in-Some-clause-ends
returns-in-Some-clause-ends c =
    later_can_end (terms c.args.fit.now) (all_of c.args.fit.now) c.args.place c.args.self.now (sight_at c.args.place c.args.obs.now)
    c.in-Some.running (c.is_first.ensures.later c.if-is_first.false) c.requires.here c.in-Some.ensures.pair c.in-Some.ensures.blocked

pub returns-in-Some-clause-within : goal.returns-in-Some-clause-within
returns-in-Some-clause-within c =
    pair_within (terms c.args.fit.now) c.args.fit.now.rows c.args.place c.args.self.now (sight_at c.args.place c.args.obs.now) c.in-Some.running c.requires.next.at c.in-Some.ensures.pair
