use Rattle.std.proofs.Common.{◌≡◌, subst, sym, ap}
use Rattle.sk_fit.specs.Context.{LacksRate}
use Rattle.sk_fit.proofs.Answered.{went, not_went}
use Rattle.sk_fit.proofs.fitting.Fitting.take_here.Goals as goal

pub drop_or_stop-requires-clause-none : goal.drop_or_stop-requires-clause-none
drop_or_stop-requires-clause-none c =
    let stays : c.leave_here.new.self ≡ c.goes_on.new.self = c.in-Ok.ensures.stays (not_went c.in-Ok.went c.if-went.false) in
    subst (LacksRate c.args.fit.now c.args.place c.args.obs.now c.in-Some.ended) (sym stays) (c.in-Ok.ensures.none (ap went c.if-went.false))
