use Rattle.std.proofs.Common.{ap}
use Rattle.sk_publishing.specs.Row.{RowView}
use Rattle.sk_fit.proofs.Answered.{went}
use Rattle.sk_fit.proofs.fitting.Fitting.take_apart.Goals as goal

pub returns-clause-stopped : goal.returns-clause-stopped
returns-clause-stopped c = (ap (λ (r : RowView). r.number) c.obs.view_is, c.in-Ok.ensures.falls (ap went c.if-went.false))
