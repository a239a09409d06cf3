use Rattle.std.proofs.Common.{arith}
use Rattle.sk_fit.specs.Context.{terms}
use Rattle.sk_fit.proofs.Observed.{new_at}
use Rattle.sk_fit.proofs.publication.fitted.Goals as goal

pub take-requires-clause-new : goal.take-requires-clause-new
take-requires-clause-new c row here = new_at (terms c.args.fit.now) c.args.fit.now.rows c.args.first_new c.loop-place.place row (omega arith) here c.requires.new
