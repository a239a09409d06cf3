use Rattle.std.proofs.Common.{Ok, subst}
use Rattle.sk_outcome.specs.Files.{KernelRead}
use Rattle.sk_outcome.specs.Outcome.{ticked}
use Rattle.sk_commands.proofs.invert.ticked.Goals as goal

pub returns-in-Ok : goal.returns-in-Ok
returns-in-Ok c = subst (λ (k : KernelRead). ticked k c.args.time.units (Ok c.in-Ok.tick)) c.kernel.view_is c.in-Ok.ensures
