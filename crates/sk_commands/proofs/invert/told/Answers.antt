use Rattle.std.proofs.Common.{Ok, subst}
use Rattle.sk_outcome.specs.Files.{KernelRead}
use Rattle.sk_outcome.specs.Outcome.{told}
use Rattle.sk_outcome.proofs.Converted.{timed_by}
use Rattle.sk_outcome.proofs.Telling.{line_told}
use Rattle.sk_commands.proofs.invert.told.Goals as goal

pub returns : goal.returns
returns c =
    let inside : KernelRead = record { doc = c.kernel.inside.doc; clock = c.kernel.inside.clock; triples = c.kernel.inside.triples } in
    subst (λ (k : KernelRead). told k c.args.tick (Ok c.in-Ok-line_of.line.items)) c.kernel.view_is
    (line_told inside c.args.tick c.in-Ok.timed.time.units c.in-Ok-line_of.line.items
    c.in-Ok.ensures.timed.0 (timed_by inside c.args.tick c.in-Ok.timed c.kernel.invariant c.in-Ok.ensures.timed.1) c.in-Ok-line_of.ensures)
