use Rattle.std.proofs.Common.{Err, subst, sym}
use Rattle.sk_status.specs.declared.status.Status.{Status}
use Rattle.sk_outcome.specs.Stage.{MayAnswer}
use Rattle.sk_outcome.specs.Files.{KernelRead, kernel_meaning}
use Rattle.sk_outcome.specs.Drawn.{as_new, new_meaning}
use Rattle.sk_outcome.proofs.Second.{renamed}
use Rattle.sk_commands.proofs.meaning.second_meaning.Goals as goal

pub returns-in-Err : goal.returns-in-Err
returns-in-Err c =
    subst (λ (s : Status). MayAnswer (λ (k : KernelRead). k) (new_meaning c.args.sc c.args.doc) (Err s)) (sym c.as_new.ensures)
    (renamed (λ (k : KernelRead). k) c.args.sc c.args.doc c.in-Err.status c.in-Err.ensures)
