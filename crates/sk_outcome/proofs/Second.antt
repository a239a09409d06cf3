-- A refusal of the second kernel.
use Rattle.std.proofs.Common.{ℕ, refl, Err, Result}
use Rattle.sk_grammar.specs.Document.{DocView}
use Rattle.sk_status.specs.declared.status.Status.{Status}
use Rattle.sk_status.specs.declared.status.Status.TheVariants.{KernelRefused, NoMemory}
use Rattle.sk_outcome.specs.Stage.{MayAnswer}
use Rattle.sk_outcome.specs.Files.{KernelRead, kernel_meaning}
use Rattle.sk_outcome.specs.Drawn.{as_new, new_meaning}

-- what is refused of a clock kernel is refused of the second one by its own name
pub renamed : {X : Type 0} (view : X → KernelRead) (sc : ℕ) (doc : DocView) (status : Status)
    → MayAnswer view (kernel_meaning sc doc) (Err status) → MayAnswer view (new_meaning sc doc) (Err (as_new status))
renamed view sc doc NoMemory h = tt
renamed view sc doc (KernelRefused stop) h = (KernelRefused stop, h, refl)
renamed view sc doc _ h = (_, h, refl)
