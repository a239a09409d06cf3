use Rattle.std.proofs.Common.{List}
use Rattle.sk_publishing.specs.Row.{RowView}
use Rattle.sk_words.specs.Asked.{options_in}
use Rattle.sk_words.specs.Request.{Options}
use Rattle.sk_outcome.specs.Stage.{Stage, ◌>>=◌, gives}
use Rattle.sk_outcome.specs.Files.{KernelRead, InputsRead}
use Rattle.sk_outcome.specs.Sample.{made_kernel, made_observations}
use Rattle.sk_outcome.proofs.Moves.{may_then, may_end_as, handed_on}
use Rattle.station.proofs.made.made_inputs.Goals as goal

abbrev after_rows : KernelRead → List RowView → Stage InputsRead
after_rows kernel rows = gives (record { kernel = kernel; observations = rows })

abbrev after_kernel : Options → KernelRead → Stage InputsRead
after_kernel options kernel = made_observations options kernel >>= after_rows kernel

pub returns-in_err-observations : goal.returns-in_err-observations
returns-in_err-observations c =
    let options : Options = options_in c.args.request.now in
    let kernel : KernelRead = c.in_ok-kernel.kernel in
    may_then (λ (i : InputsRead). i) made_kernel (after_kernel options) kernel c.from_residual-in_err-observations.result c.in_ok-kernel.ensures
    (may_end_as (λ (o : List RowView). o) (λ (i : InputsRead). i) (made_observations options kernel) (after_rows kernel) c.made_observations.result c.from_residual-in_err-observations.result
    c.in_err-observations.field-0.0 c.in_err-observations.was
    (handed_on c.from_residual-in_err-observations.result c.in_err-observations.field-0.0 c.from_residual-in_err-observations.ensures.1) c.made_observations.ensures.stage)
