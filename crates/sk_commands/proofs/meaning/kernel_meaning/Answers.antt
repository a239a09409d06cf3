use Rattle.sk_outcome.specs.Files.{KernelRead, kernel_meaning}
use Rattle.sk_commands.specs.declared.meaning.Meaning.{Meaning}
use Rattle.sk_outcome.proofs.Moves.{may_see_as, handed_on}
use Rattle.sk_commands.proofs.meaning.kernel_meaning.Goals as goal

pub returns-in_err-clock : goal.returns-in_err-clock
returns-in_err-clock c =
    may_see_as (λ (m : Meaning). record { doc = c.args.doc; clock = m.clock; triples = m.triples }) (λ (k : KernelRead). k) (kernel_meaning c.args.sc c.args.doc)
    c.meaning_of.result c.from_residual.result c.in_err-clock.field-0.0 c.in_err-clock.was
    (handed_on c.from_residual.result c.in_err-clock.field-0.0 c.from_residual.ensures.1)
    c.meaning_of.ensures.stage
