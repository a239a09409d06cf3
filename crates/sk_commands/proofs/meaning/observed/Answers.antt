use Rattle.sk_commands.proofs.Few.{few_observations}
use Rattle.sk_commands.proofs.meaning.observed.Goals as goal

pub returns-in-Ok-clause-few : goal.returns-in-Ok-clause-few
returns-in-Ok-clause-few c = few_observations c.args.bytes.now c.args.clock.now c.args.leap.now c.in-Ok.observations c.in-Ok.ensures.answer
