use Rattle.sk_outcome.proofs.Converted.{tick_read}
use Rattle.sk_commands.proofs.convert.clock_tick.Goals as goal

pub returns-in-Ok : goal.returns-in-Ok
returns-in-Ok c = tick_read c.args.word.now c.as_bytes.result.now c.args.clock.now c.in-Ok.tick c.as_bytes.ensures.value c.in-Ok.ensures
