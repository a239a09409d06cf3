use Rattle.sk_outcome.proofs.TimeWords.{utc_sent, utc_stopped}
use Rattle.sk_commands.proofs.time_word.utc_time.Goals as goal

pub returns-in-Ok : goal.returns-in-Ok
returns-in-Ok c = utc_sent c.args.leap.now c.args.text.now c.in-Some.utc c.in-Ok.time c.in-Some.ensures c.in-Ok.ensures.0 c.in-Ok.ensures.1

pub returns-in-Err : goal.returns-in-Err
returns-in-Err c = utc_stopped c.args.leap.now c.args.text.now c.in-Some.utc c.in-Err.fault c.in-Some.ensures c.in-Err.ensures
