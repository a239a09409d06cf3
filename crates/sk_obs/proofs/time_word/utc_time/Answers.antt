use Rattle.sk_obs.proofs.TimeWords.{utc_ok, utc_err}
use Rattle.sk_obs.proofs.time_word.utc_time.Goals as goal

pub returns-in-Ok : goal.returns-in-Ok
returns-in-Ok c = utc_ok c.args.leap.now c.args.number c.args.text.now c.in-Some.utc c.in-Ok.time.units c.in-Some.ensures c.in-Ok.ensures.0 c.in-Ok.ensures.1

pub returns-in-Err : goal.returns-in-Err
returns-in-Err c = utc_err c.args.leap.now c.args.number c.args.text.now c.in-Some.utc c.in-Err.fault c.in-Some.ensures c.in-Err.ensures
