use Rattle.std.proofs.Common.{refl, inl, arith}
use Rattle.sk_obs.proofs.Times.{tdt_sent, long_number}
use Rattle.sk_obs.proofs.time_word.tdt_time.Goals as goal

pub returns-then-scale-le12 : goal.returns-then-scale-le12
returns-then-scale-le12 c = tdt_sent c.args.number c.args.text.now c.in-Ok.decimal c.to_fixed.result c.in-Ok.ensures.spelled (omega arith) c.to_fixed.ensures

pub returns-else-scale-le12 : goal.returns-else-scale-le12
returns-else-scale-le12 c = inl (long_number c.args.text.now c.in-Ok.decimal c.in-Ok.ensures.spelled (omega arith), refl)
