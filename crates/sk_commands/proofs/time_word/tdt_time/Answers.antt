use Rattle.std.proofs.Common.{refl, inl, arith}
use Rattle.sk_obs.proofs.Times.{long_number}
use Rattle.sk_outcome.proofs.TimeWords.{number_sent}
use Rattle.sk_commands.proofs.time_word.tdt_time.Goals as goal

pub returns-then-scale-le12 : goal.returns-then-scale-le12
returns-then-scale-le12 c = number_sent c.args.text.now c.in-Ok.number c.to_fixed.result c.in-Ok.ensures.spelled (omega arith) c.to_fixed.ensures

pub returns-else-scale-le12 : goal.returns-else-scale-le12
returns-else-scale-le12 c = inl (long_number c.args.text.now c.in-Ok.number c.in-Ok.ensures.spelled (omega arith), refl)
