use Rattle.std.proofs.Common.{length, arith}
use Rattle.sk_decimal.proofs.Wide.{pow_le}
use Rattle.sk_obs.proofs.digits.read_digits.Goals as goal

pub returns-clause-small : goal.returns-clause-small
returns-clause-small c = omega (arith, pow_le (length c.args.bytes.now) c.args.most (omega arith), c.value_of.ensures.small)
