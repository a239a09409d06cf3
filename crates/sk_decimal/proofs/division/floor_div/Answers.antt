use Rattle.std.proofs.Common.{rules}
use Rattle.sk_decimal.proofs.Quotients.{floor_is}
use Rattle.sk_decimal.proofs.division.floor_div.Goals as goal

pub returns-clause-floor : goal.returns-clause-floor
returns-clause-floor c = floor_is c.args.a c.args.b _ (search rules) (search rules)
