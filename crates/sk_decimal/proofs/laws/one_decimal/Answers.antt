use Rattle.sk_decimal.proofs.Exact.{one_decimal}
use Rattle.sk_decimal.proofs.laws.one_decimal.Goals as goal

pub returns : goal.returns
returns c = one_decimal
