use Rattle.std.proofs.Common.{arith}
use Rattle.sk_decimal.proofs.Wide.{pow_le}
use Rattle.sk_decimal.proofs.printing.power_of_ten.Goals as goal

pub pow-requires-else-places-lt20 : goal.pow-requires-else-places-lt20
pow-requires-else-places-lt20 c = omega (arith, pow_le c.args.places 38 c.requires)
