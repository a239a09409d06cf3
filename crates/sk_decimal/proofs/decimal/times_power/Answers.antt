use Rattle.std.proofs.Common.{arith}
use Rattle.sk_decimal.proofs.Wide.{pow_le}
use Rattle.sk_decimal.proofs.decimal.times_power.Goals as goal

pub short_product-requires-clause-number : goal.short_product-requires-clause-number
short_product-requires-clause-number c = omega (arith, c.pow-power.ensures, pow_le c.args.places 18 c.requires)
