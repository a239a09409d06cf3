use Rattle.std.proofs.Common.{◌≤◌, ◌<◌, ◌^◌, arith}
use Rattle.std.proofs.Math.Nat.{pow-le-pow_right}
use Rattle.sk_octets.proofs.OctetLemmas.{octet_power}
use Rattle.sk_cuc.proofs.time.scaled.Goals as goal

pub pow-requires : goal.pow-requires
pow-requires c = omega (arith, pow-le-pow_right {n = 256} (omega arith) {i = c.args.fraction} {j = 6} c.requires)

pub nonzero_div-part : goal.nonzero_div-part
nonzero_div-part c = rw c.pow.ensures (octet_power c.args.fraction)
