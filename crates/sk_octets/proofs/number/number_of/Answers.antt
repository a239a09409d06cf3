use Rattle.std.proofs.Common.{◌<◌, refl, arith}
use Rattle.sk_octets.proofs.OctetLemmas.{one_read, one_below, all_read, AreOctets-from}
use Rattle.std.proofs.Math.Nat.{pow-le-pow_right}
use Rattle.sk_octets.proofs.number.number_of.Goals as goal

pub overflow_mul-number : goal.overflow_mul-number
overflow_mul-number c = omega (arith, c.loop-octet.invariant.below, pow-le-pow_right {n = 256} (omega arith) {i = c.loop-octet.octet-index} {j = 7} (omega arith))

pub overflow_add-number : goal.overflow_add-number
overflow_add-number c = omega (arith, c.loop-octet.invariant.below, pow-le-pow_right {n = 256} (omega arith) {i = c.loop-octet.octet-index} {j = 7} (omega arith), c.from.ensures, c.type_inv.octets c.loop-octet.octet-index)

pub loop-octet-preserved : goal.loop-octet-preserved
loop-octet-preserved c =
    let small : c.from.result < 256 = omega (arith, c.from.ensures, c.type_inv.octets c.loop-octet.octet-index) in
    record {
      value = one_read c.args.octets.now c.loop-octet.octet-index c.loop-octet.number c.from.result c.loop-octet-test.true c.from.ensures c.loop-octet.invariant.value;
      below = one_below c.loop-octet.number c.from.result c.loop-octet.octet-index c.loop-octet.invariant.below small;
    }

pub returns-clause-spelled : goal.returns-clause-spelled
returns-clause-spelled c = record {
  long = refl;
  are_octets = AreOctets-from c.args.octets.now (λ k. omega (arith, c.type_inv.octets k));
  value = all_read c.args.octets.now c.loop-octet.octet-index c.loop-octet.number c.loop-octet-test.false c.loop-octet.auto.octet-index-end c.loop-octet.invariant.value;
}
