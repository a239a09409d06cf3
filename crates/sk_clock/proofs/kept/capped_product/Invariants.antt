use Rattle.std.proofs.Common.{◌≡◌, ◌+◌, ◌*◌, ◌^◌, ◌<◌, ◌≤◌, drop, min}
use Rattle.sk_clock.specs.Clock.{product}
use Rattle.sk_clock.proofs.kept.capped_product.Given as goal

abbrev pub invariant-loop-modulus : goal.invariant-loop-modulus
invariant-loop-modulus l = record {
  some : 0 < l.value;
  few : l.value ≤ 2 ^ 32 + 1;
  same : min (l.value * product (drop l.modulus-index l.moduli)) (2 ^ 32 + 1) ≡ min (product l.moduli) (2 ^ 32 + 1);
}
