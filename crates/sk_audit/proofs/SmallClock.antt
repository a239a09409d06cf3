-- A clock keeps to the ranges that arithmetic needs.
use Rattle.std.proofs.Common.{◌^◌, ◌-◌, drop}
use Rattle.std.proofs.lemmas.List.Elements.{All-drop}
use Rattle.std.specs.Int.{IsInRange}
use Rattle.sk_clock.specs.Clock.{ClockView, IsClock}
use Rattle.sk_clock.proofs.FieldLemmas.{product-some}
use Rattle.sk_audit.specs.Given.{IsSmallClock}

pub small_clock : (clock : ClockView) → IsClock clock → IsSmallClock clock
small_clock clock h = record {
  some = product-some (drop 1 clock.moduli) (All-drop (IsInRange 1 (2 ^ 53 - 1)) 1 clock.moduli h.moduli.1);
  few = h.moduli.2;
  short = h.partitions.together;
}
