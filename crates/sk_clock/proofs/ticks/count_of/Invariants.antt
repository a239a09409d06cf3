use Rattle.std.proofs.Common.{◌≡◌, ◌+◌, ◌*◌, ◌^◌, ◌≤◌, drop}
use Rattle.sk_clock.specs.ClockText.{HasLowValue}
use Rattle.sk_clock.specs.Kept.{offsets_of}
use Rattle.sk_clock.specs.Ticks.{counted}
use Rattle.sk_clock.proofs.ticks.count_of.Given as goal

abbrev pub invariant-loop-i : goal.invariant-loop-i
invariant-loop-i l = record {
  low : HasLowValue (offsets_of l.fields) l.values → HasLowValue (offsets_of (drop l.i l.fields)) (drop l.i l.values);
  back : HasLowValue (offsets_of (drop l.i l.fields)) (drop l.i l.values) → HasLowValue (offsets_of l.fields) l.values;
  summed : l.count + counted (drop l.i l.fields) (drop l.i l.values) ≡ counted l.fields l.values;
  small : l.count ≤ l.i * 2 ^ 96;
}
