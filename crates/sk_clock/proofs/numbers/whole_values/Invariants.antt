use Rattle.std.proofs.Common.{◌≡◌, map, take, All}
use Rattle.std.specs.Int.{IsInRange}
use Rattle.sk_grammar.specs.Variables.{whole}
use Rattle.sk_clock.proofs.numbers.whole_values.Given as goal

abbrev pub invariant-loop-value : goal.invariant-loop-value
invariant-loop-value l = record {
  same : take l.value-index l.values ≡ map whole l.numbers.items;
  each : All (IsInRange l.low l.high) l.numbers.items;
}
