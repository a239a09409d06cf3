use Rattle.std.proofs.Common.{◌≡◌, ◌++◌, ◌≤◌, replicate}
use Rattle.sk_decimal.proofs.ending.Ending.push_padded.Given as goal

abbrev pub invariant-loop : goal.invariant-loop
invariant-loop l = record {
  within : l.counter ≤ l.missing;
  zeros : l.self ≡ replicate l.counter 48 ++ l.initial.self;
}
