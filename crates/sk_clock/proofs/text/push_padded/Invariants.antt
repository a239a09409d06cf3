use Rattle.std.proofs.Common.{◌≡◌, ◌-◌, ◌≤◌, ◌++◌, max, length, replicate}
use Rattle.std.specs.String.{string_bytes}
use Rattle.sk_clock.proofs.text.push_padded.Given as goal

abbrev pub invariant-loop : goal.invariant-loop
invariant-loop l = record {
  within : l.counter ≤ max l.width (length l.digits);
  zeros : string_bytes l.text ≡ string_bytes l.initial.text ++ replicate (l.counter - length l.digits) 48;
}
