use Rattle.std.proofs.Common.{◌≡◌, length}
use Rattle.sk_leap.specs.Entries.{in_turn}
use Rattle.sk_leap.proofs.entries.are_entries.Given as goal

abbrev pub invariant-loop-behind : goal.invariant-loop-behind
invariant-loop-behind l = in_turn l.values ≡ in_turn l.rest

abbrev pub decreases-loop-behind : goal.decreases-loop-behind
decreases-loop-behind l = length l.rest
