use Rattle.std.proofs.Common.{◌≡◌, ◌++◌, length}
use Rattle.sk_grammar.specs.HeldValues.{held_values}
use Rattle.sk_grammar.proofs.values.Values.to_list.Given as goal

abbrev pub invariant-loop-line : goal.invariant-loop-line
invariant-loop-line l = l.values ++ held_values l.rest ≡ l.self

abbrev pub decreases-loop-line : goal.decreases-loop-line
decreases-loop-line l = length l.rest
