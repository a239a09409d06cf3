use Rattle.std.proofs.Common.{◌≡◌, take}
use Rattle.sk_grammar.proofs.values.Values.of_list.Given as goal

abbrev pub invariant-loop-value : goal.invariant-loop-value
invariant-loop-value l = l.values ≡ take l.value-index l.list
