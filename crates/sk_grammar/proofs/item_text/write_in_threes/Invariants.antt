use Rattle.std.proofs.Common.{◌≡◌, ◌≤◌, ◌++◌, drop}
use Rattle.sk_grammar.specs.Writing.{in_threes}
use Rattle.sk_grammar.proofs.item_text.write_in_threes.Given as goal

abbrev pub invariant-loop-byte : goal.invariant-loop-byte
invariant-loop-byte l = record {
  column : l.column ≤ 3;
  threes : l.out.items ++ in_threes l.column (drop l.byte-index l.front) ≡ l.initial.out.items ++ in_threes 1 l.front;
}
