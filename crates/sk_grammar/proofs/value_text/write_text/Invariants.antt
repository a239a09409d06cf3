use Rattle.std.proofs.Common.{◌≡◌, ◌++◌, take, codes}
use Rattle.std.specs.List.{flat_map}
use Rattle.sk_grammar.specs.Document.{doubled}
use Rattle.sk_grammar.proofs.value_text.write_text.Given as goal

abbrev pub invariant-loop-byte : goal.invariant-loop-byte
invariant-loop-byte l = l.out.items ≡ l.fn.out.items ++ (codes "'" ++ flat_map doubled (take l.byte-index l.text))
