use Rattle.std.proofs.Common.{◌≡◌, ◌++◌, take}
use Rattle.std.specs.List.{flat_map}
use Rattle.sk_advice.specs.Sentences.{shown}
use Rattle.sk_advice.proofs.sentences.push_all_shown.Given as goal

abbrev pub invariant-loop-byte : goal.invariant-loop-byte
invariant-loop-byte l = l.text.items ≡ l.fn.text.items ++ flat_map shown (take l.byte-index l.line)
