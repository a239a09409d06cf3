use Rattle.std.proofs.Common.{◌≡◌, ◌++◌, map, take}
use Rattle.sk_words.specs.Help.{lines}
use Rattle.sk_words.proofs.help.push_lines.Given as goal

abbrev pub invariant-loop-text : goal.invariant-loop-text
invariant-loop-text l = l.page.items ≡ l.fn.page.items ++ lines (map (λ t. t.now) (take l.text-index l.texts))
