use Rattle.std.proofs.Common.{◌≡◌, ◌++◌, take}
use Rattle.std.specs.List.{flat_map}
use Rattle.sk_words.specs.Help.{shown_rows}
use Rattle.sk_words.proofs.help.push_all_shown.Given as goal

abbrev pub invariant-loop-name : goal.invariant-loop-name
invariant-loop-name l = l.page.items ≡ l.fn.page.items ++ flat_map shown_rows (take l.name-index l.name-items)
