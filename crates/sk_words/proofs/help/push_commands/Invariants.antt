use Rattle.std.proofs.Common.{◌≡◌, ◌++◌, take}
use Rattle.std.specs.List.{flat_map}
use Rattle.sk_words.specs.Help.{command_rows}
use Rattle.sk_words.proofs.help.push_commands.Given as goal

abbrev pub invariant-loop-command : goal.invariant-loop-command
invariant-loop-command l = l.page.items ≡ l.fn.page.items ++ flat_map command_rows (take l.command-index l.command-items)
