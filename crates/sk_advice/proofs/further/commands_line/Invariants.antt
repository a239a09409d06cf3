use Rattle.std.proofs.Common.{◌≡◌, ◌∷◌, ◌++◌, take}
use Rattle.std.specs.Prelude.{codes}
use Rattle.std.specs.List.{flat_map}
use Rattle.sk_words.specs.Request.{word_of}
use Rattle.sk_advice.proofs.further.commands_line.Given as goal

abbrev pub invariant-loop-command : goal.invariant-loop-command
invariant-loop-command l = l.line.items ≡ codes "the commands are" ++ flat_map (λ command. 32 ∷ word_of command) (take l.command-index l.command-items)
