use Rattle.std.proofs.Common.{◌≡◌, ◌++◌, take}
use Rattle.std.specs.Prelude.{codes}
use Rattle.std.specs.List.{flat_map}
use Rattle.sk_words.specs.Request.{name_of}
use Rattle.sk_words.proofs.help.needed.Given as goal

abbrev pub invariant-loop-name : goal.invariant-loop-name
invariant-loop-name l = l.text.items ≡ codes "needs" ++ flat_map (λ name. codes " --" ++ name_of name) (take l.name-index l.name-items)
