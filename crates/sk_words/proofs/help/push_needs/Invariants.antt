use Rattle.std.proofs.Common.{◌≡◌, ◌∷◌, ◌++◌, take}
use Rattle.std.specs.List.{flat_map}
use Rattle.sk_words.specs.Help.{given_as}
use Rattle.sk_words.proofs.help.push_needs.Given as goal

abbrev pub invariant-loop-name : goal.invariant-loop-name
invariant-loop-name l = l.page.items ≡ l.fn.page.items ++ flat_map (λ name. 32 ∷ given_as name) (take l.name-index l.name-items)
