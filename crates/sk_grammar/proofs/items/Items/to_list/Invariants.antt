use Rattle.std.proofs.Common.{◌≡◌, length, Ok}
use Rattle.sk_grammar.specs.HeldItems.{items_of_lines}
use Rattle.sk_grammar.specs.Lines.{held_lines}
use Rattle.sk_grammar.proofs.items.Items.to_list.Given as goal

abbrev pub invariant-loop-line : goal.invariant-loop-line
invariant-loop-line l = items_of_lines l.items l.place (held_lines l.rest) ≡ Ok l.self

abbrev pub decreases-loop-line : goal.decreases-loop-line
decreases-loop-line l = length l.rest
