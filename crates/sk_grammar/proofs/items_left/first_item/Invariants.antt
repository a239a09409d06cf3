use Rattle.std.proofs.Common.{length}
use Rattle.sk_grammar.specs.HeldItems.{held_items}
use Rattle.sk_grammar.specs.OneByOne.{IsWithinOrEnd}
use Rattle.sk_grammar.proofs.items_left.first_item.Given as goal

abbrev pub invariant-loop-line : goal.invariant-loop-line
invariant-loop-line l = IsWithinOrEnd (held_items l.text) l.place l.rest

abbrev pub decreases-loop-line : goal.decreases-loop-line
decreases-loop-line l = length l.rest
