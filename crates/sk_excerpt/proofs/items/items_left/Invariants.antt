use Rattle.std.proofs.Common.{◌≡◌, map, take}
use Rattle.std.specs.List.{All}
use Rattle.sk_grammar.specs.Document.{IsItem}
use Rattle.sk_excerpt.specs.Excerpt.{excerpt_item}
use Rattle.sk_excerpt.proofs.items.items_left.Given as goal

abbrev pub invariant-loop-place : goal.invariant-loop-place
invariant-loop-place l = (l.items ≡ map (excerpt_item l.sc l.cut.first l.cut.last) (take l.place l.pool)) × All IsItem l.items
