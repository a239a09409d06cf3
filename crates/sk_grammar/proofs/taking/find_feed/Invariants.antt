use Rattle.memchr.specs.Find.{Nowhere, Passes}
use Rattle.sk_grammar.specs.Lines.{is_line_feed}
use Rattle.sk_grammar.proofs.taking.find_feed.Given as goal

abbrev pub invariant-loop-at : goal.invariant-loop-at
invariant-loop-at l = Nowhere (Passes is_line_feed l.bytes) 0 l.at
