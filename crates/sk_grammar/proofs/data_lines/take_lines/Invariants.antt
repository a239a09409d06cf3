use Rattle.std.proofs.Common.{length}
use Rattle.sk_grammar.specs.DataLines.{TakesDataLines}
use Rattle.sk_grammar.proofs.data_lines.take_lines.Given as goal

abbrev pub invariant-loop-line : goal.invariant-loop-line
invariant-loop-line l = TakesDataLines l.piece l.rest l.fn.items l.items l.fn.place l.place l.fn.count l.count

abbrev pub decreases-loop-line : goal.decreases-loop-line
decreases-loop-line l = length l.rest
