use Rattle.std.proofs.Common.{length}
use Rattle.sk_grammar.specs.Taken.{HasComeTo}
use Rattle.sk_grammar.proofs.taking.take_piece.Given as goal

abbrev pub invariant-loop-line : goal.invariant-loop-line
invariant-loop-line l = HasComeTo l.piece l.rest l.fn.taking l.taking

abbrev pub decreases-loop-line : goal.decreases-loop-line
decreases-loop-line l = length l.rest
