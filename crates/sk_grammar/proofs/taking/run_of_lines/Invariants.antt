use Rattle.std.proofs.Common.{ℕ, List, length}
use Rattle.sk_grammar.specs.Texts.{IsRun}
use Rattle.sk_grammar.proofs.taking.run_of_lines.Given as goal

abbrev pub invariant-loop-line : goal.invariant-loop-line
invariant-loop-line l = (front : List ℕ) × IsRun l.piece front l.rest l.fn.count l.count

abbrev pub decreases-loop-line : goal.decreases-loop-line
decreases-loop-line l = length l.rest
