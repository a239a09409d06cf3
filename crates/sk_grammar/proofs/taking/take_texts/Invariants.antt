use Rattle.std.proofs.Common.{length}
use Rattle.sk_grammar.specs.Texts.{TakesTexts}
use Rattle.sk_grammar.proofs.taking.take_texts.Given as goal

abbrev pub invariant-loop-line : goal.invariant-loop-line
invariant-loop-line l = TakesTexts l.piece l.texts.rest.now l.fn.lines l.texts.lines l.fn.count l.texts.count

abbrev pub decreases-loop-line : goal.decreases-loop-line
decreases-loop-line l = length l.texts.rest.now
