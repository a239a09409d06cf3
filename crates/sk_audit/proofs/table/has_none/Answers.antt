use Rattle.std.proofs.Common.{sym, ◌∙◌}
use Rattle.sk_grammar.proofs.HeldLines.{held_front, none_held}
use Rattle.sk_audit.proofs.Answered.{no_line}
use Rattle.sk_audit.proofs.table.has_none.Goals as goal

pub returns-in-None-clause-none : goal.returns-in-None-clause-none
returns-in-None-clause-none c = λ _. none_held c.args.text.now c.in-None.ensures

pub returns-in-Some-clause-some : goal.returns-in-Some-clause-some
returns-in-Some-clause-some c = λ none. absurd (no_line _ _ (sym none ∙ held_front c.args.text.now _ _ c.in-Some.ensures))
