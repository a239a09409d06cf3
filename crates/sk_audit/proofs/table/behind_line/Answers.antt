use Rattle.std.proofs.Common.{ℕ, List, ◌∷◌, ap, sym, ◌∙◌}
use Rattle.sk_grammar.specs.Lines.{held_lines}
use Rattle.sk_grammar.proofs.HeldLines.{held_front, none_held}
use Rattle.sk_audit.proofs.Answered.{no_line, same_front, untrue}
use Rattle.sk_audit.proofs.table.behind_line.Goals as goal

pub returns-in_default-clause-none : goal.returns-in_default-clause-none
returns-in_default-clause-none c = λ more e. no_line c.args.line.now more (sym (none_held c.args.text.now c.in_default.ensures) ∙ e)

pub returns-then-are_equal-clause-some : goal.returns-then-are_equal-clause-some
returns-then-are_equal-clause-some c =
    held_front c.args.text.now _ _ c.in-Some.ensures ∙ ap (λ (l : List ℕ). l ∷ held_lines c.in-Some.parts.1.now) (c.are_equal.ensures.0 c.if-are_equal.true)

pub returns-else-are_equal-clause-none : goal.returns-else-are_equal-clause-none
returns-else-are_equal-clause-none c = λ more e. untrue c.are_equal.result c.if-are_equal.false
    (c.are_equal.ensures.1 (same_front _ _ _ _ (sym (held_front c.args.text.now _ _ c.in-Some.ensures) ∙ e)))
