use Rattle.std.proofs.Common.{sym, ap, ◌∙◌}
use Rattle.sk_grammar.specs.Canonical.{ended_by_line_feeds}
use Rattle.sk_audit.proofs.Same.{same_lines}
use Rattle.sk_audit.proofs.standing.are_same_lines.Goals as goal

pub returns : goal.returns
returns c = (
  (λ h. same_lines c.args.a.now c.args.b.now c.requires.first c.requires.second (sym c.as_text.ensures ∙ c.are_equal.ensures.0 h ∙ c.as_text-2.ensures)),
  (λ e. c.are_equal.ensures.1 (c.as_text.ensures ∙ ap ended_by_line_feeds e ∙ sym c.as_text-2.ensures)),
)
