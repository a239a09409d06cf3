use Rattle.std.proofs.Common.{sym, ap, ◌∙◌}
use Rattle.sk_grammar.specs.HeldItems.{items_text}
use Rattle.sk_audit.proofs.Same.{same_items}
use Rattle.sk_audit.proofs.standing.are_same_items.Goals as goal

pub returns : goal.returns
returns c = (
  (λ h. same_items c.args.a.now c.args.b.now c.requires.first c.requires.second (sym c.as_text.ensures.text ∙ c.are_equal.ensures.0 h ∙ c.as_text-2.ensures.text)),
  (λ e. c.are_equal.ensures.1 (c.as_text.ensures.text ∙ ap items_text e ∙ sym c.as_text-2.ensures.text)),
)
