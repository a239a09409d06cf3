use Rattle.std.proofs.Common.{ap, sym, ◌∙◌}
use Rattle.sk_grammar.specs.Canonical.{ended_by_line_feeds}
use Rattle.sk_grammar.proofs.HeldLines.{text_of_held}
use Rattle.sk_grammar.proofs.text.Lines.into_text.Goals as goal

pub returns : goal.returns
returns c = sym (text_of_held c.self.inside.text.items c.self.invariant) ∙ ap ended_by_line_feeds c.self.view_is
