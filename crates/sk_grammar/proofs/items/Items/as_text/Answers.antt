use Rattle.std.proofs.Common.{length, ap, arith}
use Rattle.sk_grammar.proofs.HeldItems.{held_count}
use Rattle.sk_grammar.proofs.items.Items.as_text.Goals as goal

pub returns-clause-count : goal.returns-clause-count
returns-clause-count c = omega (arith, held_count c.self.inside.text.items c.self.invariant, ap length c.self.view_is, ap length c.as_slice.ensures.value)
