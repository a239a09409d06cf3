use Rattle.sk_grammar.proofs.Quotations.{IsReadAs}
use Rattle.sk_grammar.proofs.tokens.text.Given as goal

abbrev pub invariant-loop-i : goal.invariant-loop-i
invariant-loop-i l = IsReadAs l.bytes l.text.items l.behind_quote l.i
