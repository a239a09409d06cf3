use Rattle.std.proofs.Common.{sym, subst}
use Rattle.std.specs.List.{All}
use Rattle.std.proofs.lemmas.List.Elements.{All-append}
use Rattle.sk_grammar.specs.Document.{IsBlock}
use Rattle.sk_excerpt.proofs.joining.join.Goals as goal

pub invariant_of-result : goal.invariant_of-result
invariant_of-result c = record {
  head = c.doc.invariant.head;
  blocks = subst (All IsBlock) (sym c.in_ok-append.ensures.0) (All-append IsBlock _ _ c.doc.invariant.blocks c.later.invariant.blocks);
}
