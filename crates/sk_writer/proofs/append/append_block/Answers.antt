use Rattle.std.proofs.Common.{List, subst, sym}
use Rattle.std.specs.List.{All}
use Rattle.std.proofs.lemmas.List.Elements.{All-push}
use Rattle.sk_grammar.specs.Document.{BlockView, IsBlock}
use Rattle.sk_writer.proofs.append.append_block.Goals as goal

pub invariant_of-result : goal.invariant_of-result
invariant_of-result c =
    record {
      head = c.doc.invariant.head;
      blocks = subst (λ (bs : List BlockView). All IsBlock bs) (sym c.in-Ok.ensures.ok)
          (All-push IsBlock c.doc.inside.blocks c.args.block c.doc.invariant.blocks (subst IsBlock c.block.view_is c.block.invariant));
    }
