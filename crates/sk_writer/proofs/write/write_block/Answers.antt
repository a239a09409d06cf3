use Rattle.std.proofs.Common.{List, ℕ, ◌++◌, ap, sym, ◌∙◌}
use Rattle.sk_grammar.specs.Document.{BlockView, ItemView}
use Rattle.sk_grammar.specs.HeldItems.{items_text}
use Rattle.sk_grammar.specs.Canonical.{ended_by_line_feeds}
use Rattle.sk_writer.proofs.Texts.{block_text, four_parts}
use Rattle.sk_writer.proofs.write.write_block.Goals as goal

pub returns : goal.returns
returns c =
    let items_are = c.as_text.ensures.text ∙ ap (λ (b : BlockView). items_text b.items) c.block.view_is in
    let text_is = ap (λ (b : BlockView). b.text) c.block.view_is in
    four_parts c.args.out.now.items _ _ _ c.write_lines.new.out.items _ _ _ _ c.in_ok-extend_from_slice.ensures.items
    (c.in_ok-extend_from_slice-2.ensures.items ∙ ap (λ (t : List ℕ). c.extend_from_slice.new.self.items ++ t) items_are)
    c.in_ok-extend_from_slice-3.ensures.items
    (c.in_ok-write_lines.ensures ∙ ap (λ (lines : List (List ℕ)). c.extend_from_slice-3.new.self.items ++ ended_by_line_feeds lines) text_is)
    ∙ ap (λ (text : List ℕ). c.args.out.now.items ++ text) (sym (block_text c.args.block.now))
