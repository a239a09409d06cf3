use Rattle.std.proofs.Common.{◌++◌, ℕ, List, ap, sym, ◌∙◌, subst}
use Rattle.sk_grammar.specs.Lines.{held_lines, IsEnded}
use Rattle.sk_grammar.proofs.HeldLines.{ended_behind, held_behind}
use Rattle.sk_grammar.proofs.text.Lines.with_text.Goals as goal

pub invariant_of-result : goal.invariant_of-result
invariant_of-result c = subst IsEnded (sym c.in_ok-extend_from_slice.ensures.items) (ended_behind c.self.inside.text.items c.args.more.now c.self.invariant c.requires.ended)

pub returns : goal.returns
returns c =
    ap held_lines c.in_ok-extend_from_slice.ensures.items
    ∙ held_behind c.self.inside.text.items c.args.more.now c.self.invariant
    ∙ ap (λ (lines : List (List ℕ)). lines ++ held_lines c.args.more.now) c.self.view_is
