use Rattle.std.proofs.Common.{◌≡◌, ◌++◌, ◌∷◌, [], ℕ, List, ap, sym, ◌∙◌, subst, append_assoc}
use Rattle.sk_grammar.specs.Lines.{held_lines, IsEnded}
use Rattle.sk_grammar.proofs.HeldLines.{ended_behind, ended_line, line_behind}
use Rattle.sk_grammar.proofs.text.Lines.with_line.Goals as goal

pub invariant_of-result : goal.invariant_of-result
invariant_of-result c =
    let text = c.self.inside.text.items in
    let line = c.args.line.now in
    let items : c.push.new.self.items ≡ text ++ (line ++ 10 ∷ []) =
    c.in_ok-push.ensures.items ∙ ap (λ (t : List ℕ). t ++ 10 ∷ []) c.in_ok-extend_from_slice.ensures.items ∙ append_assoc text line (10 ∷ []) in
    subst IsEnded (sym items) (ended_behind text (line ++ 10 ∷ []) c.self.invariant (ended_line line))

pub returns : goal.returns
returns c =
    let text = c.self.inside.text.items in
    let line = c.args.line.now in
    let items : c.push.new.self.items ≡ text ++ (line ++ 10 ∷ []) =
    c.in_ok-push.ensures.items ∙ ap (λ (t : List ℕ). t ++ 10 ∷ []) c.in_ok-extend_from_slice.ensures.items ∙ append_assoc text line (10 ∷ []) in
    ap held_lines items ∙ line_behind text line c.self.invariant c.requires.one_line ∙ ap (λ (lines : List (List ℕ)). lines ++ line ∷ []) c.self.view_is
