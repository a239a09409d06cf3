use Rattle.std.proofs.Common.{ap, ◌∙◌, subst, List, ℕ, arith, ◌<◌, ◌≤◌, length, true, false, ◌≡◌, sym}
use Rattle.std.specs.Prelude.{◌==◌}
use Rattle.std.proofs.lemmas.Bool.{eqb-true, eqb-false}
use Rattle.sk_grammar.specs.HeldValues.{only_text}
use Rattle.sk_grammar.specs.Taken.{IsSplitAtFeed}
use Rattle.sk_grammar.proofs.HeldValues.{only_held, more_held}
use Rattle.sk_grammar.proofs.values.Values.only.Goals as goal

pub returns-then-is_empty : goal.returns-then-is_empty
returns-then-is_empty c =
    let line = c.in_ok-line.line.now in
    let behind = c.in_ok-line.behind.now in
    let none : true ≡ (length behind == 0) = c.if-is_empty.ensures in
    only_held c.self.inside.text.items line behind c.self.inside.texts c.self.inside.numbers c.self.invariant
    (subst (λ (text : List ℕ). IsSplitAtFeed text line behind) c.as_slice.ensures.value c.in_ok-line.ensures) (omega (arith, eqb-true (length behind) 0 (sym none)))
    ∙ ap only_text c.self.view_is

pub returns-else-is_empty : goal.returns-else-is_empty
returns-else-is_empty c =
    let line = c.in_ok-line.line.now in
    let behind = c.in_ok-line.behind.now in
    let some : false ≡ (length behind == 0) = c.if-is_empty.ensures in
    more_held c.self.inside.text.items line behind c.self.inside.texts c.self.inside.numbers c.self.invariant
    (subst (λ (text : List ℕ). IsSplitAtFeed text line behind) c.as_slice.ensures.value c.in_ok-line.ensures) (omega (arith, eqb-false (length behind) 0 (sym some)))
    ∙ ap only_text c.self.view_is
