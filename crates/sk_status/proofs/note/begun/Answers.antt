use Rattle.std.proofs.Common.{◌≡◌, ℕ, List, [], ◌∷◌, ◌++◌, subst, ap, ◌∙◌}
use Rattle.std.specs.Prelude.{codes, decimal}
use Rattle.sk_status.specs.Notes.{behind}
use Rattle.sk_status.specs.Status.{code_of}
use Rattle.sk_status.proofs.note.begun.Goals as goal

pub returns-clause-words : goal.returns-clause-words
returns-clause-words c =
    c.push_word.ensures.words
    ∙ ap (λ (l : List ℕ). l ++ behind (c.number_text.result.now ∷ [])) (c.push.ensures ∙ ap (λ (l : List ℕ). l ++ codes "refused") c.new-line.ensures)
    ∙ ap (λ (w : List ℕ). codes "refused" ++ behind (w ∷ [])) c.number_text.ensures.text
