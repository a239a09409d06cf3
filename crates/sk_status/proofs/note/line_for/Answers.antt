use Rattle.std.proofs.Common.{◌≡◌, List, ℕ, [], ◌∷◌, ◌++◌, sym, ap, ◌∙◌}
use Rattle.std.specs.Prelude.{codes, decimal}
use Rattle.sk_status.specs.Notes.{status_words}
use Rattle.sk_status.specs.Status.{code_of}
use Rattle.sk_status.proofs.Behind.{both, joined}
use Rattle.sk_status.proofs.note.line_for.Goals as goal

pub returns : goal.returns
returns c =
    let words : List (List ℕ) = decimal (code_of c.args.status) ∷ status_words c.args.status in
    c.push.ensures
    ∙ ap (λ l. l ++ 10 ∷ [])
    (both (codes "refused") c.begun-line.result c.push_status.new.line (decimal (code_of c.args.status) ∷ []) (status_words c.args.status) c.begun-line.ensures.words c.push_status.ensures.words
    ∙ sym (joined (codes "refused") words))
