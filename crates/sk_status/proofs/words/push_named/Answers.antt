use Rattle.std.proofs.Common.{◌≡◌, ℕ, List, [], ◌∷◌, ◌++◌, subst}
use Rattle.sk_status.specs.Notes.{behind}
use Rattle.sk_status.proofs.words.push_named.Goals as goal

pub returns-clause-words : goal.returns-clause-words
returns-clause-words c =
    subst (λ (w : List ℕ). c.push_two.new.line ≡ c.args.line.now ++ behind (c.args.word.now ∷ w ∷ [])) c.word.ensures c.push_two.ensures.words
