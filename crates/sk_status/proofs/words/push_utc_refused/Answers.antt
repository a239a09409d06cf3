use Rattle.std.proofs.Common.{◌≡◌, List, ℕ, [], ◌∷◌, ◌++◌, subst}
use Rattle.std.specs.Prelude.{codes, decimal}
use Rattle.sk_status.specs.Notes.{behind, utc_text}
use Rattle.sk_status.proofs.Behind.{both}
use Rattle.sk_status.proofs.words.push_utc_refused.Goals as goal

pub returns-clause-words : goal.returns-clause-words
returns-clause-words c =
    both c.args.line.now c.push_numbered_word.new.line c.push_word.new.line (codes "Record" ∷ decimal c.args.number ∷ codes "UtcRefused" ∷ []) (utc_text c.args.fault ∷ []) c.push_numbered_word.ensures.words
    (subst (λ (w : List ℕ). c.push_word.new.line ≡ c.push_numbered_word.new.line ++ behind (w ∷ [])) c.utc_text.ensures.text c.push_word.ensures.words)
