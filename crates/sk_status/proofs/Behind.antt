-- Words behind semicolons, joined.
use Rattle.std.proofs.Common.{◌≡◌, ℕ, List, [], ◌∷◌, ◌++◌, rules, sym, ap, ◌∙◌, append_assoc}
use Rattle.std.specs.List.{flat_map, join_with_byte}
use Rattle.std.proofs.lemmas.List.Concat.{flat_map-append}
use Rattle.sk_status.specs.Notes.{Words, behind}

pub both : (old mid new : List ℕ) (a b : Words) → mid ≡ old ++ behind a → new ≡ mid ++ behind b → new ≡ old ++ behind (a ++ b)
both old mid new a b h k =
    k ∙ ap (λ l. l ++ behind b) h ∙ append_assoc old (behind a) (behind b)
    ∙ ap (λ l. old ++ l) (sym (flat_map-append (λ (word : List ℕ). 59 ∷ word) a b))

-- the first word, and those behind it
pub joined : (first : List ℕ) (words : Words) → join_with_byte 59 (first ∷ words) ≡ first ++ behind words
joined first [] = search rules
joined first (word ∷ words) = ap (λ l. first ++ 59 ∷ l) (joined word words)
