-- The fields of a line, appended one after the other.
use Rattle.std.proofs.Common.{◌≡◌, ℕ, List, [], ◌∷◌, ◌++◌, ap, ◌∙◌, append_assoc}

pub three_parts : (none first second third id text observed time difference number kind ended : List ℕ) → none ≡ []
    → first ≡ none ++ id ++ 59 ∷ (text ++ 59 ∷ (observed ++ 59 ∷ []))
    → second ≡ first ++ time ++ 59 ∷ (difference ++ 59 ∷ (number ++ 59 ∷ []))
    → third ≡ second ++ kind ++ 59 ∷ ended
    → third ≡ id ++ 59 ∷ (text ++ 59 ∷ (observed ++ 59 ∷ (time ++ 59 ∷ (difference ++ 59 ∷ (number ++ 59 ∷ (kind ++ 59 ∷ ended))))))
three_parts none first second third id text observed time difference number kind ended e p q r =
    let one : first ≡ id ++ 59 ∷ (text ++ 59 ∷ (observed ++ 59 ∷ [])) = p ∙ ap (λ (xs : List ℕ). xs ++ id ++ 59 ∷ (text ++ 59 ∷ (observed ++ 59 ∷ []))) e in
    r ∙ ap (λ (xs : List ℕ). xs ++ kind ++ 59 ∷ ended) (q ∙ ap (λ (xs : List ℕ). xs ++ time ++ 59 ∷ (difference ++ 59 ∷ (number ++ 59 ∷ []))) one) ∙ simp append_assoc
