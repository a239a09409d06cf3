-- Sentences one after another.
use Rattle.std.proofs.Common.{◌≡◌, ℕ, List, [], ◌∷◌, ◌++◌, ap, ◌∙◌, sym, append_assoc, append-nil}
use Rattle.sk_advice.specs.Sentences.{sentence, sentences}

in_line : (p q r s t : List ℕ) → ((p ++ (q ++ (r ++ []))) ++ s) ++ t ≡ p ++ (q ++ (r ++ (s ++ (t ++ []))))
in_line p q r s t =
    append_assoc (p ++ (q ++ (r ++ []))) s t
    ∙ append_assoc p (q ++ (r ++ [])) (s ++ t)
    ∙ ap (λ (l : List ℕ). p ++ l) (append_assoc q (r ++ []) (s ++ t))
    ∙ ap (λ (l : List ℕ). p ++ (q ++ (l ++ (s ++ t)))) (append-nil r)
    ∙ ap (λ (l : List ℕ). p ++ (q ++ (r ++ (s ++ l)))) (sym (append-nil t))

-- the parts of an advice, appended in their order
pub told_in_order : (none one two three four subject cause cure further hint : List ℕ)
    → none ≡ [] → one ≡ none ++ sentence subject → two ≡ one ++ sentences (cause ∷ cure ∷ []) → three ≡ two ++ sentence further → four ≡ three ++ sentence hint
    → four ≡ sentences (subject ∷ cause ∷ cure ∷ further ∷ hint ∷ [])
told_in_order none one two three four subject cause cure further hint g h i j k =
    let begun : one ≡ sentence subject = h ∙ ap (λ (l : List ℕ). l ++ sentence subject) g in
    let wrong : two ≡ sentence subject ++ sentences (cause ∷ cure ∷ []) = i ∙ ap (λ (l : List ℕ). l ++ sentences (cause ∷ cure ∷ [])) begun in
    let more : three ≡ (sentence subject ++ sentences (cause ∷ cure ∷ [])) ++ sentence further = j ∙ ap (λ (l : List ℕ). l ++ sentence further) wrong in
    k ∙ ap (λ (l : List ℕ). l ++ sentence hint) more
    ∙ in_line (sentence subject) (sentence cause) (sentence cure) (sentence further) (sentence hint)
