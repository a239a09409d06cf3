-- Texts appended one after another.
use Rattle.std.proofs.Common.{◌≡◌, ℕ, List, ◌++◌, ap, ◌∙◌, append_assoc}

pub two_parts : (old p q a b : List ℕ) → p ≡ old ++ a → q ≡ p ++ b → q ≡ old ++ (a ++ b)
two_parts old p q a b e f = f ∙ ap (λ l. l ++ b) e ∙ append_assoc old a b

pub three_parts : (old p q r a b d : List ℕ) → p ≡ old ++ a → q ≡ p ++ b → r ≡ q ++ d → r ≡ old ++ (a ++ (b ++ d))
three_parts old p q r a b d e f g = two_parts old p r a (b ++ d) e (two_parts p q r b d f g)

pub four_parts : (old p q r s a b d e : List ℕ) → p ≡ old ++ a → q ≡ p ++ b → r ≡ q ++ d → s ≡ r ++ e → s ≡ old ++ (a ++ (b ++ (d ++ e)))
four_parts old p q r s a b d e h i j k = two_parts old p s a (b ++ (d ++ e)) h (three_parts p q r s b d e i j k)

pub five_parts : (old p q r s t a b d e f : List ℕ) → p ≡ old ++ a → q ≡ p ++ b → r ≡ q ++ d → s ≡ r ++ e → t ≡ s ++ f → t ≡ old ++ (a ++ (b ++ (d ++ (e ++ f))))
five_parts old p q r s t a b d e f h i j k l = two_parts old p t a (b ++ (d ++ (e ++ f))) h (four_parts p q r s t b d e f i j k l)

pub six_parts : (old p q r s t u a b d e f g : List ℕ) → p ≡ old ++ a → q ≡ p ++ b → r ≡ q ++ d → s ≡ r ++ e → t ≡ s ++ f → u ≡ t ++ g
    → u ≡ old ++ (a ++ (b ++ (d ++ (e ++ (f ++ g)))))
six_parts old p q r s t u a b d e f g h i j k l m = two_parts old p u a (b ++ (d ++ (e ++ (f ++ g)))) h (five_parts p q r s t u b d e f g i j k l m)
