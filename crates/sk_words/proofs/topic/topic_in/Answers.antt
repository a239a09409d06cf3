use Rattle.std.proofs.Common.{◌≡◌, ℕ, ◌<◌, ◌≤◌, List, [], ◌∷◌, map, length, Bor, refl, arith, None}
use Rattle.sk_words.specs.Topics.{topic_of}
use Rattle.sk_words.proofs.topic.topic_in.Goals as goal

short : (words : List (Bor (List ℕ))) → length words < 2 → None ≡ topic_of (map (λ w. w.now) words)
short [] h = refl
short (a ∷ []) h = refl
short (a ∷ b ∷ words) h = absurd (omega (arith, h))

long : (words : List (Bor (List ℕ))) → 4 ≤ length words → None ≡ topic_of (map (λ w. w.now) words)
long [] h = absurd (omega (arith, h))
long (a ∷ []) h = absurd (omega (arith, h))
long (a ∷ b ∷ []) h = absurd (omega (arith, h))
long (a ∷ b ∷ d ∷ []) h = absurd (omega (arith, h))
long (a ∷ b ∷ d ∷ e ∷ words) h = refl

pub returns-in_default : goal.returns-in_default
returns-in_default c = short c.args.words.now c.in_default.len_below

pub returns-in_default-2 : goal.returns-in_default-2
returns-in_default-2 c = long c.args.words.now c.in_default.len_at_least
