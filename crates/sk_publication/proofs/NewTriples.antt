-- The numbers of new triples.
use Rattle.std.proofs.Common.{◌≡◌, ℕ, ◌*◌, ◌^◌, ◌<◌, ◌≤◌, List, [], ◌∷◌, ◌++◌, ap, ◌∙◌, append_assoc, arith}
use Rattle.std.specs.Prelude.{ℤ, pos, negsuc, neg_ℤ, nat_abs, ◌≤ℤ◌, ◌<ℤ◌}
use Rattle.std.specs.List.{All}
use Rattle.std.proofs.lemmas.Int.{ints}
use Rattle.std.proofs.lemmas.List.Elements.{All-weaker, All-from_recursion}
use Rattle.sk_decimal.specs.Number.{DecimalView}
use Rattle.sk_grammar.specs.declared.value.Value.{Value}
use Rattle.sk_grammar.specs.declared.value.Value.TheVariants.{Number}
use Rattle.sk_line.specs.Triple.{TripleView}
use Rattle.sk_triples.specs.Kernel.{IsTriple, AreTriples}
use Rattle.sk_publishing.specs.Published.{reduced, triple_values}
use Rattle.sk_line.proofs.Lists.{all_back}
use Rattle.sk_publication.specs.Publication.{HasNumbers}

abs_within : (z : ℤ) (n : ℕ) → neg_ℤ (pos n) ≤ℤ z → z ≤ℤ pos n → nat_abs z ≤ n
abs_within (pos m) n p q = omega (arith, ints)
abs_within (negsuc m) n p q = omega (arith, ints)

abs_below : (z : ℤ) (n : ℕ) → pos 0 <ℤ z → z ≤ℤ pos n → nat_abs z ≤ n
abs_below (pos m) n p q = omega (arith, ints)
abs_below (negsuc m) n p q = absurd (omega (arith, ints))

pub triple_numbers : (total : ℕ) (t : TripleView) → total < 2 ^ 53 → IsTriple total t → HasNumbers t
triple_numbers total t few h =
    let time = abs_within t.anchor.time (10 ^ 28) h.from h.to in
    let rate = abs_below t.rate (1000 * 10 ^ 18) h.positive h.slow in
    record { ticks = omega (arith, h.ticks); time = omega arith; rate = omega arith }

pub new_numbers : (total : ℕ) (old new : List TripleView) → total < 2 ^ 53 → AreTriples total (old ++ new) → All HasNumbers new
new_numbers total old new few h =
    All-weaker (IsTriple total) HasNumbers (λ t. triple_numbers total t few) new
    (All-from_recursion (IsTriple total) new (all_back (IsTriple total) old new h.each))

-- three numbers that were put behind values are those of the triple
pub triple_pushed : (old one two three : List Value) (a b c : DecimalView) (t : TripleView)
    → one ≡ old ++ Number a ∷ [] → two ≡ one ++ Number b ∷ [] → three ≡ two ++ Number c ∷ []
    → a ≡ reduced 0 (pos t.anchor.ticks) → b ≡ reduced 18 t.anchor.time → c ≡ reduced 18 t.rate → three ≡ old ++ triple_values t
triple_pushed old one two three a b c t p q r a_is b_is c_is =
    let joined : three ≡ old ++ (Number a ∷ Number b ∷ Number c ∷ []) = rw (r, q, p) (simp append_assoc) in
    joined ∙ ap (λ (n : DecimalView). old ++ (Number n ∷ Number b ∷ Number c ∷ [])) a_is
    ∙ ap (λ (n : DecimalView). old ++ (Number (reduced 0 (pos t.anchor.ticks)) ∷ Number n ∷ Number c ∷ [])) b_is
    ∙ ap (λ (n : DecimalView). old ++ (Number (reduced 0 (pos t.anchor.ticks)) ∷ Number (reduced 18 t.anchor.time) ∷ Number n ∷ [])) c_is
