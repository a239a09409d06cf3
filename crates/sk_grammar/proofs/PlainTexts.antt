-- Texts with no quote in them.
use Rattle.std.proofs.Common.{◌≡◌, ℕ, ◌+◌, ◌<◌, suc, List, [], ◌∷◌, ◌++◌, length, take, drop, false, ◌||◌, refl, ap, sym, ◌∙◌, arith, inl, inr, Some, Ok}
use Rattle.std.specs.List.{flat_map, prefix_len}
use Rattle.std.specs.Prelude.{◌==◌, option_map}
use Rattle.std.proofs.lemmas.Bool.{cases_Bool}
use Rattle.sk_grammar.specs.Document.{doubled}
use Rattle.sk_grammar.specs.Quotes.{is_plain}
use Rattle.sk_grammar.specs.ValueReading.{text_from, ended_text}
use Rattle.sk_grammar.proofs.Lists.{or_parts}

-- the bytes in front are the text, and the quote behind them ends it
pub record IsPlainText (bytes : List ℕ) (count : ℕ) : Type 0 where
  pub text : text_from false bytes ≡ Some (take count bytes)
  pub size : length (flat_map doubled (take count bytes)) ≡ count
  pub inside : count < length bytes

plain_more : (byte count : ℕ) (bytes : List ℕ) → (byte == 39) ≡ false → (byte == 10) ≡ false → IsPlainText bytes count → IsPlainText (byte ∷ bytes) (suc count)
plain_more byte count bytes other one h = record {
  text = rw (other, one) (ap (option_map (λ t. byte ∷ t)) h.text);
  size =
      let once : doubled byte ≡ byte ∷ [] = rw other refl in
      ap (λ (d : List ℕ). length (d ++ flat_map doubled (take count bytes))) once ∙ ap suc h.size;
  inside = omega (arith, h.inside);
}

plain_here : (byte : ℕ) (bytes : List ℕ) → text_from false (byte ∷ bytes) ≡ Some [] → IsPlainText (byte ∷ bytes) 0
plain_here byte bytes h = record { text = h; size = refl; inside = omega arith }

pub plain_text : (bytes : List ℕ) → text_from false (drop (prefix_len is_plain bytes) bytes) ≡ Some [] → IsPlainText bytes (prefix_len is_plain bytes)
plain_text [] h = absurd (cc h)
plain_text (byte ∷ bytes) h =
    elim (cases_Bool (byte == 39 || byte == 10)) [
      | inl ends ↦
          let none : prefix_len is_plain (byte ∷ bytes) ≡ 0 = rw ends refl in
          rw none (plain_here byte bytes (ap (λ (n : ℕ). text_from false (drop n (byte ∷ bytes))) (sym none) ∙ h))
      | inr plain ↦
          let parts = or_parts (byte == 39) (byte == 10) plain in
          let more : prefix_len is_plain (byte ∷ bytes) ≡ suc (prefix_len is_plain bytes) = rw plain (omega arith) in
          rw more (plain_more byte (prefix_len is_plain bytes) bytes parts.0 parts.1 (plain_text bytes (ap (λ (n : ℕ). text_from false (drop n (byte ∷ bytes))) (sym more) ∙ h)))
    ]

pub plain_ended : (bytes : List ℕ) (count : ℕ) → IsPlainText bytes count → ended_text (text_from false bytes) ≡ Ok (take count bytes, count + 1)
plain_ended bytes count h = ap ended_text h.text ∙ ap (λ (n : ℕ). Ok (take count bytes, n + 1)) h.size
