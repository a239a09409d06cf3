-- The advice of words that clap takes.
use Rattle.std.proofs.Common.{◌≡◌, ℕ, List, [], Result, Ok, Err, subst, sym, ap, inr, ◌∙◌}
use Rattle.std.specs.Prelude.{IfOk}
use Rattle.clap.specs.Words.{Row}
use Rattle.sk_words.specs.Words.{AreMatched}
use Rattle.sk_status.specs.declared.status.Status.{Status}
use Rattle.sk_advice.specs.Sentences.{AreSentences}
use Rattle.sk_advice.specs.Advice.{advice_lines, advice_text}
use Rattle.sk_advice.specs.Told.{IsAdvice}
use Rattle.sk_advice.proofs.Printable.{sentences_are}

advice_sentences : (rows : List Row) (ended : Status) → AreSentences (advice_text rows ended)
unfolding advice_text
advice_sentences rows ended = sentences_are (advice_lines rows ended)

given_text : (words : List (List ℕ)) (rows : List Row) (ended : Status) (text : List ℕ) → AreMatched words rows → text ≡ advice_text rows ended → IsAdvice words ended text
given_text words rows ended text m h = record {
  are_sentences = subst AreSentences (sym h) (advice_sentences rows ended);
  determined = λ none. inr (h ∙ ap (λ (r : List Row). advice_text r ended) m.are_rows);
  silent = λ some taken. absurd (some m.no_fault);
}

pub given_advice : {X E : Type 0} (view : X → List ℕ) (words : List (List ℕ)) (rows : List Row) (ended : Status) (r : Result X E)
    → AreMatched words rows → IfOk r (λ x. view x ≡ advice_text rows ended) → IfOk r (λ x. IsAdvice words ended (view x))
given_advice view words rows ended (Ok x) m h = given_text words rows ended (view x) m h
given_advice view words rows ended (Err e) m h = h
