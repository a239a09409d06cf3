use Rattle.std.proofs.Common.{◌≡◌, ◌+◌, ℕ, List, [], ap, sym, ◌∙◌, subst, arith, false, drop, take, Some, Ok, Result}
use Rattle.std.specs.List.{prefix_len}
use Rattle.std.proofs.lemmas.List.Sums.{prefix_len-le-length}
use Rattle.sk_grammar.specs.declared.fault.Reason.{Reason}
use Rattle.sk_grammar.specs.Quotes.{is_plain}
use Rattle.sk_grammar.specs.ValueReading.{text_from}
use Rattle.sk_grammar.proofs.PlainTexts.{IsPlainText, plain_text, plain_ended}
use Rattle.sk_grammar.proofs.tokens.text_at.Goals as goal

abbrev answered : List ℕ → ℕ → Result (List ℕ × ℕ) Reason
answered text size = Ok (text, size)

pub split_at-requires : goal.split_at-requires
split_at-requires c = omega (arith, c.plain_count-count.ensures, prefix_len-le-length is_plain c.args.bytes.now)

pub returns-in-Ok-clause-answer : goal.returns-in-Ok-clause-answer
returns-in-Ok-clause-answer c =
    let bytes = c.args.bytes.now in
    let count = c.plain_count-count.result in
    let is : count ≡ prefix_len is_plain bytes = c.plain_count-count.ensures in
    let copy_is : c.in-Ok.copy ≡ take count bytes = c.in-Ok.ensures ∙ c.split_at.ensures.front in
    let ends : text_from false (drop count bytes) ≡ Some [] = ap (text_from false) (sym c.split_at.ensures.back) ∙ c.ends_text.ensures c.if-not-ends_text.false in
    let plain = plain_text bytes (ap (λ (n : ℕ). text_from false (drop n bytes)) (sym is) ∙ ends) in
    plain_ended bytes count (subst (IsPlainText bytes) (sym is) plain) ∙ ap (λ (t : List ℕ). answered t (count + 1)) (sym copy_is)
