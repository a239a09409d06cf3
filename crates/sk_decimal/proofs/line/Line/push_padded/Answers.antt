use Rattle.std.proofs.Common.{◌≡◌, ℕ, List, ◌-◌, ◌≤◌, ◌++◌, length, take, replicate, ap, ◌∙◌, append_assoc, arith}
use Rattle.std.specs.Fmt.{decimal}
use Rattle.std.proofs.lemmas.List.{take-replicate}
use Rattle.sk_decimal.proofs.line.Line.push_padded.Goals as goal

padded : (line front all digits text : List ℕ) (width missing : ℕ) → width ≤ 40 → digits ≡ text → missing ≡ width - length digits
    → front ≡ line ++ take missing (replicate 40 48) → all ≡ front ++ digits → all ≡ line ++ (replicate (width - length text) 48 ++ text)
padded line front all digits text width missing le is gap h k =
    let short : missing ≤ 40 = omega (arith, gap) in
    k ∙ ap (λ (l : List ℕ). l ++ digits) (h ∙ ap (λ (l : List ℕ). line ++ l) (take-replicate missing 40 48 short ∙ ap (λ (n : ℕ). replicate n 48) gap))
    ∙ append_assoc line (replicate (width - length digits) 48) digits
    ∙ ap (λ (l : List ℕ). line ++ (replicate (width - length l) 48 ++ l)) is

pub returns : goal.returns
returns c =
    let text : c.as_bytes-digits.result.now ≡ decimal c.args.number = c.as_bytes-digits.ensures.value ∙ c.format.ensures.text in
    let h : c.push.new.self ≡ c.args.self.now ++ take c.saturating_sub-missing.result (replicate 40 48) = c.push.ensures in
    padded c.args.self.now c.push.new.self c.push-2.new.self c.as_bytes-digits.result.now (decimal c.args.number) c.args.width c.saturating_sub-missing.result c.requires.width text c.saturating_sub-missing.ensures h c.push-2.ensures
