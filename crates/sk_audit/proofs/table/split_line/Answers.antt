use Rattle.std.proofs.Common.{◌≡◌, ℕ, ◌+◌, ◌-◌, List, suc, length, take, drop, ap, sym, ◌∙◌, subst, arith}
use Rattle.std.proofs.lemmas.List.{take_rest}
use Rattle.sk_grammar.specs.Taken.{IsSplitAtFeed}
use Rattle.sk_grammar.proofs.Feeds.{none_stands, first_splits}
use Rattle.sk_audit.proofs.table.split_line.Goals as goal

pub returns-in-None : goal.returns-in-None
returns-in-None c = none_stands c.args.bytes.now (λ k below p. c.in-None.ensures k (omega arith) below p)

pub returns-in-Some : goal.returns-in-Some
returns-in-Some c =
    let bytes = c.args.bytes.now in
    let at = c.in-Some.at in
    let one : suc at ≡ at + 1 = omega arith in
    let behind : drop (suc at) bytes ≡ take (length bytes - (at + 1)) (drop (at + 1) bytes) = ap (λ (n : ℕ). drop n bytes) one ∙ sym (take_rest bytes (at + 1)) in
    subst (λ (b : List ℕ). IsSplitAtFeed bytes (take at bytes) b) behind
    (first_splits bytes at c.in-Some.ensures.0.high (λ j below p. c.in-Some.ensures.0.before j (omega arith) below p) c.in-Some.ensures.1)
