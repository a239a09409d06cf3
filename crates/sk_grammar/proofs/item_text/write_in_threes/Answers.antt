use Rattle.std.proofs.Common.{◌≡◌, ◌+◌, ℕ, List, [], ◌∷◌, ◌++◌, drop, get_or, ap, sym, ◌∙◌, append_assoc, arith}
use Rattle.std.proofs.Math.ListN.{drop_of_length-le}
use Rattle.std.proofs.lemmas.List.{drop_more}
use Rattle.sk_grammar.specs.Writing.{in_threes}
use Rattle.sk_grammar.proofs.Lists.{append-[], same_last}
use Rattle.sk_grammar.proofs.item_text.write_in_threes.Goals as goal

pub loop-byte-preserved : goal.loop-byte-preserved
loop-byte-preserved c =
    let front = c.in-Some.front.now in
    let i = c.loop-byte.byte-index in
    let byte = get_or front i 0 in
    let rest = drop (i + 1) front in
    let out = c.loop-byte.out.items in
    let here : drop i front ≡ byte ∷ rest = drop_more front i 0 (omega arith) in
    record {
      column = c.in_row-written.ensures.column;
      threes = ap (λ (t : List ℕ). t ++ in_threes c.in_row-written.result.1 rest) c.in_ok-push.ensures.items
          ∙ append_assoc out (c.in_row-written.result.0 ∷ []) (in_threes c.in_row-written.result.1 rest)
          ∙ ap (λ (t : List ℕ). out ++ t) (sym (c.in_row-written.ensures.row rest))
          ∙ ap (λ (t : List ℕ). out ++ in_threes c.loop-byte.column t) (sym here)
          ∙ c.loop-byte.invariant.threes;
    }

pub returns : goal.returns
returns c = λ front whole.
    let held = c.in-Some.front.now in
    let out = c.loop-byte.out.items in
    let start = c.args.out.now.items in
    let same = same_last held front c.in-Some.last.now 10 (sym c.in-Some.ensures.cases.0 ∙ whole) in
    let none : drop c.loop-byte.byte-index held ≡ [] = drop_of_length-le held {i = c.loop-byte.byte-index} (omega arith) in
    let written : out ≡ start ++ in_threes 1 front =
    sym (append-[] out) ∙ ap (λ (t : List ℕ). out ++ in_threes c.loop-byte.column t) (sym none) ∙ c.loop-byte.invariant.threes ∙ ap (λ (t : List ℕ). start ++ in_threes 1 t) same.0 in
    c.in_ok-push-2.ensures.items
    ∙ ap (λ (b : ℕ). out ++ b ∷ []) same.1
    ∙ ap (λ (t : List ℕ). t ++ 10 ∷ []) written
    ∙ append_assoc start (in_threes 1 front) (10 ∷ [])
