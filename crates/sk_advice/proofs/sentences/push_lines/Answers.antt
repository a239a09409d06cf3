use Rattle.std.proofs.Common.{ℕ, List, [], ◌∷◌, ◌++◌}
use Rattle.sk_advice.proofs.Printable.{one_more}
use Rattle.sk_advice.proofs.sentences.push_lines.Goals as goal

pub loop-line-preserved : goal.loop-line-preserved
loop-line-preserved c =
    let texts : List (List ℕ) = c.loop-line.invariant.0 in
    let line : List ℕ = c.as_bytes.result.now in
    (texts ++ line ∷ [], one_more c.args.text.now.items c.loop-line.text.items c.push_sentence.new.text.items line texts c.loop-line.invariant.1 c.in_ok-push_sentence.ensures)
