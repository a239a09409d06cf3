use Rattle.std.proofs.Common.{◌≡◌, ℕ, List, ◌++◌}
use Rattle.sk_advice.specs.Sentences.{sentences}
use Rattle.sk_advice.proofs.sentences.push_lines.Given as goal

abbrev pub invariant-loop-line : goal.invariant-loop-line
invariant-loop-line l = (texts : List (List ℕ)) × (l.text.items ≡ l.fn.text.items ++ sentences texts)
