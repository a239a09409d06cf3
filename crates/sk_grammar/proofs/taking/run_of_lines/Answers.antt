use Rattle.std.proofs.Common.{◌≡◌, ◌++◌, ◌∷◌, [], true, sym}
use Rattle.sk_grammar.specs.Lines.{is_carriage_return, without_trailing}
use Rattle.sk_grammar.specs.Texts.{is_text_line}
use Rattle.sk_grammar.proofs.Texts.{run_more}
use Rattle.sk_grammar.proofs.taking.run_of_lines.Goals as goal

pub loop-line-preserved : goal.loop-line-preserved
loop-line-preserved c =
    let front = c.loop-line.invariant.0 in
    let line = c.in-Some.line.now in
    let stays : is_text_line line ≡ true = sym c.if-not-stays.ensures in
    let whole : without_trailing is_carriage_return line ≡ line = c.ends_with_return.ensures c.if-ends_with_return.false in
    (front ++ (line ++ 10 ∷ []), run_more c.args.piece.now front c.loop-line.rest.now line c.in-Some.behind.now c.args.count c.loop-line.count c.loop-line.invariant.1 c.in-Some.ensures stays whole)
