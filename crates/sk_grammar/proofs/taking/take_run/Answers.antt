use Rattle.std.proofs.Common.{List, ℕ, sym, subst}
use Rattle.sk_grammar.specs.Texts.{TakesTexts}
use Rattle.sk_grammar.proofs.Texts.{takes_run}
use Rattle.sk_grammar.proofs.taking.take_run.Goals as goal

pub returns : goal.returns
returns c =
    let run = c.run_of_lines-count.result in
    subst (λ (more : List (List ℕ)). TakesTexts c.args.piece.now run.rest.now c.args.lines more c.args.count run.count) (sym c.in_ok-lines.ensures)
    (takes_run c.args.piece.now run.front.now run.rest.now c.args.lines c.args.count run.count c.run_of_lines-count.ensures)
