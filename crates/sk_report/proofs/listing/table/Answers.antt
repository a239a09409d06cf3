use Rattle.std.proofs.Common.{◌≡◌, subst, sym, rules}
use Rattle.std.specs.List.{All}
use Rattle.std.specs.Option.{option_map}
use Rattle.sk_grammar.specs.Document.{IsTextLine}
use Rattle.sk_report.specs.Report.{table_of}
use Rattle.sk_report.proofs.TextLines.{text_lines}
use Rattle.sk_report.proofs.listing.table.Goals as goal

pub returns-in-Ok-with_rows-clause-lines : goal.returns-in-Ok-with_rows-clause-lines
returns-in-Ok-with_rows-clause-lines c =
    let chain = option_map (λ p. p.now) c.args.chain in
    let is : c.in-Ok-with_rows.lines ≡ table_of c.args.clock.now c.args.triples.now c.args.observations.now chain = search rules in
    subst (All IsTextLine) (sym is) (text_lines c.args.clock.now c.args.triples.now c.args.observations.now chain c.in-Ok-with_rows.ensures.known)
