use Rattle.std.proofs.Common.{◌≡◌, ◌++◌, codes, decimal, ap, ◌∙◌, rules}
use Rattle.std.specs.List.{list_any}
use Rattle.sk_grammar.specs.Lines.{is_line_feed}
use Rattle.sk_report.proofs.TextLines.{head_plain, is_one_line}
use Rattle.sk_report.proofs.listing.head_line.Goals as goal

pub with_line-requires : goal.with_line-requires
with_line-requires c =
    let line : c.as_slice.result.now ≡ codes "residuals;" ++ decimal c.args.count = search rules in
    record { one_line = ap (list_any is_line_feed) line ∙ is_one_line 74 (codes "residuals;" ++ decimal c.args.count) (head_plain c.args.count) }
