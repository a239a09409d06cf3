use Rattle.std.proofs.Common.{ap, ◌∙◌}
use Rattle.std.specs.List.{list_any}
use Rattle.sk_grammar.specs.Lines.{is_line_feed}
use Rattle.sk_grammar.proofs.Validity.{trailing_one}
use Rattle.sk_grammar.proofs.taking.take_ended.Goals as goal

pub take_line-requires-clause-one_line : goal.take_line-requires-clause-one_line
take_line-requires-clause-one_line c = ap (list_any is_line_feed) c.without_returns.ensures ∙ trailing_one c.args.line.now c.requires.one_line
