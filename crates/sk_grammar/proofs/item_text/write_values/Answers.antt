use Rattle.std.proofs.Common.{◌≡◌, ◌++◌, Bool, List, ℕ, cond, map, ap, ◌∙◌, subst}
use Rattle.std.specs.Prelude.{OnOk}
use Rattle.sk_grammar.specs.Canonical.{value_text, rows_of_three, ended_by_line_feeds}
use Rattle.sk_grammar.proofs.Threes.{has_rows}
use Rattle.sk_grammar.proofs.item_text.write_values.Goals as goal

pub returns-then-are_numbers : goal.returns-then-are_numbers
returns-then-are_numbers c =
    let values = c.args.values.now in
    let rows = has_rows values c.requires.some c.requires.valid in
    subst (λ (t : List ℕ). OnOk c.write_in_threes.result (c.write_in_threes.new.out.items ≡ c.args.out.now.items ++ t))
    (rows.in_rows ∙ ap (λ (b : Bool). ended_by_line_feeds (cond b (rows_of_three values) (map value_text values))) c.if-are_numbers.ensures)
    (c.write_in_threes.ensures rows.front (c.as_text.ensures ∙ rows.whole))
