use Rattle.std.proofs.Common.{◌++◌, ◌∷◌, [], ℕ, List, ap, ◌∙◌, ◌≡◌}
use Rattle.std.specs.Prelude.{codes}
use Rattle.std.specs.List.{flat_map}
use Rattle.sk_words.specs.declared.tables.Command.{Command}
use Rattle.sk_words.specs.Request.{uses}
use Rattle.sk_words.specs.Help.{lines, heading_of, usage_of, option_rows, remarks, command_page}
use Rattle.sk_words.proofs.Joined.{six_parts, two_parts, five_parts}
use Rattle.sk_words.proofs.help.command_page.Goals as goal

pub returns : goal.returns
returns c =
    let command : Command = c.args.command in
    let rows : List ℕ = c.push.new.self.items in
    six_parts c.new-page.result.items c.push_heading.new.page.items c.push_usage.new.page.items c.push_text.new.page.items c.push_used.new.page.items rows c.push_lines.new.page.items
    (heading_of command) (usage_of command) (codes "\n\nOptions\n") (flat_map option_rows (uses command)) (10 ∷ []) (lines (remarks command))
    c.in_ok-push_heading.ensures c.in_ok-push_usage.ensures c.in_ok-push_text.ensures c.in_ok-push_used.ensures c.in_ok-push.ensures.items
    (c.in_ok-push_lines.ensures ∙ ap (λ (texts : List (List ℕ)). rows ++ lines texts) c.remarks.ensures)
    ∙ ap (λ (l : List ℕ). l ++ command_page command) c.new-page.ensures.items
