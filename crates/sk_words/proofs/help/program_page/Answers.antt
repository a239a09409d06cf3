use Rattle.std.proofs.Common.{◌++◌, ℕ, List, ap, ◌∙◌}
use Rattle.std.specs.Prelude.{codes}
use Rattle.std.specs.List.{flat_map}
use Rattle.sk_words.specs.Request.{all_commands, all_options}
use Rattle.sk_words.specs.Help.{lines, opening_rows, command_rows, shown_rows, closing, program_page}
use Rattle.sk_words.proofs.Joined.{five_parts}
use Rattle.sk_words.proofs.help.program_page.Goals as goal

pub returns : goal.returns
returns c =
    let rows = c.push_all_shown.new.page.items in
    five_parts c.new-page.result.items c.push_opening.new.page.items c.push_commands.new.page.items c.push_text.new.page.items rows c.push_lines.new.page.items
    opening_rows (flat_map command_rows all_commands) (codes "\nOptions\n") (flat_map shown_rows all_options) (lines closing)
    c.in_ok-push_opening.ensures c.in_ok-push_commands.ensures c.in_ok-push_text.ensures c.in_ok-push_all_shown.ensures
    (c.in_ok-push_lines.ensures ∙ ap (λ (texts : List (List ℕ)). rows ++ lines texts) c.closing.ensures)
    ∙ ap (λ l. l ++ program_page) c.new-page.ensures.items
