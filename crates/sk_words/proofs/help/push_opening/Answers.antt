use Rattle.std.proofs.Common.{◌++◌, ℕ, List, ap, ◌∙◌}
use Rattle.std.specs.Prelude.{codes}
use Rattle.sk_words.specs.Help.{version, lines, opening}
use Rattle.sk_words.proofs.Joined.{four_parts}
use Rattle.sk_words.proofs.help.push_opening.Goals as goal

pub returns : goal.returns
returns c =
    let rows = c.push_text-3.new.page.items in
    four_parts c.args.page.now.items c.push_text.new.page.items c.push_text-2.new.page.items rows c.push_lines.new.page.items
    (codes "station ") version (codes ": ") (lines opening)
    c.in_ok-push_text.ensures c.in_ok-push_text-2.ensures c.in_ok-push_text-3.ensures
    (c.in_ok-push_lines.ensures ∙ ap (λ (texts : List (List ℕ)). rows ++ lines texts) c.opening.ensures)
