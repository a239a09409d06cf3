use Rattle.std.proofs.Common.{◌≡◌, ◌++◌, [], ℕ, List, ap, ◌∙◌}
use Rattle.std.specs.Prelude.{codes}
use Rattle.sk_words.specs.declared.tables.Command.{Command}
use Rattle.sk_words.specs.Request.{word_of}
use Rattle.sk_words.specs.Help.{row, writes, needed_text}
use Rattle.sk_words.proofs.Joined.{two_parts}
use Rattle.sk_words.proofs.help.push_command.Goals as goal

pub returns : goal.returns
returns c =
    let command : Command = c.args.command in
    let old : List ℕ = c.args.page.now.items in
    let between : List ℕ = c.push_row.new.page.items in
    let name : List ℕ = codes "  " ++ word_of command in
    let label : c.as_slice.result.now ≡ name =
    c.as_slice.ensures.value
    ∙ two_parts c.new-label.result.items c.push_text.new.page.items c.push_text-2.new.page.items (codes "  ") (word_of command)
    c.in_ok-push_text.ensures (c.in_ok-push_text-2.ensures ∙ ap (λ (w : List ℕ). c.push_text.new.page.items ++ w) c.word.ensures)
    ∙ ap (λ (l : List ℕ). l ++ name) c.new-label.ensures.items in
    two_parts old between c.push_row-2.new.page.items (row name (writes command)) (row [] (needed_text command))
    (c.in_ok-push_row.ensures ∙ ap (λ (l : List ℕ). old ++ row l c.as_bytes.result.now) label ∙ ap (λ (t : List ℕ). old ++ row name t) (c.as_bytes.ensures.value ∙ c.writes.ensures))
    (c.in_ok-push_row-2.ensures ∙ ap (λ (t : List ℕ). between ++ row [] t) (c.as_slice-2.ensures.value ∙ c.in_ok-needed.ensures))
