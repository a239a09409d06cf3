use Rattle.sk_advice.proofs.Printable.{said_lines}
use Rattle.sk_advice.proofs.advice.said_advice.Goals as goal

pub returns : goal.returns
returns c =
    said_lines c.new-text.result.items c.push_lines.new.text.items c.push_lines-2.new.text.items
    c.in_ok-push_lines.ensures.0 c.in_ok-push_lines-2.ensures.0 c.new-text.ensures.items c.in_ok-push_lines.ensures.1 c.in_ok-push_lines-2.ensures.1
