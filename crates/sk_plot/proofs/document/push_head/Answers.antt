use Rattle.sk_plot.specs.Picture.{head_text}
use Rattle.sk_plot.proofs.Joined.{five}
use Rattle.sk_plot.proofs.document.push_head.Goals as goal

pub returns : goal.returns
unfolding head_text
returns c = five _ _ _ _ _ _ _ _ _ _ _ c.in_ok-push_named.ensures c.in_ok-push_counted.ensures c.in_ok-push_text.ensures c.in_ok-push_span.ensures c.in_ok-push_text-2.ensures
