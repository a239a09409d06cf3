use Rattle.sk_plot.specs.Picture.{caption_text}
use Rattle.sk_plot.proofs.Joined.{five}
use Rattle.sk_plot.proofs.panel.push_caption.Goals as goal

pub returns : goal.returns
unfolding caption_text
returns c = five _ _ _ _ _ _ _ _ _ _ _ c.in_ok-push_counted.ensures c.in_ok-push_named.ensures c.in_ok-push_counts.ensures c.in_ok-push_worst_of.ensures c.in_ok-push_text.ensures
