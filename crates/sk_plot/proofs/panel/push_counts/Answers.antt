use Rattle.sk_plot.specs.Picture.{counts_text}
use Rattle.sk_plot.proofs.Joined.{three}
use Rattle.sk_plot.proofs.panel.push_counts.Goals as goal

pub returns : goal.returns
unfolding counts_text
returns c = three _ _ _ _ _ _ _ c.in_ok-push_outside.ensures c.in_ok-push_counted.ensures c.in_ok-push_tolerance.ensures
