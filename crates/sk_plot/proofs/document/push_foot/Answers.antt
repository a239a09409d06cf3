use Rattle.sk_plot.specs.Picture.{foot_text}
use Rattle.sk_plot.proofs.Joined.{three}
use Rattle.sk_plot.proofs.document.push_foot.Goals as goal

pub returns : goal.returns
unfolding foot_text
returns c = three _ _ _ _ _ _ _ c.in_ok-push_counted.ensures c.in_ok-push_named.ensures c.in_ok-push_text.ensures
