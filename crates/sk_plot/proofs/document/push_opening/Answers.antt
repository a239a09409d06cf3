use Rattle.sk_plot.specs.Picture.{opening}
use Rattle.sk_plot.proofs.Joined.{four}
use Rattle.sk_plot.proofs.document.push_opening.Goals as goal

pub returns : goal.returns
unfolding opening
returns c = four _ _ _ _ _ _ _ _ _ c.in_ok-push_counted.ensures c.in_ok-push_counted-2.ensures c.in_ok-push_counted-3.ensures c.in_ok-push_text.ensures
