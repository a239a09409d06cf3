use Rattle.sk_plot.specs.Picture.{circle_text}
use Rattle.sk_plot.proofs.Joined.{five}
use Rattle.sk_plot.proofs.mark.push_circle.Goals as goal

pub returns : goal.returns
unfolding circle_text
returns c = five _ _ _ _ _ _ _ _ _ _ _ c.in_ok-push_text.ensures c.in_ok-push_text-2.ensures c.in_ok-push_placed.ensures c.in_ok-push_placed-2.ensures c.in_ok-push_text-3.ensures
