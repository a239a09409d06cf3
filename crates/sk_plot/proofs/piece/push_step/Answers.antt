use Rattle.sk_plot.specs.Picture.{step_text}
use Rattle.sk_plot.proofs.Joined.{five}
use Rattle.sk_plot.proofs.piece.push_step.Goals as goal

pub returns : goal.returns
unfolding step_text
returns c = five _ _ _ _ _ _ _ _ _ _ _ c.in_ok-push_placed.ensures c.in_ok-push_placed-2.ensures c.in_ok-push_placed-3.ensures c.in_ok-push_counted.ensures c.in_ok-push_valued.ensures
