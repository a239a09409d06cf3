use Rattle.sk_plot.specs.Picture.{rates_text}
use Rattle.sk_plot.proofs.Joined.{four}
use Rattle.sk_plot.proofs.panel.push_rates.Goals as goal

pub returns : goal.returns
unfolding rates_text
returns c = four _ _ _ _ _ _ _ _ _ c.in_ok-push_ground.ensures c.in_ok-push_rates_caption.ensures c.in_ok-push_all_lines.ensures c.in_ok-push_all_steps.ensures
