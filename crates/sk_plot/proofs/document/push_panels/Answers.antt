use Rattle.sk_plot.specs.Picture.{panels_text}
use Rattle.sk_plot.proofs.Joined.{four}
use Rattle.sk_plot.proofs.document.push_panels.Goals as goal

pub returns : goal.returns
unfolding panels_text
returns c = four _ _ _ _ _ _ _ _ _ c.in_ok-push_kernel.ensures c.in_ok-push_newer.ensures c.in_ok-push_rate_panel.ensures c.in_ok-push_days.ensures
