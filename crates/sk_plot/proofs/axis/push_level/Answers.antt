use Rattle.sk_plot.specs.Picture.{level_text}
use Rattle.sk_plot.proofs.Joined.{five, label_at}
use Rattle.sk_plot.proofs.axis.push_level.Goals as goal

pub returns : goal.returns
unfolding level_text
returns c = five _ _ _ _ _ _ _ _ _ _ _ c.in_ok-push_counted.ensures c.in_ok-push_counted-2.ensures c.in_ok-push_text.ensures
    (label_at _ _ _ _ _ c.level_value.ensures c.in_ok-push_label.ensures) c.in_ok-push_text-2.ensures
