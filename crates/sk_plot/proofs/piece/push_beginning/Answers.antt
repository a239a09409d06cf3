use Rattle.sk_plot.specs.Picture.{beginning_text}
use Rattle.sk_plot.proofs.Joined.{eight}
use Rattle.sk_plot.proofs.piece.push_beginning.Goals as goal

pub returns : goal.returns
unfolding beginning_text
returns c = eight _ _ _ _ _ _ _ _ _ _ _ _ _ _ _ _ _ c.in_ok-push_text.ensures c.in_ok-push_text-2.ensures c.in_ok-push_placed.ensures c.in_ok-push_counted.ensures
    c.in_ok-push_placed-2.ensures c.in_ok-push_counted-2.ensures c.in_ok-push_counted-3.ensures c.in_ok-push_text-3.ensures
