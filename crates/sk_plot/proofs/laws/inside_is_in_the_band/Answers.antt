use Rattle.sk_plot.proofs.Heights.{inside_band}
use Rattle.sk_plot.proofs.laws.inside_is_in_the_band.Goals as goal

pub returns : goal.returns
returns c = inside_band
