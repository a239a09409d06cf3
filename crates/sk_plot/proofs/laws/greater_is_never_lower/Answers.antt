use Rattle.sk_plot.proofs.Heights.{never_lower}
use Rattle.sk_plot.proofs.laws.greater_is_never_lower.Goals as goal

pub returns : goal.returns
returns c = never_lower
