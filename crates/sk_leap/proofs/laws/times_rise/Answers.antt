use Rattle.sk_leap.proofs.Rising.{rising}
use Rattle.sk_leap.proofs.laws.times_rise.Goals as goal

pub returns : goal.returns
returns c = rising
