use Rattle.sk_inverse.proofs.Exact.{exact_tick}
use Rattle.sk_inverse.proofs.laws.exact_tick.Goals as goal

pub returns : goal.returns
returns c = exact_tick
