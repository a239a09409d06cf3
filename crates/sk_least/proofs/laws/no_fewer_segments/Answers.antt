use Rattle.sk_least.proofs.Ahead.{no_fewer_segments}
use Rattle.sk_least.proofs.laws.no_fewer_segments.Goals as goal

pub returns : goal.returns
returns c = no_fewer_segments
