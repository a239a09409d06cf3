use Rattle.sk_least.proofs.Needed.{no_fewer_lines}
use Rattle.sk_least.proofs.laws.no_fewer_lines.Goals as goal

pub returns : goal.returns
returns c = no_fewer_lines
