use Rattle.sk_excerpt.proofs.Law.{join_law}
use Rattle.sk_excerpt.proofs.laws.joined_in_turn.Goals as goal

pub returns : goal.returns
returns c = join_law
