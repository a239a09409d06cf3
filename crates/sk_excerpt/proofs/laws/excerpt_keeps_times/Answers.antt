use Rattle.sk_excerpt.proofs.Law.{excerpt_law}
use Rattle.sk_excerpt.proofs.laws.excerpt_keeps_times.Goals as goal

pub returns : goal.returns
returns c = excerpt_law
