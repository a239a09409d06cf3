use Rattle.sk_triples.proofs.Covering.{covering_is_last}
use Rattle.sk_triples.proofs.lookup.covering_is_last.Goals as goal

pub returns : goal.returns
returns c = covering_is_last
