use Rattle.sk_headline.proofs.Named as named
use Rattle.sk_headline.proofs.laws.one_outcome.Goals as goal

pub returns : goal.returns
returns c = named.one_outcome
