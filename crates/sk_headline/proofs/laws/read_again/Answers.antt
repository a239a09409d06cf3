use Rattle.sk_headline.proofs.Uses as texts
use Rattle.sk_headline.proofs.laws.read_again.Goals as goal

pub returns : goal.returns
returns c = texts.read_again
