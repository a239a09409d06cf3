use Rattle.sk_headline.proofs.Uses as texts
use Rattle.sk_headline.proofs.laws.adds_nothing.Goals as goal

pub returns : goal.returns
returns c = texts.adds_nothing
