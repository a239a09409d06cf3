use Rattle.sk_headline.proofs.Uses as texts
use Rattle.sk_headline.proofs.laws.none_adds_none.Goals as goal

pub returns : goal.returns
returns c = texts.none_adds_none
