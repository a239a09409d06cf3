use Rattle.sk_headline.proofs.Uses as texts
use Rattle.sk_headline.proofs.laws.adds_one_block.Goals as goal

pub returns : goal.returns
returns c = texts.adds_one_block
