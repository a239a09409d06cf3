use Rattle.sk_headline.proofs.Uses as texts
use Rattle.sk_headline.proofs.laws.text_is_read.Goals as goal

pub returns : goal.returns
returns c = texts.text_is_read
