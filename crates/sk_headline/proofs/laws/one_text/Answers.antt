use Rattle.sk_headline.proofs.OneText as texts
use Rattle.sk_headline.proofs.laws.one_text.Goals as goal

pub returns : goal.returns
returns c = texts.one_text
