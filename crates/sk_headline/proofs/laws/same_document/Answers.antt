use Rattle.sk_headline.proofs.Uses as texts
use Rattle.sk_headline.proofs.laws.same_document.Goals as goal

pub returns : goal.returns
returns c = texts.same_document
