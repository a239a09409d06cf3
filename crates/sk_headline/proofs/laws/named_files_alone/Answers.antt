use Rattle.sk_headline.proofs.Named as named
use Rattle.sk_headline.proofs.laws.named_files_alone.Goals as goal

pub returns : goal.returns
returns c = named.named_files_alone
