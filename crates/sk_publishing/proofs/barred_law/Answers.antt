use Rattle.sk_publishing.proofs.Barred as barred
use Rattle.sk_publishing.proofs.barred_law.Goals as goal

pub returns : goal.returns
returns c = record { law = barred.barred_law }
