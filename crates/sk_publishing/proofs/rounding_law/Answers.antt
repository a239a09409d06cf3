use Rattle.sk_publishing.proofs.RoundedUp as rounded
use Rattle.sk_publishing.proofs.rounding_law.Goals as goal

pub returns : goal.returns
returns c = record { law = rounded.rounding_law }
