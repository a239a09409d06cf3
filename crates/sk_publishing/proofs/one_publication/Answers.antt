use Rattle.sk_publishing.proofs.Sorting as sorting
use Rattle.sk_publishing.proofs.one_publication.Goals as goal

pub returns : goal.returns
returns c = record { law = sorting.one_publication }
