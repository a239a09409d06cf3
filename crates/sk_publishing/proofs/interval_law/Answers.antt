use Rattle.sk_publishing.proofs.Bounds as bounds
use Rattle.sk_publishing.proofs.interval_law.Goals as goal

pub returns-clause-law : goal.returns-clause-law
returns-clause-law c = bounds.interval_law

pub returns-clause-pair : goal.returns-clause-pair
returns-clause-pair c = bounds.pair_law
