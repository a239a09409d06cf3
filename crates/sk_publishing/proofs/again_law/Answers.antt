use Rattle.sk_publishing.proofs.Again as again
use Rattle.sk_publishing.proofs.again_law.Goals as goal

pub returns-clause-again : goal.returns-clause-again
returns-clause-again c = again.again_law

pub returns-clause-none : goal.returns-clause-none
returns-clause-none c = again.none_law
