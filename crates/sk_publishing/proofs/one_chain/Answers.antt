use Rattle.sk_publishing.proofs.Chains as chains
use Rattle.sk_publishing.proofs.one_chain.Goals as goal

pub returns : goal.returns
returns c = record { law = chains.one_chain }
