use Rattle.sk_least.proofs.OneCover.{one_answer}
use Rattle.sk_least.proofs.laws.one_answer.Goals as goal

pub returns : goal.returns
returns c = one_answer
