use Rattle.sk_publishing.proofs.Order as order
use Rattle.sk_publishing.proofs.SmallSteps as steps
use Rattle.sk_publishing.proofs.time_law.Goals as goal

pub returns-clause-order : goal.returns-clause-order
returns-clause-order c = order.order_law

pub returns-clause-step : goal.returns-clause-step
returns-clause-step c = steps.step_law
