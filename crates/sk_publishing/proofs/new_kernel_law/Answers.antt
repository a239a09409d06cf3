use Rattle.sk_publishing.proofs.NewKernel as new
use Rattle.sk_publishing.proofs.new_kernel_law.Goals as goal

pub returns-clause-tolerance : goal.returns-clause-tolerance
returns-clause-tolerance c = new.tolerance_law

pub returns-clause-order : goal.returns-clause-order
returns-clause-order c = new.no_fall_law
