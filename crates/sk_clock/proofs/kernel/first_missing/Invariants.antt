use Rattle.std.proofs.Common.{Option, drop}
use Rattle.sk_clock.specs.declared.fault.ClockName.{ClockName}
use Rattle.sk_clock.proofs.KernelLemmas.{FindsMissing}
use Rattle.sk_clock.proofs.kernel.first_missing.Given as goal

abbrev pub invariant-loop-name : goal.invariant-loop-name
invariant-loop-name l = (found : Option ClockName) → FindsMissing l.pool l.sc (drop l.name-index l.names) found → FindsMissing l.pool l.sc l.names found
