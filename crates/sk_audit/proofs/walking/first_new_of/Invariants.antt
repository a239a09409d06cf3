use Rattle.sk_audit.specs.Walked.{AreOldTicks}
use Rattle.sk_audit.proofs.walking.first_new_of.Given as goal

abbrev pub invariant-loop-place : goal.invariant-loop-place
invariant-loop-place l = AreOldTicks l.clock l.start.old.anchor.ticks l.start.seam l.observations l.place
