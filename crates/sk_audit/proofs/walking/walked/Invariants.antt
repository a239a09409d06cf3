use Rattle.sk_audit.specs.Evaluated.{IsEvaluated}
use Rattle.sk_audit.proofs.walking.walked.Given as goal

abbrev pub invariant-loop-place : goal.invariant-loop-place
invariant-loop-place l = IsEvaluated l.scene l.place l.walk
