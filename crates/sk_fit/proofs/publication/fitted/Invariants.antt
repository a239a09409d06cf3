use Rattle.sk_fit.specs.Fitted.{IsFitted}
use Rattle.sk_fit.specs.Context.{terms}
use Rattle.sk_fit.proofs.publication.fitted.Given as goal

abbrev pub invariant-loop-place : goal.invariant-loop-place
invariant-loop-place l = IsFitted (terms l.fit) l.fit.rows l.place l.fitting
