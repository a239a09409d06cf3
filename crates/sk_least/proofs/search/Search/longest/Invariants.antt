use Rattle.sk_least.specs.Search.{IsRun}
use Rattle.sk_least.proofs.search.Search.longest.Given as goal

abbrev pub invariant-loop-past : goal.invariant-loop-past
invariant-loop-past l = IsRun l.self l.first l.past l.hulls
