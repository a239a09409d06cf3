use Rattle.std.proofs.Common.{◌-◌, ◌≤◌, length}
use Rattle.sk_least.specs.Search.{AreLongestFrom}
use Rattle.sk_least.proofs.search.Search.runs.Given as goal

abbrev pub invariant-loop-first : goal.invariant-loop-first
invariant-loop-first l = record {
  within : l.first ≤ length l.self.all;
  chained : AreLongestFrom l.self 0 l.stretches.items l.first;
}

abbrev pub decreases-loop-first : goal.decreases-loop-first
decreases-loop-first l = length l.self.all - l.first
