use Rattle.std.proofs.Common.{◌≡◌, map, take}
use Rattle.sk_publishing.specs.Terms.{sights}
use Rattle.sk_least.specs.Search.{turned}
use Rattle.sk_least.proofs.search.Search.new.Given as goal

abbrev pub invariant-loop-observation : goal.invariant-loop-observation
invariant-loop-observation l = record {
  points : l.points.items ≡ take l.observation-index (sights l.observations);
  over : l.over.items ≡ map turned (take l.observation-index (sights l.observations));
}
