use Rattle.sk_least.specs.Hull.{AreHidden}
use Rattle.sk_least.proofs.hull.kept.Given as goal

abbrev pub invariant-loop-count : goal.invariant-loop-count
invariant-loop-count l = AreHidden l.hull l.next l.count

abbrev pub decreases-loop-count : goal.decreases-loop-count
decreases-loop-count l = l.count
