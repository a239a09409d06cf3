use Rattle.std.proofs.Common.{length, ◌-◌}
use Rattle.sk_least.proofs.Sides.{IsClimbedTo}
use Rattle.sk_least.proofs.hull.steepest.Given as goal

abbrev pub invariant-loop-place : goal.invariant-loop-place
invariant-loop-place l = IsClimbedTo l.slack l.hull l.next l.place

abbrev pub decreases-loop-place : goal.decreases-loop-place
decreases-loop-place l = length l.hull - l.place
