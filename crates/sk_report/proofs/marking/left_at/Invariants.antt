use Rattle.std.proofs.Common.{◌≡◌, ℕ, ◌-◌, ◌<◌, ◌≤◌, true, false, get_or}
use Rattle.sk_report.proofs.marking.left_at.Given as goal

abbrev pub invariant-back : goal.invariant-back
invariant-back l = (l.place ≤ l.past) × ((k : ℕ) → l.place ≤ k → l.first ≤ k → k < l.past → get_or l.dropped k false ≡ true)

abbrev pub decreases-back : goal.decreases-back
decreases-back l = l.place - l.first
