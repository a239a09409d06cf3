use Rattle.std.proofs.Common.{◌≡◌, drop}
use Rattle.sk_leap.specs.Steps.{pair_at}
use Rattle.sk_leap.proofs.tdt.pair_at.Given as goal

abbrev pub invariant-loop-pair : goal.invariant-loop-pair
invariant-loop-pair l = pair_at l.fn.first l.later l.second ≡ pair_at l.current (drop l.pair-index l.later) l.second
