use Rattle.std.proofs.Common.{◌≡◌, ◌+◌, ◌*◌, ◌≤◌}
use Rattle.sk_plot.specs.Scale.{round_from, round_up}
use Rattle.sk_plot.proofs.scale.round_up.Given as goal

abbrev pub invariant-loop-more : goal.invariant-loop-more
invariant-loop-more l = record {
  steps : round_from l.more l.unit l.wanted ≡ round_up l.wanted;
  unit : l.unit ≤ 2 * l.wanted + 1;
  some : 1 ≤ l.unit;
}

abbrev pub decreases-loop-more : goal.decreases-loop-more
decreases-loop-more l = l.more
