use Rattle.std.proofs.Common.{◌≡◌, ◌++◌}
use Rattle.sk_plot.specs.Picture.{levels_text}
use Rattle.sk_plot.proofs.axis.push_levels.Given as goal

abbrev pub invariant-loop-k : goal.invariant-loop-k
invariant-loop-k l = l.out.items ≡ l.fn.out.items ++ levels_text l.foot l.step l.k
