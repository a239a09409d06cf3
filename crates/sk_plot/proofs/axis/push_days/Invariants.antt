use Rattle.std.proofs.Common.{◌≡◌, ◌++◌}
use Rattle.sk_plot.specs.Picture.{days_text}
use Rattle.sk_plot.proofs.axis.push_days.Given as goal

abbrev pub invariant-loop-k : goal.invariant-loop-k
invariant-loop-k l = l.out.items ≡ l.fn.out.items ++ days_text l.y l.days l.k
