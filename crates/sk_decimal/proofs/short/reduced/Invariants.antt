use Rattle.std.proofs.Common.{◌≡◌}
use Rattle.sk_decimal.specs.Reading.{reduced}
use Rattle.sk_decimal.proofs.short.reduced.Given as goal

abbrev pub invariant-loop-scale : goal.invariant-loop-scale
invariant-loop-scale l = reduced l.scale l.size ≡ reduced l.fn.scale l.fn.size

abbrev pub decreases-loop-scale : goal.decreases-loop-scale
decreases-loop-scale l = l.scale
