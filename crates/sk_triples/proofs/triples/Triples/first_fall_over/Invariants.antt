use Rattle.std.proofs.Common.{ℕ, ◌^◌, ◌<◌, pos, ◌*ℤ◌}
use Rattle.sk_line.specs.Line.{FallsOver}
use Rattle.sk_triples.proofs.triples.Triples.first_fall_over.Given as goal

abbrev pub invariant-loop-join : goal.invariant-loop-join
invariant-loop-join l = (k : ℕ) → k < l.join → ¬ FallsOver l.self-inside.ticks_per l.self-inside.list.items (l.fn.slip.units *ℤ pos (10 ^ 9)) k
