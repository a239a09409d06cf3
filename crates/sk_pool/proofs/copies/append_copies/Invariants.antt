use Rattle.std.proofs.Common.{◌≡◌, ◌++◌, take}
use Rattle.sk_pool.proofs.copies.append_copies.Given as goal

abbrev pub invariant-loop-value : goal.invariant-loop-value
invariant-loop-value l = l.held ≡ l.initial.held ++ take l.value-index l.added
