use Rattle.std.proofs.Common.{◌≡◌, length, take}
use Rattle.sk_audit.specs.Marks.{IsMarked}
use Rattle.sk_audit.proofs.marks.mark_dropped.Given as goal

abbrev pub invariant-loop-place : goal.invariant-loop-place
invariant-loop-place l = (length l.marked.items ≡ length l.fn.marked.items) × IsMarked (take l.place-index l.dropped) l.marked.items
