use Rattle.std.proofs.Common.{◌≡◌, length, take}
use Rattle.sk_report.specs.Ends.{IsMarked}
use Rattle.sk_report.proofs.marking.mark_dropped.Given as goal

abbrev pub invariant-loop-place : goal.invariant-loop-place
invariant-loop-place l = (length l.marked.items ≡ length l.fn.marked.items) × IsMarked (take l.place-index l.dropped) l.marked.items
