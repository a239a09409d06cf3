use Rattle.std.proofs.Common.{◌≡◌, length, take}
use Rattle.sk_audit.specs.Marks.{AreEnds}
use Rattle.sk_audit.proofs.marks.mark_ends.Given as goal

abbrev pub invariant-loop-segment : goal.invariant-loop-segment
invariant-loop-segment l = (length l.ends.items ≡ length l.fn.ends.items) × AreEnds (length l.fn.ends.items) (take l.segment-index l.segments) l.ends.items
