use Rattle.std.proofs.Common.{◌≡◌, ℕ, List, length, take}
use Rattle.sk_publishing.specs.Row.{RowView}
use Rattle.sk_report.specs.Ends.{IsMarked, AreEnds}
use Rattle.sk_report.proofs.marking.mark_ends.Given as goal

abbrev pub invariant-loop-segment : goal.invariant-loop-segment
invariant-loop-segment l = (length l.ends.items ≡ length l.dropped) × ((rows : List RowView) (listed : List ℕ) → length rows ≡ length l.dropped → IsMarked listed l.dropped
    → AreEnds rows listed (take l.segment-index l.segments) l.ends.items)
