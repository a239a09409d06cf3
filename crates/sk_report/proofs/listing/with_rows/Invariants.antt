use Rattle.std.proofs.Common.{◌≡◌, ℕ, ◌<◌, ◌++◌, length, take, Option}
use Rattle.std.specs.List.{All}
use Rattle.sk_checks.specs.Checks.{NoneRefuses}
use Rattle.sk_publishing.specs.Table.{ChainView, kernel_view, row_lines_from}
use Rattle.sk_report.specs.Report.{table_checks}
use Rattle.sk_report.specs.Line.{IsLined}
use Rattle.sk_report.specs.Marks.{Tells}
use Rattle.sk_report.proofs.listing.with_rows.Given as goal

abbrev pub invariant-loop-place : goal.invariant-loop-place
invariant-loop-place l = ((chain : Option ChainView) → ((place : ℕ) → place < length l.observations → Tells l.observations chain l.marks place)
    → NoneRefuses (table_checks l.triples (take l.place l.observations))
    × (l.lines ≡ l.fn.head ++ row_lines_from (kernel_view 12 l.clock l.triples.triples) chain l.observations 0 (take l.place l.observations)))
    × All (IsLined l.clock) (take l.place l.observations)
