use Rattle.std.proofs.Common.{◌≡◌, take}
use Rattle.sk_checks.specs.Checks.{NoneRefuses}
use Rattle.sk_publishing.specs.Table.{kernel_view}
use Rattle.sk_report.specs.Report.{table_checks}
use Rattle.sk_outcome.specs.Drawn.{points_of}
use Rattle.sk_commands.proofs.drawn.points_of.Given as goal

-- no observation so far is refused, and these are their points
abbrev pub invariant-loop-observation : goal.invariant-loop-observation
invariant-loop-observation l = record {
  none : NoneRefuses (table_checks l.triples (take l.observation-index l.observations));
  points : l.points.items ≡ points_of (kernel_view 12 l.clock l.triples.triples) (take l.observation-index l.observations);
}
