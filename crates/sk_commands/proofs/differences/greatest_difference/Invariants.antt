use Rattle.std.proofs.Common.{◌≡◌, take}
use Rattle.sk_checks.specs.Checks.{NoneRefuses}
use Rattle.sk_publishing.specs.Table.{kernel_view}
use Rattle.sk_report.specs.Report.{table_checks}
use Rattle.sk_outcome.specs.Sample.{greatest_difference}
use Rattle.sk_commands.proofs.differences.greatest_difference.Given as goal

-- no observation so far is refused, and this is their greatest difference
abbrev pub invariant-loop-observation : goal.invariant-loop-observation
invariant-loop-observation l = record {
  none : NoneRefuses (table_checks l.triples (take l.observation-index l.observations));
  greatest : l.greatest ≡ greatest_difference (kernel_view 12 l.clock l.triples.triples) (take l.observation-index l.observations);
}
