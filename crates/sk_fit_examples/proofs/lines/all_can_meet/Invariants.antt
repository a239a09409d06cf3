use Rattle.std.proofs.Common.{ℕ, ◌<◌, get_or}
use Rattle.sk_publishing.specs.Row.{RowView}
use Rattle.sk_fit.specs.Given.{CanMeet}
use Rattle.sk_fit_examples.proofs.lines.all_can_meet.Given as goal

abbrev pub invariant-loop-obs : goal.invariant-loop-obs
invariant-loop-obs l = (k : ℕ) (d : RowView) → k < l.obs-index → CanMeet l.clock l.line (get_or l.observations k d)
