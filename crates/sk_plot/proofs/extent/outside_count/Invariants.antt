use Rattle.std.proofs.Common.{◌≡◌, ◌≤◌, take}
use Rattle.std.specs.Prelude.{count_by, not}
use Rattle.sk_plot.specs.Point.{PointView}
use Rattle.sk_plot.specs.Place.{is_inside}
use Rattle.sk_plot.proofs.extent.outside_count.Given as goal

abbrev pub invariant-loop-point : goal.invariant-loop-point
invariant-loop-point l = (l.count ≡ count_by (λ (p : PointView). not (is_inside l.tolerance p.residual)) (take l.point-index l.points)) × (l.count ≤ l.point-index)
