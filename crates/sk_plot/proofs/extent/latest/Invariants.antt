use Rattle.std.proofs.Common.{◌≡◌, ◌^◌, take}
use Rattle.std.specs.Prelude.{ℤ, pos, ◌≤ℤ◌, fold}
use Rattle.std.specs.Int.{int_max}
use Rattle.sk_plot.specs.Point.{PointView}
use Rattle.sk_plot.proofs.extent.latest.Given as goal

abbrev pub invariant-loop-point : goal.invariant-loop-point
invariant-loop-point l = (l.most.units ≡ fold (λ (t : ℤ) (p : PointView). int_max t p.time) l.initial.most.units (take l.point-index l.points)) × (l.most.units ≤ℤ pos (10 ^ 22)) × (l.initial.most.units ≤ℤ l.most.units)
