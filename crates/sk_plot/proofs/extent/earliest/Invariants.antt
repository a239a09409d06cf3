use Rattle.std.proofs.Common.{◌≡◌, ◌^◌, take}
use Rattle.std.specs.Prelude.{ℤ, pos, neg_ℤ, ◌≤ℤ◌, fold}
use Rattle.std.specs.Int.{int_min}
use Rattle.sk_plot.specs.Point.{PointView}
use Rattle.sk_plot.proofs.extent.earliest.Given as goal

abbrev pub invariant-loop-point : goal.invariant-loop-point
invariant-loop-point l = (l.least.units ≡ fold (λ (t : ℤ) (p : PointView). int_min t p.time) l.initial.least.units (take l.point-index l.points)) × (neg_ℤ (pos (10 ^ 22)) ≤ℤ l.least.units) × (l.least.units ≤ℤ l.initial.least.units)
