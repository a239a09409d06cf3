use Rattle.std.proofs.Common.{◌≡◌, take}
use Rattle.std.specs.Prelude.{fold}
use Rattle.sk_plot.specs.Picture.{worse}
use Rattle.sk_plot.proofs.extent.worst_after.Given as goal

abbrev pub invariant-loop-point : goal.invariant-loop-point
invariant-loop-point l = l.worst ≡ fold worse l.first (take l.point-index l.points)
