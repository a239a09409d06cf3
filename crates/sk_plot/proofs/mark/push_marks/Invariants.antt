use Rattle.std.proofs.Common.{◌≡◌, ◌++◌, take}
use Rattle.std.specs.List.{flat_map}
use Rattle.sk_plot.specs.Picture.{mark_text}
use Rattle.sk_plot.proofs.mark.push_marks.Given as goal

abbrev pub invariant-loop-point : goal.invariant-loop-point
invariant-loop-point l = l.out.items ≡ l.fn.out.items ++ flat_map (mark_text l.sheet) (take l.point-index l.points)
