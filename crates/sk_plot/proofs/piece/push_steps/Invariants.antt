use Rattle.std.proofs.Common.{◌≡◌, ◌++◌, take}
use Rattle.std.specs.List.{flat_map}
use Rattle.sk_plot.specs.Picture.{met_text}
use Rattle.sk_plot.proofs.piece.push_steps.Given as goal

abbrev pub invariant-loop-piece : goal.invariant-loop-piece
invariant-loop-piece l = l.out.items ≡ l.fn.out.items ++ flat_map (met_text l.sheet) (take l.piece-index l.pieces)
