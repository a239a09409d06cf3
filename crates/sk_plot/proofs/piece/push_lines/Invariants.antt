use Rattle.std.proofs.Common.{◌≡◌, ◌++◌, drop}
use Rattle.std.specs.Prelude.{pos}
use Rattle.sk_plot.specs.Picture.{lines_text}
use Rattle.sk_plot.proofs.piece.push_lines.Given as goal

-- what is written, with what is left to write, is the whole
abbrev pub invariant-loop-piece : goal.invariant-loop-piece
invariant-loop-piece l = l.out.items ++ lines_text l.sheet l.next.units (drop l.piece-index l.pieces) ≡ l.fn.out.items ++ lines_text l.sheet (pos 0) l.pieces
