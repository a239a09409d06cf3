use Rattle.sk_plot.specs.Picture.{residuals_text, caption_text, lines_text, marks_text, sheet_of}
use Rattle.std.specs.Prelude.{pos}
use Rattle.sk_plot.proofs.Joined.{five, moved}
use Rattle.sk_plot.proofs.panel.push_residuals.Goals as goal

pub returns : goal.returns
unfolding residuals_text
returns c = five _ _ _ _ _ _ _ _ _ _ _ c.in_ok-push_band.ensures c.in_ok-push_ground.ensures
    (moved (caption_text c.args.name.now c.args.axes) _ _ _ _ c.points.ensures c.in_ok-push_caption.ensures)
    (moved (lines_text (sheet_of c.args.axes) (pos 0)) _ _ _ _ c.pieces.ensures c.in_ok-push_all_lines.ensures)
    (moved (marks_text (sheet_of c.args.axes)) _ _ _ _ c.points-2.ensures c.in_ok-push_all_marks.ensures)
