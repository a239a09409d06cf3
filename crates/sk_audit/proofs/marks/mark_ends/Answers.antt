use Rattle.std.proofs.Common.{◌<◌, List, length, get_or, None, Option, ap, refl, ◌∙◌}
use Rattle.std.specs.Prelude.{pos}
use Rattle.sk_audit.specs.declared.told.Told.{Told}
use Rattle.sk_audit.specs.declared.told.End.{End}
use Rattle.sk_audit.specs.declared.told.End.TheVariants.{Last}
use Rattle.sk_audit.proofs.Marking.{ends_more, length-marked_end}
use Rattle.sk_audit.proofs.marks.mark_ends.Goals as goal

-- what the code reads past the end
abbrev no_segment : Told
no_segment = record { anchor = record { ticks = 0; time = record { units = pos 0 } }; rate = record { units = pos 0 }; place = None; ended = Last }

pub loop-segment-preserved : goal.loop-segment-preserved
loop-segment-preserved c =
    let segments = c.args.segments.now in
    let i = c.loop-segment.segment-index in
    let segment = get_or segments i no_segment in
    let less : i < length segments = c.loop-segment-test.true in (
      ap (λ (es : List (Option End)). length es) c.mark_end.ensures ∙ length-marked_end c.loop-segment.ends.items segment.place segment.ended ∙ c.loop-segment.invariant.0,
      ends_more (length c.args.ends.now.items) segments i no_segment segment c.loop-segment.ends.items c.mark_end.new.ends.items less refl c.loop-segment.invariant.0 c.mark_end.ensures c.loop-segment.invariant.1,
    )
