use Rattle.std.proofs.Common.{◌<◌, ◌≤◌, List, length, get_or, Option, ap, refl, subst, ◌∙◌}
use Rattle.std.proofs.lemmas.List.{take_all}
use Rattle.std.specs.Prelude.{pos}
use Rattle.sk_fit.specs.declared.chain.Segment.{Segment}
use Rattle.sk_fit.specs.declared.chain.End.{End}
use Rattle.sk_fit.specs.declared.chain.End.TheVariants.{Last}
use Rattle.sk_fit.specs.Over.{IsSegmentWithin}
use Rattle.sk_report.specs.Ends.{AreEnds}
use Rattle.sk_report.proofs.MarkLemmas.{ends_more, all_at, length-marked_end}
use Rattle.sk_report.proofs.marking.mark_ends.Goals as goal

-- what the code reads past the end
abbrev no_segment : Segment
no_segment = record { anchor = record { ticks = 0; time = record { units = pos 0 } }; rate = record { units = pos 0 }; first = 0; past = 0; ended = Last }

pub loop-segment-preserved : goal.loop-segment-preserved
loop-segment-preserved c =
    let segments = c.args.segments.now in
    let dropped = c.args.dropped.now in
    let i = c.loop-segment.segment-index in
    let segment = get_or segments i no_segment in
    let less : i < length segments = c.loop-segment-test.true in
    let within : IsSegmentWithin (length dropped) segment = all_at (IsSegmentWithin (length dropped)) segments i no_segment c.requires.within less in (
      ap (λ (es : List (Option End)). length es) c.mark_end.ensures ∙ length-marked_end c.loop-segment.ends.items c.left_at-place.result segment.ended ∙ c.loop-segment.invariant.0,
      (λ rows listed long marked. ends_more rows listed dropped long marked segments i no_segment segment c.loop-segment.ends.items c.mark_end.new.ends.items c.left_at-place.result
          less refl within c.loop-segment.invariant.0 c.left_at-place.ensures c.mark_end.ensures (c.loop-segment.invariant.1 rows listed long marked)),
    )

pub returns-clause-marked : goal.returns-clause-marked
returns-clause-marked c = λ rows listed long marked.
    let past : length c.args.segments.now ≤ c.loop-segment.segment-index = c.loop-segment-test.false in
    let all = take_all c.loop-segment.segment-index c.args.segments.now past in
    subst (λ (ss : List Segment). AreEnds rows listed ss c.loop-segment.ends.items) all (c.loop-segment.invariant.1 rows listed long marked)
