use Rattle.std.proofs.Common.{◌≡◌, ℕ, List, get_or, ap, subst, ◌∙◌}
use Rattle.std.proofs.lemmas.Result.{on_ok_weaker}
use Rattle.std.proofs.lemmas.Option.{get_or_from_slice_get}
use Rattle.sk_clock.specs.Clock.{clock_text}
use Rattle.sk_publishing.specs.Row.{RowView}
use Rattle.sk_audit.specs.Marks.{kind_word}
use Rattle.sk_audit.specs.Rows.{line_with, IsTimed}
use Rattle.sk_audit.specs.Tables.{line_of}
use Rattle.sk_audit.proofs.Rowing.{row_is}
use Rattle.sk_audit.proofs.table.Table.write_row.Goals as goal

pub returns : goal.returns
returns c =
    let t = c.args.self.now in
    let timed = c.in-Ok.timed in
    let found : RowView = c.index-self-place.result in
    let seen : RowView = get_or t.observations.now c.args.place found in
    let clock = t.clock.now in
    let tick_is : c.observation.inside.tick ≡ seen.tick = ap (λ (r : RowView). r.tick) c.observation.view_is in
    let text = clock_text clock seen.tick in
    let kind = c.kind_at-kind.result.now in
    let ended = c.as_slice.result.now in
    on_ok_weaker c.write_line.result (λ written row here.
    subst (λ (r : RowView). c.write_line.new.out.items ≡ line_of t c.args.place r) (get_or_from_slice_get t.observations.now c.args.place row found here) (
    written
    ∙ ap (λ (l : List ℕ). line_with seen l timed kind ended) (c.as_str.ensures.value ∙ c.in_ok-text.ensures)
    ∙ ap (λ (l : List ℕ). line_with seen text timed l ended) c.kind_at-kind.ensures
    ∙ ap (λ (l : List ℕ). line_with seen text timed (kind_word t.marks.now c.args.place) l) (c.as_slice.ensures.value ∙ c.end_at-ended.ensures)
    ∙ row_is clock t.triples.now seen timed _ _ (subst (λ (n : ℕ). IsTimed t.triples.now n timed) tick_is c.in-Ok.ensures.timed.1) c.requires.triples.0
    )) c.write_line.ensures
