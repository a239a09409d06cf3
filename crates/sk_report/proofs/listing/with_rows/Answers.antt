use Rattle.std.proofs.Common.{◌≡◌, ℕ, ◌+◌, ◌<◌, List, ◌++◌, length, take, drop, None, sym, ap, subst, inl, inr, ◌∙◌, append-nil, ⊎_elim}
use Rattle.std.specs.Prelude.{slice_index_or}
use Rattle.std.specs.List.{All, list_any}
use Rattle.std.proofs.lemmas.List.{take_all}
use Rattle.std.proofs.lemmas.List.Elements.{All-nil, All-more}
use Rattle.sk_checks.specs.Checks.{FirstRefuses, NoneRefuses}
use Rattle.sk_grammar.specs.Lines.{is_line_feed}
use Rattle.sk_publishing.specs.Row.{RowView}
use Rattle.sk_publishing.specs.Table.{kernel_view, row_line, row_lines_from, kind_text}
use Rattle.sk_report.specs.Report.{table_checks}
use Rattle.sk_report.specs.Line.{fields_of, IsLined}
use Rattle.sk_report.specs.Marks.{end_words, kind_word}
use Rattle.sk_report.proofs.OneLine.{row_one_line}
use Rattle.sk_report.proofs.RowLines.{checks_more, checks_refused, split_at, take_next, lines_more}
use Rattle.sk_report.proofs.listing.with_rows.Goals as goal

pub loop-place-init : goal.loop-place-init
loop-place-init c = (λ chain tells. (tt, sym (append-nil c.args.head)), All-nil (IsLined c.args.clock.now))

pub with_line-requires : goal.with_line-requires
with_line-requires c =
    let rows = c.args.observations.now in
    let place = c.loop-place.place in
    let row = c.index-observations-place.result in
    let marks = c.args.marks.now in
    let ended = slice_index_or marks.ends.items place None in
    let k = kernel_view 12 c.args.clock.now c.args.triples.now.triples in
    let words = c.as_slice.ensures.value ∙ c.end_at-ended.ensures in
    let line : c.as_slice-in-loop-place.result.now ≡ fields_of k row (kind_word marks place) (end_words rows ended) = c.as_slice-in-loop-place.ensures.value ∙ c.in_default.ensures.line.1
    ∙ ap (λ (w : List ℕ). fields_of k row w c.as_slice.result.now) c.kind_at-kind.ensures ∙ ap (λ (w : List ℕ). fields_of k row (kind_word marks place) w) words in
    record { one_line = ap (list_any is_line_feed) line ∙ row_one_line c.args.clock.now c.args.triples.now.triples rows row marks place ended c.in_default.ensures.known }

pub returns-in-Err-clause-rows : goal.returns-in-Err-clause-rows
returns-in-Err-clause-rows c = λ chain tells.
    let rows = c.args.observations.now in
    let row = c.index-observations-place.result in
    let so_far = c.loop-place.invariant.0 chain tells in
    let less : c.loop-place.place < length rows = c.loop-place-test.true in
    ⊎_elim inl (λ refused. inr (subst (λ (rs : List RowView). FirstRefuses (table_checks c.args.triples.now rs) c.in-Err.fault)
    (sym (split_at rows c.loop-place.place row less c.index-observations-place.is))
    (checks_refused c.args.triples.now (take c.loop-place.place rows) row (drop (c.loop-place.place + 1) rows) c.in-Err.fault so_far.0 refused))) c.in-Err.ensures.line

pub loop-place-preserved : goal.loop-place-preserved
loop-place-preserved c = (
  λ chain tells.
      let rows = c.args.observations.now in
      let place = c.loop-place.place in
      let row = c.index-observations-place.result in
      let so_far = c.loop-place.invariant.0 chain tells in
      let less : place < length rows = c.loop-place-test.true in
      let told = tells place less in
      let k = kernel_view 12 c.args.clock.now c.args.triples.now.triples in
      let kind = c.kind_at-kind.ensures ∙ told.kind in
      let ended = c.as_slice.ensures.value ∙ c.end_at-ended.ensures ∙ told.ended in
      let text = c.as_slice-in-loop-place.result.now in
      let line : text ≡ row_line k chain rows place row = c.as_slice-in-loop-place.ensures.value ∙ c.in_default.ensures.line.1
      ∙ ap (λ (w : List ℕ). fields_of k row w c.as_slice.result.now) kind ∙ ap (λ (w : List ℕ). fields_of k row (kind_text chain place) w) ended in (
        subst (λ (rs : List RowView). NoneRefuses (table_checks c.args.triples.now rs)) (sym (take_next rows place row less c.index-observations-place.is))
            (checks_more c.args.triples.now (take place rows) row so_far.0 c.in_default.ensures.line.0),
        lines_more k chain rows place row c.args.head c.loop-place.lines c.in-Ok.more text less c.index-observations-place.is line c.in-Ok.ensures so_far.1,
      ),
  All-more (IsLined c.args.clock.now) c.args.observations.now c.loop-place.place c.index-observations-place.result c.loop-place-test.true c.loop-place.invariant.1
      (subst (IsLined c.args.clock.now) c.index-observations-place.is c.in_default.ensures.known),
)

pub returns-clause-rows : goal.returns-clause-rows
returns-clause-rows c = λ chain tells.
    let rows = c.args.observations.now in
    let so_far = c.loop-place.invariant.0 chain tells in
    let all : take c.loop-place.place rows ≡ rows = take_all c.loop-place.place rows (let past = c.loop-place-test.false in past) in (
      subst (λ (rs : List RowView). NoneRefuses (table_checks c.args.triples.now rs)) all so_far.0,
      so_far.1 ∙ ap (λ (rs : List RowView). c.args.head ++ row_lines_from (kernel_view 12 c.args.clock.now c.args.triples.now.triples) chain rows 0 rs) all,
    )

pub returns-clause-known : goal.returns-clause-known
returns-clause-known c =
    subst (All (IsLined c.args.clock.now)) (take_all c.loop-place.place c.args.observations.now (let past = c.loop-place-test.false in past)) c.loop-place.invariant.1
