use Rattle.std.proofs.Common.{◌≡◌, ℕ, List, [], ◌∷◌, refl, sym, ap, ◌∙◌, arith}
use Rattle.sk_grammar.specs.Lines.{held_lines}
use Rattle.sk_audit.specs.Tables.{head_of, lines_from, line_of, lines_of}
use Rattle.sk_audit.proofs.Answered.{untrue}
use Rattle.sk_audit.proofs.Same.{lines_held}
use Rattle.sk_audit.proofs.Differing.{first_differs, other_line}
use Rattle.sk_audit.proofs.Comparing.{row_at, differs_at, more_lines, more_stand}
use Rattle.sk_audit.proofs.table.Table.first_difference.Goals as goal

pub returns-in_default-clause-differs : goal.returns-in_default-clause-differs
returns-in_default-clause-differs c =
    let t = c.args.self.now in
    let rows = t.observations.now in
    let lines = c.args.lines.now in
    let held : held_lines c.as_text.result.now ≡ lines = ap held_lines c.as_text.ensures ∙ lines_held lines c.requires.valid in
    let head : c.as_slice.result.now ≡ head_of rows = c.as_slice.ensures.value ∙ c.head_line.ensures in
    first_differs [] lines (lines_of t) 1 refl (other_line lines (head_of rows) (lines_from t 0 rows)
    (λ more e. c.in_default.ensures.none more (held ∙ e ∙ ap (λ (l : List ℕ). l ∷ more) (sym head))))

pub loop-place-init : goal.loop-place-init
loop-place-init c =
    let rows = c.args.self.now.observations.now in
    let held : held_lines c.as_text.result.now ≡ c.args.lines.now = ap held_lines c.as_text.ensures ∙ lines_held c.args.lines.now c.requires.valid in
    let head : c.as_slice.result.now ≡ head_of rows = c.as_slice.ensures.value ∙ c.head_line.ensures in
    sym held ∙ c.in-Some.ensures.some ∙ ap (λ (l : List ℕ). l ∷ held_lines c.in-Some.behind.now) head

pub returns-in_default-behind_line-clause-differs : goal.returns-in_default-behind_line-clause-differs
returns-in_default-behind_line-clause-differs c =
    let t = c.args.self.now in
    let found = row_at t c.loop-place.place c.loop-place-test.true in
    let line : c.as_slice-in-loop-place.result.now ≡ line_of t c.loop-place.place found.0 = c.as_slice-in-loop-place.ensures.value ∙ c.in_ok-write_row.ensures found.0 found.1 in
    differs_at t c.args.lines.now (held_lines c.loop-place.rest.now) c.loop-place.place found.0 found.1 c.loop-place.invariant
    (λ more e. c.in_default-behind_line.ensures.none more (e ∙ ap (λ (l : List ℕ). l ∷ more) (sym line)))

pub loop-place-preserved : goal.loop-place-preserved
loop-place-preserved c =
    let t = c.args.self.now in
    let found = row_at t c.loop-place.place c.loop-place-test.true in
    let line : c.as_slice-in-loop-place.result.now ≡ line_of t c.loop-place.place found.0 = c.as_slice-in-loop-place.ensures.value ∙ c.in_ok-write_row.ensures found.0 found.1 in
    let behind = held_lines c.in-Some-behind_line.behind.now in
    more_lines t c.args.lines.now (held_lines c.loop-place.rest.now) behind c.loop-place.place found.0 found.1 c.loop-place.invariant
    (c.in-Some-behind_line.ensures.some ∙ ap (λ (l : List ℕ). l ∷ behind) line)

pub returns-clause-differs : goal.returns-clause-differs
returns-clause-differs c =
    let t = c.args.self.now in
    let end = c.loop-place-test.false in
    let within = c.loop-place.auto.place-end in
    more_stand t c.args.lines.now (held_lines c.loop-place.rest.now) c.loop-place.place (omega arith) c.loop-place.invariant
    (λ none. untrue c.has_none.result c.if-has_none.false (c.has_none.ensures.some none))
