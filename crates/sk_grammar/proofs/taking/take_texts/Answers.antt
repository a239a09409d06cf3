use Rattle.std.proofs.Common.{◌≡◌, ℕ, ◌+◌, ◌++◌, List, [], ◌∷◌, true, ap, sym, ◌∙◌, subst}
use Rattle.std.specs.List.{list_any}
use Rattle.sk_grammar.specs.Lines.{is_line_feed, is_carriage_return, without_trailing}
use Rattle.sk_grammar.specs.Texts.{is_text_line, TakesTexts}
use Rattle.sk_grammar.proofs.Texts.{text_more, texts_further}
use Rattle.sk_grammar.proofs.Validity.{trailing_one}
use Rattle.sk_grammar.proofs.taking.take_texts.Goals as goal

pub with_line-requires : goal.with_line-requires
with_line-requires c = record { one_line = ap (list_any is_line_feed) c.without_returns-whole.ensures ∙ trailing_one c.in-Some.line.now c.in-Some.ensures.one_line }

pub loop-line-preserved : goal.loop-line-preserved
loop-line-preserved c =
    let piece = c.args.piece.now in
    let line = c.in-Some.line.now in
    let behind = c.in-Some.behind.now in
    let so = c.loop-line.texts in
    let next = c.in_ok-texts-2.texts in
    let whole : c.without_returns-whole.result.now ≡ without_trailing is_carriage_return line = c.without_returns-whole.ensures in
    let stays : is_text_line (without_trailing is_carriage_return line) ≡ true = sym (ap is_text_line whole) ∙ sym c.if-not-stays.ensures in
    let longer : c.in_ok-lines.lines ≡ so.lines ++ without_trailing is_carriage_return line ∷ [] = c.in_ok-lines.ensures ∙ ap (λ (w : List ℕ). so.lines ++ w ∷ []) whole in
    let one = text_more piece so.rest.now line behind c.args.lines so.lines c.args.count so.count c.loop-line.invariant c.in-Some.ensures stays in
    texts_further piece behind next.rest.now c.args.lines c.in_ok-lines.lines next.lines c.args.count (so.count + 1) next.count
    (subst (λ (lines : List (List ℕ)). TakesTexts piece behind c.args.lines lines c.args.count (so.count + 1)) (sym longer) one)
    c.in_ok-texts-2.ensures
