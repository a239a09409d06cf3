use Rattle.std.proofs.Common.{◌≡◌, [], vec_len, true, refl, sym, arith}
use Rattle.std.specs.Prelude.{◌==◌}
use Rattle.std.proofs.lemmas.Bool.{eqb-true}
use Rattle.sk_grammar.specs.declared.state.State.TheVariants.{InHead, InText}
use Rattle.sk_grammar.proofs.Bytewise.{none_left}
use Rattle.sk_grammar.proofs.Texts.{head_keeps, text_keeps, come_by_texts}
use Rattle.sk_grammar.proofs.taking.take_front.Goals as goal

pub returns-in-InHead : goal.returns-in-InHead
returns-in-InHead c =
    let empty : true ≡ (vec_len c.args.taking.line == 0) = c.if-not-is_empty.ensures in
    let none : c.args.taking.line.items ≡ [] = none_left c.args.taking.line.items (omega (arith, eqb-true (vec_len c.args.taking.line) 0 (sym empty), c.args.taking.line.ok.0)) in
    come_by_texts c.args.piece.now c.in-Ok.taken.rest.now c.args.taking InHead c.in-InHead.texts c.in-Ok.taken.lines c.in-Ok.taken.count _ head_keeps c.in-InHead.is none c.in-Ok.ensures refl refl none

pub returns-in-InText : goal.returns-in-InText
returns-in-InText c =
    let empty : true ≡ (vec_len c.args.taking.line == 0) = c.if-not-is_empty.ensures in
    let none : c.args.taking.line.items ≡ [] = none_left c.args.taking.line.items (omega (arith, eqb-true (vec_len c.args.taking.line) 0 (sym empty), c.args.taking.line.ok.0)) in
    let make = InText c.in-InText.head c.in-InText.blocks c.in-InText.items in
    come_by_texts c.args.piece.now c.in-Ok-take_texts.taken.rest.now c.args.taking make c.in-InText.texts c.in-Ok-take_texts.taken.lines c.in-Ok-take_texts.taken.count _ (text_keeps c.in-InText.head c.in-InText.blocks c.in-InText.items) c.in-InText.is none c.in-Ok-take_texts.ensures refl refl none
