use Rattle.std.proofs.Common.{◌≡◌, [], vec_len, true, refl, sym, arith}
use Rattle.std.specs.Prelude.{◌==◌}
use Rattle.std.proofs.lemmas.Bool.{eqb-true}
use Rattle.sk_grammar.proofs.Bytewise.{none_left}
use Rattle.sk_grammar.proofs.DataLines.{come_by_data}
use Rattle.sk_grammar.proofs.data_lines.take_data_front.Goals as goal

pub returns-in-InData-clause-come : goal.returns-in-InData-clause-come
returns-in-InData-clause-come c =
    let empty : true ≡ (vec_len c.args.taking.line == 0) = c.if-not-is_empty.ensures in
    let none : c.args.taking.line.items ≡ [] = none_left c.args.taking.line.items (omega (arith, eqb-true (vec_len c.args.taking.line) 0 (sym empty), c.args.taking.line.ok.0)) in
    come_by_data c.args.piece.now c.in-Ok.taken.rest.now c.args.taking c.in-InData.head c.in-InData.blocks c.in-InData.items c.in-Ok.taken.items c.in-InData.place c.in-Ok.taken.place c.in-Ok.taken.count _ c.in-InData.is none c.in-Ok.ensures.taken refl refl none
