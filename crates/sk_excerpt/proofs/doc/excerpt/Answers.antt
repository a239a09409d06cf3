use Rattle.std.proofs.Common.{◌≢◌, ◌+◌, ◌*◌, ◌≤◌, List, length, sym, subst, arith}
use Rattle.std.specs.List.{AllPairs}
use Rattle.std.proofs.lemmas.Slice.Zip.{AllZip-long}
use Rattle.sk_grammar.specs.declared.value.Value.{Value}
use Rattle.sk_grammar.specs.Variables.{VariableView, items_of}
use Rattle.sk_pool.proofs.Growing.{variables_of-once}
use Rattle.sk_triples.specs.Coefficients.{rows_of, values_for, IsTripleOf}
use Rattle.sk_excerpt.proofs.Room.{rows_short, has_room}
use Rattle.sk_excerpt.proofs.doc.excerpt.Goals as goal

pub items_left-requires-clause-room : goal.items_left-requires-clause-room
items_left-requires-clause-room c =
    let k = c.args.kernel.now in
    let values : List Value = values_for k.pool.now k.sc in
    let once = subst (AllPairs (λ (a : VariableView) (b : VariableView). a.name ≢ b.name)) (sym c.requires.pool) (variables_of-once (items_of c.args.doc)) in
    let long = AllZip-long IsTripleOf (rows_of values) k.triples.now.triples c.requires.triples.rows in
    let is = c.in_ok-cut.ensures.1 in
    let room : 3 * (c.in_ok-cut.cut.last + 1) ≤ length values = omega (arith, long, rows_short values, is.within) in
    has_room k.sc c.in_ok-cut.cut.last k.pool.now once room
