use Rattle.std.proofs.lemmas.Result.{err_from_is_err_and}
use Rattle.sk_grammar.specs.Variables.{items_of}
use Rattle.sk_pool.specs.Assigning.{variables_in}
use Rattle.sk_pool.proofs.Judged.{doc_taken, doc_refused, pool_holds}
use Rattle.sk_pool.proofs.pool.Pool.of.Goals as goal

pub returns-in_err-names : goal.returns-in_err-names
returns-in_err-names c =
    let p = err_from_is_err_and c.from_residual.result c.from_residual.ensures.1 in
    rw (p.1, p.2) (doc_refused c.args.doc.now c.in_err-names.field-0.0 c.in_err-names.ensures.mixed)

pub invariant_of-result : goal.invariant_of-result
invariant_of-result c =
    let table = c.in_ok-names.field-0 in
    let holds = c.in_ok-names.ensures.ok in
    let variables = doc_taken c.args.doc.now (variables_in table) holds.1 in
    rw (c.from_vec.ensures, c.from_vec-2.ensures)
    (holds.0.lengths, pool_holds table.names.items table.values.items (items_of c.args.doc.now) holds.0.names holds.0.kinds variables.1)

pub returns : goal.returns
returns c =
    let table = c.in_ok-names.field-0 in
    rw (c.from_vec.ensures, c.from_vec-2.ensures) (doc_taken c.args.doc.now (variables_in table) c.in_ok-names.ensures.ok.1)
