use Rattle.std.proofs.Common.{◌≡◌, ◌<◌, ◌≤◌, List, length, Some, None, sym, ap, inl, inr, arith, ◌∙◌, ℕ, rules, ⊎_elim}
use Rattle.std.proofs.lemmas.Bool.{false≢true}
use Rattle.sk_grammar.specs.Variables.{values_at}
use Rattle.sk_line.specs.Triple.{coefficients_name}
use Rattle.sk_triples.specs.Coefficients.{rows_of}
use Rattle.sk_triples.proofs.Threes.{threes, are_in_rows, are_threes}
use Rattle.sk_triples.proofs.KernelOf.{missing, not_triples, too_many, row_refused, accepted, are_kept}
use Rattle.sk_triples.proofs.triples.Triples.of.Goals as goal

pub returns-in_default : goal.returns-in_default
returns-in_default c =
    let name : c.as_slice.result.now ≡ coefficients_name c.args.sc = c.as_slice.ensures.value ∙ c.coefficients_name-name.ensures in
    let none : values_at c.as_slice.result.now c.args.pool.now ≡ None = search rules in
    inr (missing c.args.pool.now c.args.clock.now c.args.sc (ap (λ (n : List ℕ). values_at n c.args.pool.now) (sym name) ∙ none))

pub returns-then-not-are_rows : goal.returns-then-not-are_rows
returns-then-not-are_rows c =
    let name : c.as_slice.result.now ≡ coefficients_name c.args.sc = c.as_slice.ensures.value ∙ c.coefficients_name-name.ensures in
    let at : values_at c.as_slice.result.now c.args.pool.now ≡ Some c.in-Some.values.now = search rules in
    let found : values_at (coefficients_name c.args.sc) c.args.pool.now ≡ Some c.in-Some.values.now = ap (λ (n : List ℕ). values_at n c.args.pool.now) (sym name) ∙ at in
    inr (not_triples c.args.pool.now c.args.clock.now c.args.sc c.in-Some.values.now found (λ rows. false≢true (c.if-not-are_rows.ensures ∙ are_in_rows c.in-Some.values.now rows)))

pub returns-then-values-gt50000 : goal.returns-then-values-gt50000
returns-then-values-gt50000 c =
    let name : c.as_slice.result.now ≡ coefficients_name c.args.sc = c.as_slice.ensures.value ∙ c.coefficients_name-name.ensures in
    let at : values_at c.as_slice.result.now c.args.pool.now ≡ Some c.in-Some.values.now = search rules in
    let found : values_at (coefficients_name c.args.sc) c.args.pool.now ≡ Some c.in-Some.values.now = ap (λ (n : List ℕ). values_at n c.args.pool.now) (sym name) ∙ at in
    let rows = threes c.in-Some.values.now (sym c.if-not-are_rows.ensures) in
    let three = are_threes c.in-Some.values.now rows in
    inr (too_many c.args.pool.now c.args.clock.now c.args.sc c.in-Some.values.now found rows (omega arith))

pub read_triples-requires-clause-few : goal.read_triples-requires-clause-few
read_triples-requires-clause-few c =
    let rows = threes c.in-Some.values.now (sym c.if-not-are_rows.ensures) in
    let three = are_threes c.in-Some.values.now rows in
    omega arith

pub invariant_of-result : goal.invariant_of-result
invariant_of-result c =
    let rows = threes c.in-Some.values.now (sym c.if-not-are_rows.ensures) in
    let three = are_threes c.in-Some.values.now rows in
    let few : length (rows_of c.in-Some.values.now) ≤ 50000 = omega arith in
    let some : 0 < length c.in-Some.values.now = search rules in
    are_kept c.args.clock.now c.in-Some.values.now c.in-Ok.list.items c.ticks_per-ticks_per.result c.total-total.result c.ticks_per-ticks_per.ensures.value c.total-total.ensures.value
    c.total-total.ensures.clock some rows few c.in-Ok.ensures.1

pub returns-in-Ok : goal.returns-in-Ok
returns-in-Ok c =
    let name : c.as_slice.result.now ≡ coefficients_name c.args.sc = c.as_slice.ensures.value ∙ c.coefficients_name-name.ensures in
    let at : values_at c.as_slice.result.now c.args.pool.now ≡ Some c.in-Some.values.now = search rules in
    let found : values_at (coefficients_name c.args.sc) c.args.pool.now ≡ Some c.in-Some.values.now = ap (λ (n : List ℕ). values_at n c.args.pool.now) (sym name) ∙ at in
    let rows = threes c.in-Some.values.now (sym c.if-not-are_rows.ensures) in
    let three = are_threes c.in-Some.values.now rows in
    let few : length (rows_of c.in-Some.values.now) ≤ 50000 = omega arith in
    accepted c.args.pool.now c.args.clock.now c.args.sc c.in-Some.values.now found rows few c.ticks_per-ticks_per.result c.total-total.result c.ticks_per-ticks_per.ensures.value c.total-total.ensures.value c.in-Ok.list.items c.in-Ok.ensures.1

pub returns-in-Err : goal.returns-in-Err
returns-in-Err c =
    let name : c.as_slice.result.now ≡ coefficients_name c.args.sc = c.as_slice.ensures.value ∙ c.coefficients_name-name.ensures in
    let at : values_at c.as_slice.result.now c.args.pool.now ≡ Some c.in-Some.values.now = search rules in
    let found : values_at (coefficients_name c.args.sc) c.args.pool.now ≡ Some c.in-Some.values.now = ap (λ (n : List ℕ). values_at n c.args.pool.now) (sym name) ∙ at in
    let rows = threes c.in-Some.values.now (sym c.if-not-are_rows.ensures) in
    let three = are_threes c.in-Some.values.now rows in
    let few : length (rows_of c.in-Some.values.now) ≤ 50000 = omega arith in
    ⊎_elim inl (λ h. inr (row_refused c.args.pool.now c.args.clock.now c.args.sc c.in-Some.values.now found rows few c.ticks_per-ticks_per.result c.total-total.result c.ticks_per-ticks_per.ensures.value c.total-total.ensures.value c.in-Err.fault h)) c.in-Err.ensures
