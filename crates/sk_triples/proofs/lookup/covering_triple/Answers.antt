use Rattle.std.proofs.Common.{◌≡◌, ◌≢◌, ◌+◌, ◌-◌, ℕ, suc, Option, Some, ap, sym, subst, ◌∙◌, arith, rules, get_or}
use Rattle.sk_line.specs.Triple.{TripleView}
use Rattle.sk_line.specs.Line.{begun_at, covering}
use Rattle.sk_triples.proofs.Covering.{none_at, some_at}
use Rattle.sk_triples.proofs.lookup.covering_triple.Goals as goal

pub returns-in-0 : goal.returns-in-0
returns-in-0 c =
    let none : begun_at c.args.triples.now c.args.tick ≡ 0 = search rules in
    none_at c.args.tick c.args.triples.now c.requires none

pub returns-in_default : goal.returns-in_default
returns-in_default c =
    let n = c.begun.result in
    let triple = c.index-triples-number.result in
    let some : n ≢ 0 = search rules in
    let is : begun_at c.args.triples.now c.args.tick ≡ suc (n - 1) = omega (arith, c.begun.ensures.number) in
    some_at c.args.tick c.args.triples.now (n - 1) triple c.requires is
    ∙ ap (λ (t : TripleView). Some (suc (n - 1), t)) (sym c.index-triples-number.is)
    ∙ ap (λ (m : ℕ). Some (m, triple)) {x = suc (n - 1)} {y = n - 1 + 1} (omega arith)
