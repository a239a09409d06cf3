use Rattle.std.proofs.Common.{◌≡◌, ◌+◌, ℕ, List, Some, ap, sym, subst, arith, ◌∙◌}
use Rattle.std.proofs.lemmas.Int.{ints}
use Rattle.std.proofs.lemmas.Option.{none-some}
use Rattle.sk_line.specs.Triple.{TripleView}
use Rattle.sk_line.specs.Line.{covering, line_over}
use Rattle.sk_triples.specs.Kernel.{TriplesView, AreTriples}
use Rattle.sk_triples.proofs.Covering.{kept_at}
use Rattle.sk_triples.proofs.Wide.{passed_on}
use Rattle.sk_triples.proofs.triples.Triples.placed_time_at.Goals as goal

pub line_over-requires-clause-triple : goal.line_over-requires-clause-triple
line_over-requires-clause-triple c =
    let same : c.as_slice.result.now ≡ c.self.inside.list.items = c.as_slice.ensures.value in
    kept_at c.self.inside.total c.args.tick c.as_slice.result.now (c.in-Some.found.0 + 1) c.in-Some.found.1 (subst (AreTriples c.self.inside.total) (sym same) c.self.invariant.triples) c.in-Some.ensures

pub returns : goal.returns
returns c =
    let view = c.self.view_is in
    let same : c.as_slice.result.now ≡ c.args.self.now.triples = c.as_slice.ensures.value ∙ ap (λ (t : TriplesView). t.triples) view in
    let count : c.self.inside.ticks_per ≡ c.args.self.now.per_count = ap (λ (t : TriplesView). t.per_count) view in
    let total : c.self.inside.total ≡ c.args.self.now.total = ap (λ (t : TriplesView). t.total) view in
    let found : ℕ × TripleView = (c.in-Some.found.0 + 1, c.in-Some.found.1) in
    let covers : covering c.args.self.now.triples c.args.tick ≡ Some found = subst (λ (ts : List TripleView). covering ts c.args.tick ≡ Some found) same c.in-Some.ensures in
    let num = passed_on c.line_over.result c.line_over.type_inv ∙ c.line_over.ensures.value
    ∙ ap (λ (n : ℕ). line_over n c.in-Some.found.1.anchor c.in-Some.found.1.rate c.args.tick) count in (
      ((λ none. none-some found (sym none ∙ covers)), ((λ past. omega arith), tt)),
      ((c.in-Some.found.1, covers, num), omega (arith, ints)),
    )
