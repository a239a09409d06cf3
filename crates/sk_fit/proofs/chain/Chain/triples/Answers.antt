use Rattle.std.proofs.Common.{◌≡◌, ◌++◌, List, map, drop, subst, sym, ap, ◌∙◌}
use Rattle.std.specs.Prelude.{IfOk}
use Rattle.sk_line.specs.Triple.{TripleView}
use Rattle.sk_triples.specs.Kernel.{AreTriples, TriplesView}
use Rattle.sk_fit.specs.declared.chain.Segment.{Segment}
use Rattle.sk_fit.specs.Given.{anchor_of, new_triples_of}
use Rattle.sk_fit.proofs.chain.Chain.triples.Goals as goal

abbrev triples_after : List Segment → List TripleView
triples_after segments = map (λ s. record { anchor = anchor_of s.anchor; rate = s.rate.units }) (drop 1 segments)

pub extended-requires : goal.extended-requires
extended-requires c =
    let later : c.as_slice-2.result.now ≡ new_triples_of c.args.self.now =
    c.as_slice-2.ensures.value ∙ c.in_ok-later.ensures ∙ ap triples_after c.as_slice.ensures in
    subst (λ (ts : List TripleView). AreTriples c.args.old.now.total (c.args.old.now.triples ++ ts)) (sym later) c.requires

pub returns : goal.returns
returns c =
    let later : c.as_slice-2.result.now ≡ new_triples_of c.args.self.now =
    c.as_slice-2.ensures.value ∙ c.in_ok-later.ensures ∙ ap triples_after c.as_slice.ensures in
    subst (λ (ts : List TripleView). IfOk c.extended.result (λ (t : TriplesView). t ≡ record { triples = c.args.old.now.triples ++ ts; per_count = c.args.old.now.per_count; total = c.args.old.now.total })) later c.extended.ensures
