use Rattle.std.proofs.Common.{◌≡◌, ◌+◌, List, ap, sym, subst, ◌∙◌}
use Rattle.std.specs.Option.{option_map}
use Rattle.sk_line.specs.Triple.{TripleView}
use Rattle.sk_line.specs.Line.{covering}
use Rattle.sk_triples.specs.Kernel.{TriplesView, Rise}
use Rattle.sk_triples.proofs.Covering.{place_of}
use Rattle.sk_triples.proofs.triples.Triples.covering.Goals as goal

pub returns : goal.returns
returns c =
    let list : c.as_slice.result.now ≡ c.self.inside.list.items = c.as_slice.ensures.value in
    let rise : Rise c.as_slice.result.now = subst Rise (sym list) c.self.invariant.triples.rise in
    let same : c.as_slice.result.now ≡ c.args.self.now.triples = list ∙ ap (λ (t : TriplesView). t.triples) c.self.view_is in
    subst (λ (ts : List TripleView). option_map (λ place. place + 1) c.checked_sub.result ≡ option_map (λ found. found.0) (covering ts c.args.tick)) same
    (place_of c.args.tick c.as_slice.result.now c.begun.result c.checked_sub.result rise c.begun.ensures.number c.checked_sub.ensures)
