use Rattle.std.proofs.Common.{◌≡◌, ◌≤◌, ℕ, ap, sym, subst, slice_index_or}
use Rattle.sk_line.specs.Line.{covering}
use Rattle.sk_publishing.specs.Row.{RowView}
use Rattle.sk_audit.proofs.Early.{covers_later, none_found, first_is_first}
use Rattle.sk_audit.proofs.auditing.has_early.Goals as goal

pub returns-in-Some-clause-no : goal.returns-in-Some-clause-no
returns-in-Some-clause-no c = λ no k d less none.
    let tick = c.first-in-Some.inside.tick in
    let is : c.in-Some.first.now.tick ≡ tick = sym (ap (λ (x : RowView). x.tick) c.first-in-Some.view_is) in
    let rows = c.args.observations.now in
    none_found c.covering.result (covering c.args.triples.now.triples tick) c.is_none.result c.covering.ensures c.is_none.ensures no
    (covers_later c.args.triples.now.triples tick (slice_index_or rows k d).tick
    (subst (λ (t : ℕ). t ≤ (slice_index_or rows k d).tick) is (first_is_first _ rows c.in-Some.first.now d k c.requires (sym c.in-Some.ensures.value) less)) none)
