use Rattle.std.proofs.Common.{◌≡◌, List, drop, length, sym, ap, subst, ◌∙◌}
use Rattle.std.specs.Prelude.{All}
use Rattle.sk_line.specs.Triple.{TripleView}
use Rattle.sk_triples.specs.Kernel.{AreTriples}
use Rattle.sk_publication.specs.Publication.{HasNumbers}
use Rattle.sk_publication.proofs.NewTriples.{new_numbers}
use Rattle.sk_outcome.proofs.Additions.{behind_old}
use Rattle.sk_commands.proofs.publish.behind.Goals as goal

pub returns-clause-numbers : goal.returns-clause-numbers
returns-clause-numbers c =
    let all : List TripleView = c.args.triples.now.triples in
    let old : List TripleView = c.args.old.now.triples in
    let added : List TripleView = c.split_at.result.1.now in
    let back : added ≡ drop (length old) all = c.split_at.ensures.back ∙ ap (drop (length c.list-2.result.now)) c.list.ensures.value ∙ ap (λ (ts : List TripleView). drop (length ts) all) c.list-2.ensures.value in
    let more : added ≡ c.requires.0 = behind_old all old c.requires.0 added c.requires.1 back in
    subst (λ (ts : List TripleView). All HasNumbers ts) (sym more)
    (new_numbers c.args.triples.now.total old c.requires.0 c.list.ensures.kept.total
    (subst (λ (ts : List TripleView). AreTriples c.args.triples.now.total ts) c.requires.1 c.list.ensures.kept.triples))
