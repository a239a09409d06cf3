use Rattle.std.proofs.Common.{◌≡◌, ◌<◌, List, [], ◌∷◌, ◌++◌, length, ap, sym, subst, ◌∙◌, rules}
use Rattle.std.specs.Prelude.{IfOk}
use Rattle.sk_grammar.specs.Document.{ItemView, IsItem}
use Rattle.sk_publication.proofs.Coefficients.{item_valid, same_item, one_item}
use Rattle.sk_publication.proofs.items.with_coefficients.Goals as goal

pub invariant_of-item : goal.invariant_of-item
invariant_of-item c =
    let some : 0 < length c.args.triples.now = search rules in
    subst IsItem (sym (same_item c.in_ok-name.name c.in_ok-values.values c.args.sc c.args.triples.now c.in_ok-name.ensures c.in_ok-values.ensures))
    (item_valid c.args.sc c.args.triples.now c.requires.sc some c.requires.triples)

pub returns-clause-items : goal.returns-clause-items
returns-clause-items c =
    let some : 0 < length c.args.triples.now = search rules in
    let name = c.in_ok-name.name in
    let values = c.in_ok-values.values in
    subst (λ (items : List ItemView). IfOk c.with_item.result (λ more. more ≡ c.args.items ++ items))
    (ap (λ (item : ItemView). item ∷ []) (same_item name values c.args.sc c.args.triples.now c.in_ok-name.ensures c.in_ok-values.ensures)
    ∙ sym (one_item c.args.sc c.args.triples.now some))
    c.with_item.ensures.more
