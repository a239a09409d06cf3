use Rattle.std.proofs.Common.{List, ap, ◌∙◌, ◌++◌, ◌∷◌, []}
use Rattle.sk_grammar.specs.Document.{ItemView}
use Rattle.sk_grammar.proofs.HeldItems.{item_behind}
use Rattle.sk_grammar.proofs.Leaves.{item_of}
use Rattle.sk_grammar.proofs.items.Items.with_values.Goals as goal

pub invariant_of-result : goal.invariant_of-result
invariant_of-result c =
    let item = item_of c.args.name.now c.args.op c.args.values.now in
    (item_behind c.self.inside.text.items c.write_item.new.out.items item c.self.invariant c.requires c.in_ok-write_item.ensures).1

pub returns-clause-more : goal.returns-clause-more
returns-clause-more c =
    let item = item_of c.args.name.now c.args.op c.args.values.now in
    (item_behind c.self.inside.text.items c.write_item.new.out.items item c.self.invariant c.requires c.in_ok-write_item.ensures).0
    ∙ ap (λ (items : List ItemView). items ++ item ∷ []) c.self.view_is

pub returns-clause-valid : goal.returns-clause-valid
returns-clause-valid c =
    let item = item_of c.args.name.now c.args.op c.args.values.now in
    (item_behind c.self.inside.text.items c.write_item.new.out.items item c.self.invariant c.requires c.in_ok-write_item.ensures).1.valid
