use Rattle.std.proofs.Common.{◌≡◌, false, ap, ◌∙◌, subst, ◌++◌}
use Rattle.sk_grammar.specs.Document.{ItemView}
use Rattle.sk_pool.specs.Assigning.{AreOneKind, begins_text, adds_mixed, values_behind}
use Rattle.sk_pool.proofs.Mixing.{appended}
use Rattle.sk_pool.proofs.table.take_values.Goals as goal

pub returns-in_ok-append_copies-in-Append-clause-ok : goal.returns-in_ok-append_copies-in-Append-clause-ok
returns-in_ok-append_copies-in-Append-clause-ok c =
    let held = c.args.held.now in
    let values = c.item.inside.values in
    let one_kind : AreOneKind values = record { some = c.item.invariant.not_empty; one_kind = c.item.invariant.one_kind; valid = c.item.invariant.values } in
    let holds : ItemView → Type 0 = λ item. (adds_mixed held item ≡ false) × (c.append_copies.new.held ≡ values_behind held item) × AreOneKind c.append_copies.new.held in
    subst holds c.item.view_is
    (appended held values c.append_copies.new.held c.item.inside.name c.item.inside.op _ _ c.in-Append.is
    (c.begins_text.ensures ∙ ap begins_text c.as_slice.ensures)
    (c.begins_text-in-Append.ensures ∙ ap begins_text c.as_slice-added.ensures)
    c.if-begins_text.false c.requires one_kind
    (c.in_ok-append_copies-in-Append.ensures ∙ ap (λ vs. held ++ vs) c.as_slice-added.ensures))
