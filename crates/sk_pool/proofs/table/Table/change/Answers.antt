use Rattle.std.proofs.Common.{Bool, List, set, refl, ap, sym, ◌∙◌, arith, subst, length-set}
use Rattle.std.proofs.lemmas.List.Elements.{All-set}
use Rattle.std.proofs.lemmas.Result.{err_from_is_err_and}
use Rattle.sk_grammar.specs.declared.value.Value.{Value}
use Rattle.sk_grammar.specs.Variables.{joined}
use Rattle.sk_pool.specs.Assigning.{AreOneKind, adds_mixed, values_behind, IsMixing}
use Rattle.sk_pool.proofs.Finding.{found}
use Rattle.sk_pool.proofs.Changed.{is_mixing-found}
use Rattle.sk_pool.proofs.table.Table.change.Goals as goal

pub index_mut-held-requires : goal.index_mut-held-requires
index_mut-held-requires c =
    let f = found c.args.self.now.names.items c.args.self.now.values.items c.args.item.now c.args.place c.requires.table.lengths c.requires.place in
    omega (arith, f.within, c.requires.table.lengths, c.args.self.now.values.ok.0)

pub take_values-requires : goal.take_values-requires
take_values-requires c =
    let f = found c.args.self.now.names.items c.args.self.now.values.items c.args.item.now c.args.place c.requires.table.lengths c.requires.place in
    subst AreOneKind (sym c.index_mut-held.ensures.value) (c.requires.table.kinds c.args.place _ (omega (arith, f.within, c.requires.table.lengths)))

pub returns-clause-ok : goal.returns-clause-ok
returns-clause-ok c =
    let names = c.args.self.now.names.items in
    let values = c.args.self.now.values.items in
    let item = c.args.item.now in
    let place = c.args.place in
    let held = c.index_mut-held.result.now in
    let f = found names values item place c.requires.table.lengths c.requires.place in
    let taken = c.in_ok-take_values.ensures.ok in
    let held_is = sym c.index_mut-held.ensures.value in (
      record {
        lengths = c.requires.table.lengths ∙ sym (length-set values place c.take_values.new.held);
        names = c.requires.table.names;
        kinds = All-set AreOneKind values place c.take_values.new.held taken.2 c.requires.table.kinds;
        places = c.requires.table.places;
      },
      refl,
      is_mixing-found names values item place held f ∙ ap (λ (vs : List Value). adds_mixed vs item) held_is ∙ taken.0,
      sym (f.behind held ∙ ap (λ (vs : List Value). joined names (set values place vs)) (ap (λ (vs : List Value). values_behind vs item) held_is ∙ sym taken.1)),
    )

pub returns-in_err-take_values-clause-mixed : goal.returns-in_err-take_values-clause-mixed
returns-in_err-take_values-clause-mixed c =
    let names = c.args.self.now.names.items in
    let values = c.args.self.now.values.items in
    let item = c.args.item.now in
    let held = c.index_mut-held.result.now in
    let f = found names values item c.args.place c.requires.table.lengths c.requires.place in
    let same = is_mixing-found names values item c.args.place held f ∙ ap (λ (vs : List Value). adds_mixed vs item) (sym c.index_mut-held.ensures.value) in
    let p = err_from_is_err_and c.from_residual.result c.from_residual.ensures.1 in
    rw (p.1, p.2) (subst (λ (mixing : Bool). IsMixing c.args.self.now.count mixing c.in_err-take_values.field-0.0) (sym same) c.in_err-take_values.ensures.mixed)
