use Rattle.std.proofs.Common.{◌≡◌, ℕ, List, [], ◌∷◌, ◌++◌, length, refl, ap, sym, subst, ◌∙◌, arith, length-append}
use Rattle.std.specs.List.{All}
use Rattle.std.proofs.lemmas.List.Elements.{All-push}
use Rattle.sk_grammar.specs.declared.value.Value.{Value}
use Rattle.sk_grammar.specs.Document.{ItemView, IsName}
use Rattle.sk_grammar.specs.Variables.{joined}
use Rattle.sk_pool.specs.Assigning.{AreOneKind}
use Rattle.sk_pool.proofs.Finding.{absent}
use Rattle.sk_pool.proofs.Changed.{places_are, places-push, is_mixing-absent}
use Rattle.sk_pool.proofs.table.Table.create.Goals as goal

pub returns-clause-ok : goal.returns-clause-ok
returns-clause-ok c =
    let names = c.args.self.now.names.items in
    let values = c.args.self.now.values.items in
    let item = c.args.item in
    let name_is : c.item.inside.name ≡ item.name = ap (λ (i : ItemView). i.name) c.item.view_is in
    let values_is : c.item.inside.values ≡ item.values = ap (λ (i : ItemView). i.values) c.item.view_is in
    let one_kind : AreOneKind c.item.inside.values = record { some = c.item.invariant.not_empty; one_kind = c.item.invariant.one_kind; valid = c.item.invariant.values } in
    let names_are : c.push.new.self.items ≡ names ++ item.name ∷ [] = c.in_ok-push.ensures.items ∙ ap (λ (n : List ℕ). names ++ n ∷ []) name_is in
    let values_are : c.push-2.new.self.items ≡ values ++ item.values ∷ [] =
    c.in_ok-push-2.ensures.items ∙ ap (λ (vs : List Value). values ++ vs ∷ []) values_is in
    let none = absent names values item c.requires.table.lengths c.requires.place in (
      record {
        lengths = omega (arith, ap length names_are, ap length values_are, length-append names (item.name ∷ []), length-append values (item.values ∷ []), c.requires.table.lengths);
        names = subst (λ (ns : List (List ℕ)). All IsName ns) (sym names_are) (All-push IsName names item.name c.requires.table.names (subst IsName name_is c.item.invariant.name));
        kinds = subst (λ (vs : List (List Value)). All AreOneKind vs) (sym values_are) (All-push AreOneKind values item.values c.requires.table.kinds (subst AreOneKind values_is one_kind));
        places = subst (places_are c.insert.new.self) (sym names_are)
            (places-push c.args.self.now.places c.insert.new.self names item.name c.args.name.now c.len.result c.requires.name
            (c.len.ensures ∙ omega (arith, c.args.self.now.names.ok.0)) c.requires.table.places c.requires.place c.in_ok-insert.ensures.updates);
      },
      refl,
      is_mixing-absent names values item none,
      ap (λ (ns : List (List ℕ)). joined ns c.push-2.new.self.items) names_are ∙ ap (λ (vs : List (List Value)). joined (names ++ item.name ∷ []) vs) values_are ∙ sym none.behind,
    )
