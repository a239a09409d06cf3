use Rattle.std.proofs.Common.{◌≡◌, ℕ, ◌+◌, List, [], ◌∷◌, ◌++◌, map, take, ap, sym, subst, ◌∙◌}
use Rattle.std.proofs.lemmas.List.{take_more, map-append}
use Rattle.sk_grammar.specs.declared.value.Value.{Value}
use Rattle.sk_grammar.specs.declared.value.Op.TheVariants.{Set}
use Rattle.sk_grammar.specs.Document.{ItemView, IsItem}
use Rattle.sk_grammar.specs.Variables.{VariableView}
use Rattle.sk_pool.specs.Pool.{set_item}
use Rattle.sk_excerpt.specs.Excerpt.{left, excerpt_item}
use Rattle.sk_excerpt.specs.Cuts.{HasRoom}
use Rattle.sk_excerpt.proofs.Room.{variable_at, room_for, left_for, item_left}
use Rattle.sk_excerpt.proofs.items.items_left.Goals as goal

pub values_left-left-requires-clause-room : goal.values_left-left-requires-clause-room
values_left-left-requires-clause-room c =
    let place : ℕ = c.loop-place.place in
    let name : List ℕ = c.name-item.result in
    let values : List Value = c.index-lists-place.result in
    let pool : List VariableView = c.args.pool.now in
    let d : VariableView = record { name = name; values = values } in
    let at = variable_at pool c.names-name-items.result.now c.value_lists-lists.result.now place name values c.names-name-items.ensures c.value_lists-lists.ensures.lists c.loop-place-test.true c.name-item.is c.index-lists-place.is in
    let room : HasRoom c.args.sc c.args.cut.last d = subst (HasRoom c.args.sc c.args.cut.last) at.1 (c.requires.room place d at.0) in
    room_for c.args.sc c.args.cut.first c.args.cut.last d c.as_slice.result.now c.as_slice-in-loop-place.result.now c.as_slice-values.result.now
    c.as_slice.ensures (c.as_slice-in-loop-place.ensures.value ∙ c.coefficients_name-coefficients.ensures) c.as_slice-values.ensures room

pub setting-requires : goal.setting-requires
setting-requires c =
    let place : ℕ = c.loop-place.place in
    let name : List ℕ = c.name-item.result in
    let values : List Value = c.index-lists-place.result in
    let pool : List VariableView = c.args.pool.now in
    let d : VariableView = record { name = name; values = values } in
    let at = variable_at pool c.names-name-items.result.now c.value_lists-lists.result.now place name values c.names-name-items.ensures c.value_lists-lists.ensures.lists c.loop-place-test.true c.name-item.is c.index-lists-place.is in
    let room : HasRoom c.args.sc c.args.cut.last d = subst (HasRoom c.args.sc c.args.cut.last) at.1 (c.requires.room place d at.0) in
    let valid : IsItem (set_item d) = subst (λ (v : VariableView). IsItem (set_item v)) at.1 (c.value_lists-lists.ensures.valid place d at.0) in
    let same : c.values_left-left.result.now ≡ left c.args.sc c.args.cut.first c.args.cut.last d =
    c.values_left-left.ensures
    ∙ left_for c.args.sc c.args.cut.first c.args.cut.last d c.as_slice.result.now c.as_slice-in-loop-place.result.now c.as_slice-values.result.now
    c.as_slice.ensures (c.as_slice-in-loop-place.ensures.value ∙ c.coefficients_name-coefficients.ensures) c.as_slice-values.ensures in
    subst (λ (vs : List Value). IsItem (record { name = name; op = Set; values = vs })) (sym same) (item_left c.args.sc c.args.cut.first c.args.cut.last d c.requires.order valid room)

pub loop-place-preserved : goal.loop-place-preserved
loop-place-preserved c =
    let place : ℕ = c.loop-place.place in
    let name : List ℕ = c.name-item.result in
    let values : List Value = c.index-lists-place.result in
    let pool : List VariableView = c.args.pool.now in
    let d : VariableView = record { name = name; values = values } in
    let at = variable_at pool c.names-name-items.result.now c.value_lists-lists.result.now place name values c.names-name-items.ensures c.value_lists-lists.ensures.lists c.loop-place-test.true c.name-item.is c.index-lists-place.is in
    let f : VariableView → ItemView = excerpt_item c.args.sc c.args.cut.first c.args.cut.last in
    let same : c.values_left-left.result.now ≡ left c.args.sc c.args.cut.first c.args.cut.last d =
    c.values_left-left.ensures
    ∙ left_for c.args.sc c.args.cut.first c.args.cut.last d c.as_slice.result.now c.as_slice-in-loop-place.result.now c.as_slice-values.result.now
    c.as_slice.ensures (c.as_slice-in-loop-place.ensures.value ∙ c.coefficients_name-coefficients.ensures) c.as_slice-values.ensures in
    let item : c.in_ok-item.item ≡ f d = c.in_ok-item.ensures ∙ ap (λ (vs : List Value). record { name = name; op = Set; values = vs }) same in
    let front : take (place + 1) pool ≡ take place pool ++ d ∷ [] = take_more pool place d at.0 ∙ ap (λ (v : VariableView). take place pool ++ v ∷ []) at.1 in (
      c.in_ok-items.ensures.more ∙ ap (λ (items : List ItemView). items ++ c.in_ok-item.item ∷ []) c.loop-place.invariant.0
          ∙ ap (λ (i : ItemView). map f (take place pool) ++ i ∷ []) item
          ∙ sym (ap (map f) front ∙ map-append f (take place pool) (d ∷ [])),
      c.in_ok-items.ensures.valid,
    )
