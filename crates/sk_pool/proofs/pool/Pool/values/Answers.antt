use Rattle.std.proofs.Common.{◌≡◌, ◌<◌, get_or, List, Some, length, ap, sym, ◌∙◌, subst}
use Rattle.std.specs.List.{All, position}
use Rattle.std.specs.Str.{bytes_eq}
use Rattle.sk_grammar.specs.declared.value.Value.{Value}
use Rattle.std.proofs.lemmas.List.Elements.{All-weaker}
use Rattle.sk_grammar.specs.Document.{IsItem}
use Rattle.sk_grammar.specs.Variables.{VariableView, values_at}
use Rattle.sk_pool.specs.Pool.{set_item}
use Rattle.sk_pool.proofs.LookUps.{values_at-place, values_at-nowhere, values_at-some}
use Rattle.sk_pool.proofs.pool.Pool.values.Goals as goal

pub returns-in_err-place-clause-value : goal.returns-in_err-place-clause-value
returns-in_err-place-clause-value c =
    let nowhere = ap (position (λ other. bytes_eq other c.args.name.now)) (sym c.as_slice.ensures) ∙ sym c.in_err-place.ensures in
    rw c.from_residual.ensures
    (sym (values_at-nowhere c.self.inside.names c.self.inside.values c.args.name.now c.self.invariant.0 nowhere) ∙ ap (values_at c.args.name.now) c.self.view_is)

-- what was found is the variable's values
pub returns-clause-value : goal.returns-clause-value
returns-clause-value c =
    let place = c.in_ok-place.place in
    let values = c.self.inside.values in
    let here = ap (position (λ other. bytes_eq other c.args.name.now)) (sym c.as_slice.ensures) ∙ sym c.in_ok-place.ensures in
    let held = c.index-as_slice-place.result in
    let held_is : held ≡ get_or values place held = c.index-as_slice-place.is ∙ ap (λ (vs : List (List Value)). get_or vs place held) c.as_slice-2.ensures in
    ap (λ (vs : List Value). Some vs) (c.as_slice-3.ensures ∙ held_is)
    ∙ sym (values_at-place c.self.inside.names values c.args.name.now place held c.self.invariant.0 here)
    ∙ ap (values_at c.args.name.now) c.self.view_is

pub returns-clause-some : goal.returns-clause-some
returns-clause-some c =
    let all = subst (λ (variables : List VariableView). All (λ v. IsItem (set_item v)) variables) c.self.view_is c.self.invariant.1.valid in
    let some = All-weaker (λ (v : VariableView). IsItem (set_item v)) (λ (v : VariableView). 0 < length v.values) (λ v item. item.not_empty) c.args.self.now all in
    values_at-some c.args.name.now c.args.self.now c.as_slice-3.result.now some (sym (returns-clause-value c))
