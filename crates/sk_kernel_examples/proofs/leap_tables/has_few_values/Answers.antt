use Rattle.std.proofs.Common.{◌≡◌, ℕ, ◌<◌, ◌^◌, List, length, All, get_or, ap, ◌∙◌, arith}
use Rattle.std.specs.Prelude.{map}
use Rattle.std.proofs.lemmas.List.{length-map, get_or-map}
use Rattle.sk_grammar.specs.declared.value.Value.{Value}
use Rattle.sk_grammar.specs.Variables.{VariableView}
use Rattle.sk_kernel_examples.proofs.leap_tables.has_few_values.Goals as goal

few : (pool : List VariableView) (lists : List (List Value)) → lists ≡ map (λ (v : VariableView). v.values) pool → All (λ (values : List Value). length values < 1000) lists
    → (k : ℕ) (d : VariableView) → k < length pool → length (get_or pool k d).values < 2 ^ 32
few pool lists is all k d h =
    let f : VariableView → List Value = λ v. v.values in
    let long : k < length lists = omega (arith, h, ap length is, length-map pool f) in
    let here : length (get_or lists k d.values) < 1000 = all k d.values long in
    let same : get_or lists k d.values ≡ (get_or pool k d).values = ap (λ (xs : List (List Value)). get_or xs k d.values) is ∙ get_or-map f pool k d d.values h in
    omega (arith, here, ap length same)

pub returns : goal.returns
returns c = λ true_. few c.args.pool.now c.value_lists.result.now c.value_lists.ensures.lists (c.are_short.ensures.0 true_)
