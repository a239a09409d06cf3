use Rattle.std.proofs.Common.{List, ◌++◌, ap, ◌∙◌}
use Rattle.sk_grammar.specs.declared.value.Value.{Value}
use Rattle.sk_grammar.specs.HeldValues.{held_values}
use Rattle.sk_grammar.proofs.HeldValues.{value_next, values_taken}
use Rattle.sk_grammar.proofs.values.Values.to_list.Goals as goal

pub loop-line-init : goal.loop-line-init
loop-line-init c =
    ap (λ (values : List Value). values ++ held_values c.as_slice-rest.result.now) (c.from_vec-values.ensures ∙ c.in_ok-with_capacity.ensures.items)
    ∙ ap held_values c.as_slice-rest.ensures.value ∙ c.self.view_is

pub loop-line-preserved : goal.loop-line-preserved
loop-line-preserved c =
    value_next c.loop-line.rest.now c.in-Some.line.now c.in-Some.behind.now c.loop-line.values c.args.self.now c.push.new.self (c.in-Ok.value, c.in-Ok.field-0-1) c.in-Some.ensures c.in-Ok.ensures c.loop-line.invariant c.in_ok-push.ensures.ok

pub returns : goal.returns
returns c = values_taken c.loop-line.rest.now c.loop-line.values c.args.self.now c.in_default.ensures c.loop-line.invariant
