use Rattle.std.proofs.Common.{List, subst, sym}
use Rattle.std.specs.List.{All}
use Rattle.sk_grammar.specs.declared.value.Value.{Value}
use Rattle.sk_grammar.specs.HeldValues.{IsHeldValue}
use Rattle.sk_grammar.proofs.HeldValues.{all_held}
use Rattle.sk_grammar.proofs.items.Items.with_item.Goals as goal

pub of_list-requires-clause-held : goal.of_list-requires-clause-held
of_list-requires-clause-held c =
    subst (λ (values : List Value). All IsHeldValue values) (sym c.as_slice.ensures) (all_held c.item.inside.values c.item.invariant.values)
