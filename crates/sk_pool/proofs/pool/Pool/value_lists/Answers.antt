use Rattle.std.proofs.Common.{List, map, ap, sym, subst, ◌∙◌}
use Rattle.std.specs.List.{All}
use Rattle.sk_grammar.specs.Document.{IsItem}
use Rattle.sk_pool.specs.Pool.{set_item}
use Rattle.sk_grammar.specs.Variables.{VariableView}
use Rattle.sk_pool.proofs.Names.{map-joined_values}
use Rattle.sk_pool.proofs.pool.Pool.value_lists.Goals as goal

pub returns-clause-lists : goal.returns-clause-lists
returns-clause-lists c = c.as_slice.ensures ∙ sym (map-joined_values c.self.inside.names c.self.inside.values c.self.invariant.0) ∙ ap (map (λ (v : VariableView). v.values)) c.self.view_is

pub returns-clause-valid : goal.returns-clause-valid
returns-clause-valid c = subst (λ (variables : List VariableView). All (λ v. IsItem (set_item v)) variables) c.self.view_is c.self.invariant.1.valid
