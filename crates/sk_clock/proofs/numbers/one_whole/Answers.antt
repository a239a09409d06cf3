use Rattle.std.proofs.Common.{◌≡◌, ℕ, List, [], ◌∷◌, Some, subst}
use Rattle.sk_grammar.specs.declared.value.Value.TheVariants.{Number}
use Rattle.sk_grammar.specs.Variables.{values_at}
use Rattle.sk_clock.proofs.NumberLemmas.{of_variable}
use Rattle.sk_clock.proofs.numbers.one_whole.Goals as goal

pub returns : goal.returns
returns c =
    let one = subst (λ (name : List ℕ). values_at name c.args.pool.now ≡ Some (Number c.in-Some.number ∷ [])) c.as_slice.ensures.value c.in-Some.ensures in
    of_variable c.whole_of.result c.args.pool.now c.args.name.now c.in-Some.number c.args.low c.args.high one c.whole_of.ensures
