use Rattle.std.proofs.Common.{ℕ, List, drop, ap, ◌∙◌, subst, arith}
use Rattle.std.proofs.lemmas.List.{drop_all}
use Rattle.sk_clock.specs.ClockText.{HasLowValue}
use Rattle.sk_clock.specs.Kept.{offsets_of}
use Rattle.sk_clock.specs.Ticks.{counted}
use Rattle.sk_clock.proofs.TickLemmas.{HasLowValue-none, counted-none, counted-count}
use Rattle.sk_clock.proofs.ticks.count_of.Goals as goal

pub returns-clause-low : goal.returns-clause-low
returns-clause-low c = λ low.
    let done = drop_all c.loop-i.i c.args.values.now (omega arith) in
    HasLowValue-none (offsets_of (drop c.loop-i.i c.args.fields.now)) (subst (λ (vs : List ℕ). HasLowValue (offsets_of (drop c.loop-i.i c.args.fields.now)) vs) done (c.loop-i.invariant.low low))

pub returns-clause-value : goal.returns-clause-value
returns-clause-value c = λ units.
    let rest = drop c.loop-i.i c.args.fields.now in
    let done = ap (λ (vs : List ℕ). counted rest vs) (drop_all c.loop-i.i c.args.values.now (omega arith)) ∙ counted-none rest in
    omega (arith, c.loop-i.invariant.summed, done, counted-count c.args.fields.now c.args.values.now units)
