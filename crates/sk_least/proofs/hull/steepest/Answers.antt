use Rattle.std.proofs.Common.{arith, rules}
use Rattle.sk_decimal.proofs.Signed.{<ℤ-or-≤ℤ}
use Rattle.sk_least.proofs.Sides.{climb_begun, climb_on, climbed_all, climbed_to_top}
use Rattle.sk_least.proofs.hull.steepest.Goals as goal

pub loop-place-init : goal.loop-place-init
loop-place-init c = climb_begun c.args.slack c.args.hull.now c.args.next c.requires.some

pub returns-then-not-is_less_steep : goal.returns-then-not-is_less_steep
returns-then-not-is_less_steep c = climbed_to_top c.args.slack c.args.hull.now c.args.next c.loop-place.place c.index-hull-place.result c.index-hull-place-in-loop-place.result (omega arith)
    c.index-hull-place.is c.index-hull-place-in-loop-place.is c.requires.rising c.requires.convex c.requires.before (<ℤ-or-≤ℤ _ _ (λ less. grind (arith, c.is_less_steep.ensures.1 less))) c.loop-place.invariant

pub loop-place-preserved : goal.loop-place-preserved
loop-place-preserved c = climb_on c.args.slack c.args.hull.now c.args.next c.loop-place.place c.index-hull-place.result c.index-hull-place-in-loop-place.result (omega arith)
    c.index-hull-place.is c.index-hull-place-in-loop-place.is c.requires.rising c.requires.before (c.is_less_steep.ensures.0 (search rules)) c.loop-place.invariant

pub returns : goal.returns
returns c = climbed_all c.args.slack c.args.hull.now c.args.next c.loop-place.place (omega arith) c.loop-place.invariant
