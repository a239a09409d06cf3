use Rattle.std.proofs.Common.{arith, rules}
use Rattle.sk_decimal.proofs.Signed.{<ℤ-or-≤ℤ}
use Rattle.sk_least.proofs.Sides.{hidden_down, convex_kept, edge_rises}
use Rattle.sk_least.proofs.hull.kept.Goals as goal

pub is_less_steep-requires-clause-first : goal.is_less_steep-requires-clause-first
is_less_steep-requires-clause-first c = edge_rises c.args.hull.now c.loop-count.count c.index-hull-count.result c.index-hull-count-in-loop-count.result (omega arith) c.loop-count.invariant.within
    c.index-hull-count.is c.index-hull-count-in-loop-count.is c.requires.rising

pub returns-then-is_less_steep-clause-convex : goal.returns-then-is_less_steep-clause-convex
returns-then-is_less_steep-clause-convex c = convex_kept c.args.hull.now c.args.next c.loop-count.count c.index-hull-count.result c.index-hull-count-in-loop-count.result (omega arith) c.loop-count.invariant.within
    c.index-hull-count.is c.index-hull-count-in-loop-count.is c.requires.convex (c.is_less_steep.ensures.0 (search rules))

pub loop-count-preserved : goal.loop-count-preserved
loop-count-preserved c = hidden_down c.args.hull.now c.args.next c.loop-count.count c.index-hull-count.result c.index-hull-count-in-loop-count.result (omega arith)
    c.index-hull-count.is c.index-hull-count-in-loop-count.is c.requires.rising c.requires.before (<ℤ-or-≤ℤ _ _ (λ less. grind (arith, c.is_less_steep.ensures.1 less))) c.loop-count.invariant
