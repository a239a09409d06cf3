use Rattle.std.proofs.Common.{◌≡◌, ℕ, ◌<◌, arith, subst, sym}
use Rattle.std.proofs.lemmas.Int.{ints, to_z-of_z}
use mir.Syntax.{w128}
use mir.Val.{to_z, of_z}
use Rattle.std.specs.Prelude.{ℤ, pos, ◌*ℤ◌, ◌≤ℤ◌, ◌<ℤ◌}
use Rattle.sk_decimal.proofs.Signed.{mul-le_right}
use Rattle.sk_audit.proofs.anchors.on_grid.Goals as goal

positive : (s : ℤ) (g : ℕ) → pos 1 ≤ℤ s → 0 < g → pos 0 <ℤ (s *ℤ pos g)
positive s g h k = let p = mul-le_right (pos 1) s g h in omega (arith, ints)

small : (z : ℤ) → pos 0 <ℤ z → z ≤ℤ pos 1000000000000000000000 → to_z w128 (of_z w128 z) ≡ z
small z h k = omega (arith, ints)

pub returns-clause-positive : goal.returns-clause-positive
returns-clause-positive c =
    let p = positive c.args.steps c.args.grid c.requires.from c.requires.positive in
    let steps : to_z w128 (of_z w128 c.args.steps) ≡ c.args.steps = to_z-of_z w128 c.args.steps c.ranges.steps in
    let step : to_z w128 c.args.grid ≡ pos c.args.grid = omega (arith, ints) in
    let all : (to_z w128 (of_z w128 c.args.steps) *ℤ to_z w128 c.args.grid) ≡ (c.args.steps *ℤ pos c.args.grid) = cc in
    subst (λ (x : ℤ). pos 0 <ℤ to_z w128 (of_z w128 x)) (sym all)
    (subst (λ (x : ℤ). pos 0 <ℤ x) (sym (small (c.args.steps *ℤ pos c.args.grid) p c.requires.to)) p)
