use Rattle.std.proofs.Common.{ℕ, ◌-◌, ◌^◌, ◌<◌, ◌≤◌, arith, subst, sym}
use Rattle.std.proofs.Math.Nat.{pow-le-pow_right}
use Rattle.sk_line.proofs.Products.{power_positive}
use Rattle.sk_audit.proofs.products.grid.Goals as goal

small : (d : ℕ) → 1 ≤ d → 10 ^ (18 - d) ≤ 10 ^ 17
small d h = pow-le-pow_right (omega arith) {i = 18 - d} {j = 17} (omega arith)

pub returns-clause-small : goal.returns-clause-small
returns-clause-small c = subst (λ (x : ℕ). x ≤ 10 ^ 17) (sym c.pow.ensures) (small c.args.rate_decimals c.requires.from)

pub returns-clause-positive : goal.returns-clause-positive
returns-clause-positive c = subst (λ (x : ℕ). 0 < x) (sym c.pow.ensures) (power_positive (18 - c.args.rate_decimals))
