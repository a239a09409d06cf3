use Rattle.std.proofs.Common.{◌≡◌, ℕ, ◌≤◌, sym, subst, arith}
use Rattle.sk_plot.specs.Scale.{round_from, round_up}
use Rattle.sk_plot.proofs.Rounded.{covers, begins}
use Rattle.sk_plot.proofs.scale.round_up.Goals as goal

pub loop-more-init : goal.loop-more-init
loop-more-init c = record { steps = begins c.args.wanted; unit = omega arith; some = omega arith }

-- no unit is left
none : (more unit wanted : ℕ) → more ≤ 0 → round_from more unit wanted ≡ round_up wanted → unit ≡ round_up wanted
none more unit wanted h e =
    let nought : more ≡ 0 = omega (arith, h) in
    subst (λ (m : ℕ). round_from m unit wanted ≡ round_up wanted) nought e

pub returns-clause-covers : goal.returns-clause-covers
returns-clause-covers c =
    let nought : c.loop-more.more ≤ 0 = omega (arith, c.loop-more-test.false) in
    let is : c.loop-more.unit ≡ round_up c.args.wanted = none c.loop-more.more c.loop-more.unit c.args.wanted nought c.loop-more.invariant.steps in
    subst (λ (x : ℕ). c.args.wanted ≤ x) (sym is)
    (covers c.args.wanted c.requires)
