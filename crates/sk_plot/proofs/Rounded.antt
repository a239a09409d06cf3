-- Round steps.
use Rattle.std.proofs.Common.{◌≡◌, ℕ, zero, suc, ◌-◌, ◌*◌, ◌^◌, ◌<◌, ◌≤◌, refl, ap, ◌∙◌, arith}
use Rattle.std.specs.Prelude.{nat_le, if◌then◌else◌}
use Rattle.sk_plot.specs.Scale.{chosen, round_from, round_up}

pub chosen_covers : (unit wanted : ℕ) → wanted ≤ 5 * unit → wanted ≤ chosen unit wanted
chosen_covers unit wanted h = grind arith

-- units of at most ten to the power that is left reach what is wanted
pub from_covers : (more unit wanted : ℕ) → wanted ≤ unit * 10 ^ more → wanted ≤ round_from more unit wanted
from_covers zero unit wanted h = omega arith
from_covers (suc more) unit wanted h =
    let tenfold : unit * 10 ^ suc more ≡ 10 * unit * 10 ^ more = shifted unit (10 ^ more) (10 ^ suc more) (omega arith) in
    let later : wanted ≤ 10 * unit * 10 ^ more = omega (arith, tenfold, h) in
    split wanted (5 * unit) (chosen unit wanted) (round_from more (10 * unit) wanted) (chosen_covers unit wanted) (from_covers more (10 * unit) wanted later)
  where
    moved : (u p : ℕ) → u * (10 * p) ≡ 10 * u * p
    moved u p = omega arith

    shifted : (u p q : ℕ) → q ≡ 10 * p → u * q ≡ 10 * u * p
    shifted u p q e = ap (λ (x : ℕ). u * x) e ∙ moved u p

    split : (w b x y : ℕ) → (w ≤ b → w ≤ x) → w ≤ y → w ≤ (if nat_le w b then x else y)
    split w b x y f h = grind arith

pub covers : (wanted : ℕ) → wanted ≤ 10 ^ 18 → wanted ≤ round_up wanted
unfolding round_up
covers wanted h = from_covers 18 1 wanted (omega arith)

pub begins : (wanted : ℕ) → round_from 18 1 wanted ≡ round_up wanted
unfolding round_up
begins wanted = refl

pub done : (more unit wanted : ℕ) → 0 < more → wanted ≤ 5 * unit → round_from more unit wanted ≡ chosen unit wanted
done zero unit wanted h k = absurd (omega arith)
done (suc more) unit wanted h k = grind arith

pub goes_on : (more unit wanted : ℕ) → 0 < more → 5 * unit < wanted → round_from more unit wanted ≡ round_from (more - 1) (10 * unit) wanted
goes_on zero unit wanted h k = absurd (omega arith)
goes_on (suc more) unit wanted h k = grind arith
