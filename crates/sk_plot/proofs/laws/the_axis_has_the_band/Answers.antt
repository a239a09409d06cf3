use Rattle.std.proofs.Common.{◌≡◌, ℕ, ◌+◌, ◌*◌, ◌/◌, ◌^◌, ◌≤◌, arith}
use Rattle.std.specs.Prelude.{max, min}
use Rattle.sk_plot.specs.Picture.{worst_size}
use Rattle.sk_plot.specs.Scale.{round_up, wanted_of, step_of}
use Rattle.sk_plot.proofs.Rounded.{covers}
use Rattle.sk_plot.proofs.laws.the_axis_has_the_band.Goals as goal

fifth : (t w s : ℕ) → t ≤ w → (w + 4) / 5 ≤ s → t ≤ 5 * s
fifth t w s h k = omega arith

few : (w : ℕ) → w ≤ 4 * 10 ^ 17 → (w + 4) / 5 ≤ 10 ^ 18
few w h = omega arith

shown : (t worst : ℕ) → t ≤ 10 ^ 17 → (t ≤ wanted_of t worst) × (wanted_of t worst ≤ 4 * 10 ^ 17)
shown t worst h = (omega arith, omega arith)

pub returns : goal.returns
returns c = λ days level tolerance points h.
    let s = shown tolerance (worst_size points) h in
    fifth tolerance (wanted_of tolerance (worst_size points)) (step_of (wanted_of tolerance (worst_size points))) s.0
    (covers ((wanted_of tolerance (worst_size points) + 4) / 5) (few (wanted_of tolerance (worst_size points)) s.1))
