-- The residual of an observation is the difference from its time by the kernel.
use Rattle.std.proofs.Common.{◌≡◌, ℕ, ◌*◌, ◌^◌, Option, ap, sym, ◌∙◌}
use Rattle.std.specs.Prelude.{ℤ, pos, ◌-ℤ◌}
use Rattle.std.specs.Option.{option_map_or}
use Rattle.sk_clock.specs.Clock.{ClockView}
use Rattle.sk_decimal.specs.Quotient.{floor_quotient}
use Rattle.sk_line.specs.Line.{line_over}
use Rattle.sk_line.specs.Triple.{TripleView}
use Rattle.sk_publishing.specs.Row.{RowView}
use Rattle.sk_publishing.specs.Table.{KernelView, kernel_view, floored_time}
use Rattle.sk_triples.specs.Kernel.{TriplesView, AreOf}
use Rattle.sk_report.specs.Line.{IsTimed}
use Rattle.sk_report.specs.declared.times.Timed.{Timed}
use Rattle.sk_outcome.specs.Drawn.{residual_by}

pub timed_residual : (triples : TriplesView) (clock : ClockView) (row : RowView) (t : Timed) → AreOf clock triples → IsTimed triples row.tick t
    → row.time -ℤ t.time.units ≡ residual_by (kernel_view 12 clock triples.triples) row
timed_residual triples clock row t are timed =
    let k : KernelView = kernel_view 12 clock triples.triples in
    let floored : t.time.units ≡ floored_time k timed.triple row.tick =
    timed.floored ∙ ap (λ (n : ℕ). floor_quotient (line_over n timed.triple.anchor timed.triple.rate row.tick) (10 ^ 6 * n)) are.0 in
    ap (λ (z : ℤ). row.time -ℤ z) floored
    ∙ ap (λ (o : Option (ℕ × TripleView)). option_map_or (λ found. row.time -ℤ floored_time k found.1 row.tick) o (pos 0)) (sym timed.covers)
