-- The line of an observation by the triple that covers it.
use Rattle.std.proofs.Common.{◌≡◌, ℕ, ◌+◌, ◌*◌, ◌^◌, List, [], ◌∷◌, ◌++◌, decimal, sym, ap, ◌∙◌, Option}
use Rattle.std.specs.Prelude.{ℤ, ◌-ℤ◌}
use Rattle.std.specs.List.{join_with_byte}
use Rattle.sk_decimal.specs.Fixed.{fixed_text}
use Rattle.sk_decimal.specs.Quotient.{floor_quotient}
use Rattle.sk_clock.specs.Clock.{ClockView, ticks_per, clock_text}
use Rattle.sk_line.specs.Triple.{TripleView}
use Rattle.sk_line.specs.Line.{line_over}
use Rattle.sk_triples.specs.Kernel.{TriplesView}
use Rattle.sk_publishing.specs.Row.{RowView}
use Rattle.sk_publishing.specs.Table.{KernelView, kernel_view, floored_time, time_fields}
use Rattle.sk_audit.specs.declared.times.Timed.{Timed}
use Rattle.sk_audit.specs.Rows.{IsTimed, line_with, fields_of}

module _ (clock : ClockView) (k : TriplesView) (row : RowView) (timed : Timed) (kind ended : List ℕ) (h : IsTimed k row.tick timed) (same : k.per_count ≡ ticks_per clock) where
  abbrev view : KernelView
  view = kernel_view 12 clock k.triples

  floored : floored_time view h.triple row.tick ≡ timed.time.units
  floored = ap (λ (p : ℕ). floor_quotient (line_over p h.triple.anchor h.triple.rate row.tick) (10 ^ 6 * p)) (sym same) ∙ sym h.floored

  abbrev with_found : Option (ℕ × TripleView) → List ℕ
  with_found found = join_with_byte 59 (row.id ∷ clock_text clock row.tick ∷ fixed_text 12 row.time ∷ (time_fields view row found ++ kind ∷ ended ∷ []))

  abbrev with_time : ℤ → List ℕ
  with_time time = join_with_byte 59 (row.id ∷ clock_text clock row.tick ∷ fixed_text 12 row.time
      ∷ fixed_text 12 time ∷ fixed_text 0 (row.time -ℤ time) ∷ decimal (timed.place + 1) ∷ kind ∷ ended ∷ [])

  pub row_is : line_with row (clock_text clock row.tick) timed kind ended ≡ fields_of view row kind ended
  row_is = sym (ap with_found h.covers ∙ ap with_time floored)
