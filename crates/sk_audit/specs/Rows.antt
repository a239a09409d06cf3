-- One line of the table.
use Rattle.std.specs.Prelude.{◌≡◌, ℕ, ◌+◌, ◌*◌, ◌^◌, ◌-ℤ◌, List, [], ◌∷◌, ◌++◌, decimal, Some}
use Rattle.std.specs.List.{join_with_byte}
use Rattle.sk_decimal.specs.Fixed.{fixed_text}
use Rattle.sk_decimal.specs.Quotient.{floor_quotient}
use Rattle.sk_publishing.specs.Row.{RowView}
use Rattle.sk_clock.specs.Clock.{ClockView, IsClock}
use Rattle.sk_obs.specs.Observation.{IsId}
use Rattle.sk_line.specs.Triple.{TripleView}
use Rattle.sk_line.specs.Line.{line_over, covering}
use Rattle.sk_triples.specs.Kernel.{TriplesView}
use Rattle.sk_publishing.specs.Table.{KernelView, time_fields}
use Rattle.sk_audit.specs.declared.times.Timed.{Timed}

-- the time and the place are those of the triple that covers the tick
pub record IsTimed (k : TriplesView) (tick : ℕ) (t : Timed) : Type 0 where
  pub triple : TripleView
  pub covers : covering k.triples tick ≡ Some (t.place + 1, triple)
  pub floored : t.time.units ≡ floor_quotient (line_over k.per_count triple.anchor triple.rate tick) (10 ^ 6 * k.per_count)

-- the fields of an observation with this clock text, time, kind and end
abbrev pub line_with : RowView → List ℕ → Timed → List ℕ → List ℕ → List ℕ
line_with row text timed kind ended = join_with_byte 59
    (row.id ∷ text ∷ fixed_text 12 row.time ∷ fixed_text 12 timed.time.units ∷ fixed_text 0 (row.time -ℤ timed.time.units)
    ∷ decimal (timed.place + 1) ∷ kind ∷ ended ∷ [])

-- the fields of an observation by a kernel, with this kind and end
abbrev pub fields_of : KernelView → RowView → List ℕ → List ℕ → List ℕ
fields_of k row kind ended = join_with_byte 59
    (row.id ∷ k.clock_text row.tick ∷ fixed_text k.decimals row.time
    ∷ (time_fields k row (covering k.triples row.tick) ++ kind ∷ ended ∷ []))

-- what is known of a clock and an observation that has a line
abbrev pub IsLined : ClockView → RowView → Type 0
IsLined clock row = IsClock clock × IsId row.id
