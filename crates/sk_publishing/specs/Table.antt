-- The residual table.
use Rattle.std.specs.Prelude.{ℕ, ◌+◌, ◌-◌, ◌*◌, ◌^◌, ℤ, ◌-ℤ◌, Bool, false, ◌==◌, nat_le, List, [], ◌∷◌, ◌++◌, length, codes, decimal, find, slice_get, Option, Some, None, if◌then◌else◌}
use Rattle.std.specs.List.{list_any, join_with_byte}
use Rattle.std.specs.Option.{option_map_or}
use Rattle.sk_decimal.specs.Fixed.{fixed_text}
use Rattle.sk_publishing.specs.Row.{RowView}
use Rattle.sk_clock.specs.Clock.{ClockView, ticks_per, clock_text}
use Rattle.sk_decimal.specs.Quotient.{floor_quotient}
use Rattle.sk_line.specs.Triple.{TripleView}
use Rattle.sk_line.specs.Line.{line_over, covering}
use Rattle.sk_publishing.specs.Chain.{SegmentView, EndView, LastEnd, PartitionEnd, FixedEnd, BlockedEnd, last_of}

-- a chain as the table needs it: how many are old, which places are dropped, and the segments
pub record ChainView : Type 0 where
  pub first_new : ℕ
  pub dropped : List ℕ
  pub segments : List SegmentView

-- the kernel by which ticks become times: decimals of the time unit, ticks per count, canonical clock text, triples
pub record KernelView : Type 0 where
  pub decimals : ℕ
  pub per_count : ℕ
  pub clock_text : ℕ → List ℕ
  pub triples : List TripleView

-- the kernel of a clock and its triples, with times of so many decimals
abbrev pub kernel_view : ℕ → ClockView → List TripleView → KernelView
kernel_view decimals clock triples =
    record { decimals = decimals; per_count = ticks_per clock; clock_text = clock_text clock; triples = triples }

-- the time of a tick by a triple, floored to the time unit
abbrev pub floored_time : KernelView → TripleView → ℕ → ℤ
floored_time k triple tick =
    floor_quotient (line_over k.per_count triple.anchor triple.rate tick) (10 ^ (18 - k.decimals) * k.per_count)

abbrev pub number_at : List RowView → ℕ → List ℕ
number_at rows place = option_map_or (λ row. decimal row.number) (slice_get rows place) []

abbrev pub end_text : List RowView → EndView → List ℕ
end_text rows LastEnd = codes "last"
end_text rows PartitionEnd = codes "partition"
end_text rows FixedEnd = codes "fixed"
end_text rows (BlockedEnd low high) = codes "blocked:" ++ number_at rows low ++ codes ":" ++ number_at rows high

-- the place is that of the last observation that the segment covers
abbrev pub is_left_at : ℕ → SegmentView → Bool
is_left_at place s = option_map_or (λ o. o.place == place) (last_of s.covered) false

-- `new`, `dropped` or `old`
abbrev pub kind_text : Option ChainView → ℕ → List ℕ
kind_text None place = codes "old"
kind_text (Some chain) place =
    if list_any (λ d. d == place) chain.dropped then codes "dropped"
    else if nat_le chain.first_new place then codes "new"
    else codes "old"

-- on the last observation that a segment covers, that segment's end
abbrev pub end_field : Option ChainView → List RowView → ℕ → List ℕ
end_field None rows place = []
end_field (Some chain) rows place =
    option_map_or (λ s. end_text rows s.ended) (find (is_left_at place) chain.segments) []

-- the time by the kernel, the difference and the triple's number
abbrev pub time_fields : KernelView → RowView → Option (ℕ × TripleView) → List (List ℕ)
time_fields k row None = []
time_fields k row (Some found) =
    let time = floored_time k found.1 row.tick in
    fixed_text k.decimals time ∷ fixed_text 0 (row.time -ℤ time) ∷ decimal found.0 ∷ []

abbrev pub row_line : KernelView → Option ChainView → List RowView → ℕ → RowView → List ℕ
row_line k chain rows place row = join_with_byte 59
    (row.id ∷ k.clock_text row.tick ∷ fixed_text k.decimals row.time
    ∷ (time_fields k row (covering k.triples row.tick) ++ kind_text chain place ∷ end_field chain rows place ∷ []))

abbrev pub row_lines_from : KernelView → Option ChainView → List RowView → ℕ → List RowView → List (List ℕ)
row_lines_from k chain rows place [] = []
row_lines_from k chain rows place (row ∷ rest) =
    row_line k chain rows place row ∷ row_lines_from k chain rows (place + 1) rest

-- the count, and a line for each observation
abbrev pub table_lines : KernelView → Option ChainView → List RowView → List (List ℕ)
table_lines k chain rows =
    (codes "residuals;" ++ decimal (length rows)) ∷ row_lines_from k chain rows 0 rows
