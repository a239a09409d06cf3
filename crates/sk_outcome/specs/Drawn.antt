-- What `plot` reads, and what it draws: the observations as they lie from a kernel, its triples, and what is written
-- beside them.
use Rattle.std.specs.Prelude.{ℕ, ◌+◌, ◌-◌, ◌*◌, ◌^◌, nat_lt, Bool, false, ℤ, pos, ◌-ℤ◌, ◌*ℤ◌, List, [], ◌∷◌, ◌++◌, map, codes, decimal, flat_map, slice_get, Option, Some, None}
use Rattle.std.specs.Int.{int_div_euclid}
use Rattle.std.specs.Option.{option_map_or}
use Rattle.sk_clock.specs.Clock.{ClockView, partition_at}
use Rattle.sk_decimal.specs.Quotient.{floor_quotient}
use Rattle.sk_line.specs.Triple.{TripleView}
use Rattle.sk_line.specs.Line.{covering}
use Rattle.sk_plot.specs.Point.{PointView, PanelView}
use Rattle.sk_plot.specs.declared.piece.Piece.{Piece}
use Rattle.sk_publishing.specs.Row.{RowView}
use Rattle.sk_publishing.specs.Table.{KernelView, kernel_view, floored_time}
use Rattle.sk_status.specs.declared.status.DocumentKind.TheVariants.{New}
use Rattle.sk_status.specs.declared.status.Status.{Status}
use Rattle.sk_status.specs.declared.status.Status.TheVariants.{KernelRefused, NewRefused}
use Rattle.sk_grammar.specs.Document.{DocView}
use Rattle.sk_words.specs.declared.tables.Command.TheVariants.{Plot}
use Rattle.sk_words.specs.declared.tables.OptionName.{OptionName}
use Rattle.sk_words.specs.declared.tables.OptionName.TheVariants as opt
use Rattle.sk_words.specs.Help.{version}
use Rattle.sk_words.specs.Request.{Options, name_of, uses, number_or}
use Rattle.sk_outcome.specs.Stage.{Stage, ◌>>=◌, gives}
use Rattle.sk_outcome.specs.Seen.{Source}
use Rattle.sk_outcome.specs.Files.{judged, document, kernel_meaning, KernelRead, InputsRead, inputs_read, sc_of}

-- ---- what is read

-- what a document that is no clock kernel makes of the run, where it is that of `--new`
abbrev pub as_new : Status → Status
as_new (KernelRefused stop) = NewRefused stop
as_new status = status

-- what the document of `--new` means as a clock kernel
abbrev pub new_meaning : ℕ → DocView → Stage KernelRead
new_meaning sc doc = judged (kernel_meaning sc doc) as_new

abbrev pub second_of : KernelRead → Option KernelRead
second_of kernel = Some kernel

-- the kernel of `--new`; none where it is not given
abbrev pub second_named : Source → ℕ → Option (List ℕ) → Stage (Option KernelRead)
second_named source sc None = gives None
second_named source sc (Some name) = do
  doc ← document source New name
  kernel ← new_meaning sc doc
  gives (second_of kernel)

abbrev pub second_kernel : Source → Options → Stage (Option KernelRead)
second_kernel source options = second_named source (sc_of options) (options opt.New)

-- the clock kernel and the observations, and then the second kernel
pub record PlotRead : Type 0 where
  pub inputs : InputsRead
  pub second : Option KernelRead

abbrev pub plot_read : Source → Options → Stage PlotRead
plot_read source options = do
  inputs ← inputs_read source options
  second ← second_kernel source options
  gives (record { inputs = inputs; second = second })

-- ---- the observations

-- the difference that the residual table has: the observed time less the floored time by the kernel
abbrev pub residual_by : KernelView → RowView → ℤ
residual_by kernel row = option_map_or (λ found. row.time -ℤ floored_time kernel found.1 row.tick) (covering kernel.triples row.tick) (pos 0)

abbrev pub point_by : KernelView → RowView → PointView
point_by kernel row = record { id = row.id; clock = kernel.clock_text row.tick; time = row.time; residual = residual_by kernel row }

abbrev pub points_of : KernelView → List RowView → List PointView
points_of kernel rows = map (point_by kernel) rows

-- ---- the triples

-- the time at which a triple begins, floored to 10^-12 s; of none a time after all others
abbrev pub begins_at : Option TripleView → ℤ
begins_at triple = option_map_or (λ t. floor_quotient t.anchor.time (10 ^ 6)) triple (pos (10 ^ 23))

abbrev pub first_rate : List TripleView → ℤ
first_rate triples = option_map_or (λ first. first.rate) (slice_get triples 0) (pos 1)

-- by how much a rate differs from the first one, in parts of 10^15 of that one, floored
abbrev pub drift_of : ℤ → ℤ → ℤ
drift_of first rate = int_div_euclid ((rate -ℤ first) *ℤ pos (10 ^ 15)) first

-- the triple is the first one after the beginning of a partition, other than the first triple
abbrev pub begins_partition : ClockView → List TripleView → ℕ → TripleView → Bool
begins_partition clock triples place triple =
    option_map_or (λ before. nat_lt (partition_at clock before.anchor.ticks) (partition_at clock triple.anchor.ticks)) (slice_get triples (place - 1)) false

abbrev pub piece_at : ClockView → List TripleView → ℕ → TripleView → Piece
piece_at clock triples place triple = record {
  number = place + 1;
  from = record { units = begins_at (Some triple) };
  to = record { units = begins_at (slice_get triples (place + 1)) };
  begins_partition = begins_partition clock triples place triple;
  drift = record { units = drift_of (first_rate triples) triple.rate };
}

-- those from a place on
abbrev pub pieces_from : ClockView → List TripleView → ℕ → List TripleView → List Piece
pieces_from clock triples place [] = []
pieces_from clock triples place (triple ∷ rest) = piece_at clock triples place triple ∷ pieces_from clock triples (place + 1) rest

abbrev pub pieces_of : ClockView → List TripleView → List Piece
pieces_of clock triples = pieces_from clock triples 0 triples

-- ---- the picture

abbrev pub panel_of : KernelRead → List RowView → PanelView
panel_of kernel rows = record {
  points = points_of (kernel_view 12 kernel.clock kernel.triples.triples) rows;
  pieces = pieces_of kernel.clock kernel.triples.triples;
}

abbrev pub title_of : Options → List ℕ
title_of options = codes "Clock residuals, spacecraft " ++ decimal (sc_of options)

-- an option as it was given
abbrev pub given_as : OptionName → Option (List ℕ) → List ℕ
given_as name text = option_map_or (λ t. codes " --" ++ (name_of name ++ (codes "=" ++ t))) text []

-- the program, its version, and the options
abbrev pub foot_of : Options → List ℕ
foot_of options = (codes "station " ++ (version ++ codes " plot")) ++ flat_map (λ name. given_as name (options name)) (uses Plot)

-- in 10^-12 s
abbrev pub tolerance_of : Options → ℕ
tolerance_of options = number_or 1000000 opt.TolNs options * 1000
