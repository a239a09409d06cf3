-- The lines and texts that commands write.
use Rattle.std.specs.Prelude.{ℕ, ◌-◌, ◌*◌, ℤ, pos, List, [], ◌∷◌, ◌++◌, length, flat_map, codes, decimal, slice_get, Option, Some, None}
use Rattle.std.specs.List.{join_with_byte}
use Rattle.std.specs.Option.{option_map, option_map_or}
use Rattle.sk_grammar.specs.Document.{DocView}
use Rattle.sk_clock.specs.Clock.{clock_text}
use Rattle.sk_publishing.specs.Row.{RowView}
use Rattle.sk_decimal.specs.Fixed.{fixed_text}
use Rattle.sk_line.specs.Triple.{TripleView}
use Rattle.sk_triples.specs.Kernel.{TriplesView}
use Rattle.sk_publishing.specs.Table.{kernel_view, floored_time}
use Rattle.sk_publishing.specs.Published.{published_block, appended}
use Rattle.sk_fit.specs.declared.chain.Chain.{Chain}
use Rattle.sk_fit.specs.declared.settings.Settings.{Settings}
use Rattle.sk_fit.specs.Given.{new_triples_of}
use Rattle.sk_audit.specs.declared.settings.AuditSettings.{AuditSettings}
use Rattle.sk_report.specs.Report.{table_of}
use Rattle.sk_least.specs.declared.stretch.Stretch.{Stretch}
use Rattle.sk_least.specs.declared.stretch.Stop.{Stop}
use Rattle.sk_least.specs.declared.stretch.Stop.TheVariants.{Last, Partition, Bent}
use Rattle.sk_words.specs.declared.tables.OptionName.TheVariants as opt
use Rattle.sk_words.specs.Request.{Options, number_or}
use Rattle.sk_outcome.specs.Files.{KernelRead, sc_of}

-- ---- settings

abbrev pub in_picoseconds : ℕ → ℤ
in_picoseconds nanoseconds = pos (nanoseconds * 1000)

abbrev pub settings_of : Options → Settings
settings_of options = record {
  tolerance = record { units = in_picoseconds (number_or 1000000 opt.TolNs options) };
  rate_decimals = number_or 12 opt.RateDecimals options;
  band = number_or 1000 opt.BandPpm options;
  slip = record { units = pos (number_or 1000000 opt.SlipNs options) };
  hold = option_map (λ _. number_or 0 opt.Hold options) (options opt.Hold);
  reject = number_or 0 opt.Reject options;
}

-- the same, as the auditor has it
abbrev pub audit_settings_of : Options → AuditSettings
audit_settings_of options = record {
  tolerance = (settings_of options).tolerance;
  rate_decimals = (settings_of options).rate_decimals;
  band = (settings_of options).band;
  slip = (settings_of options).slip;
  hold = (settings_of options).hold;
  reject = (settings_of options).reject;
}

-- ---- tables

-- the table by the kernel itself, and that of a publication by the new kernel
abbrev pub plain_table : KernelRead → List RowView → List (List ℕ)
plain_table kernel observations = table_of kernel.clock kernel.triples observations None

abbrev pub new_kernel : KernelRead → Chain → TriplesView
new_kernel kernel chain = record {
  triples = kernel.triples.triples ++ new_triples_of chain;
  per_count = kernel.triples.per_count;
  total = kernel.triples.total;
}

abbrev pub published_table : KernelRead → List RowView → Chain → List (List ℕ)
published_table kernel observations chain = table_of kernel.clock (new_kernel kernel chain) observations (Some chain)

-- ---- the published kernel

abbrev pub dated : Options → Option (List ℕ)
dated options = option_map (λ text. codes "@" ++ text) (options opt.Id)

abbrev pub published_doc : Options → KernelRead → List RowView → Chain → DocView
published_doc options kernel observations chain =
    appended kernel.doc (published_block (dated options) (sc_of options) (new_triples_of chain) (published_table kernel observations chain))

-- ---- lines

abbrev pub line_of : List (List ℕ) → List ℕ
line_of fields = join_with_byte 59 fields ++ 10 ∷ []

-- the time of a tick, floored to the time unit
abbrev pub time_by : KernelRead → TripleView → ℕ → ℤ
time_by kernel triple tick = floored_time (kernel_view 12 kernel.clock kernel.triples.triples) triple tick

-- clock text, tick and floored time
abbrev pub tick_fields : KernelRead → TripleView → ℕ → List (List ℕ)
tick_fields kernel triple tick =
    clock_text kernel.clock tick ∷ decimal tick
    ∷ fixed_text 12 (time_by kernel triple tick) ∷ []

-- what `audit` says of a kernel that is accepted
abbrev pub yes_line : List ℕ
yes_line = line_of (codes "yes" ∷ [])

abbrev pub id_at : List RowView → ℕ → List ℕ
id_at observations place = option_map_or (λ o. o.id) (slice_get observations place) []

abbrev pub number_at : List RowView → ℕ → List ℕ
number_at observations place = option_map_or (λ o. decimal o.number) (slice_get observations place) []

abbrev pub stop_text : List RowView → Stop → List ℕ
stop_text observations Last = codes "last"
stop_text observations Partition = codes "partition"
stop_text observations (Bent a b c d) = codes "bent:" ++ join_with_byte 58
    (number_at observations a ∷ number_at observations b ∷ number_at observations c ∷ number_at observations d ∷ [])

abbrev pub stretch_line : List RowView → Stretch → List ℕ
stretch_line observations s =
    line_of (id_at observations s.first ∷ id_at observations (s.past - 1) ∷ stop_text observations s.stop ∷ [])

abbrev pub least_text : List RowView → List Stretch → List ℕ
least_text observations stretches =
    line_of (codes "least" ∷ decimal (length stretches) ∷ []) ++ flat_map (stretch_line observations) stretches
