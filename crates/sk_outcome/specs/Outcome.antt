-- What a run of each command comes to: the text that it writes, or the status that ends it first.
use Rattle.std.specs.Prelude.{◌≡◌, ℕ, ◌^◌, ℤ, pos, ◌*ℤ◌, List, [], ◌∷◌, ◌++◌, codes, Result, Ok, Err, Option, Some, None, ⊤}
use Rattle.sk_grammar.specs.Canonical.{canonical_text, ended_by_line_feeds}
use Rattle.sk_grammar.specs.Document.{DocView}
use Rattle.sk_checks.specs.Checks.{Judges}
use Rattle.sk_leap.specs.declared.pair.LeapPair.{LeapPair}
use Rattle.sk_publishing.specs.Row.{RowView}
use Rattle.sk_clock.specs.Clock.{ClockView, total, lengths}
use Rattle.sk_obs.specs.declared.fault.ClockWord.{ClockWord}
use Rattle.sk_obs.specs.Words.{word_checks, IsClockWord, time_word, SaysTime}
use Rattle.sk_line.specs.Triple.{TripleView}
use Rattle.sk_publishing.specs.Terms.{sights}
use Rattle.sk_line.specs.Line.{covering}
use Rattle.sk_triples.specs.Kernel.{TriplesView, range_checks}
use Rattle.sk_fit.specs.declared.chain.Chain.{Chain}
use Rattle.sk_fit.specs.Causes.{Fits, input}
use Rattle.sk_fit.specs.Given.{new_triples_of}
use Rattle.sk_report.specs.Report.{table_checks}
use Rattle.sk_report.specs.declared.fault.ReportFault.{ReportFault}
use Rattle.sk_report.specs.declared.fault.ReportFault.TheVariants as report_fault
use Rattle.sk_inverse.specs.Inverse.{IsTickOf, inverse_checks}
use Rattle.sk_inverse.specs.declared.fault.InverseFault.{InverseFault}
use Rattle.sk_inverse.specs.declared.fault.InverseFault.TheVariants as inverse_fault
use Rattle.sk_audit.specs.Audit as aud
use Rattle.sk_audit.specs.declared.verdict.AuditFault.{AuditFault}
use Rattle.sk_audit.specs.declared.verdict.Verdict.TheVariants.{Yes, No}
use Rattle.sk_excerpt.specs.Excerpt as ex
use Rattle.sk_least.specs.Answer as cover
use Rattle.sk_least.specs.declared.stretch.Stretch.{Stretch}
use Rattle.sk_words.specs.declared.tables.Command.{Command}
use Rattle.sk_words.specs.declared.tables.Command.TheVariants.{Publish, Residuals, Normal, Convert, Sample, Invert, Audit, Excerpt, Least, Plot}
use Rattle.sk_status.specs.declared.status.Status.{Status}
use Rattle.sk_status.specs.declared.status.Status.TheVariants.{WordsRefused, ObservationRefused, NotPublished, TimeRefused, AuditNo, ExcerptRefused, NoMemory}
use Rattle.sk_status.specs.declared.status.ObsStop.TheVariants as obs_stop
use Rattle.sk_status.specs.declared.status.TimeStop.{TimeStop}
use Rattle.sk_status.specs.declared.status.TimeStop.TheVariants as time_stop
use Rattle.sk_words.specs.declared.tables.OptionName.TheVariants as opt
use Rattle.sk_words.specs.Asked.{Request, WordsAsk}
use Rattle.sk_words.specs.Help.{page_of}
use Rattle.sk_words.specs.Topics.{topic_of}
use Rattle.sk_words.specs.declared.topic.Topic.{Topic}
use Rattle.sk_outcome.specs.Stage.{Stage, ◌>>=◌, gives, some}
use Rattle.sk_words.specs.Request.{Options, number_or, text_or}
use Rattle.sk_outcome.specs.Seen.{Source}
use Rattle.sk_outcome.specs.Files.{judged, kernel_document, kernel_meaning, KernelRead, OpenedRead, InputsRead, AuditRead, opened_read, inputs_read, audit_read, sc_of}
use Rattle.sk_outcome.specs.Joined.{joined_kernel}
use Rattle.sk_outcome.specs.Output.{settings_of, audit_settings_of, plain_table, published_doc, tick_fields, time_by, line_of, yes_line, least_text, new_kernel}
use Rattle.sk_outcome.specs.Time.{time_stops, IsUtcWord}
use Rattle.sk_outcome.specs.Sample.{made_inputs, sample_line}
use Rattle.sk_plot.specs.Point.{PanelView}
use Rattle.sk_plot.specs.Picture.{picture_of}
use Rattle.sk_outcome.specs.Drawn.{PlotRead, plot_read, panel_of, title_of, foot_of, tolerance_of}

-- ---- parts of several commands

-- the triple that covers a tick; where there is none the record is out of range
abbrev pub covered : TriplesView → ℕ → ℕ → Stage TripleView
covered triples number tick = judged
    (Judges (range_checks triples tick) (λ triple. (n : ℕ) × (covering triples.triples tick ≡ Some (n, triple))))
    (λ fault. ObservationRefused (obs_stop.Range number fault))

abbrev pub status_of_report : ReportFault → Status
status_of_report (report_fault.Range number fault) = ObservationRefused (obs_stop.Range number fault)
status_of_report report_fault.NoMemory = NoMemory

-- each observation has a time by the kernel
abbrev pub all_covered : TriplesView → List RowView → Stage ⊤
all_covered triples observations = judged (Judges (table_checks triples observations) (λ _. ⊤)) status_of_report

-- the lines of the table by the kernel's own triples
abbrev pub tabled : KernelRead → List RowView → Stage (List (List ℕ))
tabled kernel observations = do
  covers ← all_covered kernel.triples observations
  gives (plain_table kernel observations)

abbrev pub chain_of : Options → KernelRead → List RowView → Stage Chain
chain_of options kernel observations =
    judged (Fits (input kernel.triples kernel.clock observations (settings_of options)) observations) NotPublished

-- ---- the commands

-- the published kernel
abbrev pub publish_of : Options → InputsRead → Stage (List ℕ)
publish_of options inputs = do
  chain ← chain_of options inputs.kernel inputs.observations
  covers ← all_covered (new_kernel inputs.kernel chain) inputs.observations
  gives (canonical_text (published_doc options inputs.kernel inputs.observations chain))

abbrev pub publish : Source → Options → Stage (List ℕ)
publish source options = do
  inputs ← inputs_read source options
  publish_of options inputs

-- the table of the observations
abbrev pub residuals_of : InputsRead → Stage (List ℕ)
residuals_of inputs = do
  lines ← tabled inputs.kernel inputs.observations
  gives (ended_by_line_feeds lines)

abbrev pub residuals : Source → Options → Stage (List ℕ)
residuals source options = do
  inputs ← inputs_read source options
  residuals_of inputs

-- the canonical text of a kernel
abbrev pub normal_of : DocView → Stage (List ℕ)
normal_of doc = gives (canonical_text doc)

abbrev pub normal : Source → Options → Stage (List ℕ)
normal source options = do
  doc ← kernel_document source options
  normal_of doc

-- what clock words and time words come to
abbrev pub TickOf : List ℕ → ClockView → Result ℕ ClockWord → Type 0
TickOf word clock = Judges (word_checks clock word) (IsClockWord clock word)

abbrev pub TimeOf : List ℕ → List LeapPair → Result ℤ TimeStop → Type 0
TimeOf word leap = Judges (time_stops leap word) (SaysTime leap (time_word word))

-- the tick of a clock word
abbrev pub clock_tick : List ℕ → ClockView → Stage ℕ
clock_tick word clock = judged (TickOf word clock) (λ w. ObservationRefused (obs_stop.Clock w))

-- the line of a tick, with the UTC of its time
abbrev pub converted : List LeapPair → KernelRead → ℕ → Stage (List ℕ)
converted leap kernel tick = do
  triple ← covered kernel.triples 0 tick
  utc ← some (IsUtcWord leap (time_by kernel triple tick))
  gives (line_of (tick_fields kernel triple tick ++ utc ∷ []))

abbrev pub convert_of : Options → OpenedRead → Stage (List ℕ)
convert_of options opened = do
  tick ← clock_tick (text_or opt.Clock options) opened.kernel.clock
  converted opened.leap opened.kernel tick

abbrev pub convert : Source → Options → Stage (List ℕ)
convert source options = do
  opened ← opened_read source options
  convert_of options opened

-- the line of a chain, where each observation has a time by the new kernel
abbrev pub sampled : Options → KernelRead → List RowView → Chain → Stage (List ℕ)
sampled options kernel rows chain = do
  covers ← all_covered (new_kernel kernel chain) rows
  gives (sample_line options kernel rows (new_triples_of chain))

-- the publication of the sample's observations, by the stages of `publish`
abbrev pub sample_of : Options → InputsRead → Stage (List ℕ)
sample_of options inputs = do
  chain ← chain_of options inputs.kernel inputs.observations
  sampled options inputs.kernel inputs.observations chain

-- no file is read
abbrev pub sample : Source → Options → Stage (List ℕ)
sample source options = do
  inputs ← made_inputs options
  sample_of options inputs

-- the tick of a time, in time units
abbrev pub status_of_time : InverseFault → Status
status_of_time inverse_fault.BeforeFirst = TimeRefused time_stop.BeforeFirst
status_of_time inverse_fault.PastEnd = TimeRefused time_stop.PastEnd

abbrev pub ticked : KernelRead → ℤ → Stage ℕ
ticked kernel time = judged
    (Judges (inverse_checks kernel.triples (time *ℤ pos (10 ^ 6))) (IsTickOf kernel.triples (time *ℤ pos (10 ^ 6))))
    status_of_time

-- the time of a time word
abbrev pub said : List ℕ → List LeapPair → Stage ℤ
said word leap = judged (TimeOf word leap) TimeRefused

-- the line of a tick
abbrev pub told : KernelRead → ℕ → Stage (List ℕ)
told kernel tick = do
  triple ← covered kernel.triples 0 tick
  gives (line_of (tick_fields kernel triple tick))

abbrev pub invert_of : Options → OpenedRead → Stage (List ℕ)
invert_of options opened = do
  time ← said (text_or opt.Time options) opened.leap
  tick ← ticked opened.kernel time
  told opened.kernel tick

abbrev pub invert : Source → Options → Stage (List ℕ)
invert source options = do
  opened ← opened_read source options
  invert_of options opened

-- what is audited: the candidate as a publication over the kernel
abbrev pub audited : Options → AuditRead → aud.Audit
audited options read =
    aud.audit_of read.inputs.kernel.doc read.candidate read.inputs.kernel.clock read.inputs.kernel.triples (sc_of options) read.inputs.observations (audit_settings_of options)

-- yes, or the first fault
abbrev pub VerdictOf : aud.Audit → Result ⊤ AuditFault → Type 0
VerdictOf audit (Ok _) = aud.Decides audit Yes
VerdictOf audit (Err fault) = aud.Decides audit (No fault)

abbrev pub accepted : Options → AuditRead → Stage ⊤
accepted options read = judged (VerdictOf (audited options read)) AuditNo

abbrev pub audit_of : Options → AuditRead → Stage (List ℕ)
audit_of options read = do
  passed ← accepted options read
  gives yes_line

abbrev pub audit : Source → Options → Stage (List ℕ)
audit source options = do
  read ← audit_read source options
  audit_of options read

-- the part of a kernel from one tick to another
abbrev pub cut_out : ℕ → ℕ → ℕ → KernelRead → Stage DocView
cut_out sc from to kernel = judged
    (Judges (ex.excerpt_checks (total kernel.clock) kernel.triples.triples from to) (ex.IsExcerpt kernel.doc sc kernel.triples.triples from to))
    ExcerptRefused

abbrev pub excerpt_of : Options → DocView → Stage (List ℕ)
excerpt_of options doc = do
  kernel ← kernel_meaning (sc_of options) doc
  part ← cut_out (sc_of options) (number_or 0 opt.From options) (number_or 0 opt.To options) kernel
  normal_of part

abbrev pub excerpt : Source → Options → Stage (List ℕ)
excerpt source options = do
  doc ← joined_kernel source options
  excerpt_of options doc

-- the fewest lines that meet the observations
abbrev pub ShortestCover : Options → InputsRead → List Stretch → Type 0
ShortestCover options inputs = cover.AreLeast (lengths inputs.kernel.clock) (settings_of options).tolerance.units (sights inputs.observations)

abbrev pub least_of : Options → InputsRead → Stage (List ℕ)
least_of options inputs = do
  stretches ← some (ShortestCover options inputs)
  gives (least_text inputs.observations stretches)

abbrev pub least : Source → Options → Stage (List ℕ)
least source options = do
  inputs ← inputs_read source options
  least_of options inputs

-- a kernel's panel of the picture, where each observation has a time by it
abbrev pub paneled : KernelRead → List RowView → Stage PanelView
paneled kernel rows = do
  covers ← all_covered kernel.triples rows
  gives (panel_of kernel rows)

abbrev pub second_panel : Option KernelRead → List RowView → Stage (Option PanelView)
second_panel None rows = gives None
second_panel (Some kernel) rows = do
  panel ← paneled kernel rows
  gives (Some panel)

-- the picture of the observations, and of the same ones by the second kernel
abbrev pub drawing_of : Options → PanelView → Option PanelView → List ℕ
drawing_of options panel newer = picture_of (title_of options) (foot_of options) (tolerance_of options) panel newer

abbrev pub plot_of : Options → PlotRead → Stage (List ℕ)
plot_of options read = do
  panel ← paneled read.inputs.kernel read.inputs.observations
  newer ← second_panel read.second read.inputs.observations
  gives (drawing_of options panel newer)

abbrev pub plot : Source → Options → Stage (List ℕ)
plot source options = do
  read ← plot_read source options
  plot_of options read

-- ---- the whole

abbrev pub outcome_of : Command → Source → Options → Stage (List ℕ)
outcome_of Publish = publish
outcome_of Residuals = residuals
outcome_of Normal = normal
outcome_of Convert = convert
outcome_of Sample = sample
outcome_of Invert = invert
outcome_of Audit = audit
outcome_of Excerpt = excerpt
outcome_of Least = least
outcome_of Plot = plot

-- the words
abbrev pub requested : List (List ℕ) → Stage Request
requested words = judged (WordsAsk words) WordsRefused

-- what the words come to where they ask for a command, the first of which stands for the program's name
abbrev pub commanded : List (List ℕ) → Source → Stage (List ℕ)
commanded words source = do
  request ← requested words
  outcome_of request.command source request.options

-- the page of the topic, if there is one
abbrev pub told_or : Option Topic → Stage (List ℕ) → Stage (List ℕ)
told_or (Some topic) next = gives (page_of topic)
told_or None next = next

-- The text that a run writes, or the first refusal. Words that ask about the program have its page, and read no file.
abbrev pub outcome : List (List ℕ) → Source → Stage (List ℕ)
outcome words source = told_or (topic_of (codes "station" ∷ words)) (commanded (codes "station" ∷ words) source)
