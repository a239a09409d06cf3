-- What the files of a run hold, and what each stage of reading them may answer.
use Rattle.std.specs.Prelude.{◌≡◌, ◌⊎◌, ℕ, ◌^◌, ◌<◌, ◌≤◌, List, [], length, Result, Ok, Err, Option, Some, None, IfSome}
use Rattle.sk_checks.specs.Checks.{Judges}
use Rattle.sk_grammar.specs.declared.fault.GrammarFault.{GrammarFault}
use Rattle.sk_grammar.specs.declared.fault.GrammarFault.TheVariants as grammar
use Rattle.sk_grammar.specs.Document.{DocView}
use Rattle.sk_grammar.specs.Lines.{lines}
use Rattle.sk_grammar.specs.Spelling.{Spells}
use Rattle.sk_grammar.specs.Refusal.{IsRefusal}
use Rattle.sk_grammar.specs.Variables.{VariableView, items_of, variables_of, IsCounted}
use Rattle.sk_pool.specs.declared.pool.PoolFault.{PoolFault}
use Rattle.sk_clock.specs.Clock.{ClockView}
use Rattle.sk_pool.specs.Pool.{pool_checks}
use Rattle.sk_leap.specs.declared.pair.LeapPair.{LeapPair}
use Rattle.sk_leap.specs.declared.table.LeapFault.{LeapFault}
use Rattle.sk_leap.specs.Kernel.{leap_checks, IsTableOf}
use Rattle.sk_publishing.specs.Row.{RowView}
use Rattle.sk_clock.specs.Kernel.{clock_checks, IsClockOf}
use Rattle.sk_clock.specs.declared.fault.ClockKernelFault.{ClockKernelFault}
use Rattle.sk_obs.specs.declared.fault.ObsFault.{ObsFault}
use Rattle.sk_obs.specs.File.{records_of, file_checks, AreObservations}
use Rattle.sk_triples.specs.declared.triple.TriplesFault.{TriplesFault}
use Rattle.sk_triples.specs.Kernel.{TriplesView}
use Rattle.sk_triples.specs.Coefficients.{triples_checks, AreTriplesOf}
use Rattle.sk_status.specs.declared.status.Status.{Status}
use Rattle.sk_status.specs.declared.status.Status.TheVariants.{LeapRefused, KernelRefused, ObservationRefused, NewRefused, OverRefused, ReadFault}
use Rattle.sk_status.specs.declared.status.DocumentKind.{DocumentKind}
use Rattle.sk_status.specs.declared.status.DocumentKind.TheVariants.{Leap, Kernel, New, Over}
use Rattle.sk_status.specs.declared.status.FileKind.{FileKind}
use Rattle.sk_status.specs.declared.status.FileKind.TheVariants.{Document, Observations}
use Rattle.sk_status.specs.declared.status.LeapStop.TheVariants as leap_stop
use Rattle.sk_status.specs.declared.status.KernelStop.TheVariants as kernel_stop
use Rattle.sk_status.specs.declared.status.ObsStop.TheVariants as obs_stop
use Rattle.sk_status.specs.declared.status.TextStop.TheVariants as text_stop
use Rattle.sk_words.specs.declared.tables.OptionName.TheVariants as opt
use Rattle.sk_outcome.specs.Stage.{Stage, ◌>>=◌, gives}
use Rattle.sk_outcome.specs.Seen.{Source}
use Rattle.sk_words.specs.Request.{Options, number_or, text_or}

-- a file has at most this many bytes
abbrev pub file_limit : ℕ
file_limit = 16777216

-- the status of a file that is too long
abbrev pub document_too_long : DocumentKind → Status
document_too_long Leap = LeapRefused leap_stop.TooLong
document_too_long Kernel = KernelRefused kernel_stop.TooLong
document_too_long New = NewRefused kernel_stop.TooLong
document_too_long (Over place) = OverRefused place text_stop.TooLong

abbrev pub too_long : FileKind → Status
too_long (Document kind) = document_too_long kind
too_long Observations = ObservationRefused obs_stop.TooLong

-- the status of a file that is no kernel text
abbrev pub refused_by : DocumentKind → GrammarFault → Status
refused_by Leap fault = LeapRefused (leap_stop.Grammar fault)
refused_by Kernel fault = KernelRefused (kernel_stop.Grammar fault)
refused_by New fault = NewRefused (kernel_stop.Grammar fault)
refused_by (Over place) fault = OverRefused place (text_stop.Grammar fault)

-- The bytes of a file; or a fault, where its count rose; or that it is too long.
abbrev pub reads : Source → FileKind → List ℕ → Stage (List ℕ)
reads source kind name (Ok bytes) =
    (length bytes ≤ file_limit) × IfSome (source.holds name) (λ file. bytes ≡ file)
reads source kind name (Err status) =
    ((status ≡ ReadFault kind) × source.rose name)
    ⊎ ((status ≡ too_long kind) × (file_limit < source.given) × IfSome (source.holds name) (λ file. file_limit < length file))

-- what a call may answer, and the status that its fault makes
abbrev pub judged : {A F : Type 0} → (Result A F → Type 0) → (F → Status) → Stage A
judged Answers status_of (Ok value) = Answers (Ok value)
judged {A} {F} Answers status_of (Err status) = (fault : F) × Answers (Err fault) × (status ≡ status_of fault)

-- ---- what the calls answer; want of memory is none of these

abbrev pub DocOf : List ℕ → Result DocView GrammarFault → Type 0
DocOf bytes (Ok doc) = Spells bytes doc
DocOf bytes (Err (grammar.At line reason)) = IsRefusal (lines bytes) line reason
DocOf bytes (Err grammar.NoMemory) = ⊥

abbrev pub PoolOf : DocView → Result (List VariableView) PoolFault → Type 0
PoolOf doc = Judges (pool_checks doc) (λ variables. variables ≡ variables_of (items_of doc))

abbrev pub LeapOf : List VariableView → Result (List LeapPair) LeapFault → Type 0
LeapOf variables = Judges (leap_checks variables) (IsTableOf variables)

abbrev pub ClockOf : List VariableView → ℕ → Result ClockView ClockKernelFault → Type 0
ClockOf variables sc = Judges (clock_checks variables sc) (IsClockOf variables sc)

abbrev pub TriplesOf : List VariableView → ClockView → ℕ → Result TriplesView TriplesFault → Type 0
TriplesOf variables clock sc = Judges (triples_checks variables clock sc) (AreTriplesOf variables clock sc)

abbrev pub ObservationsOf : List ℕ → ClockView → List LeapPair → Result (List RowView) ObsFault → Type 0
ObservationsOf bytes clock leap = Judges (file_checks clock leap (records_of bytes)) (AreObservations clock leap (records_of bytes))

-- ---- the files

-- a u32 numbers the items of the document, and the values of each of its variables
pub record HasFew (doc : DocView) : Type 0 where
  pub items : length (items_of doc) < 2 ^ 32
  pub values : IsCounted (variables_of (items_of doc))

-- a clock kernel
pub record KernelRead : Type 0 where
  pub doc : DocView
  pub clock : ClockView
  pub triples : TriplesView

abbrev pub sc_of : Options → ℕ
sc_of options = number_or 0 opt.Sc options

-- the document of a file
abbrev pub document : Source → DocumentKind → List ℕ → Stage DocView
document source kind name = do
  bytes ← reads source (Document kind) name
  judged (DocOf bytes) (refused_by kind)

-- what the document of a leap second kernel means
abbrev pub leap_pool : DocView → Stage (List VariableView)
leap_pool doc = judged (PoolOf doc) (λ f. LeapRefused (leap_stop.Pool f))

abbrev pub leap_table : List VariableView → Stage (List LeapPair)
leap_table variables = judged (LeapOf variables) (λ f. LeapRefused (leap_stop.Leap f))

abbrev pub leap_meaning : DocView → Stage (List LeapPair)
leap_meaning doc = do
  variables ← leap_pool doc
  leap_table variables

-- the leap table; none where no file is named
abbrev pub leap_named : Source → Option (List ℕ) → Stage (List LeapPair)
leap_named source None = gives []
leap_named source (Some name) = do
  doc ← document source Leap name
  leap_meaning doc

abbrev pub leap_file : Source → Options → Stage (List LeapPair)
leap_file source options = leap_named source (options opt.Leap)

-- the document of the clock kernel, and what a document means as a clock kernel: its pool, its clock, its triples
abbrev pub kernel_document : Source → Options → Stage DocView
kernel_document source options = document source Kernel (text_or opt.Kernel options)

abbrev pub kernel_pool : DocView → Stage (List VariableView)
kernel_pool doc = judged (PoolOf doc) (λ f. KernelRefused (kernel_stop.Pool f))

abbrev pub kernel_clock : List VariableView → ℕ → Stage ClockView
kernel_clock variables sc = judged (ClockOf variables sc) (λ f. KernelRefused (kernel_stop.Clock f))

abbrev pub kernel_triples : List VariableView → ClockView → ℕ → Stage TriplesView
kernel_triples variables clock sc = judged (TriplesOf variables clock sc) (λ f. KernelRefused (kernel_stop.Triples f))

abbrev pub kernel_meaning : ℕ → DocView → Stage KernelRead
kernel_meaning sc doc = do
  variables ← kernel_pool doc
  clock ← kernel_clock variables sc
  triples ← kernel_triples variables clock sc
  gives (record { doc = doc; clock = clock; triples = triples })

abbrev pub kernel_file : Source → Options → Stage KernelRead
kernel_file source options = do
  doc ← kernel_document source options
  kernel_meaning (sc_of options) doc

-- the observations of a file
abbrev pub observed : List ℕ → ClockView → List LeapPair → Stage (List RowView)
observed bytes clock leap = judged (ObservationsOf bytes clock leap) (λ f. ObservationRefused (obs_stop.Record f))

-- ---- what commands read

-- the leap table and the clock kernel
pub record OpenedRead : Type 0 where
  pub leap : List LeapPair
  pub kernel : KernelRead

abbrev pub opened_read : Source → Options → Stage OpenedRead
opened_read source options = do
  leap ← leap_file source options
  kernel ← kernel_file source options
  gives (record { leap = leap; kernel = kernel })

-- the observations, by the leap table and the clock kernel
abbrev pub observation_file : Source → Options → OpenedRead → Stage (List RowView)
observation_file source options opened = do
  bytes ← reads source Observations (text_or opt.Obs options)
  observed bytes opened.kernel.clock opened.leap

-- the clock kernel and the observations
pub record InputsRead : Type 0 where
  pub kernel : KernelRead
  pub observations : List RowView

abbrev pub inputs_read : Source → Options → Stage InputsRead
inputs_read source options = do
  opened ← opened_read source options
  observations ← observation_file source options opened
  gives (record { kernel = opened.kernel; observations = observations })

-- these, and then the document that is to be judged by them
pub record AuditRead : Type 0 where
  pub inputs : InputsRead
  pub candidate : DocView

abbrev pub candidate_document : Source → Options → Stage DocView
candidate_document source options = document source New (text_or opt.New options)

abbrev pub audit_read : Source → Options → Stage AuditRead
audit_read source options = do
  inputs ← inputs_read source options
  candidate ← candidate_document source options
  gives (record { inputs = inputs; candidate = candidate })
