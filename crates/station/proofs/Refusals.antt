-- What the commands refuse is no end of a run that wrote.
use Rattle.std.proofs.Common.{◌≡◌, ℕ, ℤ, pos, ◌*ℤ◌, ◌^◌, ◌+◌, ◌++◌, List, Option, Some, None, Result, Err, [], ◌∷◌, sym, subst, inl, inr}
use Rattle.std.specs.Prelude.{unwrap_or, IsSomeAnd}
use Rattle.sk_status.specs.declared.status.Status.{Status}
use Rattle.sk_status.specs.declared.status.Status.TheVariants.{Done, WordsRefused, LeapRefused, KernelRefused, ObservationRefused, NotPublished, ReadFault, WriteFault, NoMemory, TimeRefused, AuditNo, NewRefused, ExcerptRefused, OverRefused}
use Rattle.sk_words.specs.declared.tables.Command.{Command}
use Rattle.sk_words.specs.declared.tables.Command.TheVariants.{Publish, Residuals, Normal, Convert, Sample, Invert, Audit, Excerpt, Least, Plot}
use Rattle.sk_status.specs.declared.status.FileKind.{FileKind}
use Rattle.sk_status.specs.declared.status.FileKind.TheVariants.{Document, Observations}
use Rattle.sk_status.specs.declared.status.DocumentKind.{DocumentKind}
use Rattle.sk_status.specs.declared.status.DocumentKind.TheVariants.{Leap, Kernel, New, Over}
use Rattle.sk_words.specs.declared.tables.OptionName.TheVariants as opt
use Rattle.sk_status.specs.declared.status.LeapStop.TheVariants as leap_stop
use Rattle.sk_status.specs.declared.status.KernelStop.TheVariants as kernel_stop
use Rattle.sk_status.specs.declared.status.ObsStop.TheVariants as obs_stop
use Rattle.sk_grammar.specs.Document.{DocView}
use Rattle.sk_grammar.specs.Variables.{VariableView, items_of, values_at, IsMixedAppend}
use Rattle.sk_grammar.specs.Canonical.{ended_by_line_feeds, canonical_text}
use Rattle.sk_leap.specs.declared.pair.LeapPair.{LeapPair}
use Rattle.sk_clock.specs.Clock.{ClockView, total}
use Rattle.sk_publishing.specs.Row.{RowView, IsObservedTime}
use Rattle.sk_line.specs.Triple.{TripleView}
use Rattle.sk_line.specs.Line.{covering}
use Rattle.sk_triples.specs.Kernel.{TriplesView, range_checks}
use Rattle.sk_checks.specs.Checks.{Check, ◌⇒◌, carried, Judges, FirstRefuses, Refuses, each_after}
use Rattle.sk_grammar.specs.declared.fault.GrammarFault.{GrammarFault}
use Rattle.sk_grammar.specs.declared.fault.GrammarFault.TheVariants as grammar
use Rattle.sk_pool.specs.declared.pool.PoolFault.{PoolFault}
use Rattle.sk_pool.specs.declared.pool.PoolFault.TheVariants.{AppendMixed}
use Rattle.sk_pool.specs.declared.pool.PoolFault.TheVariants as pool_fault
use Rattle.sk_pool.specs.Pool.{pool_checks}
use Rattle.sk_leap.specs.declared.table.LeapFault.{LeapFault}
use Rattle.sk_leap.specs.Kernel.{leap_checks, entry_checks, entries_of, delta_at}
use Rattle.sk_clock.specs.declared.fault.ClockKernelFault.{ClockKernelFault}
use Rattle.sk_clock.specs.declared.fault.ClockKernelFault.TheVariants as clock_fault
use Rattle.sk_clock.specs.Kernel.{clock_checks}
use Rattle.sk_triples.specs.declared.triple.TriplesFault.{TriplesFault}
use Rattle.sk_triples.specs.declared.triple.TriplesFault.TheVariants as triples_fault
use Rattle.sk_triples.specs.Coefficients.{triples_checks, row_checks, rows_of, values_for}
use Rattle.sk_obs.specs.declared.fault.ObsFault.{ObsFault}
use Rattle.sk_obs.specs.declared.fault.ObsFault.TheVariants.{BadDelay, TimeRange, OutOfOrder}
use Rattle.sk_obs.specs.File.{records_of, file_checks, record_checks, own_checks, time_of, delay_of, IsDelay, IsObserved, IsNotAbove}
use Rattle.sk_obs.specs.Words.{TimeWord, TdtNumber, UtcCode, CucHex, CdsHex, OtherWord, time_word, time_checks}
use Rattle.sk_fit.specs.declared.fault.FitFault.{FitFault}
use Rattle.sk_fit.specs.declared.fault.FitFault.TheVariants as fit
use Rattle.sk_fit.specs.declared.chain.Chain.{Chain}
use Rattle.sk_fit.specs.Causes.{Fits, input}
use Rattle.sk_fit.specs.Given.{new_triples_of}
use Rattle.sk_report.specs.Report.{table_checks}
use Rattle.sk_report.specs.declared.fault.ReportFault.{ReportFault}
use Rattle.sk_report.specs.declared.fault.ReportFault.TheVariants as report_fault
use Rattle.sk_words.specs.declared.fault.WordsFault.{WordsFault}
use Rattle.sk_outcome.specs.Stage.{Stage, ◌>>=◌, MayAnswer, gives, some}
use Rattle.sk_words.specs.Request.{Options, text_or, number_or}
use Rattle.sk_outcome.specs.Files as files
use Rattle.sk_outcome.specs.Seen.{Source}
use Rattle.sk_outcome.specs.Files.{KernelRead, OpenedRead, InputsRead, AuditRead, reads, judged, refused_by, document_too_long, too_long, opened_read, inputs_read, candidate_document, audit_read, sc_of}
use Rattle.sk_inverse.specs.Inverse.{IsTickOf, inverse_checks}
use Rattle.sk_sample.specs.Sample.{kernel_text, spacecraft, observations_text}
use Rattle.sk_inverse.specs.declared.fault.InverseFault.{InverseFault}
use Rattle.sk_inverse.specs.declared.fault.InverseFault.TheVariants as inverse_fault
use Rattle.sk_outcome.specs.Outcome.{outcome_of, publish, publish_of, chain_of, residuals, residuals_of, normal, normal_of, convert, convert_of, converted, sample, sample_of, sampled, invert, invert_of, said, ticked, told, TimeOf, status_of_time, clock_tick, TickOf, covered, tabled, all_covered, status_of_report, audit, audit_of, audited, accepted, VerdictOf, least, least_of, ShortestCover, excerpt, excerpt_of, cut_out, plot, plot_of, paneled, second_panel, drawing_of}
use Rattle.sk_excerpt.specs.Excerpt.{joined, excerpt_checks, IsExcerpt}
use Rattle.sk_excerpt.specs.declared.fault.ExcerptFault.{ExcerptFault}
use Rattle.sk_outcome.specs.Joined.{over_documents, joined_behind, named_over, joined_kernel}
use Rattle.sk_outcome.specs.Publishing.{after_chain, after_rows}
use Rattle.sk_outcome.specs.Output.{settings_of, plain_table, new_kernel, published_doc, tick_fields, time_by, line_of, yes_line, least_text}
use Rattle.sk_outcome.specs.Sample.{made_kernel, made_observations, made_inputs, sample_line, seed_of, count_of}
use Rattle.sk_least.specs.declared.stretch.Stretch.{Stretch}
use Rattle.sk_outcome.specs.Time.{IsUtcWord}
use Rattle.sk_plot.specs.Point.{PanelView}
use Rattle.sk_outcome.specs.Drawn.{as_new, new_meaning, second_of, second_named, second_kernel, PlotRead, plot_read, panel_of}
use Rattle.sk_outcome.proofs.Follows.{kernel_after, rows_after, candidate_after, second_after}
use Rattle.sk_status.specs.Notes.{CarriesNoMemory}

-- the end of a run that wrote
abbrev pub Wrote : Status → Type 0
Wrote Done = Unit {0}
Wrote WriteFault = Unit {0}
Wrote status = ⊥

-- the words are not the reason
abbrev pub TakesWords : Status → Type 0
TakesWords (WordsRefused fault) = ⊥
TakesWords status = Unit {0}

-- the end of a command that was refused, whose words were taken
abbrev pub Stands : Status → Type 0
Stands status = (Wrote status → ⊥) × CarriesNoMemory status × TakesWords status

standing : (⊥ → ⊥) × Unit {0} × Unit {0}
standing = (λ w. w, tt, tt)

abbrev pub Always : {A : Type 0} → Stage A → Type 0
Always stage = (status : Status) → stage (Err status) → Stands status

always_then : {A B : Type 0} (first : Stage A) (next : A → Stage B) → Always first → ((a : A) → Always (next a)) → Always (first >>= next)
always_then first next f n status (inl h) = f status h
always_then first next f n status (inr h) = n h.0 status h.2

always_judged : {A F : Type 0} (Answers : Result A F → Type 0) (status_of : F → Status) → ((fault : F) → Answers (Err fault) → Stands (status_of fault)) → Always (judged Answers status_of)
always_judged Answers status_of n status h = subst Stands (sym h.2) (n h.0 h.1)

always_gives : {A : Type 0} (a : A) → Always (gives a)
always_gives a status h = cc

-- ---- checks

-- what holds of each fault of a check
abbrev Says : {F : Type 0} → (F → Type 0) → Check F → Type 0
Says Q (p ⇒ own) = Q own
Says Q (carried {G} P own) = (inner : G) → Q (own inner)

abbrev AllSay : {F : Type 0} → (F → Type 0) → List (Check F) → Type 0
AllSay Q [] = Unit {0}
AllSay Q (check ∷ checks) = Says Q check × AllSay Q checks

check_said : {F : Type 0} (Q : F → Type 0) (check : Check F) (fault : F) → Says Q check → Refuses check fault → Q fault
check_said Q (p ⇒ own) fault said h = subst Q h.1 said
check_said Q (carried P own) fault said h = subst Q h.2 (said h.0)

said_of : {F : Type 0} (Q : F → Type 0) (checks : List (Check F)) (fault : F) → AllSay Q checks → FirstRefuses checks fault → Q fault
said_of Q [] fault said h = absurd h
said_of Q (check ∷ checks) fault said (inl h) = check_said Q check fault said.0 h
said_of Q (check ∷ checks) fault said (inr h) = said_of Q checks fault said.1 h.1

say_append : {F : Type 0} (Q : F → Type 0) (a b : List (Check F)) → AllSay Q a → AllSay Q b → AllSay Q (a ++ b)
say_append Q [] b h k = k
say_append Q (check ∷ a) b h k = (h.0, say_append Q a b h.1 k)

say_each : {X F : Type 0} (Q : F → Type 0) (before : Option X) (n : ℕ) (checks : Option X → ℕ → X → List (Check F)) (xs : List X)
    → ((before : Option X) (n : ℕ) (x : X) → AllSay Q (checks before n x)) → AllSay Q (each_after before n checks xs)
say_each Q before n checks [] said = tt
say_each Q before n checks (x ∷ xs) said = say_append Q (checks before n x) (each_after (Some x) (n + 1) checks xs) (said before n x) (say_each Q (Some x) (n + 1) checks xs said)

-- ---- files

document_stands : (kind : DocumentKind) → Stands (document_too_long kind)
document_stands Leap = standing
document_stands Kernel = standing
document_stands New = standing
document_stands (Over place) = standing

long_stands : (kind : FileKind) → Stands (too_long kind)
long_stands (Document kind) = document_stands kind
long_stands Observations = standing

always_reads : (source : Source) (kind : FileKind) (name : List ℕ) → Always (reads source kind name)
always_reads source kind name status (inl h) = subst Stands (sym h.0) standing
always_reads source kind name status (inr h) = subst Stands (sym h.0) (long_stands kind)

doc_stands : (kind : DocumentKind) (bytes : List ℕ) (fault : GrammarFault) → files.DocOf bytes (Err fault) → Stands (refused_by kind fault)
doc_stands Leap bytes (grammar.At line reason) h = standing
doc_stands Kernel bytes (grammar.At line reason) h = standing
doc_stands New bytes (grammar.At line reason) h = standing
doc_stands (Over place) bytes (grammar.At line reason) h = standing
doc_stands kind bytes grammar.NoMemory h = absurd h

always_document : (source : Source) (kind : DocumentKind) (name : List ℕ) → Always (files.document source kind name)
always_document source kind name =
    always_then (reads source (Document kind) name) (λ bytes. judged (files.DocOf bytes) (refused_by kind)) (always_reads source (Document kind) name)
    (λ bytes. always_judged (files.DocOf bytes) (refused_by kind) (doc_stands kind bytes))

pool_stands : (doc : DocView) (status_of : PoolFault → Status) → ((n : ℕ) → Stands (status_of (AppendMixed n))) → (fault : PoolFault) → files.PoolOf doc (Err fault) → Stands (status_of fault)
pool_stands doc status_of each fault h =
    said_of (λ (f : PoolFault). Stands (status_of f)) (pool_checks doc) fault
    (say_each (λ (f : PoolFault). Stands (status_of f)) None 1 (λ before n item. IsMixedAppend (items_of doc) n ⇒ AppendMixed n ∷ []) (items_of doc) (λ before n item. (each n, tt))) h

leap_stands : (variables : List VariableView) (fault : LeapFault) → files.LeapOf variables (Err fault) → Stands (LeapRefused (leap_stop.Leap fault))
leap_stands variables fault h =
    let Q : LeapFault → Type 0 = λ f. Stands (LeapRefused (leap_stop.Leap f)) in
    said_of Q (leap_checks variables) fault
    (standing, (standing, (standing, (standing, (say_each Q None 1 entry_checks (entries_of (unwrap_or (values_at delta_at variables) [])) (λ before n entry. (standing, (standing, (standing, tt))))))))) h

always_leap_named : (source : Source) (o : Option (List ℕ)) → Always (files.leap_named source o)
always_leap_named source None = always_gives {A = List LeapPair} []
always_leap_named source (Some name) =
    always_then (files.document source Leap name) files.leap_meaning (always_document source Leap name)
    (λ doc. always_then (files.leap_pool doc) files.leap_table
    (always_judged (files.PoolOf doc) (λ f. LeapRefused (leap_stop.Pool f)) (pool_stands doc (λ f. LeapRefused (leap_stop.Pool f)) (λ n. standing)))
    (λ variables. always_judged (files.LeapOf variables) (λ f. LeapRefused (leap_stop.Leap f)) (leap_stands variables)))

clock_stands : (variables : List VariableView) (sc : ℕ) (fault : ClockKernelFault) → files.ClockOf variables sc (Err fault) → Stands (KernelRefused (kernel_stop.Clock fault))
clock_stands variables sc fault h =
    let Q : ClockKernelFault → Type 0 = λ f. Stands (KernelRefused (kernel_stop.Clock f)) in
    said_of Q (clock_checks variables sc) fault
    (standing, (standing, (standing, (standing, (standing, (standing, (standing, (standing, (standing, (standing, (standing, (standing, (standing, (standing, (standing, tt))))))))))))))) h

triples_stand : (variables : List VariableView) (clock : ClockView) (sc : ℕ) (fault : TriplesFault) → files.TriplesOf variables clock sc (Err fault) → Stands (KernelRefused (kernel_stop.Triples fault))
triples_stand variables clock sc fault h =
    let Q : TriplesFault → Type 0 = λ f. Stands (KernelRefused (kernel_stop.Triples f)) in
    said_of Q (triples_checks variables clock sc) fault
    (standing, (standing, (standing, (say_each Q None 1 (row_checks (total clock)) (rows_of (values_for variables sc)) (λ before n row. (standing, (standing, (standing, (standing, (standing, tt)))))))))) h

always_meaning : (sc : ℕ) (doc : DocView) → Always (files.kernel_meaning sc doc)
always_meaning sc doc =
    always_then (files.kernel_pool doc) (λ variables. files.kernel_clock variables sc >>= (λ (clock : ClockView). files.kernel_triples variables clock sc >>= (λ (triples : TriplesView). gives (record { doc = doc; clock = clock; triples = triples }))))
    (always_judged (files.PoolOf doc) (λ f. KernelRefused (kernel_stop.Pool f)) (pool_stands doc (λ f. KernelRefused (kernel_stop.Pool f)) (λ n. standing)))
    (λ variables. always_then (files.kernel_clock variables sc) (λ clock. files.kernel_triples variables clock sc >>= (λ (triples : TriplesView). gives (record { doc = doc; clock = clock; triples = triples })))
    (always_judged (files.ClockOf variables sc) (λ f. KernelRefused (kernel_stop.Clock f)) (clock_stands variables sc))
    (λ clock. always_then (files.kernel_triples variables clock sc) (λ triples. gives (record { doc = doc; clock = clock; triples = triples }))
    (always_judged (files.TriplesOf variables clock sc) (λ f. KernelRefused (kernel_stop.Triples f)) (triples_stand variables clock sc))
    (λ triples. always_gives (record { doc = doc; clock = clock; triples = triples }))))

always_kernel : (source : Source) (options : Options) → Always (files.kernel_file source options)
always_kernel source options =
    always_then (files.kernel_document source options) (files.kernel_meaning (sc_of options))
    (always_document source Kernel (text_or opt.Kernel options))
    (always_meaning (sc_of options))

always_opened : (source : Source) (options : Options) → Always (opened_read source options)
always_opened source options =
    always_then (files.leap_file source options) (kernel_after options source) (always_leap_named source (options opt.Leap))
    (λ leap. always_then (files.kernel_file source options) (λ kernel. gives {A = OpenedRead} (record { leap = leap; kernel = kernel })) (always_kernel source options)
    (λ kernel. always_gives {A = OpenedRead} (record { leap = leap; kernel = kernel })))

-- ---- observations

abbrev RecordStands : ObsFault → Type 0
RecordStands fault = Stands (ObservationRefused (obs_stop.Record fault))

time_said : (pairs : List LeapPair) (n : ℕ) (word : TimeWord) → AllSay RecordStands (time_checks pairs n word)
time_said pairs n (TdtNumber bytes) = (standing, tt)
time_said pairs n (UtcCode text) = (standing, ((λ inner. standing), tt))
time_said pairs n (CucHex text) = (standing, ((λ inner. standing), (standing, tt)))
time_said pairs n (CdsHex text) = (standing, ((λ inner. standing), ((λ inner. standing), tt)))
time_said pairs n OtherWord = (standing, tt)

record_said : (clock : ClockView) (pairs : List LeapPair) (before : Option (List (List ℕ))) (n : ℕ) (fields : List (List ℕ)) → AllSay RecordStands (record_checks clock pairs before n fields)
record_said clock pairs before n fields =
    let later : List (Check ObsFault) =
    ((delay : ℕ) → ¬ IsDelay (delay_of fields) delay) ⇒ BadDelay n ∷ ((time : ℤ) × IsObserved pairs fields time × ¬ IsObservedTime time) ⇒ TimeRange n ∷ [] in
    let observed = say_append RecordStands (time_checks pairs n (time_word (time_of fields))) later (time_said pairs n (time_word (time_of fields))) (standing, (standing, tt)) in
    say_append RecordStands (own_checks clock pairs n fields) (IsSomeAnd before (λ previous. IsNotAbove clock previous fields) ⇒ OutOfOrder n ∷ [])
    (standing, (standing, (standing, ((λ inner. standing), observed)))) (standing, tt)

file_said : (clock : ClockView) (pairs : List LeapPair) (rows : List (List (List ℕ))) → AllSay RecordStands (file_checks clock pairs rows)
file_said clock pairs [] = (standing, tt)
file_said clock pairs (header ∷ rows) = ((λ inner. standing), say_each RecordStands None 2 (record_checks clock pairs) rows (record_said clock pairs))

always_observations : (source : Source) (options : Options) (opened : OpenedRead) → Always (files.observation_file source options opened)
always_observations source options opened =
    let clock : ClockView = opened.kernel.clock in
    let leap : List LeapPair = opened.leap in
    always_then (reads source Observations (text_or opt.Obs options)) (λ bytes. files.observed bytes clock leap)
    (always_reads source Observations (text_or opt.Obs options))
    (λ bytes. always_judged (files.ObservationsOf bytes clock leap) (λ f. ObservationRefused (obs_stop.Record f))
    (λ fault h. said_of RecordStands (file_checks clock leap (records_of bytes)) fault (file_said clock leap (records_of bytes)) h))

always_inputs : (source : Source) (options : Options) → Always (inputs_read source options)
always_inputs source options =
    always_then (opened_read source options) (rows_after options source) (always_opened source options)
    (λ opened. always_then (files.observation_file source options opened) (λ rows. gives {A = InputsRead} (record { kernel = opened.kernel; observations = rows })) (always_observations source options opened)
    (λ rows. always_gives {A = InputsRead} (record { kernel = opened.kernel; observations = rows })))

-- ---- the commands

report_stands : (triples : TriplesView) (rows : List RowView) (fault : ReportFault) → Judges {T = Unit {0}} (table_checks triples rows) (λ (covered : Unit {0}). Unit {0}) (Err fault) → Stands (status_of_report fault)
report_stands triples rows fault h =
    let Q : ReportFault → Type 0 = λ f. Stands (status_of_report f) in
    said_of Q (table_checks triples rows) fault
    (say_each Q None 0 (λ before n row. carried (FirstRefuses (range_checks triples row.tick)) (report_fault.Range row.number) ∷ []) rows (λ before n row. (λ inner. standing, tt))) h

always_all_covered : (triples : TriplesView) (rows : List RowView) → Always (all_covered triples rows)
always_all_covered triples rows =
    always_judged (Judges (table_checks triples rows) (λ (covered : Unit {0}). Unit {0})) status_of_report (report_stands triples rows)

always_tabled : (kernel : KernelRead) (rows : List RowView) → Always (tabled kernel rows)
always_tabled kernel rows =
    always_then (all_covered kernel.triples rows) (λ covers. gives (plain_table kernel rows))
    (always_all_covered kernel.triples rows)
    (λ covers. always_gives (plain_table kernel rows))

fit_stands : (options : Options) (kernel : KernelRead) (rows : List RowView) (fault : FitFault)
    → Fits (input kernel.triples kernel.clock rows (settings_of options)) rows (Err fault) → Stands (NotPublished fault)
fit_stands options kernel rows fit.NoMemory h = absurd h
fit_stands options kernel rows _ h = standing

always_chain : (options : Options) (kernel : KernelRead) (rows : List RowView) → Always (chain_of options kernel rows)
always_chain options kernel rows =
    always_judged (Fits (input kernel.triples kernel.clock rows (settings_of options)) rows) NotPublished (fit_stands options kernel rows)

always_after_rows : (options : Options) (kernel : KernelRead) (rows : List RowView) → Always (after_rows options kernel rows)
always_after_rows options kernel rows =
    always_then (chain_of options kernel rows) (after_chain options kernel rows)
    (always_chain options kernel rows)
    (λ chain. always_then (all_covered (new_kernel kernel chain) rows) (λ covers. gives (canonical_text (published_doc options kernel rows chain)))
    (always_all_covered (new_kernel kernel chain) rows) (λ covers. always_gives (canonical_text (published_doc options kernel rows chain))))

always_publish : (source : Source) (options : Options) → Always (publish source options)
always_publish source options = always_then (inputs_read source options) (publish_of options) (always_inputs source options) (λ inputs. always_after_rows options inputs.kernel inputs.observations)

always_residuals : (source : Source) (options : Options) → Always (residuals source options)
always_residuals source options =
    always_then (inputs_read source options) residuals_of (always_inputs source options)
    (λ inputs. always_then (tabled inputs.kernel inputs.observations) (λ lines. gives (ended_by_line_feeds lines)) (always_tabled inputs.kernel inputs.observations)
    (λ lines. always_gives (ended_by_line_feeds lines)))

always_normal : (source : Source) (options : Options) → Always (normal source options)
always_normal source options =
    always_then (files.kernel_document source options) normal_of (always_document source Kernel (text_or opt.Kernel options)) (λ doc. always_gives (canonical_text doc))

always_covered : (triples : TriplesView) (number tick : ℕ) → Always (covered triples number tick)
always_covered triples number tick =
    always_judged (Judges (range_checks triples tick) (λ (triple : TripleView). (n : ℕ) × (covering triples.triples tick ≡ Some (n, triple)))) (λ fault. ObservationRefused (obs_stop.Range number fault)) (λ fault h. standing)

always_converted : (leap : List LeapPair) (kernel : KernelRead) (tick : ℕ) → Always (converted leap kernel tick)
always_converted leap kernel tick =
    always_then (covered kernel.triples 0 tick) (λ (triple : TripleView). some (IsUtcWord leap (time_by kernel triple tick)) >>= (λ utc. gives (line_of (tick_fields kernel triple tick ++ utc ∷ [])))) (always_covered kernel.triples 0 tick)
    (λ triple. always_then (some (IsUtcWord leap (time_by kernel triple tick))) (λ utc. gives (line_of (tick_fields kernel triple tick ++ utc ∷ []))) (λ status h. absurd h)
    (λ utc. always_gives (line_of (tick_fields kernel triple tick ++ utc ∷ []))))

always_convert : (source : Source) (options : Options) → Always (convert source options)
always_convert source options =
    always_then (opened_read source options) (convert_of options) (always_opened source options)
    (λ opened. always_then (clock_tick (text_or opt.Clock options) opened.kernel.clock) (converted opened.leap opened.kernel)
    (always_judged (TickOf (text_or opt.Clock options) opened.kernel.clock) (λ w. ObservationRefused (obs_stop.Clock w)) (λ fault h. standing))
    (always_converted opened.leap opened.kernel))

always_made_kernel : Always made_kernel
always_made_kernel =
    always_then (judged (files.DocOf kernel_text) (refused_by Kernel)) (files.kernel_meaning spacecraft)
    (always_judged (files.DocOf kernel_text) (refused_by Kernel) (doc_stands Kernel kernel_text)) (always_meaning spacecraft)

always_made_observations : (options : Options) (kernel : KernelRead) → Always (made_observations options kernel)
always_made_observations options kernel =
    let bytes : List ℕ = observations_text (seed_of options) (count_of options) in
    always_judged (files.ObservationsOf bytes kernel.clock []) (λ f. ObservationRefused (obs_stop.Record f))
    (λ fault h. said_of RecordStands (file_checks kernel.clock [] (records_of bytes)) fault (file_said kernel.clock [] (records_of bytes)) h)

always_made : (options : Options) → Always (made_inputs options)
always_made options =
    always_then made_kernel (λ kernel. made_observations options kernel >>= (λ rows. gives {A = InputsRead} (record { kernel = kernel; observations = rows }))) always_made_kernel
    (λ kernel. always_then (made_observations options kernel) (λ rows. gives {A = InputsRead} (record { kernel = kernel; observations = rows })) (always_made_observations options kernel)
    (λ rows. always_gives {A = InputsRead} (record { kernel = kernel; observations = rows })))

always_sampled : (options : Options) (kernel : KernelRead) (rows : List RowView) (chain : Chain) → Always (sampled options kernel rows chain)
always_sampled options kernel rows chain =
    always_then (all_covered (new_kernel kernel chain) rows) (λ covers. gives (sample_line options kernel rows (new_triples_of chain)))
    (always_all_covered (new_kernel kernel chain) rows) (λ covers. always_gives (sample_line options kernel rows (new_triples_of chain)))

always_sample : (source : Source) (options : Options) → Always (sample source options)
always_sample source options =
    always_then (made_inputs options) (sample_of options) (always_made options)
    (λ inputs. always_then (chain_of options inputs.kernel inputs.observations) (sampled options inputs.kernel inputs.observations)
    (always_chain options inputs.kernel inputs.observations) (always_sampled options inputs.kernel inputs.observations))

ticked_stands : (fault : InverseFault) → Stands (status_of_time fault)
ticked_stands inverse_fault.BeforeFirst = standing
ticked_stands inverse_fault.PastEnd = standing

always_told : (kernel : KernelRead) (tick : ℕ) → Always (told kernel tick)
always_told kernel tick =
    always_then (covered kernel.triples 0 tick) (λ (triple : TripleView). gives (line_of (tick_fields kernel triple tick))) (always_covered kernel.triples 0 tick)
    (λ triple. always_gives (line_of (tick_fields kernel triple tick)))

always_invert : (source : Source) (options : Options) → Always (invert source options)
always_invert source options =
    always_then (opened_read source options) (invert_of options) (always_opened source options)
    (λ opened. always_then (said (text_or opt.Time options) opened.leap) (λ time. ticked opened.kernel time >>= told opened.kernel)
    (always_judged (TimeOf (text_or opt.Time options) opened.leap) TimeRefused (λ fault h. standing))
    (λ time. always_then (ticked opened.kernel time) (told opened.kernel)
    (always_judged (Judges (inverse_checks opened.kernel.triples (time *ℤ pos (10 ^ 6))) (IsTickOf opened.kernel.triples (time *ℤ pos (10 ^ 6)))) status_of_time (λ fault h. ticked_stands fault))
    (always_told opened.kernel)))

always_audit_read : (source : Source) (options : Options) → Always (audit_read source options)
always_audit_read source options =
    always_then (inputs_read source options) (candidate_after options source) (always_inputs source options)
    (λ inputs. always_then (candidate_document source options) (λ candidate. gives {A = AuditRead} (record { inputs = inputs; candidate = candidate }))
    (always_document source New (text_or opt.New options))
    (λ candidate. always_gives {A = AuditRead} (record { inputs = inputs; candidate = candidate })))

always_audit : (source : Source) (options : Options) → Always (audit source options)
always_audit source options =
    always_then (audit_read source options) (audit_of options) (always_audit_read source options)
    (λ read. always_then (accepted options read) (λ passed. gives yes_line) (always_judged (VerdictOf (audited options read)) AuditNo (λ fault h. standing))
    (λ passed. always_gives yes_line))

always_least : (source : Source) (options : Options) → Always (least source options)
always_least source options =
    always_then (inputs_read source options) (least_of options) (always_inputs source options)
    (λ inputs. always_then (some (ShortestCover options inputs)) (λ (stretches : List Stretch). gives (least_text inputs.observations stretches)) (λ status h. absurd h)
    (λ stretches. always_gives (least_text inputs.observations stretches)))

always_over : (source : Source) (place : ℕ) (names : List (List ℕ)) → Always (over_documents source place names)
always_over source place [] = always_gives {A = List DocView} []
always_over source place (name ∷ names) =
    always_then (files.document source (Over place) name) (λ doc. over_documents source (place + 1) names >>= (λ docs. gives {A = List DocView} (doc ∷ docs))) (always_document source (Over place) name)
    (λ doc. always_then (over_documents source (place + 1) names) (λ docs. gives {A = List DocView} (doc ∷ docs)) (always_over source (place + 1) names)
    (λ docs. always_gives {A = List DocView} (doc ∷ docs)))

always_joined : (source : Source) (options : Options) → Always (joined_kernel source options)
always_joined source options =
    always_then (files.kernel_document source options) (λ first. joined_behind source first (named_over options)) (always_document source Kernel (text_or opt.Kernel options))
    (λ first. always_then (over_documents source 1 (named_over options)) (λ docs. gives {A = DocView} (joined (first ∷ docs))) (always_over source 1 (named_over options))
    (λ docs. always_gives {A = DocView} (joined (first ∷ docs))))

always_cut : (sc from to : ℕ) (kernel : KernelRead) → Always (cut_out sc from to kernel)
always_cut sc from to kernel =
    let checks = excerpt_checks (total kernel.clock) kernel.triples.triples from to in
    always_judged (Judges checks (IsExcerpt kernel.doc sc kernel.triples.triples from to)) ExcerptRefused
    (λ fault h. said_of (λ (f : ExcerptFault). Stands (ExcerptRefused f)) checks fault (standing, (standing, tt)) h)

always_excerpt : (source : Source) (options : Options) → Always (excerpt source options)
always_excerpt source options =
    let cut : KernelRead → Stage DocView = cut_out (sc_of options) (number_or 0 opt.From options) (number_or 0 opt.To options) in
    always_then (joined_kernel source options) (excerpt_of options) (always_joined source options)
    (λ doc. always_then (files.kernel_meaning (sc_of options) doc) (λ kernel. cut kernel >>= normal_of) (always_meaning (sc_of options) doc)
    (λ kernel. always_then (cut kernel) normal_of (always_cut (sc_of options) (number_or 0 opt.From options) (number_or 0 opt.To options) kernel)
    (λ part. always_gives (canonical_text part))))

-- a refusal of a clock kernel, as one of the second kernel
new_stands : (status : Status) → Stands status → Stands (as_new status)
new_stands (KernelRefused kernel_stop.TooLong) h = standing
new_stands (KernelRefused (kernel_stop.Grammar grammar.NoMemory)) h = absurd h.1
new_stands (KernelRefused (kernel_stop.Grammar _)) h = standing
new_stands (KernelRefused (kernel_stop.Pool pool_fault.NoMemory)) h = absurd h.1
new_stands (KernelRefused (kernel_stop.Pool _)) h = standing
new_stands (KernelRefused (kernel_stop.Clock clock_fault.NoMemory)) h = absurd h.1
new_stands (KernelRefused (kernel_stop.Clock _)) h = standing
new_stands (KernelRefused (kernel_stop.Triples triples_fault.NoMemory)) h = absurd h.1
new_stands (KernelRefused (kernel_stop.Triples _)) h = standing
new_stands Done h = h
new_stands (WordsRefused fault) h = h
new_stands (LeapRefused stop) h = h
new_stands (ObservationRefused stop) h = h
new_stands (NotPublished fault) h = h
new_stands (ReadFault kind) h = h
new_stands WriteFault h = h
new_stands NoMemory h = h
new_stands (TimeRefused stop) h = h
new_stands (AuditNo fault) h = h
new_stands (NewRefused stop) h = h
new_stands (ExcerptRefused fault) h = h
new_stands (OverRefused place stop) h = h

always_second_named : (source : Source) (sc : ℕ) (o : Option (List ℕ)) → Always (second_named source sc o)
always_second_named source sc None = always_gives {A = Option KernelRead} None
always_second_named source sc (Some name) =
    always_then (files.document source New name) (λ doc. new_meaning sc doc >>= (λ kernel. gives (second_of kernel))) (always_document source New name)
    (λ doc. always_then (new_meaning sc doc) (λ kernel. gives (second_of kernel))
    (always_judged (files.kernel_meaning sc doc) as_new (λ status h. new_stands status (always_meaning sc doc status h)))
    (λ kernel. always_gives (second_of kernel)))

always_plot_read : (source : Source) (options : Options) → Always (plot_read source options)
always_plot_read source options =
    always_then (inputs_read source options) (second_after options source) (always_inputs source options)
    (λ inputs. always_then (second_kernel source options) (λ second. gives {A = PlotRead} (record { inputs = inputs; second = second }))
    (always_second_named source (sc_of options) (options opt.New))
    (λ second. always_gives {A = PlotRead} (record { inputs = inputs; second = second })))

always_paneled : (kernel : KernelRead) (rows : List RowView) → Always (paneled kernel rows)
always_paneled kernel rows =
    always_then (all_covered kernel.triples rows) (λ covers. gives (panel_of kernel rows)) (always_all_covered kernel.triples rows)
    (λ covers. always_gives (panel_of kernel rows))

always_second_panel : (second : Option KernelRead) (rows : List RowView) → Always (second_panel second rows)
always_second_panel None rows = always_gives {A = Option PanelView} None
always_second_panel (Some kernel) rows =
    always_then (paneled kernel rows) (λ panel. gives {A = Option PanelView} (Some panel)) (always_paneled kernel rows)
    (λ panel. always_gives {A = Option PanelView} (Some panel))

always_plot : (source : Source) (options : Options) → Always (plot source options)
always_plot source options =
    always_then (plot_read source options) (plot_of options) (always_plot_read source options)
    (λ read. always_then (paneled read.inputs.kernel read.inputs.observations)
    (λ panel. second_panel read.second read.inputs.observations >>= (λ newer. gives (drawing_of options panel newer)))
    (always_paneled read.inputs.kernel read.inputs.observations)
    (λ panel. always_then (second_panel read.second read.inputs.observations) (λ newer. gives (drawing_of options panel newer))
    (always_second_panel read.second read.inputs.observations)
    (λ newer. always_gives (drawing_of options panel newer))))

pub always_command : (command : Command) (source : Source) (options : Options) → Always (outcome_of command source options)
always_command Publish source options = always_publish source options
always_command Residuals source options = always_residuals source options
always_command Normal source options = always_normal source options
always_command Convert source options = always_convert source options
always_command Sample source options = always_sample source options
always_command Invert source options = always_invert source options
always_command Audit source options = always_audit source options
always_command Excerpt source options = always_excerpt source options
always_command Least source options = always_least source options
always_command Plot source options = always_plot source options

-- no command refuses its words
pub takes_words : {X : Type 0} (view : X → List ℕ) (command : Command) (source : Source) (options : Options) (fault : WordsFault) (r : Result X Status)
    → MayAnswer view (outcome_of command source options) r → r ≡ Err (WordsRefused fault) → ⊥
takes_words {X} view command source options fault r h e =
    (always_command command source options (WordsRefused fault) (subst (λ (q : Result X Status). MayAnswer view (outcome_of command source options) q) e h)).2
