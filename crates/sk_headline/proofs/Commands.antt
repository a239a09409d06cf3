-- Where nothing fails and the files are known, a command comes to one end.
use Rattle.std.proofs.Common.{◌≡◌, ℕ, suc, ◌*◌, ◌<◌, ◌≤◌, List, [], ◌∷◌, ◌++◌, length, Option, Some, None, Result, Ok, Err, refl, sym, ap, subst, ◌∙◌, inl, inr, arith, ◌+◌, ◌-◌}
use Rattle.std.specs.Prelude.{All, IsSome, IfSome, is_none, false}
use Rattle.std.specs.Option.{option_to_list}
use Rattle.std.proofs.lemmas.Option.{same_Some}
use Rattle.sk_checks.specs.Checks.{Judges}
use Rattle.sk_checks.proofs.ChecksLemmas.{plain-single}
use Rattle.sk_grammar.specs.Document.{DocView}
use Rattle.sk_grammar.specs.Canonical.{canonical_text, ended_by_line_feeds}
use Rattle.sk_leap.specs.declared.pair.LeapPair.{LeapPair}
use Rattle.sk_leap.specs.Leap.{IsLeapTable}
use Rattle.sk_clock.specs.Clock.{ClockView, total}
use Rattle.sk_publishing.specs.Row.{RowView}
use Rattle.sk_obs.specs.Words.{word_checks, IsClockWord}
use Rattle.sk_obs.proofs.Laws.{IsClockWord-one}
use Rattle.sk_line.specs.Triple.{TripleView}
use Rattle.sk_publishing.specs.Input.{Input}
use Rattle.sk_publishing.specs.Published.{published_block, appended}
use Rattle.sk_publishing.specs.Table.{ChainView, kernel_view, table_lines}
use Rattle.sk_publishing.specs.Terms.{sights}
use Rattle.sk_line.specs.Line.{covering}
use Rattle.sk_triples.specs.Kernel.{TriplesView, range_checks}
use Rattle.sk_fit.specs.declared.chain.Chain.{Chain}
use Rattle.sk_fit.specs.Causes.{Gives, input}
use Rattle.sk_fit.specs.Given.{chain_view, new_triples_of}
use Rattle.sk_fit.proofs.OneAnswer.{one_refusal, one_gives, gives_unrefused}
use Rattle.sk_report.specs.Report.{table_checks}
use Rattle.sk_sample.specs.Sample.{kernel_text, spacecraft, observations_text}
use Rattle.sk_words.specs.declared.tables.Command.{Command}
use Rattle.sk_words.specs.declared.tables.Command.TheVariants.{Publish, Residuals, Normal, Convert, Sample, Invert, Audit, Excerpt, Least, Plot}
use Rattle.sk_least.proofs.OneCover.{one_answer}
use Rattle.sk_words.specs.declared.tables.OptionName.TheVariants as opt
use Rattle.sk_words.specs.Request.{Options, text_or, number_or, files_of}
use Rattle.sk_excerpt.specs.Excerpt.{joined, excerpt_checks, excerpt_doc, IsExcerpt}
use Rattle.sk_words.proofs.Needed.{AreNamed}
use Rattle.sk_status.specs.declared.status.Status.{Status}
use Rattle.sk_status.specs.declared.status.Status.TheVariants.{LeapRefused, KernelRefused, ObservationRefused, NotPublished, AuditNo, ExcerptRefused}
use Rattle.sk_status.specs.declared.status.FileKind.{FileKind}
use Rattle.sk_status.specs.declared.status.FileKind.TheVariants.{Document, Observations}
use Rattle.sk_status.specs.declared.status.DocumentKind.{DocumentKind}
use Rattle.sk_status.specs.declared.status.DocumentKind.TheVariants.{Leap, Kernel, New, Over}
use Rattle.sk_status.specs.declared.status.LeapStop.TheVariants as leap_stop
use Rattle.sk_status.specs.declared.status.KernelStop.TheVariants as kernel_stop
use Rattle.sk_status.specs.declared.status.ObsStop.TheVariants as obs_stop
use Rattle.sk_outcome.specs.Stage.{Stage, ◌>>=◌, gives, some, IsDetermined}
use Rattle.sk_outcome.specs.Files as files
use Rattle.sk_outcome.specs.Seen.{Source}
use Rattle.sk_outcome.specs.Files.{KernelRead, reads, judged, document, refused_by, file_limit, sc_of, leap_named, leap_file, leap_meaning, leap_pool, leap_table, kernel_document, kernel_meaning, kernel_file, kernel_pool, kernel_clock, kernel_triples, observation_file, observed, OpenedRead, InputsRead, AuditRead, opened_read, inputs_read, candidate_document, audit_read}
use Rattle.sk_outcome.specs.Joined.{over_documents, joined_behind, named_over, joined_kernel}
use Rattle.sk_outcome.specs.Publishing.{after_chain, after_rows}
use Rattle.sk_outcome.specs.Output.{settings_of, dated, plain_table, tick_fields, time_by, line_of, yes_line, least_text}
use Rattle.sk_outcome.specs.Sample.{made_kernel, made_observations, made_inputs, sample_line, seed_of, count_of}
use Rattle.sk_outcome.specs.Time.{IsUtcWord}
use Rattle.sk_plot.specs.Point.{PanelView}
use Rattle.sk_outcome.specs.Drawn.{as_new, new_meaning, second_of, second_named, second_kernel, PlotRead, plot_read, panel_of}
use Rattle.sk_outcome.specs.Outcome.{outcome_of, publish, publish_of, chain_of, residuals, residuals_of, normal, normal_of, convert, convert_of, converted, sample, sample_of, sampled, invert, invert_of, said, ticked, told, covered, clock_tick, TickOf, tabled, all_covered, status_of_report, audit, audit_of, audited, accepted, VerdictOf, least, least_of, ShortestCover, excerpt, excerpt_of, cut_out, plot, plot_of, paneled, second_panel, drawing_of}
use Rattle.sk_headline.proofs.Determined.{then_determined, then_determined_of, judged_determined, gives_determined, judges_one}
use Rattle.sk_headline.proofs.OneAnswer.{doc_one, pool_one, leap_one, clock_one, triples_one, range_single, table_single}
use Rattle.sk_headline.proofs.OneRecord.{observations_one, word_single}
use Rattle.sk_headline.proofs.NewTriples.{one_addition}
use Rattle.sk_headline.proofs.Known.{front_known, others_known, one_known, named_known}
use Rattle.sk_headline.proofs.Inverted.{said_determined, ticked_determined}
use Rattle.sk_headline.proofs.LeapTables.{named_table}
use Rattle.sk_headline.proofs.OneUtc.{one_utc_word}
use Rattle.sk_headline.proofs.OneVerdict.{verdict_one}
use Rattle.sk_outcome.proofs.Follows.{kernel_after, rows_after, candidate_after, second_after}

-- ---- files

-- no count rose
abbrev pub IsCalm : Source → Type 0
IsCalm source = (name : List ℕ) → ¬ source.rose name

held_one : (file : Option (List ℕ)) (a b : List ℕ) → IsSome file → IfSome file (λ held. a ≡ held) → IfSome file (λ held. b ≡ held) → a ≡ b
held_one None a b known h k = cc
held_one (Some held) a b known h k = h ∙ sym k

held_short : (file : Option (List ℕ)) (bytes : List ℕ) → IsSome file → length bytes ≤ file_limit → IfSome file (λ held. bytes ≡ held) → IfSome file (λ held. file_limit < length held) → ⊥
held_short None bytes known short h k = cc
held_short (Some held) bytes known short h k = absurd (omega (arith, short, k, ap length h))

reads_determined : (source : Source) (kind : FileKind) (name : List ℕ) → IsCalm source → IsSome (source.holds name) → IsDetermined (reads source kind name)
reads_determined source kind name calm known (Ok a) (Ok b) h k = ap Ok (held_one (source.holds name) a b known h.1 k.1)
reads_determined source kind name calm known (Ok a) (Err s) h (inl k) = absurd (calm name k.1)
reads_determined source kind name calm known (Ok a) (Err s) h (inr k) = absurd (held_short (source.holds name) a known h.0 h.1 k.2)
reads_determined source kind name calm known (Err s) b (inl h) k = absurd (calm name h.1)
reads_determined source kind name calm known (Err s) (Ok b) (inr h) k = absurd (held_short (source.holds name) b known k.0 k.1 h.2)
reads_determined source kind name calm known (Err s) (Err u) (inr h) (inl k) = absurd (calm name k.1)
reads_determined source kind name calm known (Err s) (Err u) (inr h) (inr k) = ap Err (h.0 ∙ sym k.0)

document_determined : (source : Source) (kind : DocumentKind) (name : List ℕ) → IsCalm source → IsSome (source.holds name) → IsDetermined (document source kind name)
document_determined source kind name calm known =
    then_determined (reads source (Document kind) name) (λ bytes. judged (files.DocOf bytes) (refused_by kind)) (reads_determined source (Document kind) name calm known)
    (λ bytes. judged_determined (files.DocOf bytes) (refused_by kind) (doc_one bytes))

leap_meaning_determined : (doc : DocView) → IsDetermined (leap_meaning doc)
leap_meaning_determined doc =
    then_determined (leap_pool doc) leap_table (judged_determined (files.PoolOf doc) (λ f. LeapRefused (leap_stop.Pool f)) (pool_one doc))
    (λ variables. judged_determined (files.LeapOf variables) (λ f. LeapRefused (leap_stop.Leap f)) (leap_one variables))

leap_determined : (source : Source) (name : Option (List ℕ)) → IsCalm source → IfSome name (λ name. IsSome (source.holds name)) → IsDetermined (leap_named source name)
leap_determined source None calm known = gives_determined {A = List LeapPair} []
leap_determined source (Some name) calm known =
    then_determined (document source Leap name) leap_meaning (document_determined source Leap name calm known) leap_meaning_determined

meaning_determined : (sc : ℕ) (doc : DocView) → IsDetermined (kernel_meaning sc doc)
meaning_determined sc doc =
    then_determined (kernel_pool doc) (λ variables. kernel_clock variables sc >>= (λ (clock : ClockView). kernel_triples variables clock sc >>= (λ (triples : TriplesView). gives (record { doc = doc; clock = clock; triples = triples }))))
    (judged_determined (files.PoolOf doc) (λ f. KernelRefused (kernel_stop.Pool f)) (pool_one doc))
    (λ variables. then_determined (kernel_clock variables sc) (λ clock. kernel_triples variables clock sc >>= (λ (triples : TriplesView). gives (record { doc = doc; clock = clock; triples = triples })))
    (judged_determined (files.ClockOf variables sc) (λ f. KernelRefused (kernel_stop.Clock f)) (clock_one variables sc))
    (λ clock. then_determined (kernel_triples variables clock sc) (λ triples. gives (record { doc = doc; clock = clock; triples = triples }))
    (judged_determined (files.TriplesOf variables clock sc) (λ f. KernelRefused (kernel_stop.Triples f)) (triples_one variables clock sc))
    (λ triples. gives_determined (record { doc = doc; clock = clock; triples = triples }))))

-- ---- the commands

-- the file of the kernel is named and known
kernel_determined : (source : Source) (options : Options) → IsCalm source → IsSome (source.holds (text_or opt.Kernel options)) → IsDetermined (kernel_document source options)
kernel_determined source options calm known = document_determined source Kernel (text_or opt.Kernel options) calm known

pub kernel_file_determined : (source : Source) (options : Options) → IsCalm source → IsSome (source.holds (text_or opt.Kernel options)) → IsDetermined (kernel_file source options)
kernel_file_determined source options calm known =
    then_determined (kernel_document source options) (kernel_meaning (sc_of options)) (kernel_determined source options calm known) (meaning_determined (sc_of options))

-- the leap second kernel, where one is named, and the clock kernel are known
pub record AreOpen (source : Source) (options : Options) : Type 0 where
  pub leap : IfSome (options opt.Leap) (λ name. IsSome (source.holds name))
  pub kernel : IsSome (source.holds (text_or opt.Kernel options))

opened_determined : (source : Source) (options : Options) → IsCalm source → AreOpen source options → IsDetermined (opened_read source options)
opened_determined source options calm known =
    then_determined (leap_file source options) (kernel_after options source) (leap_determined source (options opt.Leap) calm known.leap)
    (λ leap. then_determined (kernel_file source options) (λ kernel. gives {A = OpenedRead} (record { leap = leap; kernel = kernel })) (kernel_file_determined source options calm known.kernel)
    (λ kernel. gives_determined {A = OpenedRead} (record { leap = leap; kernel = kernel })))

observations_determined : (source : Source) (options : Options) (opened : OpenedRead) → IsCalm source → IsSome (source.holds (text_or opt.Obs options))
    → IsDetermined (observation_file source options opened)
observations_determined source options opened calm known =
    let clock : ClockView = opened.kernel.clock in
    let leap : List LeapPair = opened.leap in
    then_determined (reads source Observations (text_or opt.Obs options)) (λ bytes. observed bytes clock leap) (reads_determined source Observations (text_or opt.Obs options) calm known)
    (λ bytes. judged_determined (files.ObservationsOf bytes clock leap) (λ f. ObservationRefused (obs_stop.Record f)) (observations_one bytes clock leap))

-- and so are the observations
pub record AreKnown (source : Source) (options : Options) : Type 0 where
  pub opened : AreOpen source options
  pub observations : IsSome (source.holds (text_or opt.Obs options))

pub inputs_determined : (source : Source) (options : Options) → IsCalm source → AreKnown source options → IsDetermined (inputs_read source options)
inputs_determined source options calm known =
    then_determined (opened_read source options) (rows_after options source) (opened_determined source options calm known.opened)
    (λ opened. then_determined (observation_file source options opened) (λ rows. gives {A = InputsRead} (record { kernel = opened.kernel; observations = rows }))
    (observations_determined source options opened calm known.observations)
    (λ rows. gives_determined {A = InputsRead} (record { kernel = opened.kernel; observations = rows })))

all_covered_determined : (triples : TriplesView) (rows : List RowView) → IsDetermined (all_covered triples rows)
all_covered_determined triples rows =
    judged_determined (Judges (table_checks triples rows) (λ (covered : Unit {0}). Unit {0})) status_of_report
    (judges_one (table_checks triples rows) (λ (covered : Unit {0}). Unit {0}) (table_single triples rows) (λ x y h k. refl))

tabled_determined : (kernel : KernelRead) (rows : List RowView) → IsDetermined (tabled kernel rows)
tabled_determined kernel rows =
    then_determined (all_covered kernel.triples rows) (λ covers. gives (plain_table kernel rows))
    (all_covered_determined kernel.triples rows)
    (λ covers. gives_determined (plain_table kernel rows))

residuals_determined : (source : Source) (options : Options) → IsCalm source → AreKnown source options → IsDetermined (residuals source options)
residuals_determined source options calm known =
    then_determined (inputs_read source options) residuals_of (inputs_determined source options calm known)
    (λ inputs. then_determined (tabled inputs.kernel inputs.observations) (λ lines. gives (ended_by_line_feeds lines)) (tabled_determined inputs.kernel inputs.observations)
    (λ lines. gives_determined (ended_by_line_feeds lines)))

normal_determined : (source : Source) (options : Options) → IsCalm source → IsSome (source.holds (text_or opt.Kernel options)) → IsDetermined (normal source options)
normal_determined source options calm known =
    then_determined (kernel_document source options) normal_of (kernel_determined source options calm known) (λ doc. gives_determined (canonical_text doc))

abbrev with_new : KernelRead → List TripleView → TriplesView
with_new kernel new = record { triples = kernel.triples.triples ++ new; per_count = kernel.triples.per_count; total = kernel.triples.total }

-- what is written of these triples and this view of a chain
abbrev doc_of : Options → KernelRead → List RowView → List TripleView → ChainView → DocView
doc_of options kernel rows new view =
    appended kernel.doc (published_block (dated options) (sc_of options) new (table_lines (kernel_view 12 kernel.clock (kernel.triples.triples ++ new)) (Some view) rows))

abbrev ended_with : Options → KernelRead → List RowView → List TripleView → ChainView → Stage (List ℕ)
ended_with options kernel rows new view = all_covered (with_new kernel new) rows >>= (λ covers. gives (canonical_text (doc_of options kernel rows new view)))

ended_determined : (options : Options) (kernel : KernelRead) (rows : List RowView) (new : List TripleView) (view : ChainView) → IsDetermined (ended_with options kernel rows new view)
ended_determined options kernel rows new view =
    then_determined (all_covered (with_new kernel new) rows) (λ covers. gives (canonical_text (doc_of options kernel rows new view)))
    (all_covered_determined (with_new kernel new) rows)
    (λ covers. gives_determined (canonical_text (doc_of options kernel rows new view)))

abbrev input_of : Options → KernelRead → List RowView → Input
input_of options kernel rows = input kernel.triples kernel.clock rows (settings_of options)

-- two chains of the same observations end the run alike
chains_alike : (options : Options) (kernel : KernelRead) (rows : List RowView) (c d : Chain) → Gives (input_of options kernel rows) c → Gives (input_of options kernel rows) d
    → (a b : Result (List ℕ) Status) → after_chain options kernel rows c a → after_chain options kernel rows d b → a ≡ b
chains_alike options kernel rows c d p q a b h k =
    let new : new_triples_of c ≡ new_triples_of d = one_addition (input_of options kernel rows) c d p q in
    let same = one_gives (input_of options kernel rows) c d p q in
    let view : chain_view (sights rows) c ≡ chain_view (sights rows) d = λ i. record { first_new = same.0 i; dropped = same.1 i; segments = same.2 i } in
    let by_new : ended_with options kernel rows (new_triples_of d) (chain_view (sights rows) c) a =
    subst (λ (added : List TripleView). ended_with options kernel rows added (chain_view (sights rows) c) a) new h in
    let by_view : ended_with options kernel rows (new_triples_of d) (chain_view (sights rows) d) a =
    subst (λ (shown : ChainView). ended_with options kernel rows (new_triples_of d) shown a) view by_new in
    ended_determined options kernel rows (new_triples_of d) (chain_view (sights rows) d) a b by_view k

-- what follows the chain comes to one end, where it does for any two chains of the same observations
abbrev AreAlike : Options → KernelRead → List RowView → (Chain → Stage (List ℕ)) → Type 0
AreAlike options kernel rows next = (c d : Chain) → Gives (input_of options kernel rows) c → Gives (input_of options kernel rows) d
    → (a b : Result (List ℕ) Status) → next c a → next d b → a ≡ b

abbrev chained : Options → KernelRead → List RowView → (Chain → Stage (List ℕ)) → Stage (List ℕ)
chained options kernel rows next = chain_of options kernel rows >>= next

chained_determined : (options : Options) (kernel : KernelRead) (rows : List RowView) (next : Chain → Stage (List ℕ)) → AreAlike options kernel rows next
    → IsDetermined (chained options kernel rows next)
chained_determined options kernel rows next alike (Ok x) (Ok y) p q = alike p.0 q.0 p.1 q.1 (Ok x) (Ok y) p.2 q.2
chained_determined options kernel rows next alike (Ok x) (Err s) p (inl q) = absurd (gives_unrefused (input_of options kernel rows) rows p.0 q.0 p.1 q.1)
chained_determined options kernel rows next alike (Ok x) (Err s) p (inr q) = alike p.0 q.0 p.1 q.1 (Ok x) (Err s) p.2 q.2
chained_determined options kernel rows next alike (Err s) (Ok y) (inl p) q = absurd (gives_unrefused (input_of options kernel rows) rows q.0 p.0 q.1 p.1)
chained_determined options kernel rows next alike (Err s) (Ok y) (inr p) q = alike p.0 q.0 p.1 q.1 (Err s) (Ok y) p.2 q.2
chained_determined options kernel rows next alike (Err s) (Err u) (inl p) (inl q) =
    ap Err (p.2 ∙ ap NotPublished (one_refusal (input_of options kernel rows) rows p.0 q.0 p.1 q.1) ∙ sym q.2)
chained_determined options kernel rows next alike (Err s) (Err u) (inl p) (inr q) = absurd (gives_unrefused (input_of options kernel rows) rows q.0 p.0 q.1 p.1)
chained_determined options kernel rows next alike (Err s) (Err u) (inr p) (inl q) = absurd (gives_unrefused (input_of options kernel rows) rows p.0 q.0 p.1 q.1)
chained_determined options kernel rows next alike (Err s) (Err u) (inr p) (inr q) = alike p.0 q.0 p.1 q.1 (Err s) (Err u) p.2 q.2

rows_determined : (options : Options) (kernel : KernelRead) (rows : List RowView) → IsDetermined (after_rows options kernel rows)
rows_determined options kernel rows = chained_determined options kernel rows (after_chain options kernel rows) (chains_alike options kernel rows)

publish_determined : (source : Source) (options : Options) → IsCalm source → AreKnown source options → IsDetermined (publish source options)
publish_determined source options calm known =
    then_determined (inputs_read source options) (publish_of options) (inputs_determined source options calm known) (λ inputs. rows_determined options inputs.kernel inputs.observations)

-- one value with a property, and a text with it in
shown_determined : {A : Type 0} (P : A → Type 0) (text : A → List ℕ) → ((v w : A) → P v → P w → v ≡ w) → IsDetermined (some P >>= (λ value. gives (text value)))
shown_determined {A} P text one (Ok x) (Ok y) p q = p.2 ∙ ap (λ (value : A). Ok (text value)) (one p.0 q.0 p.1 q.1) ∙ sym q.2
shown_determined P text one (Ok x) (Err s) p (inl q) = absurd q
shown_determined P text one (Ok x) (Err s) p (inr q) = let e : ◌≡◌ {A = Result (List ℕ) Status} (Err s) (Ok (text q.0)) = q.2 in cc
shown_determined P text one (Err s) b (inl p) q = absurd p
shown_determined P text one (Err s) b (inr p) q = let e : ◌≡◌ {A = Result (List ℕ) Status} (Err s) (Ok (text p.0)) = p.2 in cc

covered_determined : (triples : TriplesView) (number tick : ℕ) → IsDetermined (covered triples number tick)
covered_determined triples number tick =
    let P : TripleView → Type 0 = λ triple. (n : ℕ) × (covering triples.triples tick ≡ Some (n, triple)) in
    judged_determined (Judges (range_checks triples tick) P) (λ fault. ObservationRefused (obs_stop.Range number fault))
    (judges_one (range_checks triples tick) P (range_single triples tick) (λ x y h k. ap (λ (p : ℕ × TripleView). p.1) (same_Some (h.0, x) (k.0, y) (sym h.1 ∙ k.1))))

converted_determined : (leap : List LeapPair) (kernel : KernelRead) (tick : ℕ) → IsLeapTable leap → IsDetermined (converted leap kernel tick)
converted_determined leap kernel tick table =
    then_determined (covered kernel.triples 0 tick) (λ (triple : TripleView). some (IsUtcWord leap (time_by kernel triple tick)) >>= (λ utc. gives (line_of (tick_fields kernel triple tick ++ utc ∷ [])))) (covered_determined kernel.triples 0 tick)
    (λ triple. shown_determined (IsUtcWord leap (time_by kernel triple tick)) (λ utc. line_of (tick_fields kernel triple tick ++ utc ∷ [])) (λ v w. one_utc_word leap (time_by kernel triple tick) v w table))

tick_determined : (word : List ℕ) (clock : ClockView) → IsDetermined (clock_tick word clock)
tick_determined word clock =
    judged_determined (TickOf word clock) (λ w. ObservationRefused (obs_stop.Clock w)) (judges_one (word_checks clock word) (IsClockWord clock word) (word_single clock word) (IsClockWord-one clock word))

pub convert_of_determined : (options : Options) (opened : OpenedRead) → IsLeapTable opened.leap → IsDetermined (convert_of options opened)
convert_of_determined options opened table =
    then_determined (clock_tick (text_or opt.Clock options) opened.kernel.clock) (converted opened.leap opened.kernel) (tick_determined (text_or opt.Clock options) opened.kernel.clock)
    (λ tick. converted_determined opened.leap opened.kernel tick table)

-- the table of a leap second kernel that was read
opened_table : (source : Source) (options : Options) (opened : OpenedRead) → opened_read source options (Ok opened) → IsLeapTable opened.leap
opened_table source options opened h =
    let made : ◌≡◌ {A = Result OpenedRead Status} (Ok opened) (Ok (record { leap = h.0; kernel = h.2.0 })) = h.2.2 in
    let leap : h.0 ≡ opened.leap = cc in
    subst IsLeapTable leap (named_table source (options opt.Leap) h.0 h.1)

convert_determined : (source : Source) (options : Options) → IsCalm source → AreOpen source options → IsDetermined (convert source options)
convert_determined source options calm known =
    then_determined_of (opened_read source options) (convert_of options) (opened_determined source options calm known)
    (λ opened is. convert_of_determined options opened (opened_table source options opened is))

made_determined : (options : Options) → IsDetermined (made_inputs options)
made_determined options =
    let bytes : List ℕ = observations_text (seed_of options) (count_of options) in
    then_determined made_kernel (λ kernel. made_observations options kernel >>= (λ rows. gives {A = InputsRead} (record { kernel = kernel; observations = rows })))
    (then_determined (judged (files.DocOf kernel_text) (refused_by Kernel)) (kernel_meaning spacecraft)
    (judged_determined (files.DocOf kernel_text) (refused_by Kernel) (doc_one kernel_text)) (meaning_determined spacecraft))
    (λ kernel. then_determined (made_observations options kernel) (λ rows. gives {A = InputsRead} (record { kernel = kernel; observations = rows }))
    (judged_determined (files.ObservationsOf bytes kernel.clock []) (λ f. ObservationRefused (obs_stop.Record f)) (observations_one bytes kernel.clock []))
    (λ rows. gives_determined {A = InputsRead} (record { kernel = kernel; observations = rows })))

-- the line of these new triples
abbrev sampled_with : Options → KernelRead → List RowView → List TripleView → Stage (List ℕ)
sampled_with options kernel rows new = all_covered (with_new kernel new) rows >>= (λ covers. gives (sample_line options kernel rows new))

sampled_determined : (options : Options) (kernel : KernelRead) (rows : List RowView) (new : List TripleView) → IsDetermined (sampled_with options kernel rows new)
sampled_determined options kernel rows new =
    then_determined (all_covered (with_new kernel new) rows) (λ covers. gives (sample_line options kernel rows new))
    (all_covered_determined (with_new kernel new) rows)
    (λ covers. gives_determined (sample_line options kernel rows new))

samples_alike : (options : Options) (kernel : KernelRead) (rows : List RowView) → AreAlike options kernel rows (sampled options kernel rows)
samples_alike options kernel rows c d p q a b h k =
    let new : new_triples_of c ≡ new_triples_of d = one_addition (input_of options kernel rows) c d p q in
    sampled_determined options kernel rows (new_triples_of d) a b (subst (λ (added : List TripleView). sampled_with options kernel rows added a) new h) k

sample_determined : (source : Source) (options : Options) → IsDetermined (sample source options)
sample_determined source options =
    then_determined (made_inputs options) (sample_of options) (made_determined options)
    (λ inputs. chained_determined options inputs.kernel inputs.observations (sampled options inputs.kernel inputs.observations) (samples_alike options inputs.kernel inputs.observations))

told_determined : (kernel : KernelRead) (tick : ℕ) → IsDetermined (told kernel tick)
told_determined kernel tick =
    then_determined (covered kernel.triples 0 tick) (λ (triple : TripleView). gives (line_of (tick_fields kernel triple tick))) (covered_determined kernel.triples 0 tick)
    (λ triple. gives_determined (line_of (tick_fields kernel triple tick)))

invert_determined : (source : Source) (options : Options) → IsCalm source → AreOpen source options → IsDetermined (invert source options)
invert_determined source options calm known =
    then_determined (opened_read source options) (invert_of options) (opened_determined source options calm known)
    (λ opened. then_determined (said (text_or opt.Time options) opened.leap) (λ time. ticked opened.kernel time >>= told opened.kernel) (said_determined (text_or opt.Time options) opened.leap)
    (λ time. then_determined (ticked opened.kernel time) (told opened.kernel) (ticked_determined opened.kernel time) (told_determined opened.kernel)))

least_determined : (source : Source) (options : Options) → IsCalm source → AreKnown source options → IsDetermined (least source options)
least_determined source options calm known =
    then_determined (inputs_read source options) (least_of options) (inputs_determined source options calm known)
    (λ inputs. shown_determined (ShortestCover options inputs) (least_text inputs.observations)
    (one_answer inputs.kernel.clock (number_or 1000000 opt.TolNs options * 1000) inputs.observations))

audit_read_determined : (source : Source) (options : Options) → IsCalm source → AreKnown source options → IsSome (source.holds (text_or opt.New options))
    → IsDetermined (audit_read source options)
audit_read_determined source options calm known candidate =
    then_determined (inputs_read source options) (candidate_after options source) (inputs_determined source options calm known)
    (λ inputs. then_determined (candidate_document source options) (λ doc. gives {A = AuditRead} (record { inputs = inputs; candidate = doc }))
    (document_determined source New (text_or opt.New options) calm candidate)
    (λ doc. gives_determined {A = AuditRead} (record { inputs = inputs; candidate = doc })))

pub audit_determined : (source : Source) (options : Options) → IsCalm source → AreKnown source options → IsSome (source.holds (text_or opt.New options))
    → IsDetermined (audit source options)
audit_determined source options calm known candidate =
    then_determined (audit_read source options) (audit_of options) (audit_read_determined source options calm known candidate)
    (λ read. then_determined (accepted options read) (λ passed. gives yes_line) (judged_determined (VerdictOf (audited options read)) AuditNo (verdict_one (audited options read)))
    (λ passed. gives_determined yes_line))

-- what a document means as the second kernel
new_meaning_determined : (sc : ℕ) (doc : DocView) → IsDetermined (new_meaning sc doc)
new_meaning_determined sc doc = judged_determined (kernel_meaning sc doc) as_new (meaning_determined sc doc)

second_determined : (source : Source) (sc : ℕ) (name : Option (List ℕ)) → IsCalm source → IfSome name (λ name. IsSome (source.holds name)) → IsDetermined (second_named source sc name)
second_determined source sc None calm known = gives_determined {A = Option KernelRead} None
second_determined source sc (Some name) calm known =
    then_determined (document source New name) (λ doc. new_meaning sc doc >>= (λ kernel. gives (second_of kernel))) (document_determined source New name calm known)
    (λ doc. then_determined (new_meaning sc doc) (λ kernel. gives (second_of kernel)) (new_meaning_determined sc doc)
    (λ kernel. gives_determined (second_of kernel)))

plot_read_determined : (source : Source) (options : Options) → IsCalm source → AreKnown source options → IfSome (options opt.New) (λ name. IsSome (source.holds name))
    → IsDetermined (plot_read source options)
plot_read_determined source options calm known second =
    then_determined (inputs_read source options) (second_after options source) (inputs_determined source options calm known)
    (λ inputs. then_determined (second_kernel source options) (λ kernel. gives {A = PlotRead} (record { inputs = inputs; second = kernel }))
    (second_determined source (sc_of options) (options opt.New) calm second)
    (λ kernel. gives_determined {A = PlotRead} (record { inputs = inputs; second = kernel })))

paneled_determined : (kernel : KernelRead) (rows : List RowView) → IsDetermined (paneled kernel rows)
paneled_determined kernel rows =
    then_determined (all_covered kernel.triples rows) (λ covers. gives (panel_of kernel rows)) (all_covered_determined kernel.triples rows)
    (λ covers. gives_determined (panel_of kernel rows))

second_panel_determined : (second : Option KernelRead) (rows : List RowView) → IsDetermined (second_panel second rows)
second_panel_determined None rows = gives_determined {A = Option PanelView} None
second_panel_determined (Some kernel) rows =
    then_determined (paneled kernel rows) (λ panel. gives {A = Option PanelView} (Some panel)) (paneled_determined kernel rows)
    (λ panel. gives_determined {A = Option PanelView} (Some panel))

plot_determined : (source : Source) (options : Options) → IsCalm source → AreKnown source options → IfSome (options opt.New) (λ name. IsSome (source.holds name))
    → IsDetermined (plot source options)
plot_determined source options calm known second =
    then_determined (plot_read source options) (plot_of options) (plot_read_determined source options calm known second)
    (λ read. then_determined (paneled read.inputs.kernel read.inputs.observations)
    (λ panel. second_panel read.second read.inputs.observations >>= (λ newer. gives (drawing_of options panel newer)))
    (paneled_determined read.inputs.kernel read.inputs.observations)
    (λ panel. then_determined (second_panel read.second read.inputs.observations) (λ newer. gives (drawing_of options panel newer))
    (second_panel_determined read.second read.inputs.observations)
    (λ newer. gives_determined (drawing_of options panel newer))))

-- the files of a list are known
abbrev AllKnown : Source → List (List ℕ) → Type 0
AllKnown source names = All (λ name. IsSome (source.holds name)) names

over_determined : (source : Source) (place : ℕ) (names : List (List ℕ)) → IsCalm source → AllKnown source names → IsDetermined (over_documents source place names)
over_determined source place [] calm known = gives_determined {A = List DocView} []
over_determined source place (name ∷ names) calm known =
    then_determined (document source (Over place) name) (λ doc. over_documents source (place + 1) names >>= (λ docs. gives {A = List DocView} (doc ∷ docs)))
    (document_determined source (Over place) name calm (known 0 [] (omega arith)))
    (λ doc. then_determined (over_documents source (place + 1) names) (λ docs. gives {A = List DocView} (doc ∷ docs))
    (over_determined source (place + 1) names calm (λ k d within. known (suc k) d (omega (arith, within))))
    (λ docs. gives_determined {A = List DocView} (doc ∷ docs)))

joined_determined : (source : Source) (options : Options) → IsCalm source → IsSome (source.holds (text_or opt.Kernel options)) → AllKnown source (named_over options)
    → IsDetermined (joined_kernel source options)
joined_determined source options calm known over =
    then_determined (kernel_document source options) (λ first. joined_behind source first (named_over options)) (kernel_determined source options calm known)
    (λ first. then_determined (over_documents source 1 (named_over options)) (λ docs. gives {A = DocView} (joined (first ∷ docs))) (over_determined source 1 (named_over options) calm over)
    (λ docs. gives_determined {A = DocView} (joined (first ∷ docs))))

one_excerpt : (doc : DocView) (sc : ℕ) (triples : List TripleView) (from to : ℕ) (x y : DocView) → IsExcerpt doc sc triples from to x → IsExcerpt doc sc triples from to y → x ≡ y
one_excerpt doc sc triples from to x y h k =
    h.result_is
    ∙ ap (λ (first : ℕ × TripleView). excerpt_doc doc sc (first.0 - 1) (h.last.0 - 1)) (same_Some h.first k.first (sym h.covers_from ∙ k.covers_from))
    ∙ ap (λ (last : ℕ × TripleView). excerpt_doc doc sc (k.first.0 - 1) (last.0 - 1)) (same_Some h.last k.last (sym h.covers_to ∙ k.covers_to))
    ∙ sym k.result_is

cut_determined : (sc from to : ℕ) (kernel : KernelRead) → IsDetermined (cut_out sc from to kernel)
cut_determined sc from to kernel =
    let checks = excerpt_checks (total kernel.clock) kernel.triples.triples from to in
    let P : DocView → Type 0 = IsExcerpt kernel.doc sc kernel.triples.triples from to in
    judged_determined (Judges checks P) ExcerptRefused
    (judges_one checks P (plain-single _ _, (plain-single _ _, tt)) (one_excerpt kernel.doc sc kernel.triples.triples from to))

excerpt_determined : (source : Source) (options : Options) → IsCalm source → IsSome (source.holds (text_or opt.Kernel options)) → AllKnown source (named_over options)
    → IsDetermined (excerpt source options)
excerpt_determined source options calm known over =
    let cut : KernelRead → Stage DocView = cut_out (sc_of options) (number_or 0 opt.From options) (number_or 0 opt.To options) in
    then_determined (joined_kernel source options) (excerpt_of options) (joined_determined source options calm known over)
    (λ doc. then_determined (kernel_meaning (sc_of options) doc) (λ kernel. cut kernel >>= normal_of) (meaning_determined (sc_of options) doc)
    (λ kernel. then_determined (cut kernel) normal_of (cut_determined (sc_of options) (number_or 0 opt.From options) (number_or 0 opt.To options) kernel)
    (λ part. gives_determined (canonical_text part))))

-- ---- the files of the words

-- the leap second kernel, where it is named, the clock kernel, the observations, the candidate and the kernels of `--over`
pub record HaveBytes (source : Source) (options : Options) : Type 0 where
  leap : IfSome (options opt.Leap) (λ name. IsSome (source.holds name))
  kernel : IfSome (options opt.Kernel) (λ name. IsSome (source.holds name))
  observations : IfSome (options opt.Obs) (λ name. IsSome (source.holds name))
  candidate : IfSome (options opt.New) (λ name. IsSome (source.holds name))
  over : AllKnown source (named_over options)

pub have_bytes : (source : Source) (options : Options) → All (λ name. IsSome (source.holds name)) (files_of options) → HaveBytes source options
have_bytes source options h =
    let P : List ℕ → Type 0 = λ name. IsSome (source.holds name) in
    let leap = option_to_list (options opt.Leap) in
    let kernel = option_to_list (options opt.Kernel) in
    let observations = option_to_list (options opt.Obs) in
    let new = option_to_list (options opt.New) in
    let over = named_over options in
    let without_over : All P (leap ++ kernel ++ observations ++ new) = front_known P (leap ++ kernel ++ observations ++ new) over h in
    let three : All P (leap ++ kernel ++ observations) = front_known P (leap ++ kernel ++ observations) new without_over in
    let two : All P (leap ++ kernel) = front_known P (leap ++ kernel) observations three in
    record {
      leap = one_known P (options opt.Leap) (front_known P leap kernel two);
      kernel = one_known P (options opt.Kernel) (others_known P leap kernel two);
      observations = one_known P (options opt.Obs) (others_known P (leap ++ kernel) observations three);
      candidate = one_known P (options opt.New) (others_known P (leap ++ kernel ++ observations) new without_over);
      over = others_known P (leap ++ kernel ++ observations ++ new) over h;
    }

-- the files of a command that needs a clock kernel, and of one that needs observations too
files_open : (source : Source) (options : Options) → is_none (options opt.Kernel) ≡ false → HaveBytes source options → AreOpen source options
files_open source options named known = record {
  leap = known.leap;
  kernel = named_known (λ name. IsSome (source.holds name)) (options opt.Kernel) named known.kernel;
}

files_known : (source : Source) (options : Options) → AreNamed Residuals options → HaveBytes source options → AreKnown source options
files_known source options named known = record {
  opened = files_open source options named.0 known;
  observations = named_known (λ name. IsSome (source.holds name)) (options opt.Obs) named.1 known.observations;
}

pub command_determined : (command : Command) (source : Source) (options : Options) → IsCalm source → AreNamed command options → HaveBytes source options
    → IsDetermined (outcome_of command source options)
command_determined Publish source options calm named known = publish_determined source options calm (files_known source options named known)
command_determined Residuals source options calm named known = residuals_determined source options calm (files_known source options named known)
command_determined Normal source options calm named known =
    normal_determined source options calm (named_known (λ name. IsSome (source.holds name)) (options opt.Kernel) named known.kernel)
command_determined Convert source options calm named known = convert_determined source options calm (files_open source options named known)
command_determined Sample source options calm named known = sample_determined source options
command_determined Invert source options calm named known = invert_determined source options calm (files_open source options named known)
command_determined Audit source options calm named known =
    audit_determined source options calm (files_known source options (named.0, named.1) known)
    (named_known (λ name. IsSome (source.holds name)) (options opt.New) named.2 known.candidate)
command_determined Excerpt source options calm named known =
    excerpt_determined source options calm (named_known (λ name. IsSome (source.holds name)) (options opt.Kernel) named known.kernel) known.over
command_determined Least source options calm named known = least_determined source options calm (files_known source options named known)
command_determined Plot source options calm named known = plot_determined source options calm (files_known source options named known) known.candidate
