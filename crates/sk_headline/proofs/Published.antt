-- What is published is a kernel with all that a publication promises.
use Rattle.std.proofs.Common.{◌≡◌, ℕ, List, [], ◌∷◌, ◌++◌, Option, Some, None, Result, Ok, refl, sym, subst}
use Rattle.std.proofs.lemmas.List.Elements.{All-weaker}
use Rattle.std.specs.Io.KnownBytes.{Appends}
use Rattle.std.specs.Prelude.{All, IsSome, IfSome, codes}
use Rattle.std.specs.List.{AllByRecursion}
use Rattle.sk_grammar.specs.Document.{DocView, IsDoc, IsTextLine}
use Rattle.sk_grammar.specs.Variables.{VariableView}
use Rattle.sk_grammar.specs.Spelling.{Spells}
use Rattle.sk_grammar.specs.Canonical.{canonical_text}
use Rattle.sk_clock.specs.Clock.{IsClock, total}
use Rattle.sk_publishing.specs.Row.{RowView, AreRows}
use Rattle.sk_leap.specs.declared.pair.LeapPair.{LeapPair}
use Rattle.sk_obs.specs.Observation.{IsId}
use Rattle.sk_publishing.specs.Terms.{sights}
use Rattle.sk_line.specs.Triple.{TripleView}
use Rattle.sk_line.specs.Line.{covering}
use Rattle.sk_publishing.specs.Chain.{SegmentView, new_triples}
use Rattle.sk_triples.specs.Kernel.{AreTriples, AreKept}
use Rattle.sk_publishing.specs.Table.{kernel_view, table_lines}
use Rattle.sk_publishing.specs.Published.{published_block, appended}
use Rattle.sk_fit.specs.declared.chain.Chain.{Chain}
use Rattle.sk_fit.specs.Given.{terms_of, segments_of, new_triples_of, chain_view}
use Rattle.sk_fit.specs.Causes.{Gives, input}
use Rattle.sk_fit.proofs.SmallClock.{small_clock}
use Rattle.sk_fit.proofs.NewTriples.{gives_triples}
use Rattle.sk_publication.proofs.NewTriples.{new_numbers}
use Rattle.sk_report.specs.Line.{IsLined}
use Rattle.sk_report.proofs.TextLines.{text_lines}
use Rattle.sk_words.specs.Asked.{Request}
use Rattle.sk_words.specs.Request.{Options, text_or}
use Rattle.sk_words.specs.declared.tables.Command.{Command}
use Rattle.sk_words.specs.declared.tables.Command.TheVariants.{Publish}
use Rattle.sk_words.specs.declared.tables.OptionName.TheVariants as opt
use Rattle.sk_status.specs.declared.status.Status.{Status}
use Rattle.sk_status.specs.declared.status.Status.TheVariants.{Done}
use Rattle.sk_status.specs.Written.{Written}
use Rattle.sk_outcome.specs.Ending.{Ends}
use Rattle.sk_outcome.specs.Seen.{Source}
use Rattle.sk_outcome.specs.Files.{KernelRead, OpenedRead, InputsRead, sc_of, leap_named, leap_file, kernel_file, observation_file, opened_read, inputs_read, LeapOf, ClockOf, TriplesOf, ObservationsOf}
use Rattle.sk_outcome.specs.Output.{settings_of, dated, new_kernel, published_doc, published_table}
use Rattle.sk_outcome.specs.Outcome.{requested, outcome, outcome_of, publish, all_covered}
use Rattle.sk_headline.specs.Headline.{AreHeld, AreShort, IsShort, IsLeapHeld, GivePairs, IsKernel, IsPublished, doc_with}
use Rattle.sk_publishing.specs.Told.{told}
use Rattle.sk_headline.proofs.Complete.{asked_for}
use Rattle.sk_headline.proofs.Promised.{clocked, known, kept, promised}
use Rattle.sk_headline.proofs.Documents.{spelled_valid, published_valid}
use Rattle.sk_headline.proofs.Timed.{all_timed}
use Rattle.sk_headline.proofs.NewTriples.{new_triples_seen}
use Rattle.sk_headline.proofs.Settings.{AreWithin, are_within, settings_ranges, sc_range, dated_range}

-- ---- the new kernel

module _ (options : Options) (within : AreWithin options) (leap_bytes : Option (List ℕ)) (kernel_bytes observation_bytes : List ℕ) (leap : List LeapPair) (old : KernelRead)
    (rows : List RowView) (chain : Chain) (is_old : IsKernel (sc_of options) kernel_bytes old) (are : ObservationsOf observation_bytes old.clock leap (Ok rows))
    (g : Gives (input old.triples old.clock rows (settings_of options)) chain) (covers : all_covered (new_kernel old chain) rows (Ok tt)) where
  abbrev added : List TripleView
  added = new_triples_of chain

  abbrev segments : List SegmentView
  segments = segments_of (sights rows) chain

  clock_known : IsClock old.clock
  clock_known = clocked (sc_of options) kernel_bytes observation_bytes leap old rows is_old are

  rows_known : AreRows (total old.clock) rows × All (λ row. IsId row.id) rows
  rows_known = known (sc_of options) kernel_bytes observation_bytes leap old rows is_old are

  old_kept : AreKept old.triples
  old_kept = kept (sc_of options) kernel_bytes observation_bytes leap old rows is_old are g.begins.last.0 g.old g.begins.last.1

  triples : AreTriples old.triples.total (old.triples.triples ++ added)
  triples = gives_triples old.triples old.clock rows (settings_of options) chain (settings_ranges options within) (small_clock old.clock clock_known) old_kept is_old.has_triples.1.of_clock rows_known.0 g

  abbrev doc : DocView
  doc = published_doc options old rows chain

  lines : All IsTextLine (published_table old rows chain)
  lines = text_lines old.clock (new_kernel old chain) rows (Some chain) (All-weaker (λ (row : RowView). IsId row.id) (IsLined old.clock) (λ row id. (clock_known, id)) rows rows_known.1)

  valid : IsDoc doc
  valid =
      published_valid old.doc (dated options) (sc_of options) added (published_table old rows chain) (spelled_valid kernel_bytes old.doc is_old.spelled) (dated_range options within)
      (sc_range options within) (new_numbers old.triples.total old.triples.triples added old_kept.total triples) lines

  view : chain_view (sights rows) chain ≡ told (terms_of (settings_of options) old.clock g.old) rows g.dropped segments
  view = λ i. record { first_new = g.first_new i; dropped = g.dropped_places i; segments = segments }

  seen : added ≡ new_triples segments
  seen = new_triples_seen (sights rows) chain

  same_doc : doc ≡ doc_with options old g.old rows g.dropped segments
  same_doc = λ i. appended old.doc (published_block (dated options) (sc_of options) (seen i) (table_lines (kernel_view 12 old.clock (old.triples.triples ++ seen i)) (Some (view i)) rows))

  is_published : AreShort leap_bytes kernel_bytes observation_bytes → GivePairs leap_bytes leap → IsPublished options leap_bytes kernel_bytes observation_bytes (canonical_text doc)
  is_published short is_leap =
      subst (λ (d : DocView). IsPublished options leap_bytes kernel_bytes observation_bytes (canonical_text d)) (sym same_doc)
      (promised options leap_bytes kernel_bytes observation_bytes leap old rows g.old g.dropped segments is_old are g.begins g.publication
      (subst (λ (ts : List TripleView). AreTriples old.triples.total (old.triples.triples ++ ts)) seen triples)
      (subst (λ (ts : List TripleView). AllByRecursion (λ (row : RowView). IsSome (covering (old.triples.triples ++ ts) row.tick)) rows) seen (all_timed (new_kernel old chain) rows covers.0))
      (subst IsDoc same_doc valid) short is_leap)

-- ---- the files

pub read_is : (held : Option (List ℕ)) (read bytes : List ℕ) → IfSome held (λ file. read ≡ file) → held ≡ Some bytes → read ≡ bytes
read_is held read bytes h e = subst (λ (o : Option (List ℕ)). IfSome o (λ file. read ≡ file)) e h

pairs_of : (source : Source) (name bytes : Option (List ℕ)) (pairs : List LeapPair) → leap_named source name (Ok pairs) → IsLeapHeld source.holds name bytes → GivePairs bytes pairs
pairs_of source None bytes pairs h held = let none : pairs ≡ [] = cc in subst (λ (b : Option (List ℕ)). GivePairs b pairs) (sym held) none
pairs_of source (Some name) None pairs h held = cc
pairs_of source (Some name) (Some bytes) pairs h held =
    let same : h.1.0 ≡ bytes = read_is (source.holds name) h.1.0 bytes h.1.1.1 held.0 in (
      h.0,
      subst (λ (b : List ℕ). Spells b h.0) same h.1.2,
      (h.2.1.0, refl),
      subst (λ (variables : List VariableView). LeapOf variables (Ok pairs)) h.2.1.1 h.2.2,
    )

short_leap : (source : Source) (name bytes : Option (List ℕ)) (pairs : List LeapPair) → leap_named source name (Ok pairs) → IsLeapHeld source.holds name bytes → IfSome bytes IsShort
short_leap source None bytes pairs h held = subst (λ (b : Option (List ℕ)). IfSome b IsShort) (sym held) tt
short_leap source (Some name) None pairs h held = tt
short_leap source (Some name) (Some bytes) pairs h held = subst IsShort (read_is (source.holds name) h.1.0 bytes h.1.1.1 held.0) h.1.1.0

-- the kernel of the bytes that were read
kernel_of : (source : Source) (options : Options) (bytes : List ℕ) (kernel : KernelRead) → kernel_file source options (Ok kernel) → source.holds (text_or opt.Kernel options) ≡ Some bytes
    → IsKernel (sc_of options) bytes kernel
kernel_of source options bytes kernel h held =
    let same : h.1.0 ≡ bytes = read_is (source.holds (text_or opt.Kernel options)) h.1.0 bytes h.1.1.1 held in
    let read : KernelRead = record { doc = h.0; clock = h.2.2.0; triples = h.2.2.2.0 } in
    let is : kernel ≡ read = read_back kernel read h.2.2.2.2 in
    let kernel_is : IsKernel (sc_of options) bytes read = record {
      spelled = subst (λ (b : List ℕ). Spells b h.0) same h.1.2;
      unmixed = (h.2.1.0, refl);
      has_clock = subst (λ (variables : List VariableView). ClockOf variables (sc_of options) (Ok h.2.2.0)) h.2.1.1 h.2.2.1;
      has_triples = subst (λ (variables : List VariableView). TriplesOf variables h.2.2.0 (sc_of options) (Ok h.2.2.2.0)) h.2.1.1 h.2.2.2.1;
    } in
    subst (IsKernel (sc_of options) bytes) (sym is) kernel_is
  where
    read_back : (a b : KernelRead) → ◌≡◌ {A = Result KernelRead Status} (Ok a) (Ok b) → a ≡ b
    read_back a b e = cc

opened_are : (source : Source) (options : Options) (opened : OpenedRead) → opened_read source options (Ok opened)
    → leap_file source options (Ok opened.leap) × kernel_file source options (Ok opened.kernel)
opened_are source options opened h =
    let leap : h.0 ≡ opened.leap = cc in
    let kernel : h.2.0 ≡ opened.kernel = cc in
    (subst (λ (pairs : List LeapPair). leap_file source options (Ok pairs)) leap h.1, subst (λ (k : KernelRead). kernel_file source options (Ok k)) kernel h.2.1)

-- what was read of the three files
inputs_are : (source : Source) (options : Options) (inputs : InputsRead) → inputs_read source options (Ok inputs)
    → (leap : List LeapPair) × leap_file source options (Ok leap) × kernel_file source options (Ok inputs.kernel)
    × observation_file source options (record { leap = leap; kernel = inputs.kernel }) (Ok inputs.observations)
inputs_are source options inputs h =
    let opened = opened_are source options h.0 h.1 in
    let kernel : h.0.kernel ≡ inputs.kernel = cc in
    let rows : h.2.0 ≡ inputs.observations = cc in (
      h.0.leap,
      opened.0,
      subst (λ (k : KernelRead). kernel_file source options (Ok k)) kernel opened.1,
      subst (λ (k : KernelRead). observation_file source options (record { leap = h.0.leap; kernel = k }) (Ok inputs.observations)) kernel
          (subst (λ (os : List RowView). observation_file source options h.0 (Ok os)) rows h.2.1),
    )

-- what the files of a publication mean
pub record AreMeant (options : Options) (leap_bytes : Option (List ℕ)) (kernel_bytes observation_bytes : List ℕ) (inputs : InputsRead) : Type 0 where
  pub short : AreShort leap_bytes kernel_bytes observation_bytes
  pub leap : List LeapPair
  pub is_leap : GivePairs leap_bytes leap
  pub is_old : IsKernel (sc_of options) kernel_bytes inputs.kernel
  pub are : ObservationsOf observation_bytes inputs.kernel.clock leap (Ok inputs.observations)

pub are_meant : (source : Source) (options : Options) (leap_bytes : Option (List ℕ)) (kernel_bytes observation_bytes : List ℕ) (inputs : InputsRead)
    → AreHeld source.holds options leap_bytes kernel_bytes observation_bytes → inputs_read source options (Ok inputs) → AreMeant options leap_bytes kernel_bytes observation_bytes inputs
are_meant source options leap_bytes kernel_bytes observation_bytes inputs held h =
    let read = inputs_are source options inputs h in
    let leap : List LeapPair = read.0 in
    let same : read.3.0 ≡ observation_bytes = read_is (source.holds (text_or opt.Obs options)) read.3.0 observation_bytes read.3.1.1 held.observations in
    record {
      short = record {
        leap = short_leap source (options opt.Leap) leap_bytes leap read.1 held.leap;
        kernel = subst IsShort (read_is (source.holds (text_or opt.Kernel options)) read.2.1.0 kernel_bytes read.2.1.1.1 held.kernel) read.2.1.1.0;
        observations = subst IsShort same read.3.1.0;
      };
      leap = leap;
      is_leap = pairs_of source (options opt.Leap) leap_bytes leap read.1 held.leap;
      is_old = kernel_of source options kernel_bytes inputs.kernel read.2 held.kernel;
      are = subst (λ (bytes : List ℕ). ObservationsOf bytes inputs.kernel.clock leap (Ok inputs.observations)) same read.3.2;
    }

-- ---- the run

-- the text of a publication is a published kernel
pub published_text : (source : Source) (options : Options) (leap_bytes : Option (List ℕ)) (kernel_bytes observation_bytes text : List ℕ) → AreWithin options
    → AreHeld source.holds options leap_bytes kernel_bytes observation_bytes → publish source options (Ok text) → IsPublished options leap_bytes kernel_bytes observation_bytes text
published_text source options leap_bytes kernel_bytes observation_bytes text within held h =
    let files = are_meant source options leap_bytes kernel_bytes observation_bytes h.0 held h.1 in
    let old : KernelRead = h.0.kernel in
    let rows : List RowView = h.0.observations in
    let chain : Chain = h.2.0 in
    let is : text ≡ canonical_text (published_doc options old rows chain) = text_is text (canonical_text (published_doc options old rows chain)) h.2.2.2 in
    subst (IsPublished options leap_bytes kernel_bytes observation_bytes) (sym is)
    (is_published options within leap_bytes kernel_bytes observation_bytes files.leap old rows chain files.is_old files.are h.2.1 h.2.2.1 files.short files.is_leap)
  where
    text_is : (a b : List ℕ) → ◌≡◌ {A = Result (List ℕ) Status} (Ok a) (Ok b) → a ≡ b
    text_is a b e = cc

pub headline : (words : List (List ℕ)) (request : Request) (source : Source) (out : Written) (status : Status) (leap_bytes : Option (List ℕ)) (kernel_bytes observation_bytes : List ℕ)
    → Ends (outcome words source) out status → requested (codes "station" ∷ words) (Ok request) → request.command ≡ Publish → status ≡ Done
    → AreHeld source.holds request.options leap_bytes kernel_bytes observation_bytes
    → (written : List ℕ) × Appends out.before out.after written × IsPublished request.options leap_bytes kernel_bytes observation_bytes written
headline words request source out status leap_bytes kernel_bytes observation_bytes ends asked command done held =
    let h : Ends (outcome words source) out Done = subst (λ (s : Status). Ends (outcome words source) out s) done ends in
    let text : publish source request.options (Ok h.0) =
    subst (λ (c : Command). outcome_of c source request.options (Ok h.0)) command (asked_for words request source (Ok h.0) asked h.1) in
    (h.0, h.2, published_text source request.options leap_bytes kernel_bytes observation_bytes h.0 (are_within (codes "station" ∷ words) request asked) held text)
