-- An audit accepts exactly the texts of what its options publish of its files.
use Rattle.std.proofs.Common.{◌≡◌, ◌⊎◌, ℕ, ◌-◌, ◌<◌, List, [], ◌∷◌, ◌++◌, length, Option, Some, None, Result, Ok, Err, codes, true, false, refl, sym, ap, subst, ◌∙◌, inl, inr, arith, length-append}
use Rattle.std.specs.Io.KnownBytes.{Appends}
use Rattle.std.specs.Prelude.{IsSome, flat_map, slice_get}
use Rattle.std.specs.List.{AllByRecursion}
use Rattle.sk_checks.specs.Checks.{NoneRefuses}
use Rattle.sk_grammar.specs.declared.value.Value.{Value}
use Rattle.sk_grammar.specs.Document.{BlockView, DocView, IsDoc}
use Rattle.sk_grammar.specs.Canonical.{canonical_text}
use Rattle.sk_grammar.specs.Spelling.{Spells}
use Rattle.sk_grammar.proofs.CanonicalLines.{canonical_spelled}
use Rattle.sk_grammar.specs.Variables.{variables_of, items_of}
use Rattle.sk_line.specs.Triple.{TripleView}
use Rattle.sk_line.specs.Line.{FallsOver, covering}
use Rattle.sk_publishing.specs.Row.{RowView}
use Rattle.sk_publishing.specs.Terms.{Sight, Terms}
use Rattle.sk_publishing.specs.Chain.{SegmentView, new_triples}
use Rattle.sk_publishing.specs.Input.{HasLast, IsBadHold, IsBandEmpty, Begins, AreTooMany}
use Rattle.sk_publishing.specs.Published.{triple_values, id_items, coefficient_items, appended}
use Rattle.sk_publishing.specs.Table.{ChainView, kernel_view, table_lines}
use Rattle.sk_publishing.specs.Told.{told}
use Rattle.sk_triples.specs.Kernel.{AreTriples}
use Rattle.sk_fit.specs.Causes.{input}
use Rattle.sk_fit.proofs.NewTriples.{publication_triples}
use Rattle.sk_fit.proofs.OneAnswer.{one_last}
use Rattle.sk_fit.proofs.SmallClock.{small_clock}
use Rattle.sk_audit.specs.declared.verdict.Verdict.TheVariants.{Yes}
use Rattle.sk_audit.specs.Audit as aud
use Rattle.sk_words.specs.declared.tables.Command.{Command}
use Rattle.sk_words.specs.declared.tables.Command.TheVariants.{Audit}
use Rattle.sk_words.specs.declared.tables.OptionName.TheVariants as opt
use Rattle.sk_words.specs.declared.topic.Topic.{Topic}
use Rattle.sk_words.specs.Asked.{Request}
use Rattle.sk_words.specs.Request.{Options, text_or}
use Rattle.sk_words.proofs.Apart.{no_topic}
use Rattle.sk_status.specs.declared.status.Status.{Status}
use Rattle.sk_status.specs.declared.status.Status.TheVariants.{Done, WriteFault, NoMemory}
use Rattle.sk_status.specs.Written.{Written}
use Rattle.sk_outcome.specs.Ending.{Ends}
use Rattle.sk_outcome.specs.Seen.{Source}
use Rattle.sk_outcome.specs.Files.{KernelRead, InputsRead, AuditRead, inputs_read, candidate_document, audit_read, sc_of}
use Rattle.sk_outcome.specs.Output.{settings_of, dated, yes_line}
use Rattle.sk_outcome.specs.Outcome.{requested, commanded, told_or, outcome, outcome_of, audit, audited}
use Rattle.sk_headline.specs.Headline.{AreHeld, IsShort, IsPublished, terms_for, block_with, doc_with}
use Rattle.sk_headline.specs.Accepted.{published_with, SpellsPublished, AreHeldToJudge, AcceptedArePublished, PublishedAreAccepted, WrittenIsAccepted, CanonicalIsPublished}
use Rattle.sk_headline.specs.Uses.{quiet}
use Rattle.sk_headline.proofs.Candidates.{some_with, some_without, tick_at, all_ticks, numbers_are, in_threes, values_one, text_of, dated_back}
use Rattle.sk_headline.proofs.Commands.{IsCalm, AreKnown, audit_determined}
use Rattle.sk_headline.proofs.Complete.{asked_for}
use Rattle.sk_headline.proofs.Documents.{spelled_valid}
use Rattle.sk_headline.proofs.Exactly.{known_leap, known_file, read_so, inputs_are}
use Rattle.sk_headline.proofs.OneAnswer.{doc_one}
use Rattle.sk_headline.proofs.OneText.{ok_is}
use Rattle.sk_headline.proofs.OneVerdict.{block_one, chain_one}
use Rattle.sk_headline.proofs.Promised.{clocked, known, kept, promised}
use Rattle.sk_headline.proofs.Published.{read_is, AreMeant, are_meant}
use Rattle.sk_headline.proofs.Ranges.{AreSound, triples_ranges}
use Rattle.sk_headline.proofs.Settings.{AreWithin, are_within, settings_ranges}

-- ---- what is accepted is published

candidate_is : (source : Source) (options : Options) (read : AuditRead) → audit_read source options (Ok read)
    → inputs_read source options (Ok read.inputs) × candidate_document source options (Ok read.candidate)
candidate_is source options read h =
    let inputs : h.0 ≡ read.inputs = cc in
    let candidate : h.2.0 ≡ read.candidate = cc in
    (subst (λ (i : InputsRead). inputs_read source options (Ok i)) inputs h.1, subst (λ (d : DocView). candidate_document source options (Ok d)) candidate h.2.1)

some_known : (o : Option (ℕ × TripleView)) → (o ≡ None → ⊥) → IsSome o
some_known None h = absurd (h refl)
some_known (Some found) h = refl

module _ (options : Options) (within : AreWithin options) (leap_bytes : Option (List ℕ)) (kernel_bytes observation_bytes bytes : List ℕ) (read : AuditRead)
    (files : AreMeant options leap_bytes kernel_bytes observation_bytes read.inputs) (short : IsShort bytes) (spelled : Spells bytes read.candidate) (decides : aud.Decides (audited options read) Yes) where
  abbrev a : aud.Audit
  a = audited options read

  abbrev old : KernelRead
  old = read.inputs.kernel

  abbrev rows : List RowView
  rows = read.inputs.observations

  abbrev block : BlockView
  block = decides.1.0

  abbrev chain : ChainView
  chain = decides.1.1

  holds : aud.HasPublication a block chain
  holds = decides.1.2

  abbrev id : Option (List ℕ)
  id = text_of holds.items.date

  abbrev with_it : Options
  with_it = published_with id options

  abbrev last : TripleView
  last = holds.publication.last

  abbrev segments : List SegmentView
  segments = chain.segments

  abbrev dropped : List Sight
  dropped = holds.publication.dropped

  begins : Begins (input old.triples old.clock rows (settings_of options)) last
  begins = record {
    last = holds.publication.is_last;
    hold = λ bad. decides.0.0 (last, holds.publication.is_last, inl bad);
    falls = λ i falls. decides.0.0 (last, holds.publication.is_last, inr (inl (i, falls)));
    band = λ none. decides.0.0 (last, holds.publication.is_last, inr (inr (inl none)));
  }

  early : AllByRecursion (λ row. IsSome (covering old.triples.triples row.tick)) rows
  early = all_ticks (λ tick. IsSome (covering old.triples.triples tick)) 0 rows
      (λ n o at. some_known (covering old.triples.triples o.tick) (λ none. decides.0.0 (last, holds.publication.is_last, inr (inr (inr (o, n, at, none))))))

  all_with : (rows : List RowView) → AllByRecursion (λ row. IsSome (covering old.triples.triples row.tick)) rows
      → AllByRecursion (λ row. IsSome (covering (old.triples.triples ++ new_triples segments) row.tick)) rows
  all_with [] h = tt
  all_with (row ∷ rows) h = (some_with old.triples.triples (new_triples segments) row.tick h.0, all_with rows h.1)

  triples : AreTriples old.triples.total (old.triples.triples ++ new_triples segments)
  triples = publication_triples old.triples old.clock rows (settings_of options) last dropped segments (settings_ranges options within)
      (small_clock old.clock (clocked (sc_of options) kernel_bytes observation_bytes files.leap old rows files.is_old files.are))
      (kept (sc_of options) kernel_bytes observation_bytes files.leap old rows files.is_old files.are holds.publication.is_last.0 last holds.publication.is_last.1)
      files.is_old.has_triples.1.of_clock (known (sc_of options) kernel_bytes observation_bytes files.leap old rows files.is_old files.are).0
      holds.publication.is_last holds.publication.publication holds.publication.few

  valid : IsDoc (appended old.doc block)
  valid = subst IsDoc holds.stands (spelled_valid bytes read.candidate spelled)

  dates : dated with_it ≡ holds.items.date
  dates = dated_back (sc_of options) old.doc block holds.items.date holds.values valid holds.items.items

  abbrev t : Terms
  t = terms_for options old last

  view : chain ≡ told t rows dropped segments
  view = λ i. record { first_new = holds.publication.first_new i; dropped = holds.publication.dropped_places i; segments = segments }

  items : block.items ≡ (block_with with_it old last rows dropped segments).items
  items = holds.items.items ∙ ap (λ (date : Option (List ℕ)). id_items date ++ coefficient_items (sc_of options) holds.values) (sym dates)
      ∙ ap (λ (values : List Value). id_items (dated with_it) ++ coefficient_items (sc_of options) values) holds.publication.values_are

  lines : block.text ≡ (block_with with_it old last rows dropped segments).text
  lines = decides.1.3 ∙ ap (λ (c : ChainView). table_lines (kernel_view 12 old.clock (old.triples.triples ++ new_triples segments)) (Some c) rows) view

  same_doc : read.candidate ≡ doc_with with_it old last rows dropped segments
  same_doc = holds.stands ∙ (λ i. appended old.doc (record { items = items i; text = lines i }))

  doc_valid : IsDoc (doc_with with_it old last rows dropped segments)
  doc_valid = subst IsDoc same_doc (spelled_valid bytes read.candidate spelled)

  published : IsPublished with_it leap_bytes kernel_bytes observation_bytes (canonical_text (doc_with with_it old last rows dropped segments))
  published = promised with_it leap_bytes kernel_bytes observation_bytes files.leap old rows last dropped segments files.is_old files.are begins holds.publication.publication
      triples (all_with rows early) doc_valid files.short files.is_leap

  pub spells_published : SpellsPublished options leap_bytes kernel_bytes observation_bytes bytes
  spells_published =
      let doc : DocView = doc_with with_it old last rows dropped segments in
      let same : doc ≡ published.new.doc =
      ok_is doc published.new.doc (doc_one (canonical_text doc) (Ok doc) (Ok published.new.doc) (canonical_spelled doc doc_valid) published.is_new.spelled) in
      record {
        short = short;
        id = id;
        written = canonical_text doc;
        published = published;
        spelled = subst (Spells bytes) (same_doc ∙ same) spelled;
      }

pub accepted : (source : Source) (options : Options) (leap_bytes : Option (List ℕ)) (kernel_bytes observation_bytes bytes text : List ℕ) → AreWithin options
    → AreHeldToJudge source.holds options leap_bytes kernel_bytes observation_bytes bytes → audit source options (Ok text)
    → (text ≡ yes_line) × SpellsPublished options leap_bytes kernel_bytes observation_bytes bytes
accepted source options leap_bytes kernel_bytes observation_bytes bytes text within held h =
    let read = candidate_is source options h.0 h.1 in
    let same : read.1.0 ≡ bytes = read_is (source.holds (text_or opt.New options)) read.1.0 bytes read.1.1.1 held.candidate in
    let is : text ≡ yes_line = cc in (
      is,
      spells_published options within leap_bytes kernel_bytes observation_bytes bytes h.0 (are_meant source options leap_bytes kernel_bytes observation_bytes h.0.inputs held.inputs read.0)
          (subst IsShort same read.1.1.0) (subst (λ (b : List ℕ). Spells b h.0.candidate) same read.1.2) h.2.1,
    )

-- ---- what is published is accepted

module _ (options : Options) (leap_bytes : Option (List ℕ)) (kernel_bytes observation_bytes bytes : List ℕ) (s : SpellsPublished options leap_bytes kernel_bytes observation_bytes bytes) where
  abbrev p : IsPublished (published_with s.id options) leap_bytes kernel_bytes observation_bytes s.written
  p = s.published

  abbrev judged : AuditRead
  judged = record { inputs = record { kernel = p.old; observations = p.observations }; candidate = p.new.doc }

  abbrev b : aud.Audit
  b = audited options judged

  abbrev shown : BlockView
  shown = block_with (published_with s.id options) p.old p.last p.observations p.dropped p.chain

  abbrev chain_shown : ChainView
  chain_shown = told (terms_for options p.old p.last) p.observations p.dropped p.chain

  abbrev values : List Value
  values = flat_map triple_values (new_triples p.chain)

  ends : HasLast b.input p.last
  ends = (p.front, p.is_last)

  stands : aud.Stands b shown
  stands = p.is_doc

  has_items : aud.HasItems b shown values
  has_items = record { date = dated (published_with s.id options); items = refl; numbers = numbers_are (new_triples p.chain); triples = in_threes (new_triples p.chain) }

  sound : AreSound p.new.triples
  sound = triples_ranges (variables_of (items_of p.new.doc)) p.new.clock (sc_of options) p.new.triples p.is_new.has_triples

  few : ¬ AreTooMany b.input p.chain
  few many = omega (arith, many, sound.few, ap length p.stand, length-append p.old.triples.triples (new_triples p.chain))

  has_chain : aud.HasChain b values chain_shown
  has_chain = record {
    last = p.last;
    is_last = ends;
    dropped = p.dropped;
    publication = p.publication;
    dropped_places = refl;
    first_new = refl;
    values_are = refl;
    few = few;
  }

  has_publication : aud.HasPublication b shown chain_shown
  has_publication = record { values = values; stands = stands; items = has_items; publication = has_chain }

  some_old : 0 < length p.old.triples.triples
  some_old = omega (arith, ap length p.is_last, length-append p.front (p.last ∷ []))

  not_early : (o : Sight) (n : ℕ) → slice_get b.input.all n ≡ Some o → covering p.old.triples.triples o.tick ≡ None → ⊥
  not_early o n at none =
      let new : IsSome (covering p.new.triples.triples o.tick) = tick_at (λ tick. IsSome (covering p.new.triples.triples tick)) 0 p.observations n o p.timed at in
      let all : IsSome (covering (p.old.triples.triples ++ new_triples p.chain) o.tick) = subst (λ (ts : List TripleView). IsSome (covering ts o.tick)) p.stand new in
      let old : IsSome (covering p.old.triples.triples o.tick) = some_without p.old.triples.triples (new_triples p.chain) o.tick some_old all in
      no_none (covering p.old.triples.triples o.tick) none old
    where
      no_none : (o : Option (ℕ × TripleView)) → o ≡ None → IsSome o → ⊥
      no_none o e some = let none : false ≡ true = subst IsSome e some in cc

  abbrev IsBadAt : TripleView → Type 0
  IsBadAt last = IsBadHold b.input last
      ⊎ (((i : ℕ) × FallsOver (b.input.terms last).gauge.per_count b.input.triples b.input.slip i)
      ⊎ (IsBandEmpty b.input last ⊎ ((o : Sight) × (n : ℕ) × (slice_get b.input.all n ≡ Some o) × (covering b.input.triples o.tick ≡ None))))

  good : IsBadAt p.last → ⊥
  good (inl bad) = p.begun.hold bad
  good (inr (inl falls)) = p.begun.falls falls.0 falls.1
  good (inr (inr (inl none))) = p.begun.band none
  good (inr (inr (inr early))) = not_early early.0 early.1 early.2 early.3

  settings_good : aud.HasBadSettings b → ⊥
  settings_good h = good (subst IsBadAt (one_last b.input h.0 p.last h.1 ends) h.2)

  abbrev OtherItems : Type 0
  OtherItems = (block : BlockView) × aud.Stands b block × ((values : List Value) → ¬ aud.HasItems b block values)

  items_good : OtherItems → ⊥
  items_good h = h.2 values (subst (λ (block : BlockView). aud.HasItems b block values) (block_one b shown h.0 stands h.1) has_items)

  abbrev OtherChain : Type 0
  OtherChain = (block : BlockView) × (values : List Value) × aud.Stands b block × aud.HasItems b block values × ((chain : ChainView) → ¬ aud.HasChain b values chain)

  chain_good : OtherChain → ⊥
  chain_good h =
      let block : h.0 ≡ shown = block_one b h.0 shown h.2 stands in
      let read : id_items h.3.date ++ coefficient_items (sc_of options) h.1 ≡ id_items (dated (published_with s.id options)) ++ coefficient_items (sc_of options) values =
      sym h.3.items ∙ ap (λ (shown : BlockView). shown.items) block in
      h.4 chain_shown (subst (λ (vs : List Value). aud.HasChain b vs chain_shown) (sym (values_one (sc_of options) h.3.date (dated (published_with s.id options)) h.1 values read)) has_chain)

  abbrev OtherLine : ℕ → Type 0
  OtherLine line = (block : BlockView) × (chain : ChainView) × aud.HasPublication b block chain × aud.IsFirstDifference block.text (aud.table_of b chain) line

  lines_good : (line : ℕ) → OtherLine line → ⊥
  lines_good line h =
      let block : h.0 ≡ shown = block_one b h.0 shown h.2.stands stands in
      let chain : chain_shown ≡ h.1 = chain_one b values h.2.values chain_shown h.1 has_chain h.2.publication in
      let lines : h.0.text ≡ aud.table_of b h.1 = ap (λ (shown : BlockView). shown.text) block ∙ ap (λ (c : ChainView). aud.table_of b c) chain in
      h.3.differs (ap (λ (xs : List (List ℕ)). slice_get xs (line - 1)) lines)

  none_refuses : NoneRefuses (aud.audit_checks b)
  none_refuses = (settings_good, ((λ none. none shown stands), (items_good, (chain_good, (lines_good, tt)))))

  decides_yes : aud.Decides b Yes
  decides_yes = (none_refuses, (shown, chain_shown, has_publication, refl))

  module _ (source : Source) (held : AreHeldToJudge source.holds options leap_bytes kernel_bytes observation_bytes bytes) where
    held_again : AreHeld source.holds (published_with s.id options) leap_bytes kernel_bytes observation_bytes
    held_again = record { leap = held.inputs.leap; kernel = held.inputs.kernel; observations = held.inputs.observations }

    inputs_read_so : inputs_read source options (Ok judged.inputs)
    inputs_read_so = inputs_are (published_with s.id options) source leap_bytes kernel_bytes observation_bytes s.written held_again p

    judged_read : audit_read source options (Ok judged)
    judged_read = (judged.inputs, inputs_read_so, (p.new.doc, (bytes, (s.short, read_so (source.holds (text_or opt.New options)) bytes held.candidate), s.spelled), refl))

    pub accepts : audit source options (Ok yes_line)
    accepts = (judged, judged_read, (tt, decides_yes, refl))

-- ---- the laws

-- what the command comes to the words come to
outcome_for : (words : List (List ℕ)) (request : Request) (source : Source) (text : List ℕ) → requested (codes "station" ∷ words) (Ok request)
    → outcome_of request.command source request.options (Ok text) → outcome words source (Ok text)
outcome_for words request source text asked h =
    subst (λ (topic : Option Topic). told_or topic (commanded (codes "station" ∷ words) source) (Ok text)) (sym (no_topic (codes "station" ∷ words) request asked)) (request, asked, h)

module _ (words : List (List ℕ)) (request : Request) (source : Source) (asked : requested (codes "station" ∷ words) (Ok request)) (audits : request.command ≡ Audit) where
  comes_to : (r : Result (List ℕ) Status) → outcome words source r → audit source request.options r
  comes_to r h = subst (λ (c : Command). outcome_of c source request.options r) audits (asked_for words request source r asked h)

  module _ (leap_bytes : Option (List ℕ)) (kernel_bytes observation_bytes bytes : List ℕ) (held : AreHeldToJudge source.holds request.options leap_bytes kernel_bytes observation_bytes bytes) where
    pub yes_published : (text : List ℕ) → outcome words source (Ok text) → (text ≡ yes_line) × SpellsPublished request.options leap_bytes kernel_bytes observation_bytes bytes
    yes_published text h = accepted source request.options leap_bytes kernel_bytes observation_bytes bytes text (are_within (codes "station" ∷ words) request asked) held (comes_to (Ok text) h)

    pub published_yes : SpellsPublished request.options leap_bytes kernel_bytes observation_bytes bytes → outcome words source (Ok yes_line)
    published_yes s =
        outcome_for words request source yes_line asked
        (subst (λ (c : Command). outcome_of c source request.options (Ok yes_line)) (sym audits) (accepts request.options leap_bytes kernel_bytes observation_bytes bytes s source held))

    all_known : AreKnown source request.options
    all_known = record {
      opened = record {
        leap = known_leap source (request.options opt.Leap) leap_bytes held.inputs.leap;
        kernel = known_file (source.holds (text_or opt.Kernel request.options)) kernel_bytes held.inputs.kernel;
      };
      observations = known_file (source.holds (text_or opt.Obs request.options)) observation_bytes held.inputs.observations;
    }

    refused : IsCalm source → SpellsPublished request.options leap_bytes kernel_bytes observation_bytes bytes → (status : Status) → ¬ outcome words source (Err status)
    refused calm s status h =
        let e : ◌≡◌ {A = Result (List ℕ) Status} (Err status) (Ok yes_line) =
        audit_determined source request.options calm all_known (known_file (source.holds (text_or opt.New request.options)) bytes held.candidate) (Err status) (Ok yes_line)
        (comes_to (Err status) h) (accepts request.options leap_bytes kernel_bytes observation_bytes bytes s source held) in cc

    -- a run that ended with status 0
    pub audit_done : (out : Written) (status : Status) → Ends (outcome words source) out status → status ≡ Done
        → Appends out.before out.after yes_line × SpellsPublished request.options leap_bytes kernel_bytes observation_bytes bytes
    audit_done out status ends done =
        let h : Ends (outcome words source) out Done = subst (λ (s : Status). Ends (outcome words source) out s) done ends in
        let yes = yes_published h.0 h.1 in
        (subst (Appends out.before out.after) yes.0 h.2, yes.1)

    -- and a run of which no count rose
    pub audit_ends : (out : Written) → IsCalm source → (¬ out.rose) → SpellsPublished request.options leap_bytes kernel_bytes observation_bytes bytes
        → (status : Status) → Ends (outcome words source) out status → ((status ≡ Done) × Appends out.before out.after yes_line) ⊎ (status ≡ NoMemory)
    audit_ends out calm quiet_out s Done h = inl (refl, (audit_done out Done h refl).0)
    audit_ends out calm quiet_out s WriteFault h = absurd (quiet_out h.0)
    audit_ends out calm quiet_out s NoMemory h = inr refl
    audit_ends out calm quiet_out s status h = absurd (refused calm s status h.0)

pub accepted_are_published : AcceptedArePublished
accepted_are_published = λ words request holds given leap_bytes kernel_bytes observation_bytes bytes text asked audits held h.
    yes_published words request (quiet holds given) asked audits leap_bytes kernel_bytes observation_bytes bytes held text h

pub published_are_accepted : PublishedAreAccepted
published_are_accepted = λ words request holds given leap_bytes kernel_bytes observation_bytes bytes asked audits held s.
    published_yes words request (quiet holds given) asked audits leap_bytes kernel_bytes observation_bytes bytes held s

pub written_is_accepted : WrittenIsAccepted
written_is_accepted options judged leap_bytes kernel_bytes observation_bytes written alike p short = again (λ i name. alike name i) p
  where
    again : options ≡ published_with (options opt.Id) judged → IsPublished options leap_bytes kernel_bytes observation_bytes written → SpellsPublished judged leap_bytes kernel_bytes observation_bytes written
    again same p =
        let q : IsPublished (published_with (options opt.Id) judged) leap_bytes kernel_bytes observation_bytes written =
        subst (λ (o : Options). IsPublished o leap_bytes kernel_bytes observation_bytes written) same p in
        record { short = short; id = options opt.Id; written = written; published = q; spelled = q.is_new.spelled }

pub canonical_is_published : CanonicalIsPublished
canonical_is_published options leap_bytes kernel_bytes observation_bytes bytes doc s spelled =
    let same : s.published.new.doc ≡ doc = ok_is s.published.new.doc doc (doc_one bytes (Ok s.published.new.doc) (Ok doc) s.spelled spelled) in
    subst (IsPublished (published_with s.id options) leap_bytes kernel_bytes observation_bytes) (s.published.is_text ∙ ap canonical_text same) s.published
