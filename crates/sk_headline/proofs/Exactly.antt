-- Where no count rose, a run that asks for a publication ends with what is published, unless memory runs out.
use Rattle.std.proofs.Common.{◌≡◌, ◌⊎◌, ℕ, suc, ◌≤◌, List, [], ◌∷◌, ◌++◌, length, Option, Some, None, Result, Ok, Err, refl, sym, ap, subst, ◌∙◌, inl, inr, arith, length-append}
use Rattle.std.specs.Io.KnownBytes.{Appends}
use Rattle.std.specs.Prelude.{All, IsSome, IfSome, codes}
use Rattle.std.specs.List.{AllByRecursion}
use Rattle.sk_checks.specs.Checks.{NoneRefuses}
use Rattle.sk_checks.proofs.ChecksLemmas.{FirstRefuses-some}
use Rattle.sk_grammar.specs.Canonical.{canonical_text}
use Rattle.sk_grammar.specs.Variables.{variables_of, items_of}
use Rattle.sk_leap.specs.declared.pair.LeapPair.{LeapPair}
use Rattle.sk_clock.specs.Clock.{total}
use Rattle.sk_publishing.specs.Row.{RowView}
use Rattle.sk_line.specs.Triple.{TripleView}
use Rattle.sk_line.specs.Line.{covering}
use Rattle.sk_publishing.specs.Chain.{new_triples}
use Rattle.sk_publishing.specs.Input.{Input, AreTooMany}
use Rattle.sk_publishing.specs.Terms.{sights}
use Rattle.sk_publishing.specs.Kept.{IsPublication}
use Rattle.sk_publishing.proofs.Sorting.{one_publication}
use Rattle.sk_fit.specs.declared.chain.Chain.{Chain}
use Rattle.sk_fit.specs.Given.{segments_of, new_triples_of}
use Rattle.sk_fit.specs.Causes.{Gives, input}
use Rattle.sk_fit.proofs.OneAnswer.{published_unrefused, one_last}
use Rattle.sk_report.specs.Report.{table_checks}
use Rattle.sk_words.specs.Asked.{Request}
use Rattle.sk_words.specs.Request.{Options, text_or}
use Rattle.sk_words.specs.declared.tables.Command.{Command}
use Rattle.sk_words.specs.declared.tables.Command.TheVariants.{Publish}
use Rattle.sk_words.specs.declared.tables.OptionName.TheVariants as opt
use Rattle.sk_status.specs.declared.status.Status.{Status}
use Rattle.sk_status.specs.declared.status.Status.TheVariants.{Done, WriteFault, NoMemory}
use Rattle.sk_status.specs.Written.{Written}
use Rattle.sk_outcome.specs.Ending.{Ends}
use Rattle.sk_outcome.specs.Seen.{Source}
use Rattle.sk_outcome.specs.Files.{KernelRead, OpenedRead, InputsRead, sc_of, leap_named, kernel_file, observation_file, opened_read, inputs_read}
use Rattle.sk_outcome.specs.Output.{settings_of, new_kernel, published_doc}
use Rattle.sk_outcome.specs.Outcome.{requested, outcome, outcome_of, publish, publish_of}
use Rattle.sk_outcome.specs.Publishing.{after_chain}
use Rattle.sk_headline.specs.Headline.{AreHeld, IsShort, IsLeapHeld, GivePairs, IsKernel, IsPublished}
use Rattle.sk_headline.proofs.Commands.{IsCalm, AreKnown, inputs_determined}
use Rattle.sk_headline.proofs.Complete.{asked_for}
use Rattle.sk_headline.proofs.NewTriples.{new_triples_seen}
use Rattle.sk_headline.proofs.OneText.{one_text}
use Rattle.sk_headline.proofs.Published.{published_text}
use Rattle.sk_headline.proofs.Ranges.{AreSound, rows_ranges, triples_ranges}
use Rattle.sk_headline.proofs.Settings.{are_within}
use Rattle.sk_headline.proofs.Timed.{none_refused}

-- ---- what is read

pub known_leap : (source : Source) (name bytes : Option (List ℕ)) → IsLeapHeld source.holds name bytes → IfSome name (λ name. IsSome (source.holds name))
known_leap source None bytes held = tt
known_leap source (Some name) None held = let none = held.1 in cc
known_leap source (Some name) (Some bytes) held = let same = held.0 in cc

pub known_file : (held : Option (List ℕ)) (bytes : List ℕ) → held ≡ Some bytes → IsSome held
known_file held bytes e = subst IsSome (sym e) refl

pub read_so : (held : Option (List ℕ)) (bytes : List ℕ) → held ≡ Some bytes → IfSome held (λ file. bytes ≡ file)
read_so held bytes e = subst (λ (o : Option (List ℕ)). IfSome o (λ file. bytes ≡ file)) (sym e) refl

leap_read : (source : Source) (name bytes : Option (List ℕ)) (pairs : List LeapPair) → IsLeapHeld source.holds name bytes → IfSome bytes IsShort → GivePairs bytes pairs
    → leap_named source name (Ok pairs)
leap_read source None bytes pairs held short gives =
    ap Ok (subst (λ (b : Option (List ℕ)). GivePairs b pairs) held gives)
leap_read source (Some name) None pairs held short gives = let none = held.1 in cc
leap_read source (Some name) (Some bytes) pairs held short gives =
    (gives.0, (bytes, (short, read_so (source.holds name) bytes held.0), gives.1), (variables_of (items_of gives.0), gives.2, gives.3))

-- a kernel that a file holds is read
pub kernel_read : (source : Source) (options : Options) (bytes : List ℕ) (kernel : KernelRead) → source.holds (text_or opt.Kernel options) ≡ Some bytes → IsShort bytes
    → IsKernel (sc_of options) bytes kernel → kernel_file source options (Ok kernel)
kernel_read source options bytes kernel held short is = (
  kernel.doc,
  (bytes, (short, read_so (source.holds (text_or opt.Kernel options)) bytes held), is.spelled),
  (variables_of (items_of kernel.doc), is.unmixed, (kernel.clock, is.has_clock, (kernel.triples, is.has_triples, refl))),
)

module _ (options : Options) (source : Source) (leap_bytes : Option (List ℕ)) (kernel_bytes observation_bytes bytes : List ℕ) (held : AreHeld source.holds options leap_bytes kernel_bytes observation_bytes)
    (p : IsPublished options leap_bytes kernel_bytes observation_bytes bytes) where
  known : AreKnown source options
  known = record {
    opened = record {
      leap = known_leap source (options opt.Leap) leap_bytes held.leap;
      kernel = known_file (source.holds (text_or opt.Kernel options)) kernel_bytes held.kernel;
    };
    observations = known_file (source.holds (text_or opt.Obs options)) observation_bytes held.observations;
  }

  abbrev opened : OpenedRead
  opened = record { leap = p.leap; kernel = p.old }

  opened_is : opened_read source options (Ok opened)
  opened_is = (p.leap, leap_read source (options opt.Leap) leap_bytes p.leap held.leap p.short.leap p.is_leap, (p.old, kernel_read source options kernel_bytes p.old held.kernel p.short.kernel p.is_old, refl))

  rows_read : observation_file source options opened (Ok p.observations)
  rows_read = (observation_bytes, (p.short.observations, read_so (source.holds (text_or opt.Obs options)) observation_bytes held.observations), p.are_observations)

  abbrev inputs : InputsRead
  inputs = record { kernel = p.old; observations = p.observations }

  pub inputs_are : inputs_read source options (Ok inputs)
  inputs_are = (opened, opened_is, (p.observations, rows_read, refl))

  -- ---- what is made of it

  abbrev given : Input
  given = input p.old.triples p.old.clock p.observations (settings_of options)

  sound : AreSound p.new.triples
  sound = triples_ranges (variables_of (items_of p.new.doc)) p.new.clock (sc_of options) p.new.triples p.is_new.has_triples

  few : ¬ AreTooMany given p.chain
  few many = omega (arith, many, sound.few, ap length p.stand, length-append p.old.triples.triples (new_triples p.chain))

  added : (chain : Chain) → Gives given chain → new_triples_of chain ≡ new_triples p.chain
  added chain g =
      let last : g.old ≡ p.last = one_last given g.old p.last g.begins.last (p.front, p.is_last) in
      let moved : IsPublication (given.terms p.last) given.all g.dropped (segments_of given.all chain) =
      subst (λ (last : TripleView). IsPublication (given.terms last) given.all g.dropped (segments_of given.all chain)) last g.publication in
      new_triples_seen (sights p.observations) chain ∙ ap new_triples (one_publication (given.terms p.last) given.all g.dropped p.dropped (segments_of given.all chain) p.chain moved p.publication).1

  rows_within : (rows : List RowView) → All (λ row. row.tick ≤ total p.old.clock) rows → AllByRecursion (λ row. row.tick ≤ p.old.triples.total) rows
  rows_within [] h = tt
  rows_within (row ∷ rows) h =
      let first : row.tick ≤ total p.old.clock = h 0 row (omega arith) in
      (omega (arith, first, p.is_old.has_triples.1.of_clock.1), rows_within rows (λ k d within. h (suc k) d (omega (arith, within))))

  covers : (chain : Chain) → Gives given chain → NoneRefuses (table_checks (new_kernel p.old chain) p.observations)
  covers chain g =
      let triples : p.new.triples.triples ≡ (new_kernel p.old chain).triples = p.stand ∙ ap (λ (added : List TripleView). p.old.triples.triples ++ added) (sym (added chain g)) in
      none_refused (new_kernel p.old chain) p.observations
      (subst (λ (ts : List TripleView). AllByRecursion (λ (row : RowView). IsSome (covering ts row.tick)) p.observations) triples p.timed)
      (rows_within p.observations (rows_ranges observation_bytes p.old.clock p.leap p.observations p.are_observations).0.within)

  unrefused_after : (chain : Chain) (status : Status) → Gives given chain → ¬ after_chain options p.old p.observations chain (Err status)
  unrefused_after chain status g (inl refused) = FirstRefuses-some (table_checks (new_kernel p.old chain) p.observations) refused.0 refused.1 (covers chain g)
  unrefused_after chain status g (inr later) = let e : ◌≡◌ {A = Result (List ℕ) Status} (Err status) (Ok (canonical_text (published_doc options p.old p.observations chain))) = later.2 in cc

  unrefused_of : (status : Status) → ¬ publish_of options inputs (Err status)
  unrefused_of status (inl refused) = published_unrefused given p.observations p.last p.dropped p.chain refused.0 p.begun p.publication few refused.1
  unrefused_of status (inr later) = unrefused_after later.0 status later.1 later.2

  unrefused : (status : Status) → IsCalm source → ¬ publish source options (Err status)
  unrefused status calm (inl refused) =
      let e : ◌≡◌ {A = Result InputsRead Status} (Err status) (Ok inputs) = inputs_determined source options calm known (Err status) (Ok inputs) refused inputs_are in cc
  unrefused status calm (inr later) =
      let e : ◌≡◌ {A = Result InputsRead Status} (Ok later.0) (Ok inputs) = inputs_determined source options calm known (Ok later.0) (Ok inputs) later.1 inputs_are in
      let same : later.0 ≡ inputs = cc in
      unrefused_of status (subst (λ (i : InputsRead). publish_of options i (Err status)) same later.2)

-- ---- the run

module _ (words : List (List ℕ)) (request : Request) (source : Source) (out : Written) (leap_bytes : Option (List ℕ)) (kernel_bytes observation_bytes bytes : List ℕ)
    (asked : requested (codes "station" ∷ words) (Ok request)) (publishes : request.command ≡ Publish) (calm : IsCalm source) (quiet : ¬ out.rose)
    (held : AreHeld source.holds request.options leap_bytes kernel_bytes observation_bytes) (p : IsPublished request.options leap_bytes kernel_bytes observation_bytes bytes) where
  comes_to : (r : Result (List ℕ) Status) → outcome words source r → publish source request.options r
  comes_to r h = subst (λ (c : Command). outcome_of c source request.options r) publishes (asked_for words request source r asked h)

  refused : (status : Status) → ¬ outcome words source (Err status)
  refused status h = unrefused request.options source leap_bytes kernel_bytes observation_bytes bytes held p status calm (comes_to (Err status) h)

  same_text : (text : List ℕ) → outcome words source (Ok text) → text ≡ bytes
  same_text text h = one_text request.options leap_bytes kernel_bytes observation_bytes text bytes
      (published_text source request.options leap_bytes kernel_bytes observation_bytes text (are_within (codes "station" ∷ words) request asked) held (comes_to (Ok text) h)) p

  pub exactly : (status : Status) → Ends (outcome words source) out status → ((status ≡ Done) × Appends out.before out.after bytes) ⊎ (status ≡ NoMemory)
  exactly Done h = inl (refl, subst (Appends out.before out.after) (same_text h.0 h.1) h.2)
  exactly WriteFault h = absurd (quiet h.0)
  exactly NoMemory h = inr refl
  exactly status h = absurd (refused status h.0)
