-- A publication of the files has all that a published kernel promises.
use Rattle.std.proofs.Common.{◌≡◌, ◌⊎◌, ℕ, ◌^◌, ◌<◌, ◌≤◌, List, [], ◌∷◌, ◌++◌, length, Option, Some, None, Ok, refl, sym, ap, subst, inl, inr, arith, length-append}
use Rattle.std.proofs.lemmas.Bool.{cases_order}
use Rattle.std.specs.Prelude.{ℤ, pos, ◌<ℤ◌, All, IsSome, flat_map}
use Rattle.std.specs.List.{AllByRecursion}
use Rattle.sk_grammar.specs.Document.{ItemView, BlockView, DocView, IsDoc}
use Rattle.sk_grammar.specs.Variables.{variables_of, items_of}
use Rattle.sk_grammar.specs.Canonical.{canonical_text}
use Rattle.sk_grammar.proofs.CanonicalLines.{canonical_spelled}
use Rattle.sk_clock.specs.Clock.{IsClock, ticks_per, total}
use Rattle.sk_publishing.specs.Row.{RowView, AreRows}
use Rattle.sk_leap.specs.declared.pair.LeapPair.{LeapPair}
use Rattle.sk_obs.specs.Observation.{IsId}
use Rattle.sk_publishing.specs.Terms.{Sight, Terms, sights, partition_at}
use Rattle.sk_line.specs.Triple.{TripleView}
use Rattle.sk_line.specs.Line.{FallsOver, covering}
use Rattle.sk_publishing.specs.Chain.{SegmentView, EachFollowed, FirstAndLater, IsMaximal, IsOldRate, IsGridRate, AreMaximal, new_triples, first_or, covered_by}
use Rattle.sk_publishing.specs.Input.{Begins}
use Rattle.sk_publishing.specs.Kept.{IsPublication}
use Rattle.sk_triples.specs.Kernel.{IsTriple, Rise, AreTriples, AreKept}
use Rattle.sk_publishing.specs.Meets.{IsWithinTolerance}
use Rattle.sk_publishing.specs.Table.{kernel_view}
use Rattle.sk_publishing.specs.Published.{triple_values}
use Rattle.sk_triples.proofs.KernelOf.{positive_count}
use Rattle.sk_line.proofs.Lists.{all_map}
use Rattle.sk_fit.specs.Causes.{input}
use Rattle.sk_words.specs.Request.{Options}
use Rattle.sk_outcome.specs.Files.{KernelRead, sc_of, ClockOf, ObservationsOf}
use Rattle.sk_outcome.specs.Output.{settings_of, dated}
use Rattle.sk_headline.specs.Headline.{AreShort, GivePairs, IsKernel, MayEnd, IsPublished, terms_for, block_with, doc_with}
use Rattle.sk_publishing.specs.Told.{HasSmallResidual}
use Rattle.sk_publishing.proofs.Order.{order_law}
use Rattle.sk_publishing.proofs.SmallSteps.{step_law}
use Rattle.sk_publishing.proofs.Barred.{barred_law}
use Rattle.sk_publishing.proofs.Marks.{marks_law}
use Rattle.sk_publishing.proofs.Residuals.{residual_law}
use Rattle.sk_headline.proofs.NewJoins.{falls_stand}
use Rattle.sk_headline.proofs.NewTimes.{kept_within, sights_rise, triples_rise}
use Rattle.sk_headline.proofs.Ranges.{AreSound, clock_ranges, triples_ranges, rows_ranges}
use Rattle.sk_headline.proofs.Reread.{reread, items_behind, old_plain}
use Rattle.sk_headline.proofs.SameClock.{same_clock, none_mixes}

-- ---- where triples begin

same_or_not : (a b : ℕ) → (a ≡ b) ⊎ (a ≡ b → ⊥)
same_or_not a b = elim (cases_order a b) [
  | inl same ↦ inl same
  | inr apart ↦ elim apart [
    | inl less ↦ inr (λ same. omega (arith, less, same))
    | inr more ↦ inr (λ same. omega (arith, more, same))
  ]
]

may_end : (allowed : ℤ → Type 0) (t : Terms) (s : SegmentView) (next : Option Sight) → IsMaximal allowed t s next → MayEnd allowed t s next
may_end allowed t s None h = tt
may_end allowed t s (Some o) h = elim (same_or_not (partition_at t o.tick) (partition_at t s.anchor.ticks)) [
  | inl same ↦ inr (h same)
  | inr other ↦ inl other
]

each_may_end : (t : Terms) (chain : List SegmentView) (next : Option Sight) → EachFollowed (IsMaximal (IsGridRate t) t) chain next → EachFollowed (MayEnd (IsGridRate t) t) chain next
each_may_end t [] next h = tt
each_may_end t (s ∷ later) next h = (may_end (IsGridRate t) t s (first_or (covered_by later) next) h.0, each_may_end t later next h.1)

all_may_end : (t : Terms) (chain : List SegmentView) (next : Option Sight) → AreMaximal t chain next → FirstAndLater (MayEnd (IsOldRate t) t) (MayEnd (IsGridRate t) t) chain next
all_may_end t [] next h = tt
all_may_end t (s ∷ later) next h = (may_end (IsOldRate t) t s (first_or (covered_by later) next) h.0, each_may_end t later next h.1)

-- ---- the files

-- what the ranges of a kernel and its observations come to
module _ (sc : ℕ) (kernel_bytes observation_bytes : List ℕ) (leap : List LeapPair) (old : KernelRead) (rows : List RowView) (is_old : IsKernel sc kernel_bytes old)
    (are : ObservationsOf observation_bytes old.clock leap (Ok rows)) where
  pub clocked : IsClock old.clock
  clocked = clock_ranges (variables_of (items_of old.doc)) sc old.clock is_old.has_clock

  sound : AreSound old.triples
  sound = triples_ranges (variables_of (items_of old.doc)) old.clock sc old.triples is_old.has_triples

  pub known : AreRows (total old.clock) rows × All (λ row. IsId row.id) rows
  known = rows_ranges observation_bytes old.clock leap rows are

  pub positive : 0 < ticks_per old.clock
  positive = omega (arith, positive_count old.clock clocked)

  pub kept : (front : List TripleView) (last : TripleView) → old.triples.triples ≡ front ++ last ∷ [] → AreKept old.triples
  kept front last ends =
      let count : old.triples.per_count ≡ ticks_per old.clock = is_old.has_triples.1.of_clock.0 in
      let all : old.triples.total ≡ total old.clock = is_old.has_triples.1.of_clock.1 in
      let few : ticks_per old.clock ≤ 2 ^ 32 = clocked.moduli.2 in
      let below : total old.clock < 2 ^ 53 = clocked.partitions.together in
      record {
        triples = record { some = omega (arith, ap length ends, length-append front (last ∷ [])); few = sound.few; each = sound.each; rise = sound.rise };
        per_count = (omega (arith, positive), omega arith);
        total = omega arith;
      }

-- ---- the new kernel

module _ (options : Options) (leap_bytes : Option (List ℕ)) (kernel_bytes observation_bytes : List ℕ) (leap : List LeapPair) (old : KernelRead)
    (rows : List RowView) (last : TripleView) (dropped : List Sight) (segments : List SegmentView) (is_old : IsKernel (sc_of options) kernel_bytes old)
    (are : ObservationsOf observation_bytes old.clock leap (Ok rows)) (begun : Begins (input old.triples old.clock rows (settings_of options)) last)
    (publication : IsPublication (terms_for options old last) (sights rows) dropped segments) (triples : AreTriples old.triples.total (old.triples.triples ++ new_triples segments))
    (timed : AllByRecursion (λ row. IsSome (covering (old.triples.triples ++ new_triples segments) row.tick)) rows) (valid : IsDoc (doc_with options old last rows dropped segments)) where
  abbrev added : List TripleView
  added = new_triples segments

  abbrev all : List TripleView
  all = old.triples.triples ++ added

  abbrev terms : Terms
  terms = terms_for options old last

  abbrev doc : DocView
  doc = doc_with options old last rows dropped segments

  abbrev block : BlockView
  block = block_with options old last rows dropped segments

  per_count : 0 < ticks_per old.clock
  per_count = positive (sc_of options) kernel_bytes observation_bytes leap old rows is_old are

  are_rows : AreRows (total old.clock) rows
  are_rows = (known (sc_of options) kernel_bytes observation_bytes leap old rows is_old are).0

  abbrev new : KernelRead
  new = record { doc = doc; clock = old.clock; triples = record { triples = all; per_count = old.triples.per_count; total = old.triples.total } }

  is_new : IsKernel (sc_of options) (canonical_text doc) new
  is_new = record {
    spelled = canonical_spelled doc valid;
    unmixed = none_mixes old.doc doc (dated options) (sc_of options) added (items_behind old.doc block) is_old.unmixed (old_plain old.doc old.clock (sc_of options) old.triples is_old.has_triples);
    has_clock = subst (λ (items : List ItemView). ClockOf (variables_of items) (sc_of options) (Ok old.clock)) (sym (items_behind old.doc block))
        (same_clock (items_of old.doc) (dated options) (sc_of options) (flat_map triple_values added) old.clock is_old.has_clock);
    has_triples = reread old.doc old.clock (sc_of options) old.triples (dated options) added block.text is_old.has_triples
        (subst (λ (m : ℕ). AreTriples m all) is_old.has_triples.1.of_clock.1 triples);
  }

  -- the old triples and those of the segments
  joined : (begun.last.0 ++ last ∷ []) ++ added ≡ all
  joined = ap (λ (ts : List TripleView). ts ++ added) (sym begun.last.1)

  near : AllByRecursion (IsWithinTolerance terms.gauge all) publication.kept
  near = subst (λ (ts : List TripleView). AllByRecursion (IsWithinTolerance terms.gauge ts) publication.kept) joined
      (kept_within terms (total old.clock) rows begun.last.0 publication.kept dropped segments per_count are_rows (subst Rise (sym joined) triples.rise) publication.sorts publication.is_chain)

  falls : (i : ℕ) → FallsOver (ticks_per old.clock) all (pos 0) i → FallsOver (ticks_per old.clock) old.triples.triples (pos 0) i
  falls i f = subst (λ (ts : List TripleView). FallsOver (ticks_per old.clock) ts (pos 0) i) (sym begun.last.1)
      (falls_stand terms begun.last.0 publication.kept None segments per_count publication.is_chain i
      (subst (λ (ts : List TripleView). FallsOver (ticks_per old.clock) ts (pos 0) i) (sym joined) f)).1

  rises : AllByRecursion (λ triple. pos 0 <ℤ triple.rate) all
  rises = all_map (IsTriple old.triples.total) (λ (t : TripleView). pos 0 <ℤ t.rate) (λ t is. is.positive) all triples.each

  pub promised : AreShort leap_bytes kernel_bytes observation_bytes → GivePairs leap_bytes leap → IsPublished options leap_bytes kernel_bytes observation_bytes (canonical_text doc)
  promised short is_leap = record {
    short = short;
    leap = leap;
    is_leap = is_leap;
    old = old;
    is_old = is_old;
    observations = rows;
    are_observations = are;
    new = new;
    is_new = is_new;
    same_clock = refl;
    is_doc = refl;
    is_text = refl;
    front = begun.last.0;
    last = last;
    is_last = begun.last.1;
    dropped = dropped;
    chain = segments;
    publication = publication;
    stand = refl;
    within = near;
    falls = falls;
    rises = rises;
    begins = all_may_end terms segments None publication.is_chain.maximal;
    begun = begun;
    timed = timed;
    ordered = λ a b over_a over_b less stands at_a at_b. order_law (ticks_per old.clock) all a b over_a over_b per_count (triples_rise all triples.rise) rises less stands at_a at_b;
    steps = step_law terms publication.kept None segments per_count publication.is_chain;
    barred = barred_law terms publication.kept None segments publication.is_chain;
    marked = marks_law terms rows dropped segments (sights_rise 0 rows are_rows.rising) publication;
    residuals = all_map (IsWithinTolerance terms.gauge all) (HasSmallResidual (kernel_view 12 old.clock all) terms.gauge)
        (λ o near. residual_law (kernel_view 12 old.clock all) terms.gauge o refl refl per_count near) publication.kept near;
  }
