-- The options and the files determine what is published.
use Rattle.std.proofs.Common.{◌≡◌, ℕ, List, [], ◌∷◌, ◌++◌, Option, Some, None, Result, Ok, sym, ap, subst, ◌∙◌}
use Rattle.sk_grammar.specs.Document.{DocView}
use Rattle.sk_grammar.specs.Canonical.{canonical_text}
use Rattle.sk_grammar.specs.Variables.{variables_of, items_of}
use Rattle.sk_clock.specs.Clock.{ClockView}
use Rattle.sk_publishing.specs.Row.{RowView}
use Rattle.sk_leap.specs.declared.pair.LeapPair.{LeapPair}
use Rattle.sk_line.specs.Triple.{TripleView}
use Rattle.sk_publishing.specs.Terms.{sights}
use Rattle.sk_triples.specs.Kernel.{TriplesView}
use Rattle.sk_publishing.specs.Kept.{IsPublication}
use Rattle.sk_publishing.proofs.Sorting.{one_publication}
use Rattle.sk_fit.specs.Given.{terms_of}
use Rattle.sk_fit.specs.Causes.{input}
use Rattle.sk_fit.proofs.OneAnswer.{one_last}
use Rattle.sk_words.specs.Request.{Options}
use Rattle.sk_outcome.specs.Files.{KernelRead, LeapOf, ClockOf, TriplesOf, ObservationsOf, sc_of}
use Rattle.sk_outcome.specs.Output.{settings_of}
use Rattle.sk_headline.specs.Headline.{GivePairs, IsKernel, IsPublished, OneText, doc_with}
use Rattle.sk_headline.proofs.OneAnswer.{doc_one, leap_one, clock_one, triples_one}
use Rattle.sk_headline.proofs.OneRecord.{observations_one}

pub ok_is : {A F : Type 0} (x y : A) → ◌≡◌ {A = Result A F} (Ok x) (Ok y) → x ≡ y
ok_is x y e = cc

pub one_pairs : (bytes : Option (List ℕ)) (x y : List LeapPair) → GivePairs bytes x → GivePairs bytes y → x ≡ y
one_pairs None x y h k = h ∙ sym k
one_pairs (Some bytes) x y h k =
    let same : h.0 ≡ k.0 = ok_is h.0 k.0 (doc_one bytes (Ok h.0) (Ok k.0) h.1 k.1) in
    ok_is x y (leap_one (variables_of (items_of k.0)) (Ok x) (Ok y) (subst (λ (doc : DocView). LeapOf (variables_of (items_of doc)) (Ok x)) same h.3) k.3)

-- the bytes of a kernel have one meaning
module _ (sc : ℕ) (bytes : List ℕ) (a b : KernelRead) (p : IsKernel sc bytes a) (q : IsKernel sc bytes b) where
  docs : a.doc ≡ b.doc
  docs = ok_is a.doc b.doc (doc_one bytes (Ok a.doc) (Ok b.doc) p.spelled q.spelled)

  same_clocks : a.clock ≡ b.clock
  same_clocks = ok_is a.clock b.clock (clock_one (variables_of (items_of b.doc)) sc (Ok a.clock) (Ok b.clock)
      (subst (λ (doc : DocView). ClockOf (variables_of (items_of doc)) sc (Ok a.clock)) docs p.has_clock) q.has_clock)

  same_triples : a.triples ≡ b.triples
  same_triples = ok_is a.triples b.triples (triples_one (variables_of (items_of b.doc)) b.clock sc (Ok a.triples) (Ok b.triples)
      (subst (λ (clock : ClockView). TriplesOf (variables_of (items_of b.doc)) clock sc (Ok a.triples)) same_clocks
      (subst (λ (doc : DocView). TriplesOf (variables_of (items_of doc)) a.clock sc (Ok a.triples)) docs p.has_triples)) q.has_triples)

  pub one_kernel : a ≡ b
  one_kernel = λ i. record { doc = docs i; clock = same_clocks i; triples = same_triples i }

module _ (options : Options) (leap_bytes : Option (List ℕ)) (kernel_bytes observation_bytes a b : List ℕ) (p : IsPublished options leap_bytes kernel_bytes observation_bytes a)
    (q : IsPublished options leap_bytes kernel_bytes observation_bytes b) where
  kernels : p.old ≡ q.old
  kernels = one_kernel (sc_of options) kernel_bytes p.old q.old p.is_old q.is_old

  clocks : p.old.clock ≡ q.old.clock
  clocks = ap (λ (k : KernelRead). k.clock) kernels

  triples : p.old.triples ≡ q.old.triples
  triples = ap (λ (k : KernelRead). k.triples) kernels

  rows : p.observations ≡ q.observations
  rows = ok_is p.observations q.observations (observations_one observation_bytes q.old.clock q.leap (Ok p.observations) (Ok q.observations)
      (subst (λ (leap : List LeapPair). ObservationsOf observation_bytes q.old.clock leap (Ok p.observations)) (one_pairs leap_bytes p.leap q.leap p.is_leap q.is_leap)
      (subst (λ (clock : ClockView). ObservationsOf observation_bytes clock p.leap (Ok p.observations)) clocks p.are_observations)) q.are_observations)

  lasts : p.last ≡ q.last
  lasts = one_last (input q.old.triples q.old.clock q.observations (settings_of options)) p.last q.last
      (p.front, subst (λ (t : TriplesView). t.triples ≡ p.front ++ p.last ∷ []) triples p.is_last) (q.front, q.is_last)

  moved : IsPublication (terms_of (settings_of options) q.old.clock q.last) (sights q.observations) p.dropped p.chain
  moved =
      subst (λ (os : List RowView). IsPublication (terms_of (settings_of options) q.old.clock q.last) (sights os) p.dropped p.chain) rows
      (subst (λ (last : TripleView). IsPublication (terms_of (settings_of options) q.old.clock last) (sights p.observations) p.dropped p.chain) lasts
      (subst (λ (clock : ClockView). IsPublication (terms_of (settings_of options) clock p.last) (sights p.observations) p.dropped p.chain) clocks p.publication))

  same : (p.dropped ≡ q.dropped) × (p.chain ≡ q.chain)
  same = one_publication (terms_of (settings_of options) q.old.clock q.last) (sights q.observations) p.dropped q.dropped p.chain q.chain moved q.publication

  written : doc_with options p.old p.last p.observations p.dropped p.chain ≡ doc_with options q.old q.last q.observations q.dropped q.chain
  written = λ i. doc_with options (kernels i) (lasts i) (rows i) (same.0 i) (same.1 i)

  texts : a ≡ b
  texts = p.is_text ∙ ap canonical_text (p.is_doc ∙ written ∙ sym q.is_doc) ∙ sym q.is_text

pub one_text : OneText
one_text options leap_bytes kernel_bytes observation_bytes a b p q = texts options leap_bytes kernel_bytes observation_bytes a b p q
