-- What a published kernel is, in words of kernels and observations.
use Rattle.std.specs.Prelude.{◌≡◌, ◌⊎◌, ◌<◌, ◌≤◌, ℕ, ℤ, pos, ◌<ℤ◌, List, [], ◌∷◌, ◌++◌, length, Ok, Option, Some, None, IsSome, IfSome}
use Rattle.std.specs.List.{AllByRecursion}
use Rattle.sk_grammar.specs.Document.{BlockView, DocView}
use Rattle.sk_grammar.specs.Canonical.{canonical_text}
use Rattle.sk_grammar.specs.Spelling.{Spells}
use Rattle.sk_grammar.specs.Variables.{variables_of, items_of}
use Rattle.sk_clock.specs.Clock.{ticks_per}
use Rattle.sk_leap.specs.declared.pair.LeapPair.{LeapPair}
use Rattle.sk_publishing.specs.Row.{RowView}
use Rattle.sk_publishing.specs.Terms.{Sight, Terms, sights}
use Rattle.sk_line.specs.Triple.{TripleView}
use Rattle.sk_line.specs.Line.{FallsOver, IsTimeAt, covering}
use Rattle.sk_publishing.specs.Meets.{Meets}
use Rattle.sk_publishing.specs.Chain.{SegmentView, FirstAndLater, EachJoined, ForNext, IsInPartition, IsOldRate, IsGridRate, new_triples}
use Rattle.sk_publishing.specs.Kept.{IsPublication}
use Rattle.sk_publishing.specs.Meets.{IsWithinTolerance}
use Rattle.sk_publishing.specs.Table.{kernel_view, table_lines}
use Rattle.sk_publishing.specs.Published.{published_block, appended}
use Rattle.sk_publishing.specs.Told.{told, AreMarked, HasSmallResidual}
use Rattle.sk_publishing.specs.Promises.{StandBetween, IsSmallStep, IsBarredFirst, IsBarredLater}
use Rattle.sk_publishing.specs.Input.{Begins}
use Rattle.sk_fit.specs.Given.{terms_of}
use Rattle.sk_fit.specs.Causes.{input}
use Rattle.sk_words.specs.declared.tables.OptionName.TheVariants as opt
use Rattle.sk_words.specs.Request.{Options, text_or}
use Rattle.sk_outcome.specs.Files.{file_limit, KernelRead, PoolOf, LeapOf, ClockOf, TriplesOf, ObservationsOf, sc_of}
use Rattle.sk_outcome.specs.Output.{settings_of, dated}

-- ---- what the files hold

-- the bytes of the leap second kernel; none where no such kernel is named
abbrev pub IsLeapHeld : (List ℕ → Option (List ℕ)) → Option (List ℕ) → Option (List ℕ) → Type 0
IsLeapHeld holds None bytes = bytes ≡ None
IsLeapHeld holds (Some name) bytes = (holds name ≡ bytes) × IsSome bytes

-- the files that the options of a publication name hold these bytes
pub record AreHeld (holds : List ℕ → Option (List ℕ)) (options : Options) (leap_bytes : Option (List ℕ)) (kernel_bytes observation_bytes : List ℕ) : Type 0 where
  pub leap : IsLeapHeld holds (options opt.Leap) leap_bytes
  pub kernel : holds (text_or opt.Kernel options) ≡ Some kernel_bytes
  pub observations : holds (text_or opt.Obs options) ≡ Some observation_bytes

-- ---- what bytes mean

-- a file is not longer than a file may be
abbrev pub IsShort : List ℕ → Type 0
IsShort bytes = length bytes ≤ file_limit

-- the files of a publication are not longer than a file may be
pub record AreShort (leap_bytes : Option (List ℕ)) (kernel_bytes observation_bytes : List ℕ) : Type 0 where
  pub leap : IfSome leap_bytes IsShort
  pub kernel : IsShort kernel_bytes
  pub observations : IsShort observation_bytes

-- the pairs of a leap second kernel; none where there is no such kernel
abbrev pub GivePairs : Option (List ℕ) → List LeapPair → Type 0
GivePairs None pairs = pairs ≡ []
GivePairs (Some bytes) pairs = (doc : DocView) × Spells bytes doc × PoolOf doc (Ok (variables_of (items_of doc)))
    × LeapOf (variables_of (items_of doc)) (Ok pairs)

-- The bytes are a clock kernel: they spell its document, whose variables give its clock and its triples.
pub record IsKernel (sc : ℕ) (bytes : List ℕ) (kernel : KernelRead) : Type 0 where
  pub spelled : Spells bytes kernel.doc
  pub unmixed : PoolOf kernel.doc (Ok (variables_of (items_of kernel.doc)))
  pub has_clock : ClockOf (variables_of (items_of kernel.doc)) sc (Ok kernel.clock)
  pub has_triples : TriplesOf (variables_of (items_of kernel.doc)) kernel.clock sc (Ok kernel.triples)

-- ---- falls, and where triples begin

-- join i, from 1, falls
abbrev pub Falls : KernelRead → ℕ → Type 0
Falls kernel i = FallsOver (ticks_per kernel.clock) kernel.triples.triples (pos 0) i

-- The next observation is in another partition, or no allowed rate from the anchor meets the observations of the
-- segment and the next one.
abbrev pub MayEnd : (ℤ → Type 0) → Terms → SegmentView → Option Sight → Type 0
MayEnd allowed t s next = ForNext next (λ o. (¬ IsInPartition t s o)
    ⊎ ((rate : ℤ) → allowed rate → ¬ AllByRecursion (Meets t.gauge s.anchor rate) (s.covered ++ o ∷ [])))

-- ---- what is published

-- what a publication over a kernel with this last triple is to meet
abbrev pub terms_for : Options → KernelRead → TripleView → Terms
terms_for options old last = terms_of (settings_of options) old.clock last

-- the block of a publication: the kernel ID, the new triples and the table
abbrev pub block_with : Options → KernelRead → TripleView → List RowView → List Sight → List SegmentView → BlockView
block_with options old last observations dropped chain =
    published_block (dated options) (sc_of options) (new_triples chain)
    (table_lines (kernel_view 12 old.clock (old.triples.triples ++ new_triples chain))
    (Some (told (terms_for options old last) observations dropped chain)) observations)

-- the old document and then that block
abbrev pub doc_with : Options → KernelRead → TripleView → List RowView → List Sight → List SegmentView → DocView
doc_with options old last observations dropped chain = appended old.doc (block_with options old last observations dropped chain)

-- Every old triple stands, each kept new observation lies within the tolerance, time falls only at joins where the old
-- kernel fell, and a new triple begins only where the partition changes or no rate allowed from the ended anchor meets
-- its observations and the next.
pub record IsPublished (options : Options) (leap_bytes : Option (List ℕ)) (kernel_bytes observation_bytes written : List ℕ) : Type 0 where
  -- what the files mean
  pub short : AreShort leap_bytes kernel_bytes observation_bytes
  pub leap : List LeapPair
  pub is_leap : GivePairs leap_bytes leap
  pub old : KernelRead
  pub is_old : IsKernel (sc_of options) kernel_bytes old
  pub observations : List RowView
  pub are_observations : ObservationsOf observation_bytes old.clock leap (Ok observations)
  -- The old last triple, the new observations that are dropped, and the segments over those that are kept: the first
  -- is the old last triple, and each later one is a new triple.
  pub front : List TripleView
  pub last : TripleView
  pub is_last : old.triples.triples ≡ front ++ last ∷ []
  -- the hold is good, no join of the old kernel falls by more than the slip, and some rate is allowed
  pub begun : Begins (input old.triples old.clock observations (settings_of options)) last
  pub dropped : List Sight
  pub chain : List SegmentView
  pub publication : IsPublication (terms_for options old last) (sights observations) dropped chain
  -- What is written is a kernel with the same clock: in canonical text, the old document and then one block.
  pub new : KernelRead
  pub is_new : IsKernel (sc_of options) written new
  pub same_clock : new.clock ≡ old.clock
  pub is_doc : new.doc ≡ doc_with options old last observations dropped chain
  pub is_text : written ≡ canonical_text new.doc
  -- every old triple stands
  pub stand : new.triples.triples ≡ old.triples.triples ++ new_triples chain
  -- each kept new observation lies within the tolerance
  pub within : AllByRecursion (IsWithinTolerance (terms_for options old last).gauge new.triples.triples) publication.kept
  -- every observation has a time
  pub timed : AllByRecursion (λ row. IsSome (covering new.triples.triples row.tick)) observations
  -- time falls only at joins where the old kernel fell, and every rate is above 0
  pub falls : (i : ℕ) → Falls new i → Falls old i
  pub rises : AllByRecursion (λ triple. pos 0 <ℤ triple.rate) new.triples.triples
  -- a new triple begins only where the segment before it may end
  pub begins : FirstAndLater (MayEnd (IsOldRate (terms_for options old last)) (terms_for options old last))
      (MayEnd (IsGridRate (terms_for options old last)) (terms_for options old last)) chain None
  -- of two ticks with no falling join above the first and up to the second, the later one has the later time
  pub ordered : (a b : ℕ) → (over_a over_b : ℤ) → a < b → StandBetween (ticks_per new.clock) new.triples.triples a b
      → IsTimeAt (ticks_per new.clock) new.triples.triples a over_a → IsTimeAt (ticks_per new.clock) new.triples.triples b over_b → over_a <ℤ over_b
  -- where a new triple begins in the partition of the segment before, time rises by less than 10 ^ -12 s
  pub steps : EachJoined (IsSmallStep (terms_for options old last)) chain
  -- a segment that ends within its partition names the observations that exclude every allowed rate
  pub barred : FirstAndLater (IsBarredFirst (terms_for options old last)) (IsBarredLater (terms_for options old last)) chain None
  -- in the table an observation is marked `new` where it is kept, `dropped` where it is dropped, and `old` otherwise
  pub marked : AreMarked (terms_for options old last) (sights observations) publication.kept dropped (told (terms_for options old last) observations dropped chain)
  -- the residual that a `new` line shows is at most the tolerance in size
  pub residuals : AllByRecursion (HasSmallResidual (kernel_view 12 new.clock new.triples.triples) (terms_for options old last).gauge) publication.kept

-- the options and the files determine what is published
abbrev pub OneText : Type 0
OneText = (options : Options) (leap_bytes : Option (List ℕ)) (kernel_bytes observation_bytes a b : List ℕ)
    → IsPublished options leap_bytes kernel_bytes observation_bytes a → IsPublished options leap_bytes kernel_bytes observation_bytes b → a ≡ b
