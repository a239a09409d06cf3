-- What those who use the program may rely on: laws over definitions.
use Rattle.std.specs.Prelude.{◌≡◌, ℕ, ℤ, List, [], ◌∷◌, ◌++◌, codes, Result, Ok, Some, None, Option, All, IsSome}
use Rattle.sk_grammar.specs.Document.{DocView}
use Rattle.sk_grammar.specs.Canonical.{canonical_text, ended_by_line_feeds, block_lines}
use Rattle.sk_grammar.specs.Spelling.{Spells}
use Rattle.sk_leap.specs.declared.pair.LeapPair.{LeapPair}
use Rattle.sk_leap.specs.Leap.{IsLeapTable}
use Rattle.sk_clock.specs.Clock.{clock_text}
use Rattle.sk_publishing.specs.Row.{IsObservedTime}
use Rattle.sk_publishing.specs.Chain.{new_triples}
use Rattle.sk_words.specs.declared.tables.OptionName.TheVariants as opt
use Rattle.sk_words.specs.Asked.{Request}
use Rattle.sk_words.specs.Request.{Options, text_or, files_of}
use Rattle.sk_status.specs.declared.status.Status.{Status}
use Rattle.sk_status.specs.declared.status.TimeStop.{TimeStop}
use Rattle.sk_outcome.specs.Seen.{Source}
use Rattle.sk_outcome.specs.Files.{KernelRead, OpenedRead, sc_of, kernel_file}
use Rattle.sk_outcome.specs.Time.{IsUtcWord}
use Rattle.sk_outcome.specs.Outcome.{TimeOf, convert_of, requested, outcome}
use Rattle.sk_headline.specs.Headline.{IsShort, IsKernel, IsPublished, block_with}

-- ---- one outcome

-- no reading fails, and of the last file so many bytes are read
abbrev pub quiet : (List ℕ → Option (List ℕ)) → ℕ → Source
quiet holds given = record { holds = holds; given = given; rose = λ name. ⊥ }

-- each file that the words name, in an option that their command uses, has the property
abbrev pub EachNamed : (List ℕ → Type 0) → List (List ℕ) → Type 0
EachNamed P words = (request : Request) → requested (codes "station" ∷ words) (Ok request) → All P (files_of request.options)

-- Where no reading fails and the named files are known, whatever the words are, they come to one end at most: to one text
-- or to one refusal. That they come to one is shown by each run that does not run out of memory.
abbrev pub OneOutcome : Type 0
OneOutcome = (words : List (List ℕ)) (holds : List ℕ → Option (List ℕ)) (given : ℕ) (a b : Result (List ℕ) Status)
    → EachNamed (λ name. IsSome (holds name)) words
    → outcome words (quiet holds given) a → outcome words (quiet holds given) b → a ≡ b

-- Two depots that hold the same under the names of the words come to the same end, whatever else they hold, how they cut
-- their files, and what is named by options that the command does not use.
abbrev pub NamedFilesAlone : Type 0
NamedFilesAlone = (words : List (List ℕ)) (holds other : List ℕ → Option (List ℕ)) (given more : ℕ) (a b : Result (List ℕ) Status)
    → EachNamed (λ name. IsSome (holds name) × (other name ≡ holds name)) words
    → outcome words (quiet holds given) a → outcome words (quiet other more) b → a ≡ b

-- ---- a published kernel

-- Where no reading fails and the kernel is not longer than a file may be, it is read again as what was promised of it: the
-- old clock, and the old triples and then the new ones.
abbrev pub ReadAgain : Type 0
ReadAgain = (options : Options) (leap_bytes : Option (List ℕ)) (kernel_bytes observation_bytes written : List ℕ)
    (p : IsPublished options leap_bytes kernel_bytes observation_bytes written)
    (holds : List ℕ → Option (List ℕ)) (given : ℕ) (read : Result KernelRead Status)
    → holds (text_or opt.Kernel options) ≡ Some written → IsShort written
    → kernel_file (record { holds = holds; given = given; rose = λ name. ⊥ }) options read → read ≡ Ok p.new

-- The same observations with the same options, published again over the published kernel, add no triple, where no
-- observation was dropped and no hold is given.
abbrev pub AddsNothing : Type 0
AddsNothing = (options : Options) (leap_bytes : Option (List ℕ)) (kernel_bytes observation_bytes written again : List ℕ)
    (p : IsPublished options leap_bytes kernel_bytes observation_bytes written)
    (q : IsPublished options leap_bytes written observation_bytes again)
    → options opt.Hold ≡ None → p.dropped ≡ [] → new_triples q.chain ≡ []

-- What is written is the canonical text of the old document and then the lines of one block.
abbrev pub AddsOneBlock : Type 0
AddsOneBlock = (options : Options) (leap_bytes : Option (List ℕ)) (kernel_bytes observation_bytes written : List ℕ)
    (p : IsPublished options leap_bytes kernel_bytes observation_bytes written)
    → written ≡ canonical_text p.old.doc
    ++ ended_by_line_feeds (block_lines (block_with options p.old p.last p.observations p.dropped p.chain))

-- no observations, no triple
abbrev pub NoneAddsNone : Type 0
NoneAddsNone = (options : Options) (leap_bytes : Option (List ℕ)) (kernel_bytes observation_bytes written : List ℕ)
    (p : IsPublished options leap_bytes kernel_bytes observation_bytes written)
    → p.observations ≡ [] → new_triples p.chain ≡ []

-- ---- texts of one document

-- two texts of the same document have the same publication, where a file may be as long as they are
abbrev pub SameDocument : Type 0
SameDocument = (options : Options) (leap_bytes : Option (List ℕ)) (a b observation_bytes written : List ℕ) (doc : DocView)
    → Spells a doc → Spells b doc → IsShort b
    → IsPublished options leap_bytes a observation_bytes written → IsPublished options leap_bytes b observation_bytes written

-- the canonical text of a document that is spelled spells it, and nothing else
abbrev pub CanonicalIsRead : Type 0
CanonicalIsRead = (bytes : List ℕ) (doc : DocView) → Spells bytes doc
    → Spells (canonical_text doc) doc × ((again : DocView) → Spells (canonical_text doc) again → again ≡ doc)

-- ---- a line of `convert`

-- the clock text that `convert` printed is converted to the same line, and to nothing else
abbrev pub TextIsRead : Type 0
TextIsRead = (sc : ℕ) (kernel_bytes : List ℕ) (opened : OpenedRead) (options again : Options) (line : List ℕ)
    → IsKernel sc kernel_bytes opened.kernel → IsLeapTable opened.leap
    → (c : convert_of options opened (Ok line)) → text_or opt.Clock again ≡ clock_text opened.kernel.clock c.0
    → convert_of again opened (Ok line) × ((other : Result (List ℕ) Status) → convert_of again opened other → other ≡ Ok line)

-- the UTC that `convert` printed says the time, and no other
abbrev pub UtcIsRead : Type 0
UtcIsRead = (leap : List LeapPair) (time : ℤ) (utc : List ℕ) → IsUtcWord leap time utc → ¬ (utc ≡ codes "-") → IsObservedTime time
    → TimeOf (codes "utc:" ++ utc) leap (Ok time) × ((other : Result ℤ TimeStop) → TimeOf (codes "utc:" ++ utc) leap other → other ≡ Ok time)
