-- Which kernels an audit accepts: those that the options and the files publish, in any layout and with any kernel ID.
use Rattle.std.specs.Prelude.{◌≡◌, ℕ, List, ◌∷◌, codes, Ok, Some, None, Option}
use Rattle.sk_grammar.specs.Document.{DocView}
use Rattle.sk_grammar.specs.Canonical.{canonical_text}
use Rattle.sk_grammar.specs.Spelling.{Spells}
use Rattle.sk_words.specs.declared.tables.Command.TheVariants.{Audit}
use Rattle.sk_words.specs.declared.tables.OptionName.{OptionName}
use Rattle.sk_words.specs.declared.tables.OptionName.TheVariants as opt
use Rattle.sk_words.specs.Asked.{Request}
use Rattle.sk_words.specs.Request.{Options, text_or}
use Rattle.sk_outcome.specs.Output.{yes_line}
use Rattle.sk_outcome.specs.Outcome.{requested, outcome}
use Rattle.sk_headline.specs.Headline.{AreHeld, IsShort, IsPublished}
use Rattle.sk_headline.specs.Uses.{quiet}

-- the options of an audit as those of the publication that it judges: with this kernel ID, or none
abbrev pub published_with : Option (List ℕ) → Options → Options
published_with id options opt.Id = id
published_with id options opt.New = None
published_with id options name = options name

-- The bytes are a text of the kernel that the options, with some kernel ID or none, publish of the files.
pub record SpellsPublished (options : Options) (leap_bytes : Option (List ℕ)) (kernel_bytes observation_bytes bytes : List ℕ) : Type 0 where
  pub short : IsShort bytes
  pub id : Option (List ℕ)
  pub written : List ℕ
  pub published : IsPublished (published_with id options) leap_bytes kernel_bytes observation_bytes written
  pub spelled : Spells bytes published.new.doc

-- the files that the options of an audit name hold these bytes
pub record AreHeldToJudge (holds : List ℕ → Option (List ℕ)) (options : Options) (leap_bytes : Option (List ℕ)) (kernel_bytes observation_bytes bytes : List ℕ) : Type 0 where
  pub inputs : AreHeld holds options leap_bytes kernel_bytes observation_bytes
  pub candidate : holds (text_or opt.New options) ≡ Some bytes

-- What an audit accepts is a text of what the same options publish of the same files.
abbrev pub AcceptedArePublished : Type 0
AcceptedArePublished = (words : List (List ℕ)) (request : Request) (holds : List ℕ → Option (List ℕ)) (given : ℕ)
    (leap_bytes : Option (List ℕ)) (kernel_bytes observation_bytes bytes text : List ℕ)
    → requested (codes "station" ∷ words) (Ok request) → request.command ≡ Audit
    → AreHeldToJudge holds request.options leap_bytes kernel_bytes observation_bytes bytes
    → outcome words (quiet holds given) (Ok text)
    → (text ≡ yes_line) × SpellsPublished request.options leap_bytes kernel_bytes observation_bytes bytes

-- And each such text is accepted.
abbrev pub PublishedAreAccepted : Type 0
PublishedAreAccepted = (words : List (List ℕ)) (request : Request) (holds : List ℕ → Option (List ℕ)) (given : ℕ)
    (leap_bytes : Option (List ℕ)) (kernel_bytes observation_bytes bytes : List ℕ)
    → requested (codes "station" ∷ words) (Ok request) → request.command ≡ Audit
    → AreHeldToJudge holds request.options leap_bytes kernel_bytes observation_bytes bytes
    → SpellsPublished request.options leap_bytes kernel_bytes observation_bytes bytes
    → outcome words (quiet holds given) (Ok yes_line)

-- What is published is such a text of itself, where the options of the audit are those of the publication.
abbrev pub WrittenIsAccepted : Type 0
WrittenIsAccepted = (options judged : Options) (leap_bytes : Option (List ℕ)) (kernel_bytes observation_bytes written : List ℕ)
    → ((name : OptionName) → options name ≡ published_with (options opt.Id) judged name)
    → IsPublished options leap_bytes kernel_bytes observation_bytes written → IsShort written
    → SpellsPublished judged leap_bytes kernel_bytes observation_bytes written

-- What is accepted is, in canonical text, what is published with its kernel ID.
abbrev pub CanonicalIsPublished : Type 0
CanonicalIsPublished = (options : Options) (leap_bytes : Option (List ℕ)) (kernel_bytes observation_bytes bytes : List ℕ) (doc : DocView)
    → (s : SpellsPublished options leap_bytes kernel_bytes observation_bytes bytes) → Spells bytes doc
    → IsPublished (published_with s.id options) leap_bytes kernel_bytes observation_bytes (canonical_text doc)
