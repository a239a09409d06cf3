-- What the words ask for, by the matches that clap gives.
use Rattle.std.specs.Prelude.{◌≡◌, ◌⊎◌, ℕ, List, [], Some, None, Result, Ok, Err, IsTrue}
use Rattle.std.specs.List.{list_any}
use Rattle.std.specs.Str.{bytes_eq}
use Rattle.clap.specs.Words.{Row, rows_of, found_of}
use Rattle.clap.specs.declared.parser.matches.ArgMatches.{ArgMatches}
use Rattle.sk_words.specs.declared.tables.Command.{Command}
use Rattle.sk_words.specs.declared.tables.OptionName.TheVariants as opt
use Rattle.sk_words.specs.declared.fault.WordsFault.{WordsFault}
use Rattle.sk_words.specs.declared.fault.WordsFault.TheVariants.{NotTaken}
use Rattle.sk_words.specs.declared.fault.WordsStop.{WordsStop}
use Rattle.sk_words.specs.declared.fault.WordsStop.TheVariants.{Refused, NoMemory}
use Rattle.sk_words.specs.Words.{faults, matches}
use Rattle.sk_words.specs.Request.{command_of, rows_fault, Options, options_of, used, needs, name_of}

-- the rows of what the words gave
abbrev pub rows_in : ArgMatches → List Row
rows_in matches = rows_of (found_of matches)

-- the command of the words, and their rows
pub record Given : Type 0 where
  pub command : Command
  pub rows : List Row

-- the words ask for this command, and no option is refused
pub record AsksFor (rows : List Row) (command : Command) : Type 0 where
  pub none : rows_fault rows ≡ None
  pub is_command : command_of rows ≡ Some command

-- what the words ask for
pub record Request : Type 0 where
  pub command : Command
  pub options : Options

abbrev pub options_in : Given → Options
options_in g = used g.command (options_of g.rows)

abbrev pub request_of : Given → Request
request_of g = record { command = g.command; options = options_in g }

-- the command needs the number of a spacecraft
abbrev pub NeedsNumber : Command → Type 0
NeedsNumber command = IsTrue (list_any (λ name. bytes_eq (name_of name) (name_of opt.Sc)) (needs command))

-- The words: clap's refusal, the command, the options that are needed, and the ranges.
abbrev pub WordsAsk : List (List ℕ) → Result Request WordsFault → Type 0
WordsAsk words (Ok request) = (faults words ≡ []) × (rows_fault (matches words) ≡ None)
    × (command_of (matches words) ≡ Some request.command) × (request.options ≡ used request.command (options_of (matches words)))
WordsAsk words (Err fault) = ((¬ (faults words ≡ [])) × (fault ≡ NotTaken)) ⊎ ((faults words ≡ []) × (rows_fault (matches words) ≡ Some fault))

-- so the words are answered, or memory runs out
abbrev pub MayAsk : List (List ℕ) → Result Given WordsStop → Type 0
MayAsk words (Ok given) = WordsAsk words (Ok (request_of given))
MayAsk words (Err (Refused fault)) = WordsAsk words (Err fault)
MayAsk words (Err NoMemory) = Unit {0}
