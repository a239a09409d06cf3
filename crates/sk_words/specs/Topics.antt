-- Words that ask about the program itself.
use Rattle.std.specs.Prelude.{ℕ, Bool, ◌||◌, List, [], ◌∷◌, codes, find, Option, Some, None, if◌then◌else◌}
use Rattle.std.specs.Option.{option_map}
use Rattle.std.specs.Str.{bytes_eq}
use Rattle.sk_words.specs.declared.tables.Command.{Command}
use Rattle.sk_words.specs.declared.topic.Topic.{Topic}
use Rattle.sk_words.specs.declared.topic.Topic.TheVariants.{Program, Version, Of}
use Rattle.sk_words.specs.Request.{all_commands, word_of}

abbrev pub asks_for_help : List ℕ → Bool
asks_for_help word = bytes_eq word (codes "help") || (bytes_eq word (codes "--help") || bytes_eq word (codes "-h"))

abbrev pub asks_for_version : List ℕ → Bool
asks_for_version word = bytes_eq word (codes "--version") || bytes_eq word (codes "-V")

abbrev pub topic_of_word : List ℕ → Option Topic
topic_of_word word = if asks_for_help word then Some Program else if asks_for_version word then Some Version else None

-- the command of a word
abbrev pub command_by_word : List ℕ → Option Command
command_by_word word = find (λ command. bytes_eq (word_of command) word) all_commands

abbrev pub topic_of_two : List ℕ → List ℕ → Option Topic
topic_of_two word name = if bytes_eq word (codes "help") then option_map (λ command. Of command) (command_by_word name) else None

-- What the words ask about the program, the first of which stands for its name: `help`, `--help`, `-h`, `--version` or
-- `-V` alone, or `help` and a command. With any other word beside them they are words as others are.
abbrev pub topic_of : List (List ℕ) → Option Topic
topic_of (program ∷ word ∷ []) = topic_of_word word
topic_of (program ∷ word ∷ name ∷ []) = topic_of_two word name
topic_of words = None
