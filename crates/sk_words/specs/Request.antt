-- What the words ask for.
use Rattle.std.specs.Prelude.{◌≡◌, ℕ, Bool, true, false, ◌&&◌, ◌||◌, not, nat_le, ◌==◌, List, [], ◌∷◌, ◌++◌, length, codes, find, Option, Some, None, is_none, option_and_then, unwrap_or, if◌then◌else◌}
use Rattle.std.specs.List.{list_all, list_any, slice_split}
use Rattle.std.specs.Option.{option_map, option_map_or, option_to_list}
use Rattle.std.specs.Char.{is_ascii_digit}
use Rattle.std.specs.Str.{bytes_eq}
use Rattle.std.specs.Str.Parse.{digits_value}
use Rattle.clap.specs.Words.{Row}
use Rattle.sk_words.specs.KernelId.{is_calendar_time}
use Rattle.sk_words.specs.Words.{option_text, command_text}
use Rattle.sk_words.specs.declared.tables.Command.{Command}
use Rattle.sk_words.specs.declared.tables.Command.TheVariants.{Publish, Residuals, Normal, Convert, Sample, Invert, Audit, Excerpt, Least, Plot}
use Rattle.sk_words.specs.declared.tables.OptionName.{OptionName}
use Rattle.sk_words.specs.declared.tables.OptionName.TheVariants as opt
use Rattle.sk_words.specs.declared.limits.Numbers.{Numbers}
use Rattle.sk_words.specs.declared.fault.WordsFault.{WordsFault}
use Rattle.sk_words.specs.declared.fault.WordsFault.TheVariants.{UnknownCommand, NeedOption, OutOfRange}

-- ---- the tables

abbrev pub name_of : OptionName → List ℕ
name_of opt.Leap = codes "leap"
name_of opt.Kernel = codes "kernel"
name_of opt.Obs = codes "obs"
name_of opt.Sc = codes "sc"
name_of opt.TolNs = codes "tol-ns"
name_of opt.RateDecimals = codes "rate-decimals"
name_of opt.BandPpm = codes "band-ppm"
name_of opt.SlipNs = codes "slip-ns"
name_of opt.Hold = codes "hold"
name_of opt.Id = codes "id"
name_of opt.Clock = codes "clock"
name_of opt.Seed = codes "seed"
name_of opt.Count = codes "count"
name_of opt.Reject = codes "reject"
name_of opt.Time = codes "time"
name_of opt.New = codes "new"
name_of opt.Over = codes "over"
name_of opt.From = codes "from"
name_of opt.To = codes "to"

-- the option table, in order
abbrev pub all_options : List OptionName
all_options = opt.Leap ∷ opt.Kernel ∷ opt.Obs ∷ opt.Sc ∷ opt.TolNs ∷ opt.RateDecimals ∷ opt.BandPpm ∷ opt.SlipNs ∷ opt.Hold
    ∷ opt.Id ∷ opt.Clock ∷ opt.Seed ∷ opt.Count ∷ opt.Reject ∷ opt.Time ∷ opt.New ∷ opt.Over ∷ opt.From ∷ opt.To ∷ []

abbrev pub word_of : Command → List ℕ
word_of Publish = codes "publish"
word_of Residuals = codes "residuals"
word_of Normal = codes "normal"
word_of Convert = codes "convert"
word_of Sample = codes "sample"
word_of Invert = codes "invert"
word_of Audit = codes "audit"
word_of Excerpt = codes "excerpt"
word_of Least = codes "least"
word_of Plot = codes "plot"

abbrev pub all_commands : List Command
all_commands = Publish ∷ Residuals ∷ Normal ∷ Convert ∷ Sample ∷ Invert ∷ Audit ∷ Excerpt ∷ Least ∷ Plot ∷ []

-- the options that a command needs, in the order of the option table
abbrev pub needs : Command → List OptionName
needs Publish = opt.Kernel ∷ opt.Obs ∷ opt.Sc ∷ []
needs Residuals = opt.Kernel ∷ opt.Obs ∷ opt.Sc ∷ []
needs Normal = opt.Kernel ∷ []
needs Convert = opt.Kernel ∷ opt.Sc ∷ opt.Clock ∷ []
needs Sample = opt.Seed ∷ opt.Count ∷ []
needs Invert = opt.Kernel ∷ opt.Sc ∷ opt.Time ∷ []
needs Audit = opt.Kernel ∷ opt.Obs ∷ opt.Sc ∷ opt.New ∷ []
needs Excerpt = opt.Kernel ∷ opt.Sc ∷ opt.From ∷ opt.To ∷ []
needs Least = opt.Kernel ∷ opt.Obs ∷ opt.Sc ∷ []
needs Plot = opt.Kernel ∷ opt.Obs ∷ opt.Sc ∷ []

-- the options that a command uses; others that are given are checked for their range alone
abbrev pub uses : Command → List OptionName
uses Publish = opt.Leap ∷ opt.Kernel ∷ opt.Obs ∷ opt.Sc ∷ opt.TolNs ∷ opt.RateDecimals ∷ opt.BandPpm ∷ opt.SlipNs ∷ opt.Hold ∷ opt.Id ∷ opt.Reject ∷ []
uses Residuals = opt.Leap ∷ opt.Kernel ∷ opt.Obs ∷ opt.Sc ∷ []
uses Normal = opt.Kernel ∷ []
uses Convert = opt.Leap ∷ opt.Kernel ∷ opt.Sc ∷ opt.Clock ∷ []
uses Sample = opt.TolNs ∷ opt.RateDecimals ∷ opt.BandPpm ∷ opt.Seed ∷ opt.Count ∷ []
uses Invert = opt.Leap ∷ opt.Kernel ∷ opt.Sc ∷ opt.Time ∷ []
uses Audit = opt.Leap ∷ opt.Kernel ∷ opt.Obs ∷ opt.Sc ∷ opt.TolNs ∷ opt.RateDecimals ∷ opt.BandPpm ∷ opt.SlipNs ∷ opt.Hold ∷ opt.Reject ∷ opt.New ∷ []
uses Excerpt = opt.Kernel ∷ opt.Sc ∷ opt.Over ∷ opt.From ∷ opt.To ∷ []
uses Least = opt.Leap ∷ opt.Kernel ∷ opt.Obs ∷ opt.Sc ∷ opt.TolNs ∷ []
uses Plot = opt.Leap ∷ opt.Kernel ∷ opt.Obs ∷ opt.Sc ∷ opt.TolNs ∷ opt.New ∷ []

-- ---- ranges

-- 1 to 16 digits
abbrev pub is_number : List ℕ → Bool
is_number text = nat_le 1 (length text) && (nat_le (length text) 16 && list_all is_ascii_digit text)

-- the number that the text writes
abbrev pub number_of : List ℕ → Option ℕ
number_of text = if is_number text then Some (digits_value 10 text) else None

abbrev pub is_number_in : ℕ → ℕ → List ℕ → Bool
is_number_in low high text = is_number text && (nat_le low (digits_value 10 text) && nat_le (digits_value 10 text) high)

abbrev pub is_file_name : List ℕ → Bool
is_file_name text = nat_le 1 (length text)

-- the names between commas
abbrev pub over_names : List ℕ → List (List ℕ)
over_names text = slice_split (λ byte. byte == 44) text

-- The one table of numbers: the least that an option takes, the greatest, and what holds where it is not given.
abbrev between : ℕ → ℕ → Option ℕ → Option Numbers
between least greatest default = Some (record { least = least; greatest = greatest; default = default })

abbrev pub numbers_of : OptionName → Option Numbers
numbers_of opt.Sc = between 1 999999999 None
numbers_of opt.TolNs = between 1 60000000000 (Some 1000000)
numbers_of opt.RateDecimals = between 1 15 (Some 12)
numbers_of opt.BandPpm = between 1 100000 (Some 1000)
numbers_of opt.SlipNs = between 0 60000000000 (Some 1000000)
numbers_of opt.Hold = between 0 9007199254740991 None
numbers_of opt.Seed = between 0 4294967295 None
numbers_of opt.Count = between 1 100000 None
numbers_of opt.Reject = between 0 100000 (Some 0)
numbers_of opt.From = between 0 9007199254740991 None
numbers_of opt.To = between 0 9007199254740991 None
numbers_of opt.Leap = None
numbers_of opt.Kernel = None
numbers_of opt.Obs = None
numbers_of opt.Id = None
numbers_of opt.Clock = None
numbers_of opt.Time = None
numbers_of opt.New = None
numbers_of opt.Over = None

-- what holds where an option is not given; nothing, 0
abbrev pub default_of : OptionName → ℕ
default_of name = unwrap_or (option_and_then (λ numbers. numbers.default) (numbers_of name)) 0

abbrev pub is_numbered : OptionName → List ℕ → Bool
is_numbered name text = option_map_or (λ numbers. is_number_in numbers.least numbers.greatest text) (numbers_of name) false

abbrev pub is_in_range : OptionName → List ℕ → Bool
is_in_range opt.Leap text = is_file_name text
is_in_range opt.Kernel text = is_file_name text
is_in_range opt.Obs text = is_file_name text
is_in_range opt.Sc text = is_numbered opt.Sc text
is_in_range opt.TolNs text = is_numbered opt.TolNs text
is_in_range opt.RateDecimals text = is_numbered opt.RateDecimals text
is_in_range opt.BandPpm text = is_numbered opt.BandPpm text
is_in_range opt.SlipNs text = is_numbered opt.SlipNs text
is_in_range opt.Hold text = is_numbered opt.Hold text
is_in_range opt.Id text = is_calendar_time text
is_in_range opt.Clock text = true
is_in_range opt.Seed text = is_numbered opt.Seed text
is_in_range opt.Count text = is_numbered opt.Count text
is_in_range opt.Reject text = is_numbered opt.Reject text
is_in_range opt.Time text = true
is_in_range opt.New text = is_file_name text
is_in_range opt.Over text = list_all is_file_name (over_names text) && nat_le (length (over_names text)) 16
is_in_range opt.From text = is_numbered opt.From text
is_in_range opt.To text = is_numbered opt.To text

-- the texts of the option are the numbers from low to high
abbrev pub HoldsNumbers : OptionName → ℕ → ℕ → Type 0
HoldsNumbers name low high = (text : List ℕ) → is_in_range name text ≡ is_number_in low high text

-- ---- the words

-- the texts of the options that are given, as they are meant
abbrev pub Options : Type 0
Options = OptionName → Option (List ℕ)

-- the text without one minus sign before it
abbrev pub without_sign : List ℕ → List ℕ
without_sign [] = []
without_sign (byte ∷ rest) = if byte == 45 then rest else byte ∷ rest

-- What the text of an option means. NAIF counts spacecraft from -1 down, so their number may have its minus sign.
abbrev pub meant : OptionName → List ℕ → List ℕ
meant name text = if bytes_eq (name_of name) (name_of opt.Sc) then without_sign text else text

abbrev pub options_of : List Row → Options
options_of rows name = option_map (meant name) (option_text (name_of name) rows)

abbrev pub command_of : List Row → Option Command
command_of rows = option_and_then (λ word. find (λ c. bytes_eq (word_of c) word) all_commands) (command_text rows)

-- the first option that is needed and missing, and the first that is given and out of range
abbrev pub first_missing : Command → Options → Option OptionName
first_missing command options = find (λ name. is_none (options name)) (needs command)

abbrev pub is_out_of_range : Options → OptionName → Bool
is_out_of_range options name = option_map_or (λ text. not (is_in_range name text)) (options name) false

abbrev pub first_out_of_range : Options → Option OptionName
first_out_of_range options = find (is_out_of_range options) all_options

-- why the words of a command are refused
abbrev pub options_fault : Command → Options → Option WordsFault
options_fault command options = option_map_or (λ name. Some (NeedOption name))
    (first_missing command options)
    (option_map (λ name. OutOfRange name) (first_out_of_range options))

abbrev pub rows_fault : List Row → Option WordsFault
rows_fault rows = option_map_or (λ command. options_fault command (options_of rows)) (command_of rows) (Some UnknownCommand)

-- the options without those that the command does not use
abbrev pub used : Command → Options → Options
used command options name = if list_any (λ u. bytes_eq (name_of u) (name_of name)) (uses command) then options name else None

-- the names of the command's files
abbrev pub files_of : Options → List (List ℕ)
files_of options = option_to_list (options opt.Leap) ++ option_to_list (options opt.Kernel) ++ option_to_list (options opt.Obs)
    ++ option_to_list (options opt.New) ++ option_map_or over_names (options opt.Over) []

-- ---- values

-- the number of an option, or its default
abbrev pub number_or : ℕ → OptionName → Options → ℕ
number_or default name options = option_map_or (λ text. digits_value 10 text) (options name) default

abbrev pub text_or : OptionName → Options → List ℕ
text_or name options = unwrap_or (options name) []
