-- The pages of the help and of the version. Each line has at most 80 columns and is ended by a line feed.
use Rattle.std.specs.Prelude.{ℕ, Bool, true, ◌&&◌, ◌==◌, ◌-◌, List, [], ◌∷◌, ◌++◌, length, drop, codes, decimal, Option, Some, None, nat_lt, if◌then◌else◌}
use Rattle.std.specs.List.{flat_map, list_any}
use Rattle.std.specs.Str.{bytes_eq}
use Rattle.sk_words.specs.declared.limits.Numbers.{Numbers}
use Rattle.sk_words.specs.declared.tables.Command.{Command}
use Rattle.sk_words.specs.declared.tables.Command.TheVariants.{Publish, Residuals, Normal, Convert, Sample, Invert, Audit, Excerpt, Least, Plot}
use Rattle.sk_words.specs.declared.tables.OptionName.{OptionName}
use Rattle.sk_words.specs.declared.tables.OptionName.TheVariants as opt
use Rattle.sk_words.specs.declared.topic.Topic.{Topic}
use Rattle.sk_words.specs.declared.topic.Topic.TheVariants.{Program, Version, Of}
use Rattle.sk_words.specs.Request.{name_of, word_of, needs, uses, numbers_of, all_commands, all_options}

-- the version of the program
abbrev pub version : List ℕ
version = codes "0.9.0"

-- ---- rows

-- the labels of rows have this width
abbrev pub blanks : List ℕ
blanks = codes "                      "

-- a label, filled with blanks, and a text
abbrev pub row : List ℕ → List ℕ → List ℕ
row label text = label ++ (drop (length label) blanks ++ (text ++ 10 ∷ []))

abbrev pub lines : List (List ℕ) → List ℕ
lines texts = flat_map (λ text. text ++ 10 ∷ []) texts

-- ---- an option

-- what stands for the value of an option
abbrev pub form_of : OptionName → List ℕ
form_of opt.Leap = codes "FILE"
form_of opt.Kernel = codes "FILE"
form_of opt.Obs = codes "FILE"
form_of opt.Sc = codes "N"
form_of opt.TolNs = codes "N"
form_of opt.RateDecimals = codes "N"
form_of opt.BandPpm = codes "N"
form_of opt.SlipNs = codes "N"
form_of opt.Hold = codes "TICK"
form_of opt.Id = codes "DATE"
form_of opt.Clock = codes "WORD"
form_of opt.Seed = codes "N"
form_of opt.Count = codes "N"
form_of opt.Reject = codes "N"
form_of opt.Time = codes "WORD"
form_of opt.New = codes "FILE"
form_of opt.Over = codes "FILES"
form_of opt.From = codes "TICK"
form_of opt.To = codes "TICK"

-- what an option is
abbrev pub about : OptionName → List ℕ
about opt.Leap = codes "leap seconds kernel; times as utc: and cds: need it"
about opt.Kernel = codes "clock kernel"
about opt.Obs = codes "observations, csv with the header id,clock,time,delay"
about opt.Sc = codes "number of the spacecraft, with NAIF's minus sign or not"
about opt.TolNs = codes "how far an observation may lie from the line, ns"
about opt.RateDecimals = codes "decimals of a new rate"
about opt.BandPpm = codes "how far a rate may lie from the old last one, 1e-6"
about opt.SlipNs = codes "how far time may fall at a join of the old kernel, ns"
about opt.Hold = codes "observations up to this encoded tick are not fitted"
about opt.Id = codes "kernel ID: a date, as 23-JAN-2024 or 2024-01-23/02:00:00"
about opt.Clock = codes "1/0001742400.32768 or tick:TICK or cuc:HEX"
about opt.Seed = codes "number from which all else of the sample follows"
about opt.Count = codes "how many observations"
about opt.Reject = codes "how many observations may be dropped"
about opt.Time = codes "tdt:SECONDS or utc:YYYY-MM-DDThh:mm:ss"
about opt.New = codes "second clock kernel: to be judged, or drawn too"
about opt.Over = codes "further clock kernels, with commas between"
about opt.From = codes "first encoded tick"
about opt.To = codes "last encoded tick"

-- an option and what stands for its value
abbrev pub given_as : OptionName → List ℕ
given_as name = codes "--" ++ (name_of name ++ (61 ∷ form_of name))

-- the numbers of an option, by the table of options
abbrev pub default_text : Option ℕ → List ℕ
default_text None = []
default_text (Some number) = codes "; " ++ (decimal number ++ codes " where it is not given")

abbrev pub numbers_text : Numbers → List ℕ
numbers_text numbers = decimal numbers.least ++ (codes " to " ++ (decimal numbers.greatest ++ default_text numbers.default))

abbrev pub numbers_row : Option Numbers → List ℕ
numbers_row None = []
numbers_row (Some numbers) = row [] (numbers_text numbers)

abbrev pub option_rows : OptionName → List ℕ
option_rows name = row (codes "  " ++ given_as name) (about name) ++ numbers_row (numbers_of name)

-- some command uses the option
abbrev pub is_shown : OptionName → Bool
is_shown name = list_any (λ command. list_any (λ used. bytes_eq (name_of used) (name_of name)) (uses command)) all_commands

abbrev pub shown_rows : OptionName → List ℕ
shown_rows name = if is_shown name then option_rows name else []

-- ---- a command

-- what a command writes
abbrev pub writes : Command → List ℕ
writes Publish = codes "new triples, with the residual table as comments"
writes Residuals = codes "how far each observation lies from the kernel"
writes Normal = codes "the kernel in canonical layout"
writes Convert = codes "the tick, TDT and UTC of one clock reading"
writes Sample = codes "what publishing observations made from a seed comes to"
writes Invert = codes "the last clock reading that is not after one time"
writes Audit = codes "whether a kernel is what the options and files publish"
writes Excerpt = codes "the part of a kernel that a range of ticks needs"
writes Least = codes "how few lines can meet the observations, and why no fewer"
writes Plot = codes "a picture of how far each observation lies from the kernel"

abbrev pub remarks : Command → List (List ℕ)
remarks Publish = codes "Writes the kernel with one block more. Write it to a new file: > empties a file" ∷ codes "before it is read. docs/DAILY.md tells how to choose the options." ∷ []
remarks Residuals = codes "Writes a line for each observation: id, clock reading, observed TDT, TDT by the" ∷ codes "kernel, difference in ps, triple and kind. TDT is in seconds past J2000." ∷ []
remarks Normal = codes "Only the grammar of the file is checked." ∷ []
remarks Convert = codes "Writes one line: clock reading, encoded tick, TDT in seconds past J2000, UTC." ∷ codes "The UTC is - where --leap is not given." ∷ []
remarks Sample = codes "Writes one line: sample, seed, count, new triples, the greatest difference in ps" ∷ codes "and the ticks of the last triple. It reads no file: docs/SAMPLE.md tells what is" ∷ codes "made. The slip has its default; nothing is held or dropped." ∷ []
remarks Invert = codes "Writes one line: clock reading, encoded tick and its TDT in seconds past J2000." ∷ []
remarks Audit = codes "Writes yes where the kernel of --new is that of --kernel and the one block that" ∷ codes "publish would add with these options and any --id. Its layout does not count." ∷ []
remarks Excerpt = codes "Writes one block with each variable's values, as the kernels give them in this" ∷ codes "order; of the coefficients what the ticks need. Comments of blocks are left out." ∷ []
remarks Least = codes "Writes least;RUNS, and for each run of one line its first id, its last id, and" ∷ codes "last, partition or bent:A:B:C:D, which are records that no one line meets." ∷ []
remarks Plot = codes "Writes one SVG document: a mark for each difference in microseconds over days of" ∷ codes "TDT, with the band of --tol-ns; the same by the kernel of --new; and the rates." ∷ []

-- the options that a command needs
abbrev pub needed_text : Command → List ℕ
needed_text command = codes "needs" ++ flat_map (λ name. codes " --" ++ name_of name) (needs command)

abbrev pub command_rows : Command → List ℕ
command_rows command = row (codes "  " ++ word_of command) (writes command) ++ row [] (needed_text command)

-- ---- pages

-- the first lines of the program's page, behind its name and version
unfoldable pub opening : List (List ℕ)
opening = codes "keeps a spacecraft clock kernel (NAIF SCLK type 1), exactly" ∷ [] ∷ codes "usage: station COMMAND --NAME=VALUE .."
    ∷ codes "       station help COMMAND" ∷ [] ∷ codes "Commands" ∷ []

abbrev pub opening_rows : List ℕ
opening_rows = codes "station " ++ (version ++ (codes ": " ++ lines opening))

unfoldable pub closing : List (List ℕ)
closing = [] ∷ codes "Status: 0 done, 2 words, 3 leap seconds kernel, 4 clock kernel, 5 observations," ∷ codes "6 not published, 7 reading, 8 writing, 9 memory, 10 time, 11 not accepted," ∷ codes "12 the kernel of --new, 13 range, 14 a kernel of --over. A refusal is told on" ∷ codes "standard error; docs/REFUSALS.md tells what each means and what to do." ∷ []

abbrev pub program_page : List ℕ
program_page = opening_rows ++ (flat_map command_rows all_commands ++ (codes "\nOptions\n" ++ (flat_map shown_rows all_options ++ lines closing)))

-- the usage of a command, with the options that it needs; whether it uses others
abbrev pub others_of : Command → List ℕ
others_of command = if nat_lt (length (needs command)) (length (uses command)) then codes " [OPTION ..]" else []

abbrev pub usage_of : Command → List ℕ
usage_of command = codes "usage: station " ++ (word_of command ++ (flat_map (λ name. 32 ∷ given_as name) (needs command) ++ others_of command))

abbrev pub heading_of : Command → List ℕ
heading_of command = codes "station " ++ (word_of command ++ (codes ": " ++ (writes command ++ codes "\n\n")))

abbrev pub command_page : Command → List ℕ
command_page command = heading_of command ++ (usage_of command ++ (codes "\n\nOptions\n"
    ++ (flat_map option_rows (uses command) ++ (10 ∷ lines (remarks command)))))

abbrev pub version_page : List ℕ
version_page = codes "station " ++ (version ++ 10 ∷ [])

-- the page of a topic
unfoldable pub page_of : Topic → List ℕ
page_of Program = program_page
page_of Version = version_page
page_of (Of command) = command_page command

-- each line of a text has at most `width` columns, of which `left` are left in the first one
abbrev pub has_columns : ℕ → ℕ → List ℕ → Bool
has_columns width left [] = true
has_columns width left (byte ∷ rest) = if byte == 10 then has_columns width width rest else nat_lt 0 left && has_columns width (left - 1) rest
