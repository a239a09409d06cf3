-- What a refusal is about: a place in a file, the command, or an option.
use Rattle.std.specs.Prelude.{ℕ, ◌==◌, List, [], ◌∷◌, ◌++◌, codes, decimal, Option, Some, None, unwrap_or, if◌then◌else◌}
use Rattle.clap.specs.Words.{Row}
use Rattle.sk_words.specs.Words.{option_text, command_text}
use Rattle.sk_words.specs.Request.{name_of}
use Rattle.sk_words.specs.declared.tables.OptionName.{OptionName}
use Rattle.sk_words.specs.declared.tables.OptionName.TheVariants as opt
use Rattle.sk_words.specs.declared.fault.WordsFault.{WordsFault}
use Rattle.sk_words.specs.declared.fault.WordsFault.TheVariants.{NotTaken, UnknownCommand, NeedOption, OutOfRange}
use Rattle.sk_grammar.specs.declared.fault.GrammarFault.{GrammarFault}
use Rattle.sk_grammar.specs.declared.fault.GrammarFault.TheVariants as grammar
use Rattle.sk_pool.specs.declared.pool.PoolFault.{PoolFault}
use Rattle.sk_pool.specs.declared.pool.PoolFault.TheVariants as pool
use Rattle.sk_leap.specs.declared.table.LeapFault.{LeapFault}
use Rattle.sk_leap.specs.declared.table.LeapFault.TheVariants as leap
use Rattle.sk_triples.specs.declared.triple.TriplesFault.{TriplesFault}
use Rattle.sk_triples.specs.declared.triple.TriplesFault.TheVariants as triples
use Rattle.sk_obs.specs.declared.fault.ObsFault.{ObsFault}
use Rattle.sk_obs.specs.declared.fault.ObsFault.TheVariants as obs
use Rattle.sk_fit.specs.declared.fault.FitFault.{FitFault}
use Rattle.sk_fit.specs.declared.fault.FitFault.TheVariants as fit
use Rattle.sk_audit.specs.declared.verdict.AuditFault.{AuditFault}
use Rattle.sk_audit.specs.declared.verdict.AuditFault.TheVariants as audit
use Rattle.sk_status.specs.declared.status.TextStop.{TextStop}
use Rattle.sk_status.specs.declared.status.TextStop.TheVariants as text_stop
use Rattle.sk_status.specs.declared.status.LeapStop.{LeapStop}
use Rattle.sk_status.specs.declared.status.LeapStop.TheVariants as leap_stop
use Rattle.sk_status.specs.declared.status.KernelStop.{KernelStop}
use Rattle.sk_status.specs.declared.status.KernelStop.TheVariants as kernel_stop
use Rattle.sk_status.specs.declared.status.ObsStop.{ObsStop}
use Rattle.sk_status.specs.declared.status.ObsStop.TheVariants as obs_stop
use Rattle.sk_status.specs.declared.status.DocumentKind.{DocumentKind}
use Rattle.sk_status.specs.declared.status.DocumentKind.TheVariants as document
use Rattle.sk_status.specs.declared.status.FileKind.{FileKind}
use Rattle.sk_status.specs.declared.status.FileKind.TheVariants as file
use Rattle.sk_status.specs.declared.status.Status.{Status}
use Rattle.sk_status.specs.declared.status.Status.TheVariants as status
use Rattle.sk_advice.specs.declared.subject.Place.{Place}
use Rattle.sk_advice.specs.declared.subject.Place.TheVariants.{Whole, Line, Item, Pair, Triple, Record, TableLine, Spacecraft}
use Rattle.sk_advice.specs.declared.subject.Subject.{Subject}
use Rattle.sk_advice.specs.declared.subject.Subject.TheVariants.{Nothing, Command, Given, File, Over}

-- ---- the subject of a status

abbrev pub place_of_grammar : GrammarFault → Place
place_of_grammar (grammar.At line why) = Line line
place_of_grammar grammar.NoMemory = Whole

abbrev pub place_of_pool : PoolFault → Place
place_of_pool (pool.AppendMixed item) = Item item
place_of_pool pool.NoMemory = Whole

abbrev pub place_of_text : TextStop → Place
place_of_text text_stop.TooLong = Whole
place_of_text (text_stop.Grammar fault) = place_of_grammar fault

abbrev pub place_of_pair : LeapFault → Place
place_of_pair (leap.Missing name) = Whole
place_of_pair leap.BadDeltaT = Whole
place_of_pair leap.BadPairs = Whole
place_of_pair (leap.DateForm pair) = Pair pair
place_of_pair (leap.DateOrder pair) = Pair pair
place_of_pair (leap.LeapStep pair) = Pair pair
place_of_pair leap.NoMemory = Whole

abbrev pub place_of_leap : LeapStop → Place
place_of_leap leap_stop.TooLong = Whole
place_of_leap (leap_stop.Grammar fault) = place_of_grammar fault
place_of_leap (leap_stop.Pool fault) = place_of_pool fault
place_of_leap (leap_stop.Leap fault) = place_of_pair fault

abbrev pub place_of_triple : TriplesFault → Place
place_of_triple triples.Missing = Spacecraft
place_of_triple triples.NotTriples = Spacecraft
place_of_triple (triples.TickRange triple) = Triple triple
place_of_triple (triples.TimeForm triple) = Triple triple
place_of_triple (triples.TimeRange triple) = Triple triple
place_of_triple (triples.RateRange triple) = Triple triple
place_of_triple (triples.OutOfOrder triple) = Triple triple
place_of_triple triples.TooMany = Spacecraft
place_of_triple triples.NoMemory = Whole

abbrev pub place_of_kernel : KernelStop → Place
place_of_kernel kernel_stop.TooLong = Whole
place_of_kernel (kernel_stop.Grammar fault) = place_of_grammar fault
place_of_kernel (kernel_stop.Pool fault) = place_of_pool fault
place_of_kernel (kernel_stop.Clock fault) = Spacecraft
place_of_kernel (kernel_stop.Triples fault) = place_of_triple fault

abbrev pub place_of_record : ObsFault → Place
place_of_record (obs.Header cause) = Whole
place_of_record (obs.FieldCount number) = Record number
place_of_record (obs.BadId number) = Record number
place_of_record (obs.ClockRefused number fault) = Record number
place_of_record (obs.TimeForm number) = Record number
place_of_record (obs.CodeRefused number fault) = Record number
place_of_record (obs.UtcRefused number fault) = Record number
place_of_record (obs.BadDelay number) = Record number
place_of_record (obs.TimeRange number) = Record number
place_of_record (obs.OutOfOrder number) = Record number
place_of_record obs.TooMany = Whole
place_of_record obs.NoMemory = Whole

-- a reading of `--clock` has the number 0
abbrev pub subject_of_record : ℕ → Subject
subject_of_record number = if number == 0 then Given opt.Clock else File opt.Obs (Record number)

abbrev pub subject_of_observation : ObsStop → Subject
subject_of_observation obs_stop.TooLong = File opt.Obs Whole
subject_of_observation (obs_stop.Record fault) = File opt.Obs (place_of_record fault)
subject_of_observation (obs_stop.Range number fault) = subject_of_record number
subject_of_observation (obs_stop.Clock fault) = Given opt.Clock

abbrev pub subject_of_words : WordsFault → Subject
subject_of_words NotTaken = Nothing
subject_of_words UnknownCommand = Command
subject_of_words (NeedOption name) = Command
subject_of_words (OutOfRange name) = Given name

abbrev pub subject_of_fit : FitFault → Subject
subject_of_fit fit.BadHold = Given opt.Hold
subject_of_fit (fit.OldFalls fall) = File opt.Kernel (Triple fall.join)
subject_of_fit fit.BandEmpty = Nothing
subject_of_fit (fit.NoRate number barrier) = File opt.Obs (Record number)
subject_of_fit (fit.TimeFalls number) = File opt.Obs (Record number)
subject_of_fit fit.TooMany = File opt.Kernel Whole
subject_of_fit fit.NoMemory = Nothing

abbrev pub subject_of_document : DocumentKind → Subject
subject_of_document document.Leap = File opt.Leap Whole
subject_of_document document.Kernel = File opt.Kernel Whole
subject_of_document document.New = File opt.New Whole
subject_of_document (document.Over place) = Over place Whole

abbrev pub subject_of_file : FileKind → Subject
subject_of_file (file.Document kind) = subject_of_document kind
subject_of_file file.Observations = File opt.Obs Whole

abbrev pub subject_of_audit : AuditFault → Subject
subject_of_audit audit.Settings = Nothing
subject_of_audit audit.Standing = File opt.New Whole
subject_of_audit audit.Items = File opt.New Whole
subject_of_audit audit.Chain = File opt.New Whole
subject_of_audit (audit.Table line) = File opt.New (TableLine line)

abbrev pub subject_of : Status → Subject
subject_of status.Done = Nothing
subject_of (status.WordsRefused fault) = subject_of_words fault
subject_of (status.LeapRefused stop) = File opt.Leap (place_of_leap stop)
subject_of (status.KernelRefused stop) = File opt.Kernel (place_of_kernel stop)
subject_of (status.ObservationRefused stop) = subject_of_observation stop
subject_of (status.NotPublished fault) = subject_of_fit fault
subject_of (status.ReadFault kind) = subject_of_file kind
subject_of status.WriteFault = Nothing
subject_of status.NoMemory = Nothing
subject_of (status.TimeRefused stop) = Given opt.Time
subject_of (status.AuditNo fault) = subject_of_audit fault
subject_of (status.NewRefused stop) = File opt.New (place_of_kernel stop)
subject_of (status.ExcerptRefused fault) = Given opt.From
subject_of (status.OverRefused place stop) = Over place (place_of_text stop)

-- ---- its text

-- the text of an option; nothing where it is not given
abbrev pub text_of : List Row → OptionName → List ℕ
text_of rows name = unwrap_or (option_text (name_of name) rows) []

abbrev pub counted : List ℕ → ℕ → List ℕ
counted word number = word ++ decimal number

-- where in a file
abbrev pub place_text : List Row → Place → List ℕ
place_text rows Whole = []
place_text rows (Line number) = counted (codes ", line ") number
place_text rows (Item number) = counted (codes ", item ") number
place_text rows (Pair number) = counted (codes ", pair ") number
place_text rows (Triple number) = counted (codes ", triple ") number
place_text rows (Record number) = counted (codes ", record ") number
place_text rows (TableLine number) = counted (codes ", table line ") number
place_text rows Spacecraft = codes ", spacecraft " ++ text_of rows opt.Sc

-- a file by its name, and the option that names it
abbrev pub file_text : List Row → OptionName → List ℕ
file_text rows name = text_of rows name ++ (codes " (--" ++ (name_of name ++ codes ")"))

-- an option as it was given
abbrev pub value_text : Option (List ℕ) → List ℕ
value_text None = []
value_text (Some text) = 61 ∷ text

abbrev pub given_text : List Row → OptionName → List ℕ
given_text rows name = codes "--" ++ (name_of name ++ value_text (option_text (name_of name) rows))

abbrev pub command_word : List Row → List ℕ
command_word rows = unwrap_or (command_text rows) []

-- the line of a subject; nothing where there is none
abbrev pub subject_text : List Row → Subject → List ℕ
subject_text rows Nothing = []
subject_text rows Command = command_word rows ++ codes ":"
subject_text rows (Given name) = given_text rows name ++ codes ":"
subject_text rows (File name place) = file_text rows name ++ (place_text rows place ++ codes ":")
subject_text rows (Over number place) = counted (codes "file ") number ++ (codes " of --over" ++ (place_text rows place ++ codes ":"))
