-- The line of notes for each end of a run.
use Rattle.std.specs.Prelude.{ℕ, ◌*◌, ◌^◌, nat_abs, List, [], ◌∷◌, ◌++◌, codes, decimal}
use Rattle.std.specs.List.{join_with_byte, flat_map}
use Rattle.sk_decimal.specs.Fixed.{fixed_text}
use Rattle.sk_decimal.specs.Quotient.{ceiling_quotient}
use Rattle.sk_grammar.specs.declared.fault.Reason.{Reason}
use Rattle.sk_grammar.specs.declared.fault.Reason.TheVariants as reason
use Rattle.sk_grammar.specs.declared.fault.GrammarFault.{GrammarFault}
use Rattle.sk_grammar.specs.declared.fault.GrammarFault.TheVariants as grammar
use Rattle.sk_pool.specs.declared.pool.PoolFault.{PoolFault}
use Rattle.sk_pool.specs.declared.pool.PoolFault.TheVariants as pool
use Rattle.sk_leap.specs.declared.table.LeapName.{LeapName}
use Rattle.sk_leap.specs.declared.table.LeapName.TheVariants as leap_name
use Rattle.sk_leap.specs.declared.table.LeapFault.{LeapFault}
use Rattle.sk_leap.specs.declared.table.LeapFault.TheVariants as leap
use Rattle.sk_leap.specs.declared.utc.UtcFault.{UtcFault}
use Rattle.sk_leap.specs.declared.utc.UtcFault.TheVariants as utc
use Rattle.sk_leap.specs.Kernel.{delta_t_a, delta_at}
use Rattle.sk_cuc.specs.declared.fault.CucFault.{CucFault}
use Rattle.sk_cuc.specs.declared.fault.CucFault.TheVariants as cuc
use Rattle.sk_cds.specs.declared.fault.CdsFault.{CdsFault}
use Rattle.sk_cds.specs.declared.fault.CdsFault.TheVariants as cds
use Rattle.sk_clock.specs.declared.fault.ClockName.{ClockName}
use Rattle.sk_clock.specs.declared.fault.ClockName.TheVariants as clock_name
use Rattle.sk_clock.specs.declared.fault.ClockKernelFault.{ClockKernelFault}
use Rattle.sk_clock.specs.declared.fault.ClockKernelFault.TheVariants as clock
use Rattle.sk_clock.specs.declared.fault.ClockFault.{ClockFault}
use Rattle.sk_clock.specs.declared.fault.ClockFault.TheVariants as count
use Rattle.sk_obs.specs.declared.fault.ClockWord.{ClockWord}
use Rattle.sk_obs.specs.declared.fault.ClockWord.TheVariants as word
use Rattle.sk_obs.specs.declared.fault.CodeFault.{CodeFault}
use Rattle.sk_obs.specs.declared.fault.CodeFault.TheVariants as code
use Rattle.sk_obs.specs.declared.fault.ObsFault.{ObsFault}
use Rattle.sk_obs.specs.declared.fault.ObsFault.TheVariants as obs
use Rattle.sk_triples.specs.declared.triple.TriplesFault.{TriplesFault}
use Rattle.sk_triples.specs.declared.triple.TriplesFault.TheVariants as triples
use Rattle.sk_triples.specs.declared.triple.RangeFault.{RangeFault}
use Rattle.sk_triples.specs.declared.triple.RangeFault.TheVariants as range
use Rattle.sk_fit.specs.declared.fault.FitFault.{FitFault}
use Rattle.sk_fit.specs.declared.fault.FitFault.TheVariants as fit
use Rattle.sk_audit.specs.declared.verdict.AuditFault.{AuditFault}
use Rattle.sk_audit.specs.declared.verdict.AuditFault.TheVariants as audit
use Rattle.sk_excerpt.specs.declared.fault.ExcerptFault.{ExcerptFault}
use Rattle.sk_excerpt.specs.declared.fault.ExcerptFault.TheVariants as excerpt
use Rattle.sk_status.specs.declared.status.Status.{Status}
use Rattle.sk_status.specs.declared.status.Status.TheVariants.{Done, WordsRefused, LeapRefused, KernelRefused, ObservationRefused, NotPublished, ReadFault, WriteFault, NoMemory, TimeRefused, AuditNo, NewRefused, ExcerptRefused, OverRefused}
use Rattle.sk_words.specs.declared.fault.WordsFault.{WordsFault}
use Rattle.sk_words.specs.declared.fault.WordsFault.TheVariants.{NotTaken, UnknownCommand, NeedOption, OutOfRange}
use Rattle.sk_status.specs.declared.status.LeapStop.{LeapStop}
use Rattle.sk_status.specs.declared.status.LeapStop.TheVariants as leap_stop
use Rattle.sk_status.specs.declared.status.KernelStop.{KernelStop}
use Rattle.sk_status.specs.declared.status.KernelStop.TheVariants as kernel_stop
use Rattle.sk_status.specs.declared.status.ObsStop.{ObsStop}
use Rattle.sk_status.specs.declared.status.ObsStop.TheVariants as obs_stop
use Rattle.sk_status.specs.declared.status.TimeStop.{TimeStop}
use Rattle.sk_status.specs.declared.status.TimeStop.TheVariants as time_stop
use Rattle.sk_status.specs.declared.status.TextStop.{TextStop}
use Rattle.sk_status.specs.declared.status.TextStop.TheVariants as text_stop
use Rattle.sk_status.specs.declared.status.DocumentKind.{DocumentKind}
use Rattle.sk_status.specs.declared.status.DocumentKind.TheVariants as document
use Rattle.sk_status.specs.declared.status.FileKind.{FileKind}
use Rattle.sk_status.specs.declared.status.FileKind.TheVariants as file
use Rattle.sk_words.specs.Request.{name_of}
use Rattle.sk_status.specs.Status.{code_of}

-- the words of a line stand between semicolons
abbrev pub Words : Type 0
Words = List (List ℕ)

-- each word behind a semicolon
abbrev pub behind : Words → List ℕ
behind words = flat_map (λ word. 59 ∷ word) words

-- a fault, and a fault with a number
abbrev pub plain : List ℕ → Words
plain name = name ∷ []

abbrev pub numbered : List ℕ → ℕ → Words
numbered name n = name ∷ decimal n ∷ []

-- ---- words and texts

abbrev pub words_words : WordsFault → Words
words_words NotTaken = plain (codes "NotTaken")
words_words UnknownCommand = plain (codes "UnknownCommand")
words_words (NeedOption name) = codes "NeedOption" ∷ name_of name ∷ []
words_words (OutOfRange name) = codes "OutOfRange" ∷ name_of name ∷ []

abbrev pub reason_text : Reason → List ℕ
reason_text reason.DataLineTooLong = codes "DataLineTooLong"
reason_text reason.TextLineTooLong = codes "TextLineTooLong"
reason_text reason.BadByte = codes "BadByte"
reason_text reason.BadName = codes "BadName"
reason_text reason.NoAssign = codes "NoAssign"
reason_text reason.BadNumber = codes "BadNumber"
reason_text reason.NumberTooWide = codes "NumberTooWide"
reason_text reason.TextOpen = codes "TextOpen"
reason_text reason.TextTooLong = codes "TextTooLong"
reason_text reason.BadDate = codes "BadDate"
reason_text reason.MixedKinds = codes "MixedKinds"
reason_text reason.BadComma = codes "BadComma"
reason_text reason.EmptyVector = codes "EmptyVector"
reason_text reason.AfterValue = codes "AfterValue"
reason_text reason.Unfinished = codes "Unfinished"

-- Want of memory has a status of its own, and no words here.
abbrev pub grammar_words : GrammarFault → Words
grammar_words (grammar.At line why) = codes "Grammar" ∷ decimal line ∷ reason_text why ∷ []
grammar_words grammar.NoMemory = []

abbrev pub pool_words : PoolFault → Words
pool_words (pool.AppendMixed item) = codes "Pool" ∷ codes "AppendMixed" ∷ decimal item ∷ []
pool_words pool.NoMemory = []

abbrev pub text_words : TextStop → Words
text_words text_stop.TooLong = plain (codes "TooLong")
text_words (text_stop.Grammar fault) = grammar_words fault

-- ---- leap seconds

abbrev pub leap_name_text : LeapName → List ℕ
leap_name_text leap_name.DeltaTA = delta_t_a
leap_name_text leap_name.DeltaAT = delta_at

abbrev pub leap_fault_words : LeapFault → Words
leap_fault_words (leap.Missing name) = codes "Missing" ∷ leap_name_text name ∷ []
leap_fault_words leap.BadDeltaT = plain (codes "BadDeltaT")
leap_fault_words leap.BadPairs = plain (codes "BadPairs")
leap_fault_words (leap.DateForm pair) = numbered (codes "DateForm") pair
leap_fault_words (leap.DateOrder pair) = numbered (codes "DateOrder") pair
leap_fault_words (leap.LeapStep pair) = numbered (codes "LeapStep") pair
leap_fault_words leap.NoMemory = []

abbrev pub leap_words : LeapStop → Words
leap_words leap_stop.TooLong = plain (codes "TooLong")
leap_words (leap_stop.Grammar fault) = grammar_words fault
leap_words (leap_stop.Pool fault) = pool_words fault
leap_words (leap_stop.Leap fault) = codes "Leap" ∷ leap_fault_words fault

abbrev pub utc_text : UtcFault → List ℕ
utc_text utc.BeforeTable = codes "BeforeTable"
utc_text utc.NotInDay = codes "NotInDay"
utc_text utc.PastRange = codes "PastRange"

-- ---- clock kernels

abbrev pub clock_name_text : ClockName → List ℕ
clock_name_text clock_name.DataType = codes "DataType"
clock_name_text clock_name.Fields = codes "Fields"
clock_name_text clock_name.Moduli = codes "Moduli"
clock_name_text clock_name.Offsets = codes "Offsets"
clock_name_text clock_name.Delim = codes "Delim"
clock_name_text clock_name.Start = codes "Start"
clock_name_text clock_name.End = codes "End"

abbrev pub clock_kernel_words : ClockKernelFault → Words
clock_kernel_words (clock.Missing name) = codes "Missing" ∷ clock_name_text name ∷ []
clock_kernel_words clock.NotType1 = plain (codes "NotType1")
clock_kernel_words clock.Barycentric = plain (codes "Barycentric")
clock_kernel_words clock.BadTimeSystem = plain (codes "BadTimeSystem")
clock_kernel_words clock.BadFields = plain (codes "BadFields")
clock_kernel_words clock.BadModuli = plain (codes "BadModuli")
clock_kernel_words clock.BadOffsets = plain (codes "BadOffsets")
clock_kernel_words clock.BadDelim = plain (codes "BadDelim")
clock_kernel_words clock.BadPartitions = plain (codes "BadPartitions")
clock_kernel_words clock.NoMemory = []

abbrev pub triples_words : TriplesFault → Words
triples_words triples.Missing = plain (codes "Missing")
triples_words triples.NotTriples = plain (codes "NotTriples")
triples_words (triples.TickRange n) = numbered (codes "TickRange") n
triples_words (triples.TimeForm n) = numbered (codes "TimeForm") n
triples_words (triples.TimeRange n) = numbered (codes "TimeRange") n
triples_words (triples.RateRange n) = numbered (codes "RateRange") n
triples_words (triples.OutOfOrder n) = numbered (codes "OutOfOrder") n
triples_words triples.TooMany = plain (codes "TooMany")
triples_words triples.NoMemory = []

abbrev pub kernel_words : KernelStop → Words
kernel_words kernel_stop.TooLong = plain (codes "TooLong")
kernel_words (kernel_stop.Grammar fault) = grammar_words fault
kernel_words (kernel_stop.Pool fault) = pool_words fault
kernel_words (kernel_stop.Clock fault) = codes "Clock" ∷ clock_kernel_words fault
kernel_words (kernel_stop.Triples fault) = codes "Triples" ∷ triples_words fault

-- ---- observations

abbrev pub count_text : ClockFault → List ℕ
count_text count.BadText = codes "BadText"
count_text count.TooManyFields = codes "TooManyFields"
count_text count.BelowOffset = codes "BelowOffset"
count_text count.NoSuchPartition = codes "NoSuchPartition"
count_text count.OutsidePartition = codes "OutsidePartition"
count_text count.WrongShape = codes "WrongShape"

abbrev pub cuc_text : CucFault → List ℕ
cuc_text cuc.Empty = codes "Empty"
cuc_text cuc.NotCuc = codes "NotCuc"
cuc_text cuc.ThirdOctet = codes "ThirdOctet"
cuc_text cuc.FractionWidth = codes "FractionWidth"
cuc_text cuc.Length = codes "Length"

abbrev pub cds_text : CdsFault → List ℕ
cds_text cds.Empty = codes "Empty"
cds_text cds.NotCds = codes "NotCds"
cds_text cds.Extension = codes "Extension"
cds_text cds.AgencyEpoch = codes "AgencyEpoch"
cds_text cds.Reserved = codes "Reserved"
cds_text cds.Length = codes "Length"
cds_text cds.SubRange = codes "SubRange"

abbrev pub clock_word_words : ClockWord → Words
clock_word_words (word.Text fault) = codes "Text" ∷ count_text fault ∷ []
clock_word_words word.Hex = plain (codes "Hex")
clock_word_words (word.Cuc fault) = codes "Cuc" ∷ cuc_text fault ∷ []

abbrev pub code_words : CodeFault → Words
code_words code.Hex = plain (codes "Hex")
code_words (code.Cuc fault) = codes "Cuc" ∷ cuc_text fault ∷ []
code_words (code.Cds fault) = codes "Cds" ∷ cds_text fault ∷ []
code_words code.CucAgencyEpoch = plain (codes "CucAgencyEpoch")

-- a fault of one record, and what is told of it
abbrev pub of_record : ℕ → List ℕ → Words → Words
of_record n name rest = codes "Record" ∷ decimal n ∷ name ∷ rest

abbrev pub record_words : ObsFault → Words
record_words (obs.Header cause) = plain (codes "Header")
record_words (obs.FieldCount n) = of_record n (codes "FieldCount") []
record_words (obs.BadId n) = of_record n (codes "BadId") []
record_words (obs.ClockRefused n fault) = of_record n (codes "ClockRefused") (clock_word_words fault)
record_words (obs.TimeForm n) = of_record n (codes "TimeForm") []
record_words (obs.CodeRefused n fault) = of_record n (codes "CodeRefused") (code_words fault)
record_words (obs.UtcRefused n fault) = of_record n (codes "UtcRefused") (plain (utc_text fault))
record_words (obs.BadDelay n) = of_record n (codes "BadDelay") []
record_words (obs.TimeRange n) = of_record n (codes "TimeRange") []
record_words (obs.OutOfOrder n) = of_record n (codes "OutOfOrder") []
record_words obs.TooMany = plain (codes "TooMany")
record_words obs.NoMemory = []

abbrev pub range_text : RangeFault → List ℕ
range_text range.BeforeFirst = codes "BeforeFirst"
range_text range.PastPartitions = codes "PastPartitions"

abbrev pub observation_words : ObsStop → Words
observation_words obs_stop.TooLong = plain (codes "TooLong")
observation_words (obs_stop.Record fault) = record_words fault
observation_words (obs_stop.Range n fault) = codes "Range" ∷ decimal n ∷ range_text fault ∷ []
observation_words (obs_stop.Clock fault) = codes "Clock" ∷ clock_word_words fault

-- ---- publications

abbrev pub fit_words : FitFault → Words
fit_words fit.BadHold = plain (codes "BadHold")
-- the amount in nanoseconds, rounded up
fit_words (fit.OldFalls fall) =
    codes "OldFalls" ∷ decimal fall.join ∷ fixed_text 0 (ceiling_quotient fall.amount.num (nat_abs fall.amount.den * 10 ^ 9)) ∷ []
fit_words fit.BandEmpty = plain (codes "BandEmpty")
fit_words (fit.NoRate n barrier) = numbered (codes "NoRate") n
fit_words (fit.TimeFalls n) = numbered (codes "TimeFalls") n
fit_words fit.TooMany = plain (codes "TooMany")
fit_words fit.NoMemory = []

abbrev pub audit_words : AuditFault → Words
audit_words audit.Settings = plain (codes "Settings")
audit_words audit.Standing = plain (codes "Standing")
audit_words audit.Items = plain (codes "Items")
audit_words audit.Chain = plain (codes "Chain")
audit_words (audit.Table line) = numbered (codes "Table") line

abbrev pub excerpt_words : ExcerptFault → Words
excerpt_words excerpt.BadRange = plain (codes "BadRange")
excerpt_words excerpt.BeforeFirst = plain (codes "BeforeFirst")
excerpt_words excerpt.NoMemory = []

abbrev pub time_words : TimeStop → Words
time_words time_stop.Form = plain (codes "Form")
time_words (time_stop.Utc fault) = codes "Utc" ∷ utc_text fault ∷ []
time_words time_stop.Range = plain (codes "Range")
time_words time_stop.BeforeFirst = plain (codes "BeforeFirst")
time_words time_stop.PastEnd = plain (codes "PastEnd")

-- ---- the line

abbrev pub document_words : DocumentKind → Words
document_words document.Leap = plain (codes "Leap")
document_words document.Kernel = plain (codes "Kernel")
document_words document.New = plain (codes "New")
document_words (document.Over place) = numbered (codes "Over") place

abbrev pub file_words : FileKind → Words
file_words (file.Document kind) = document_words kind
file_words file.Observations = plain (codes "Observations")

abbrev pub status_words : Status → Words
status_words Done = []
status_words (WordsRefused fault) = words_words fault
status_words (LeapRefused stop) = leap_words stop
status_words (KernelRefused stop) = kernel_words stop
status_words (ObservationRefused stop) = observation_words stop
status_words (NotPublished fault) = fit_words fault
status_words (ReadFault kind) = file_words kind
status_words WriteFault = plain (codes "Write")
status_words NoMemory = plain (codes "Memory")
status_words (TimeRefused stop) = time_words stop
status_words (AuditNo fault) = audit_words fault
status_words (NewRefused stop) = kernel_words stop
status_words (ExcerptRefused fault) = excerpt_words fault
status_words (OverRefused place stop) = decimal place ∷ text_words stop

abbrev pub note_line : Status → List ℕ
note_line status = join_with_byte 59 (codes "refused" ∷ decimal (code_of status) ∷ status_words status) ++ 10 ∷ []

-- Want of memory has a status of its own, and no other status carries it.
abbrev pub CarriesNoMemory : Status → Type 0
CarriesNoMemory (LeapRefused (leap_stop.Grammar grammar.NoMemory)) = ⊥
CarriesNoMemory (LeapRefused (leap_stop.Pool pool.NoMemory)) = ⊥
CarriesNoMemory (LeapRefused (leap_stop.Leap leap.NoMemory)) = ⊥
CarriesNoMemory (KernelRefused (kernel_stop.Grammar grammar.NoMemory)) = ⊥
CarriesNoMemory (KernelRefused (kernel_stop.Pool pool.NoMemory)) = ⊥
CarriesNoMemory (KernelRefused (kernel_stop.Clock clock.NoMemory)) = ⊥
CarriesNoMemory (KernelRefused (kernel_stop.Triples triples.NoMemory)) = ⊥
CarriesNoMemory (ObservationRefused (obs_stop.Record obs.NoMemory)) = ⊥
CarriesNoMemory (NotPublished fit.NoMemory) = ⊥
CarriesNoMemory (NewRefused (kernel_stop.Grammar grammar.NoMemory)) = ⊥
CarriesNoMemory (NewRefused (kernel_stop.Pool pool.NoMemory)) = ⊥
CarriesNoMemory (NewRefused (kernel_stop.Clock clock.NoMemory)) = ⊥
CarriesNoMemory (NewRefused (kernel_stop.Triples triples.NoMemory)) = ⊥
CarriesNoMemory (ExcerptRefused excerpt.NoMemory) = ⊥
CarriesNoMemory (OverRefused place (text_stop.Grammar grammar.NoMemory)) = ⊥
CarriesNoMemory status = Unit {0}
