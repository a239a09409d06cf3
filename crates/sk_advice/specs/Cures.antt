-- The nearest cure of what is wrong.
use Rattle.std.specs.Prelude.{ℕ, List, [], codes}
use Rattle.sk_grammar.specs.declared.fault.Reason.{Reason}
use Rattle.sk_grammar.specs.declared.fault.Reason.TheVariants as reason
use Rattle.sk_grammar.specs.declared.fault.GrammarFault.{GrammarFault}
use Rattle.sk_grammar.specs.declared.fault.GrammarFault.TheVariants as grammar
use Rattle.sk_pool.specs.declared.pool.PoolFault.{PoolFault}
use Rattle.sk_pool.specs.declared.pool.PoolFault.TheVariants as pool
use Rattle.sk_status.specs.declared.status.TextStop.{TextStop}
use Rattle.sk_status.specs.declared.status.TextStop.TheVariants as text_stop
use Rattle.sk_leap.specs.declared.table.LeapName.{LeapName}
use Rattle.sk_leap.specs.declared.table.LeapName.TheVariants as leap_name
use Rattle.sk_leap.specs.declared.table.LeapFault.{LeapFault}
use Rattle.sk_leap.specs.declared.table.LeapFault.TheVariants as leap
use Rattle.sk_status.specs.declared.status.LeapStop.{LeapStop}
use Rattle.sk_status.specs.declared.status.LeapStop.TheVariants as leap_stop
use Rattle.sk_clock.specs.declared.fault.ClockName.{ClockName}
use Rattle.sk_clock.specs.declared.fault.ClockName.TheVariants as clock_name
use Rattle.sk_clock.specs.declared.fault.ClockKernelFault.{ClockKernelFault}
use Rattle.sk_clock.specs.declared.fault.ClockKernelFault.TheVariants as clock
use Rattle.sk_triples.specs.declared.triple.TriplesFault.{TriplesFault}
use Rattle.sk_triples.specs.declared.triple.TriplesFault.TheVariants as triples
use Rattle.sk_status.specs.declared.status.KernelStop.{KernelStop}
use Rattle.sk_status.specs.declared.status.KernelStop.TheVariants as kernel_stop
use Rattle.sk_clock.specs.declared.fault.ClockFault.{ClockFault}
use Rattle.sk_clock.specs.declared.fault.ClockFault.TheVariants as count
use Rattle.sk_cuc.specs.declared.fault.CucFault.{CucFault}
use Rattle.sk_cuc.specs.declared.fault.CucFault.TheVariants as cuc
use Rattle.sk_cds.specs.declared.fault.CdsFault.{CdsFault}
use Rattle.sk_cds.specs.declared.fault.CdsFault.TheVariants as cds
use Rattle.sk_obs.specs.declared.fault.ClockWord.{ClockWord}
use Rattle.sk_obs.specs.declared.fault.ClockWord.TheVariants as word
use Rattle.sk_obs.specs.declared.fault.CodeFault.{CodeFault}
use Rattle.sk_obs.specs.declared.fault.CodeFault.TheVariants as code
use Rattle.sk_leap.specs.declared.utc.UtcFault.{UtcFault}
use Rattle.sk_leap.specs.declared.utc.UtcFault.TheVariants as utc
use Rattle.sk_obs.specs.declared.fault.ObsFault.{ObsFault}
use Rattle.sk_obs.specs.declared.fault.ObsFault.TheVariants as obs
use Rattle.sk_triples.specs.declared.triple.RangeFault.{RangeFault}
use Rattle.sk_triples.specs.declared.triple.RangeFault.TheVariants as range
use Rattle.sk_status.specs.declared.status.ObsStop.{ObsStop}
use Rattle.sk_status.specs.declared.status.ObsStop.TheVariants as obs_stop
use Rattle.sk_fit.specs.declared.fault.FitFault.{FitFault}
use Rattle.sk_fit.specs.declared.fault.FitFault.TheVariants as fit
use Rattle.sk_advice.specs.Headers.{cure_of_header}
use Rattle.sk_audit.specs.declared.verdict.AuditFault.{AuditFault}
use Rattle.sk_audit.specs.declared.verdict.AuditFault.TheVariants as audit
use Rattle.sk_excerpt.specs.declared.fault.ExcerptFault.{ExcerptFault}
use Rattle.sk_excerpt.specs.declared.fault.ExcerptFault.TheVariants as excerpt
use Rattle.sk_status.specs.declared.status.TimeStop.{TimeStop}
use Rattle.sk_status.specs.declared.status.TimeStop.TheVariants as time_stop
use Rattle.sk_words.specs.declared.fault.WordsFault.{WordsFault}
use Rattle.sk_words.specs.declared.fault.WordsFault.TheVariants as words
use Rattle.sk_status.specs.declared.status.Status.{Status}
use Rattle.sk_status.specs.declared.status.Status.TheVariants as status

-- of a line that is no kernel text
abbrev pub cure_of_reason : Reason → List ℕ
cure_of_reason reason.DataLineTooLong = codes "Break it between two values."
cure_of_reason reason.TextLineTooLong = codes "Break it."
cure_of_reason reason.BadByte =
    codes "Look for an accented letter, a long dash or a curved quote that an editor put in."
cure_of_reason reason.BadName = codes "Mend the name. Has a value before it lost its brackets?"
cure_of_reason reason.NoAssign = codes "Write the name, the sign and the value on one line."
cure_of_reason reason.BadNumber =
    codes "A date begins with @, a text is in single quotes, and a number has no blank inside."
cure_of_reason reason.NumberTooWide = codes "Write it with fewer digits: nothing is rounded."
cure_of_reason reason.TextOpen = codes "Close it. A quote inside a text is written twice."
cure_of_reason reason.TextTooLong = codes "Split it into several."
cure_of_reason reason.BadDate = codes "Mend the date."
cure_of_reason reason.MixedKinds = codes "Make two variables of it."
cure_of_reason reason.BadComma = codes "Remove it, or put in the missing value."
cure_of_reason reason.EmptyVector = codes "Put a value in: a variable has at least one."
cure_of_reason reason.AfterValue = codes "Put several values in brackets, and each variable on a line of its own."
cure_of_reason reason.Unfinished = codes "Look for a missing ). A file that was cut off ends like this."

-- of a text that is no kernel
abbrev pub cure_of_grammar : GrammarFault → List ℕ
cure_of_grammar (grammar.At line why) = cure_of_reason why
cure_of_grammar grammar.NoMemory = codes "Free memory and run again."

-- of items that give no variables
abbrev pub cure_of_pool : PoolFault → List ℕ
cure_of_pool (pool.AppendMixed item) =
    codes "Mend the item, or set the variable again with =. Items are counted over all blocks."
cure_of_pool pool.NoMemory = codes "Free memory and run again."

-- of a kernel's text
abbrev pub cure_of_text : TextStop → List ℕ
cure_of_text text_stop.TooLong = codes "Is it a kernel? docs/DAILY.md tells how to trim the comments of one."
cure_of_text (text_stop.Grammar fault) = cure_of_grammar fault

-- of a missing variable of the leap seconds
abbrev pub cure_of_leap_name : LeapName → List ℕ
cure_of_leap_name leap_name.DeltaTA =
    codes "Is it a leap seconds kernel? Are the files of --leap and --kernel swapped?"
cure_of_leap_name leap_name.DeltaAT =
    codes "Is it a leap seconds kernel? Are the files of --leap and --kernel swapped?"

-- of leap seconds
abbrev pub cure_of_leap_fault : LeapFault → List ℕ
cure_of_leap_fault (leap.Missing name) = cure_of_leap_name name
cure_of_leap_fault leap.BadDeltaT = codes "Take the kernel from its producer again."
cure_of_leap_fault leap.BadPairs = codes "Look for a missing number, or for a date without its @."
cure_of_leap_fault (leap.DateForm pair) = codes "Write it as @2017-JAN-1."
cure_of_leap_fault (leap.DateOrder pair) = codes "Put the pairs in the order of their dates."
cure_of_leap_fault (leap.LeapStep pair) = codes "Each pair adds one second: is a pair missing?"
cure_of_leap_fault leap.NoMemory = codes "Free memory and run again."

-- of the leap seconds kernel
abbrev pub cure_of_leap : LeapStop → List ℕ
cure_of_leap leap_stop.TooLong = codes "Is it a leap seconds kernel? One has a few kilobytes."
cure_of_leap (leap_stop.Grammar fault) = cure_of_grammar fault
cure_of_leap (leap_stop.Pool fault) = cure_of_pool fault
cure_of_leap (leap_stop.Leap fault) = cure_of_leap_fault fault

-- of a missing variable of the clock
abbrev pub cure_of_clock_name : ClockName → List ℕ
cure_of_clock_name clock_name.DataType =
    codes "Is --sc the number at the end of SCLK01_MODULI_n in the file? Are two files swapped, or is it empty?"
cure_of_clock_name clock_name.Fields =
    codes "Is --sc the number at the end of SCLK01_MODULI_n in the file? Are two files swapped, or is it empty?"
cure_of_clock_name clock_name.Moduli =
    codes "Is --sc the number at the end of SCLK01_MODULI_n in the file? Are two files swapped, or is it empty?"
cure_of_clock_name clock_name.Offsets =
    codes "Is --sc the number at the end of SCLK01_MODULI_n in the file? Are two files swapped, or is it empty?"
cure_of_clock_name clock_name.Delim =
    codes "Is --sc the number at the end of SCLK01_MODULI_n in the file? Are two files swapped, or is it empty?"
cure_of_clock_name clock_name.Start =
    codes "Is --sc the number at the end of SCLK01_MODULI_n in the file? Are two files swapped, or is it empty?"
cure_of_clock_name clock_name.End =
    codes "Is --sc the number at the end of SCLK01_MODULI_n in the file? Are two files swapped, or is it empty?"

-- of the variables of the clock
abbrev pub cure_of_clock_kernel : ClockKernelFault → List ℕ
cure_of_clock_kernel (clock.Missing name) = cure_of_clock_name name
cure_of_clock_kernel clock.NotType1 = codes "Only clocks of type 1 are read."
cure_of_clock_kernel clock.Barycentric =
    codes "Ask for a kernel in terrestrial time, SCLK01_TIME_SYSTEM_n = 2; do not change the number by hand."
cure_of_clock_kernel clock.BadTimeSystem = codes "Take the kernel from its producer again."
cure_of_clock_kernel clock.BadFields = codes "Take the kernel from its producer again."
cure_of_clock_kernel clock.BadModuli =
    codes "Compare their count with SCLK01_N_FIELDS_n. All but the first have a product of at most 2^32."
cure_of_clock_kernel clock.BadOffsets = codes "Compare their count with SCLK01_N_FIELDS_n."
cure_of_clock_kernel clock.BadDelim = codes "1 is a period, 2 a colon, 3 a dash, 4 a comma, 5 a blank."
cure_of_clock_kernel clock.BadPartitions =
    codes "Compare SCLK_PARTITION_START_n with SCLK_PARTITION_END_n: equally many, no end below its start."
cure_of_clock_kernel clock.NoMemory = codes "Free memory and run again."

-- of the coefficients of the clock
abbrev pub cure_of_triples : TriplesFault → List ℕ
cure_of_triples triples.Missing = codes "Start from a kernel with at least one triple."
cure_of_triples triples.NotTriples = codes "Count the values: one may have been lost at the end of a line."
cure_of_triples (triples.TickRange n) =
    codes "The first number is an encoded tick, counted over all partitions, and no reading of the clock."
cure_of_triples (triples.TimeForm n) =
    codes "Years are 1600 to 2399, a month by number has two digits, and nothing follows, not even a Z."
cure_of_triples (triples.TimeRange n) =
    codes "The second value is in seconds past J2000, or a calendar time after @."
cure_of_triples (triples.RateRange n) = codes "The third number is in seconds a most significant count."
cure_of_triples (triples.OutOfOrder n) = codes "Put the triples in order; of two with the same tick leave one out."
cure_of_triples triples.TooMany = codes "Use a kernel with fewer triples, or split it by time."
cure_of_triples triples.NoMemory = codes "Free memory and run again."

-- of the clock kernel
abbrev pub cure_of_kernel : KernelStop → List ℕ
cure_of_kernel kernel_stop.TooLong =
    codes "Residual tables may fill it. They are comments: docs/DAILY.md tells how to trim them."
cure_of_kernel (kernel_stop.Grammar fault) = cure_of_grammar fault
cure_of_kernel (kernel_stop.Pool fault) = cure_of_pool fault
cure_of_kernel (kernel_stop.Clock fault) = cure_of_clock_kernel fault
cure_of_kernel (kernel_stop.Triples fault) = cure_of_triples fault

-- of the kernel of `--new`
abbrev pub cure_of_new : KernelStop → List ℕ
cure_of_new kernel_stop.TooLong = codes "Trim the comments of the old kernel, as docs/DAILY.md tells, and publish over it again."
cure_of_new (kernel_stop.Grammar fault) = cure_of_grammar fault
cure_of_new (kernel_stop.Pool fault) = cure_of_pool fault
cure_of_new (kernel_stop.Clock fault) = cure_of_clock_kernel fault
cure_of_new (kernel_stop.Triples fault) = cure_of_triples fault

-- of a clock reading
abbrev pub cure_of_count : ClockFault → List ℕ
cure_of_count count.BadText =
    codes "Is there a blank before the word, as after a comma? Write it as 1/0001742400.32768 or tick:NUMBER."
cure_of_count count.TooManyFields = codes "Is it a reading of another spacecraft?"
cure_of_count count.BelowOffset = codes "The field counts from its number in SCLK01_OFFSETS_n."
cure_of_count count.NoSuchPartition =
    codes "Partitions count from 1. Was the clock reset? docs/FILES.md tells how to declare it."
cure_of_count count.OutsidePartition =
    codes "Is it an encoded tick? Write tick:NUMBER: a bare number counts the first field, mostly seconds."
cure_of_count count.WrongShape =
    codes "SCLK01_OFFSETS_n must be 0; SCLK01_MODULI_n has one number, or with fraction octets a second: 256 to their count."

-- of a CUC code
abbrev pub cure_of_cuc : CucFault → List ℕ
cure_of_cuc cuc.Empty = codes "Write the code after its mark, P-field first."
cure_of_cuc cuc.NotCuc = codes "Is it a CDS code, or was it sent without its P-field? Put the P-field before it."
cure_of_cuc cuc.ThirdOctet = codes "A P-field has at most two bytes."
cure_of_cuc cuc.FractionWidth = codes "Up to six are taken."
cure_of_cuc cuc.Length = codes "Count the bytes: one may have been cut off."

-- of a CDS code
abbrev pub cure_of_cds : CdsFault → List ℕ
cure_of_cds cds.Empty = codes "Write the code after its mark, P-field first."
cure_of_cds cds.NotCds = codes "Is it a CUC code, or was it sent without its P-field? Put the P-field before it."
cure_of_cds cds.Extension = codes "A CDS code has a P-field of one byte."
cure_of_cds cds.AgencyEpoch = codes "Give the time as UTC, as a number, or as a CUC code from 1958."
cure_of_cds cds.Reserved = codes "The width is none, 16 bits or 32 bits."
cure_of_cds cds.Length = codes "Count the bytes: one may have been cut off."
cure_of_cds cds.SubRange =
    codes "They count within a millisecond: below 1000 microseconds, or below 10^9 picoseconds."

-- of a clock word
abbrev pub cure_of_clock_word : ClockWord → List ℕ
cure_of_clock_word (word.Text fault) = cure_of_count fault
cure_of_clock_word word.Hex = codes "Write two hex digits a byte, without blanks and without 0x."
cure_of_clock_word (word.Cuc fault) = cure_of_cuc fault

-- of a time code
abbrev pub cure_of_code : CodeFault → List ℕ
cure_of_code code.Hex = codes "Write two hex digits a byte, without blanks and without 0x."
cure_of_code (code.Cuc fault) = cure_of_cuc fault
cure_of_code (code.Cds fault) = cure_of_cds fault
cure_of_code code.CucAgencyEpoch = codes "Give the time as UTC, as a number, or as a CUC code from 1958."

-- of a UTC
abbrev pub cure_of_utc : UtcFault → List ℕ
cure_of_utc utc.BeforeTable = codes "Is the year right? Times before that date are given as tdt:SECONDS."
cure_of_utc utc.NotInDay = codes "Second 60 ends only a day before a leap second: is the leap seconds kernel too old?"
cure_of_utc utc.PastRange = codes "Is the year right?"

-- of observations
abbrev pub cure_of_record : ObsFault → List ℕ
cure_of_record (obs.Header cause) = cure_of_header cause
cure_of_record (obs.FieldCount n) = codes "Count the commas. Put a field that holds a comma in double quotes."
cure_of_record (obs.BadId n) =
    codes "It is 1 to 32 printable ASCII bytes, without blank, double quote, comma, semicolon and backslash."
cure_of_record (obs.ClockRefused n fault) = cure_of_clock_word fault
cure_of_record (obs.TimeForm n) =
    codes "Begin with the mark, as utc:, and no blank before it. UTC has a T between date and time,"
cure_of_record (obs.CodeRefused n fault) = cure_of_code fault
cure_of_record (obs.UtcRefused n fault) = cure_of_utc fault
cure_of_record (obs.BadDelay n) = codes "It is in nanoseconds, without sign and point: 1250700000 for 1.2507 s."
cure_of_record (obs.TimeRange n) = codes "Is the number after tdt: in seconds past J2000?"
cure_of_record (obs.OutOfOrder n) =
    codes "Sort the records by tick, and of two with the same tick leave one out. After a reset write 2/.."
cure_of_record obs.TooMany = codes "Split the file, and repeat the header."
cure_of_record obs.NoMemory = codes "Free memory and run again."

-- of a tick without a time
abbrev pub cure_of_range : RangeFault → List ℕ
cure_of_range range.BeforeFirst = codes "Use a kernel that begins earlier."
cure_of_range range.PastPartitions = codes "Use a kernel whose partitions reach further."

-- of observations and clock words
abbrev pub cure_of_observation : ObsStop → List ℕ
cure_of_observation obs_stop.TooLong = codes "Split it between two records, and repeat the header."
cure_of_observation (obs_stop.Record fault) = cure_of_record fault
cure_of_observation (obs_stop.Range n fault) = cure_of_range fault
cure_of_observation (obs_stop.Clock fault) = cure_of_clock_word fault

-- of a publication
abbrev pub cure_of_fit : FitFault → List ℕ
cure_of_fit fit.BadHold =
    codes "Leave --hold out, or hold at or after the last triple. docs/DAILY.md tells how to redo earlier ones."
cure_of_fit (fit.OldFalls fall) = codes "Is the kernel wrong there? To accept the fall, give a greater --slip-ns."
cure_of_fit fit.BandEmpty = codes "Give more decimals, or a wider band."
cure_of_fit (fit.NoRate n barrier) =
    codes "Is its time or its delay wrong, or another record's? If all are right, widen --tol-ns or --band-ppm."
cure_of_fit (fit.TimeFalls n) =
    codes "Does SCLK_PARTITION_END_n end the partition before later than its last reading? Put the end earlier."
cure_of_fit fit.TooMany = codes "Widen --tol-ns, or start from a kernel without its oldest triples."
cure_of_fit fit.NoMemory = codes "Free memory and run again."

-- of an audit
abbrev pub cure_of_audit : AuditFault → List ℕ
cure_of_audit audit.Settings = codes "Give the options and the observations with which the new kernel was published."
cure_of_audit audit.Standing = codes "Give as --kernel the one that it was published over. Was one of them changed by hand?"
cure_of_audit audit.Items = codes "A publication has a kernel ID at most, and then numbers of triples. Was it changed by hand?"
cure_of_audit audit.Chain = codes "Give the options and the observations with which it was published."
cure_of_audit (audit.Table line) = codes "Give the options and the observations with which it was published."

-- of an excerpt
abbrev pub cure_of_excerpt : ExcerptFault → List ℕ
cure_of_excerpt excerpt.BadRange = codes "--from is at most --to, and both are encoded ticks of the clock."
cure_of_excerpt excerpt.BeforeFirst = codes "Begin at the first triple, or use a kernel that begins earlier."
cure_of_excerpt excerpt.NoMemory = codes "Free memory and run again."

-- of the time word
abbrev pub cure_of_time : TimeStop → List ℕ
cure_of_time time_stop.Form =
    codes "Begin with the mark, tdt: or utc:. UTC has T between date and time, no offset, at most 12 decimals."
cure_of_time (time_stop.Utc fault) = cure_of_utc fault
cure_of_time time_stop.Range = codes "Is it in seconds past J2000?"
cure_of_time time_stop.BeforeFirst = codes "Use a kernel that begins earlier."
cure_of_time time_stop.PastEnd = codes "Use a kernel whose partitions reach further."

-- of the words
abbrev pub cure_of_words : WordsFault → List ℕ
cure_of_words words.NotTaken = codes "Write each option as one word, --NAME=VALUE."
cure_of_words words.UnknownCommand = codes "A command is written in small letters and in full:"
cure_of_words (words.NeedOption name) = []
cure_of_words (words.OutOfRange name) = []

-- of a run
abbrev pub cure_of : Status → List ℕ
cure_of status.Done = []
cure_of (status.WordsRefused fault) = cure_of_words fault
cure_of (status.LeapRefused stop) = cure_of_leap stop
cure_of (status.KernelRefused stop) = cure_of_kernel stop
cure_of (status.ObservationRefused stop) = cure_of_observation stop
cure_of (status.NotPublished fault) = cure_of_fit fault
cure_of (status.ReadFault kind) = codes "Does it exist, may you read it, and is it a file (no folder, and not -)?"
cure_of status.WriteFault = codes "What was written is only its beginning: do not use it. Make room and run again."
cure_of status.NoMemory = codes "Free memory and run again."
cure_of (status.TimeRefused stop) = cure_of_time stop
cure_of (status.AuditNo fault) = cure_of_audit fault
cure_of (status.NewRefused stop) = cure_of_new stop
cure_of (status.ExcerptRefused fault) = cure_of_excerpt fault
cure_of (status.OverRefused place stop) = cure_of_text stop
