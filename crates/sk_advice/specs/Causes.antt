-- What is wrong, in words.
use Rattle.std.specs.Prelude.{ℕ, List, [], codes}
use Rattle.sk_grammar.specs.declared.fault.Reason.{Reason}
use Rattle.sk_grammar.specs.declared.fault.Reason.TheVariants as reason
use Rattle.sk_grammar.specs.declared.fault.GrammarFault.{GrammarFault}
use Rattle.sk_grammar.specs.declared.fault.GrammarFault.TheVariants as grammar
use Rattle.sk_pool.specs.declared.pool.PoolFault.{PoolFault}
use Rattle.sk_pool.specs.declared.pool.PoolFault.TheVariants as pool
use Rattle.sk_status.specs.declared.status.TextStop.{TextStop}
use Rattle.sk_status.specs.declared.status.TextStop.TheVariants as text_stop
use Rattle.sk_leap.specs.declared.table.LeapName.{LeapName}
use Rattle.sk_leap.specs.declared.table.LeapName.TheVariants as leap_name
use Rattle.sk_leap.specs.declared.table.LeapFault.{LeapFault}
use Rattle.sk_leap.specs.declared.table.LeapFault.TheVariants as leap
use Rattle.sk_status.specs.declared.status.LeapStop.{LeapStop}
use Rattle.sk_status.specs.declared.status.LeapStop.TheVariants as leap_stop
use Rattle.sk_clock.specs.declared.fault.ClockName.{ClockName}
use Rattle.sk_clock.specs.declared.fault.ClockName.TheVariants as clock_name
use Rattle.sk_clock.specs.declared.fault.ClockKernelFault.{ClockKernelFault}
use Rattle.sk_clock.specs.declared.fault.ClockKernelFault.TheVariants as clock
use Rattle.sk_triples.specs.declared.triple.TriplesFault.{TriplesFault}
use Rattle.sk_triples.specs.declared.triple.TriplesFault.TheVariants as triples
use Rattle.sk_status.specs.declared.status.KernelStop.{KernelStop}
use Rattle.sk_status.specs.declared.status.KernelStop.TheVariants as kernel_stop
use Rattle.sk_clock.specs.declared.fault.ClockFault.{ClockFault}
use Rattle.sk_clock.specs.declared.fault.ClockFault.TheVariants as count
use Rattle.sk_cuc.specs.declared.fault.CucFault.{CucFault}
use Rattle.sk_cuc.specs.declared.fault.CucFault.TheVariants as cuc
use Rattle.sk_cds.specs.declared.fault.CdsFault.{CdsFault}
use Rattle.sk_cds.specs.declared.fault.CdsFault.TheVariants as cds
use Rattle.sk_obs.specs.declared.fault.ClockWord.{ClockWord}
use Rattle.sk_obs.specs.declared.fault.ClockWord.TheVariants as word
use Rattle.sk_obs.specs.declared.fault.CodeFault.{CodeFault}
use Rattle.sk_obs.specs.declared.fault.CodeFault.TheVariants as code
use Rattle.sk_leap.specs.declared.utc.UtcFault.{UtcFault}
use Rattle.sk_leap.specs.declared.utc.UtcFault.TheVariants as utc
use Rattle.sk_obs.specs.declared.fault.ObsFault.{ObsFault}
use Rattle.sk_obs.specs.declared.fault.ObsFault.TheVariants as obs
use Rattle.sk_triples.specs.declared.triple.RangeFault.{RangeFault}
use Rattle.sk_triples.specs.declared.triple.RangeFault.TheVariants as range
use Rattle.sk_status.specs.declared.status.ObsStop.{ObsStop}
use Rattle.sk_status.specs.declared.status.ObsStop.TheVariants as obs_stop
use Rattle.sk_fit.specs.declared.fault.FitFault.{FitFault}
use Rattle.sk_fit.specs.declared.fault.FitFault.TheVariants as fit
use Rattle.sk_advice.specs.Headers.{cause_of_header}
use Rattle.sk_audit.specs.declared.verdict.AuditFault.{AuditFault}
use Rattle.sk_audit.specs.declared.verdict.AuditFault.TheVariants as audit
use Rattle.sk_excerpt.specs.declared.fault.ExcerptFault.{ExcerptFault}
use Rattle.sk_excerpt.specs.declared.fault.ExcerptFault.TheVariants as excerpt
use Rattle.sk_status.specs.declared.status.TimeStop.{TimeStop}
use Rattle.sk_status.specs.declared.status.TimeStop.TheVariants as time_stop
use Rattle.sk_words.specs.declared.fault.WordsFault.{WordsFault}
use Rattle.sk_words.specs.declared.fault.WordsFault.TheVariants as words
use Rattle.sk_status.specs.declared.status.Status.{Status}
use Rattle.sk_status.specs.declared.status.Status.TheVariants as status

-- of a line that is no kernel text
abbrev pub cause_of_reason : Reason → List ℕ
cause_of_reason reason.DataLineTooLong = codes "a data line has more than 132 bytes."
cause_of_reason reason.TextLineTooLong = codes "a text line has more than 4,096 bytes."
cause_of_reason reason.BadByte = codes "a data line holds a byte that is neither a tab nor printable ASCII."
cause_of_reason reason.BadName =
    codes "a variable's name is due here, and there is none, or one of more than 32 bytes."
cause_of_reason reason.NoAssign = codes "the name is not followed by = or += on the same line."
cause_of_reason reason.BadNumber = codes "a value is due here, and this is neither a number nor a date nor a text."
cause_of_reason reason.NumberTooWide = codes "a number has more digits than 128 bits and 38 decimals hold."
cause_of_reason reason.TextOpen = codes "a text has no closing quote on its line."
cause_of_reason reason.TextTooLong = codes "a text has more than 80 bytes."
cause_of_reason reason.BadDate = codes "a date is @ alone, or has more than 80 bytes."
cause_of_reason reason.MixedKinds = codes "a vector holds texts together with numbers or dates."
cause_of_reason reason.BadComma =
    codes "a comma stands before the first value, after the last one or after another comma."
cause_of_reason reason.EmptyVector = codes "there is nothing between ( and )."
cause_of_reason reason.AfterValue = codes "something else follows a value or ) on the same line."
cause_of_reason reason.Unfinished = codes "a marker or the end of the file comes where a value or ) is due."

-- of a text that is no kernel
abbrev pub cause_of_grammar : GrammarFault → List ℕ
cause_of_grammar (grammar.At line why) = cause_of_reason why
cause_of_grammar grammar.NoMemory = codes "memory ran out."

-- of items that give no variables
abbrev pub cause_of_pool : PoolFault → List ℕ
cause_of_pool (pool.AppendMixed item) = codes "+= adds texts to numbers or dates, or these to texts."
cause_of_pool pool.NoMemory = codes "memory ran out."

-- of a kernel's text
abbrev pub cause_of_text : TextStop → List ℕ
cause_of_text text_stop.TooLong = codes "the file has more than 16,777,216 bytes."
cause_of_text (text_stop.Grammar fault) = cause_of_grammar fault

-- of a missing variable of the leap seconds
abbrev pub cause_of_leap_name : LeapName → List ℕ
cause_of_leap_name leap_name.DeltaTA = codes "the variable DELTET/DELTA_T_A is missing."
cause_of_leap_name leap_name.DeltaAT = codes "the variable DELTET/DELTA_AT is missing."

-- of leap seconds
abbrev pub cause_of_leap_fault : LeapFault → List ℕ
cause_of_leap_fault (leap.Missing name) = cause_of_leap_name name
cause_of_leap_fault leap.BadDeltaT = codes "DELTET/DELTA_T_A is not 32.184."
cause_of_leap_fault leap.BadPairs = codes "DELTET/DELTA_AT is not pairs of a whole number from 0 to 1000 and a date."
cause_of_leap_fault (leap.DateForm pair) =
    codes "the date is not of the form @YYYY-MON-DD, or is no day of 1958 to 2199."
cause_of_leap_fault (leap.DateOrder pair) = codes "the date is not after that of the pair before it."
cause_of_leap_fault (leap.LeapStep pair) = codes "the number is not one more than that of the pair before it."
cause_of_leap_fault leap.NoMemory = codes "memory ran out."

-- of the leap seconds kernel
abbrev pub cause_of_leap : LeapStop → List ℕ
cause_of_leap leap_stop.TooLong = codes "the file has more than 16,777,216 bytes."
cause_of_leap (leap_stop.Grammar fault) = cause_of_grammar fault
cause_of_leap (leap_stop.Pool fault) = cause_of_pool fault
cause_of_leap (leap_stop.Leap fault) = cause_of_leap_fault fault

-- of a missing variable of the clock
abbrev pub cause_of_clock_name : ClockName → List ℕ
cause_of_clock_name clock_name.DataType = codes "the file has no SCLK_DATA_TYPE_n, where n is the number of --sc."
cause_of_clock_name clock_name.Fields = codes "the file has no SCLK01_N_FIELDS_n, where n is the number of --sc."
cause_of_clock_name clock_name.Moduli = codes "the file has no SCLK01_MODULI_n, where n is the number of --sc."
cause_of_clock_name clock_name.Offsets = codes "the file has no SCLK01_OFFSETS_n, where n is the number of --sc."
cause_of_clock_name clock_name.Delim = codes "the file has no SCLK01_OUTPUT_DELIM_n, where n is the number of --sc."
cause_of_clock_name clock_name.Start = codes "the file has no SCLK_PARTITION_START_n, where n is the number of --sc."
cause_of_clock_name clock_name.End = codes "the file has no SCLK_PARTITION_END_n, where n is the number of --sc."

-- of the variables of the clock
abbrev pub cause_of_clock_kernel : ClockKernelFault → List ℕ
cause_of_clock_kernel (clock.Missing name) = cause_of_clock_name name
cause_of_clock_kernel clock.NotType1 = codes "SCLK_DATA_TYPE_n is not 1."
cause_of_clock_kernel clock.Barycentric =
    codes "its coefficients are in barycentric time (time system 1, or none is given)."
cause_of_clock_kernel clock.BadTimeSystem = codes "SCLK01_TIME_SYSTEM_n is neither the number 1 nor the number 2."
cause_of_clock_kernel clock.BadFields = codes "SCLK01_N_FIELDS_n is not one whole number from 1 to 10."
cause_of_clock_kernel clock.BadModuli =
    codes "SCLK01_MODULI_n is not a whole number for each field, or one is out of range."
cause_of_clock_kernel clock.BadOffsets =
    codes "SCLK01_OFFSETS_n is not a whole number of at most 2^32 for each field."
cause_of_clock_kernel clock.BadDelim = codes "SCLK01_OUTPUT_DELIM_n is not one whole number from 1 to 5."
cause_of_clock_kernel clock.BadPartitions =
    codes "the starts and ends of the partitions do not match, or one is out of range."
cause_of_clock_kernel clock.NoMemory = codes "memory ran out."

-- of the coefficients of the clock
abbrev pub cause_of_triples : TriplesFault → List ℕ
cause_of_triples triples.Missing = codes "SCLK01_COEFFICIENTS_n is missing: the kernel gives the clock no times."
cause_of_triples triples.NotTriples =
    codes "the coefficients are not triples of a number, a number or a date, and a number."
cause_of_triples (triples.TickRange n) = codes "its tick is not a whole number, or is past the last partition."
cause_of_triples (triples.TimeForm n) = codes "its time begins with @ and is no calendar time."
cause_of_triples (triples.TimeRange n) =
    codes "its time has more than 18 decimals, or is more than 10^10 s from J2000."
cause_of_triples (triples.RateRange n) =
    codes "its rate has more than 18 decimals, or is not above 0 and at most 1000."
cause_of_triples (triples.OutOfOrder n) = codes "its tick or its time is not above that of the triple before it."
cause_of_triples triples.TooMany = codes "there are more than 50,000 triples."
cause_of_triples triples.NoMemory = codes "memory ran out."

-- of the clock kernel
abbrev pub cause_of_kernel : KernelStop → List ℕ
cause_of_kernel kernel_stop.TooLong = codes "the file has more than 16,777,216 bytes."
cause_of_kernel (kernel_stop.Grammar fault) = cause_of_grammar fault
cause_of_kernel (kernel_stop.Pool fault) = cause_of_pool fault
cause_of_kernel (kernel_stop.Clock fault) = cause_of_clock_kernel fault
cause_of_kernel (kernel_stop.Triples fault) = cause_of_triples fault

-- of a clock reading
abbrev pub cause_of_count : ClockFault → List ℕ
cause_of_count count.BadText = codes "the clock word is no clock string, or what follows tick: is not 1 to 16 digits."
cause_of_count count.TooManyFields = codes "the clock word has more fields than the clock."
cause_of_count count.BelowOffset = codes "a field of the clock word is below its offset."
cause_of_count count.NoSuchPartition = codes "the clock has no partition of this number."
cause_of_count count.OutsidePartition = codes "the reading is outside its partition, or in none."
cause_of_count count.WrongShape = codes "the code does not fit the fields of the clock."

-- of a CUC code
abbrev pub cause_of_cuc : CucFault → List ℕ
cause_of_cuc cuc.Empty = codes "the code has no bytes."
cause_of_cuc cuc.NotCuc = codes "the first byte is not the P-field of a CUC code."
cause_of_cuc cuc.ThirdOctet = codes "the P-field announces a third byte."
cause_of_cuc cuc.FractionWidth = codes "the P-field announces more than six fraction octets."
cause_of_cuc cuc.Length = codes "the code is longer or shorter than its P-field says."

-- of a CDS code
abbrev pub cause_of_cds : CdsFault → List ℕ
cause_of_cds cds.Empty = codes "the code has no bytes."
cause_of_cds cds.NotCds = codes "the first byte is not the P-field of a CDS code."
cause_of_cds cds.Extension = codes "the P-field is extended."
cause_of_cds cds.AgencyEpoch = codes "the code counts from an epoch of the agency's own, which is not known here."
cause_of_cds cds.Reserved = codes "the width of the submilliseconds is the reserved one."
cause_of_cds cds.Length = codes "the code is longer or shorter than its P-field says."
cause_of_cds cds.SubRange = codes "the submilliseconds are a millisecond or more."

-- of a clock word
abbrev pub cause_of_clock_word : ClockWord → List ℕ
cause_of_clock_word (word.Text fault) = cause_of_count fault
cause_of_clock_word word.Hex = codes "what follows cuc: in the clock word is not hex digits of whole bytes."
cause_of_clock_word (word.Cuc fault) = cause_of_cuc fault

-- of a time code
abbrev pub cause_of_code : CodeFault → List ℕ
cause_of_code code.Hex = codes "what follows cuc: or cds: in the time word is not hex digits of whole bytes."
cause_of_code (code.Cuc fault) = cause_of_cuc fault
cause_of_code (code.Cds fault) = cause_of_cds fault
cause_of_code code.CucAgencyEpoch =
    codes "the code counts from an epoch of the agency's own, which is not known here."

-- of a UTC
abbrev pub cause_of_utc : UtcFault → List ℕ
cause_of_utc utc.BeforeTable =
    codes "the UTC is before the first date of the leap seconds kernel, which is 1972 in NAIF's."
cause_of_utc utc.NotInDay = codes "its day has no such second."
cause_of_utc utc.PastRange = codes "the time is past 9*10^9 s from J2000."

-- of observations
abbrev pub cause_of_record : ObsFault → List ℕ
cause_of_record (obs.Header cause) = cause_of_header cause
cause_of_record (obs.FieldCount n) = codes "the record has not four fields."
cause_of_record (obs.BadId n) =
    codes "the id is empty, has more than 32 bytes, or holds a byte that an id may not have."
cause_of_record (obs.ClockRefused n fault) = cause_of_clock_word fault
cause_of_record (obs.TimeForm n) =
    codes "the time word is not tdt:SECONDS, utc:YYYY-MM-DDThh:mm:ss, cuc:HEX or cds:HEX."
cause_of_record (obs.CodeRefused n fault) = cause_of_code fault
cause_of_record (obs.UtcRefused n fault) = cause_of_utc fault
cause_of_record (obs.BadDelay n) = codes "the delay is not a whole number from 0 to 10^14."
cause_of_record (obs.TimeRange n) = codes "the observed time, less the delay, is more than 9*10^9 s from J2000."
cause_of_record (obs.OutOfOrder n) = codes "its tick is not above that of the record before it."
cause_of_record obs.TooMany = codes "there are more than 100,000 observations."
cause_of_record obs.NoMemory = codes "memory ran out."

-- of a tick without a time
abbrev pub cause_of_range : RangeFault → List ℕ
cause_of_range range.BeforeFirst = codes "the tick is before the first triple of the kernel, so it has no time."
cause_of_range range.PastPartitions = codes "the tick is past the last partition of the clock."

-- of observations and clock words
abbrev pub cause_of_observation : ObsStop → List ℕ
cause_of_observation obs_stop.TooLong = codes "the file has more than 16,777,216 bytes."
cause_of_observation (obs_stop.Record fault) = cause_of_record fault
cause_of_observation (obs_stop.Range n fault) = cause_of_range fault
cause_of_observation (obs_stop.Clock fault) = cause_of_clock_word fault

-- of a publication
abbrev pub cause_of_fit : FitFault → List ℕ
cause_of_fit fit.BadHold = codes "the tick is before the last triple of the kernel, or not in its partition."
cause_of_fit (fit.OldFalls fall) = codes "where the next triple begins, time falls by more than --slip-ns."
cause_of_fit fit.BandEmpty = codes "no rate with so many --rate-decimals lies within --band-ppm of the kernel's last rate."
cause_of_fit (fit.NoRate n barrier) = codes "no allowed rate meets this record from where the line before it was left."
cause_of_fit (fit.TimeFalls n) = codes "it begins a partition, more than --tol-ns before the time that the kernel gives there."
cause_of_fit fit.TooMany = codes "old and new triples together are more than 50,000."
cause_of_fit fit.NoMemory = codes "memory ran out."

-- of an audit
abbrev pub cause_of_audit : AuditFault → List ℕ
cause_of_audit audit.Settings = codes "the hold, the slip or the band allow no publication, or a record is before the first triple."
cause_of_audit audit.Standing = codes "the new kernel is not the old one with exactly one block more."
cause_of_audit audit.Items = codes "the new block has other items than a publication has."
cause_of_audit audit.Chain = codes "the new triples are not those of a publication."
cause_of_audit (audit.Table line) = codes "this line of the table is not the publication's, or it is missing there or here."

-- of an excerpt
abbrev pub cause_of_excerpt : ExcerptFault → List ℕ
cause_of_excerpt excerpt.BadRange = codes "--from and --to are no range of the clock's ticks."
cause_of_excerpt excerpt.BeforeFirst = codes "it is before the first triple of the kernel."
cause_of_excerpt excerpt.NoMemory = codes "memory ran out."

-- of the time word
abbrev pub cause_of_time : TimeStop → List ℕ
cause_of_time time_stop.Form = codes "the time is neither tdt:SECONDS nor utc:YYYY-MM-DDThh:mm:ss."
cause_of_time (time_stop.Utc fault) = cause_of_utc fault
cause_of_time time_stop.Range = codes "the time is more than 9*10^9 s from J2000."
cause_of_time time_stop.BeforeFirst = codes "the time is before that of the kernel's first triple."
cause_of_time time_stop.PastEnd = codes "the time is later than that of the last tick of the clock's last partition."

-- of the words
abbrev pub cause_of_words : WordsFault → List ℕ
cause_of_words words.NotTaken = codes "the words are not a command line."
cause_of_words words.UnknownCommand = codes "there is no such command."
cause_of_words (words.NeedOption name) = codes "the command needs this option:"
cause_of_words (words.OutOfRange name) = codes "this is not in the range of the option:"

-- of a run
abbrev pub cause_of : Status → List ℕ
cause_of status.Done = []
cause_of (status.WordsRefused fault) = cause_of_words fault
cause_of (status.LeapRefused stop) = cause_of_leap stop
cause_of (status.KernelRefused stop) = cause_of_kernel stop
cause_of (status.ObservationRefused stop) = cause_of_observation stop
cause_of (status.NotPublished fault) = cause_of_fit fault
cause_of (status.ReadFault kind) = codes "the file cannot be opened or read."
cause_of status.WriteFault =
    codes "standard output could not take all of the answer: the disk is full, or a pipe was closed."
cause_of status.NoMemory = codes "memory ran out. This says nothing of the files."
cause_of (status.TimeRefused stop) = cause_of_time stop
cause_of (status.AuditNo fault) = cause_of_audit fault
cause_of (status.NewRefused stop) = cause_of_kernel stop
cause_of (status.ExcerptRefused fault) = cause_of_excerpt fault
cause_of (status.OverRefused place stop) = cause_of_text stop
