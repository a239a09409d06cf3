-- What follows the line of a refusal.
use Rattle.std.specs.Prelude.{ℕ, ℤ, Bool, true, false, ◌&&◌, List, [], ◌∷◌, ◌++◌, codes, decimal, Option, Some, None, is_none, if◌then◌else◌}
use Rattle.std.specs.List.{flat_map}
use Rattle.clap.specs.Words.{Row}
use Rattle.sk_words.specs.Words.{option_text}
use Rattle.sk_words.specs.Request.{name_of, word_of, all_commands, numbers_of}
use Rattle.sk_words.specs.Help.{about, given_as}
use Rattle.sk_words.specs.declared.limits.Numbers.{Numbers}
use Rattle.sk_words.specs.declared.tables.OptionName.{OptionName}
use Rattle.sk_words.specs.declared.tables.OptionName.TheVariants as opt
use Rattle.sk_words.specs.declared.fault.WordsFault.{WordsFault}
use Rattle.sk_words.specs.declared.fault.WordsFault.TheVariants.{NotTaken, UnknownCommand, NeedOption, OutOfRange}
use Rattle.sk_leap.specs.declared.utc.UtcFault.{UtcFault}
use Rattle.sk_leap.specs.declared.utc.UtcFault.TheVariants.{BeforeTable, NotInDay, PastRange}
use Rattle.sk_obs.specs.declared.fault.ObsFault.{ObsFault}
use Rattle.sk_obs.specs.declared.fault.ObsFault.TheVariants as obs
use Rattle.sk_fit.specs.declared.fault.Miss.{Miss}
use Rattle.sk_fit.specs.declared.fault.Barrier.{Barrier}
use Rattle.sk_fit.specs.declared.fault.Barrier.TheVariants.{OldLine, Pair}
use Rattle.sk_fit.specs.declared.fault.FitFault.{FitFault}
use Rattle.sk_fit.specs.declared.fault.FitFault.TheVariants as fit
use Rattle.sk_status.specs.declared.status.ObsStop.{ObsStop}
use Rattle.sk_status.specs.declared.status.ObsStop.TheVariants as obs_stop
use Rattle.sk_status.specs.declared.status.TimeStop.{TimeStop}
use Rattle.sk_status.specs.declared.status.TimeStop.TheVariants as time_stop
use Rattle.sk_status.specs.declared.status.Status.{Status}
use Rattle.sk_status.specs.declared.status.Status.TheVariants as status
use Rattle.sk_advice.specs.declared.subject.Place.{Place}
use Rattle.sk_advice.specs.declared.subject.Place.TheVariants as place
use Rattle.sk_advice.specs.declared.subject.Subject.{Subject}
use Rattle.sk_advice.specs.declared.subject.Subject.TheVariants as subject
use Rattle.sk_advice.specs.Sentences.{sentences}
use Rattle.sk_advice.specs.Distances.{away, distance_text}
use Rattle.sk_advice.specs.Causes.{cause_of}
use Rattle.sk_advice.specs.Cures.{cure_of}
use Rattle.sk_advice.specs.Subjects.{counted, subject_of, subject_text}

-- clap does not take the words
abbrev pub words_not_taken : WordsFault → Bool
words_not_taken NotTaken = true
words_not_taken _ = false

abbrev pub is_not_taken : Status → Bool
is_not_taken (status.WordsRefused fault) = words_not_taken fault
is_not_taken _ = false

-- ---- a UTC before the leap seconds, where there are none

abbrev pub is_before_table : UtcFault → Bool
is_before_table BeforeTable = true
is_before_table NotInDay = false
is_before_table PastRange = false

abbrev pub record_is_before : ObsFault → Bool
record_is_before (obs.UtcRefused number fault) = is_before_table fault
record_is_before _ = false

abbrev pub observation_is_before : ObsStop → Bool
observation_is_before (obs_stop.Record fault) = record_is_before fault
observation_is_before _ = false

abbrev pub time_is_before : TimeStop → Bool
time_is_before (time_stop.Utc fault) = is_before_table fault
time_is_before _ = false

abbrev pub is_before : Status → Bool
is_before (status.ObservationRefused stop) = observation_is_before stop
is_before (status.TimeRefused stop) = time_is_before stop
is_before _ = false

-- the status is that of a UTC, and no leap seconds kernel was given
abbrev pub lacks_leap : List Row → Status → Bool
lacks_leap rows ended = is_before ended && is_none (option_text (name_of opt.Leap) rows)

abbrev pub cause_in : List Row → Status → List ℕ
cause_in rows ended = if lacks_leap rows ended then codes "no --leap was given, and without leap seconds no UTC and no CDS code has a time." else cause_of ended

abbrev pub cure_in : List Row → Status → List ℕ
cure_in rows ended = if lacks_leap rows ended then codes "Give --leap=FILE, a leap seconds kernel, as NAIF's naif0012.tls." else cure_of ended

-- ---- further lines

abbrev pub commands_text : List ℕ
commands_text = codes "the commands are" ++ flat_map (λ command. 32 ∷ word_of command) all_commands

abbrev pub option_line : OptionName → List ℕ
option_line name = given_as name ++ (codes ": " ++ about name)

abbrev pub numbers_line : ℕ → ℕ → List ℕ
numbers_line least greatest = codes "a whole number from " ++ (decimal least ++ (codes " to " ++ (decimal greatest
    ++ codes ", in digits alone, as 1000000: no point, exponent, _ or blank.")))

-- the range of an option
abbrev pub range_line : OptionName → Option Numbers → List ℕ
range_line name None = option_line name
range_line name (Some numbers) = numbers_line numbers.least numbers.greatest

abbrev pub further_of_words : WordsFault → List ℕ
further_of_words NotTaken = []
further_of_words UnknownCommand = commands_text
further_of_words (NeedOption name) = option_line name
further_of_words (OutOfRange name) = range_line name (numbers_of name)

abbrev pub further_of_record : ObsFault → List ℕ
further_of_record (obs.TimeForm number) = codes "no offset as +00:00, at most 12 decimals, and a day that its month has."
further_of_record _ = []

abbrev pub further_of_observation : ObsStop → List ℕ
further_of_observation (obs_stop.Record fault) = further_of_record fault
further_of_observation _ = []

-- the records of a pair, and how far each lies from the line
abbrev pub pair_line : Miss → Miss → List ℕ
pair_line low high =
    counted (codes "Each allowed rate is too small at record ") low.number ++ (away low.distance.units (codes "the line")
    ++ (counted (codes " or too large at record ") high.number ++ (away high.distance.units (codes "it") ++ codes ".")))

-- the record of the refusal, by the line of the kernel's last triple
abbrev pub old_line : ℤ → List ℕ
old_line units = codes "The line of the kernel's last triple misses it too: the record lies " ++ (distance_text units ++ codes "that line.")

-- why the line before a record could not go on to it
abbrev pub barrier_line : Barrier → List ℕ
barrier_line (OldLine distance) = old_line distance.units
barrier_line (Pair low high) = pair_line low high

abbrev pub further_of_fit : FitFault → List ℕ
further_of_fit (fit.NoRate number barrier) = barrier_line barrier
further_of_fit _ = []

abbrev pub further_of : Status → List ℕ
further_of (status.WordsRefused fault) = further_of_words fault
further_of (status.ObservationRefused stop) = further_of_observation stop
further_of (status.NotPublished fault) = further_of_fit fault
further_of _ = []

-- how to find a record: its number counts the header, and no empty line
abbrev pub record_hint : ℕ → List ℕ
record_hint number = codes "Record 1 is the header: grep -n . FILE | sed -n " ++ (decimal number ++ codes "p prints the record and its line number.")

abbrev pub hint_at : Place → List ℕ
hint_at (place.Record number) = record_hint number
hint_at _ = []

abbrev pub hint_of : Subject → List ℕ
hint_of (subject.File name inside) = hint_at inside
hint_of _ = []

-- ---- the text

-- What a refusal is about, what is wrong, the nearest cure, more of it, and how to find the record.
abbrev pub advice_lines : List Row → Status → List (List ℕ)
advice_lines rows ended = subject_text rows (subject_of ended) ∷ cause_in rows ended ∷ cure_in rows ended ∷ further_of ended ∷ hint_of (subject_of ended) ∷ []

-- The sentences behind the line of a status, where clap takes the words.
unfoldable pub advice_text : List Row → Status → List ℕ
advice_text rows ended = sentences (advice_lines rows ended)
