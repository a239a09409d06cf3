-- The observation file: its records by the crate `csv`, and what is refused of them.
use Rattle.std.specs.Prelude.{◌≡◌, ◌≢◌, ◌⊎◌, ℕ, ◌*◌, ◌^◌, ◌≤◌, ◌<◌, ◌==◌, ℤ, pos, ◌-ℤ◌, IsTrue, List, [], ◌∷◌, ◌++◌, length, map, drop, Option, None, IsSomeAnd, slice_index_or, codes}
use Rattle.std.specs.Char.{to_ascii_lowercase}
use Rattle.std.specs.List.{enumerate_from, list_any, AllZip}
use Rattle.csv.specs.Reading.{records, default_config, strip_bom}
use Rattle.csv.specs.Records.{trimmed}
use Rattle.sk_checks.specs.Checks.{Check, ◌⇒◌, carried, FirstRefuses, each_after}
use Rattle.sk_clock.specs.Clock.{ClockView}
use Rattle.sk_clock.specs.ClockText.{SpellsDigits}
use Rattle.sk_leap.specs.declared.pair.LeapPair.{LeapPair}
use Rattle.sk_obs.specs.declared.fault.HeaderCause.{HeaderCause}
use Rattle.sk_obs.specs.declared.fault.HeaderCause.TheVariants.{Empty, LineBefore, ZeroByte, Comment, OtherSeparator, NoHeader, Blanks, Capitals, OtherOrder, TooFew, OtherNames}
use Rattle.sk_obs.specs.declared.fault.HeaderCause.TheVariants as cause
use Rattle.sk_obs.specs.declared.fault.ObsFault.{ObsFault}
use Rattle.sk_obs.specs.declared.fault.ObsFault.TheVariants.{Header, FieldCount, BadId, ClockRefused, BadDelay, TimeRange, OutOfOrder, TooMany}
use Rattle.sk_publishing.specs.Row.{RowView, IsObservedTime}
use Rattle.sk_obs.specs.Observation.{IsId}
use Rattle.sk_obs.specs.Words.{IsClockWord, word_checks, time_word, SaysTime, time_checks}

-- the records that the bytes hold, with the crate's defaults
abbrev pub records_of : List ℕ → List (List (List ℕ))
records_of bytes = records default_config (strip_bom bytes)

abbrev pub header_fields : List (List ℕ)
header_fields = codes "id" ∷ codes "clock" ∷ codes "time" ∷ codes "delay" ∷ []

-- the fields of a record, by their names in the header
abbrev pub id_of : List (List ℕ) → List ℕ
id_of fields = slice_index_or fields 0 []

abbrev pub clock_of : List (List ℕ) → List ℕ
clock_of fields = slice_index_or fields 1 []

abbrev pub time_of : List (List ℕ) → List ℕ
time_of fields = slice_index_or fields 2 []

abbrev pub delay_of : List (List ℕ) → List ℕ
delay_of fields = slice_index_or fields 3 []

-- 1 to 15 digits, of value at most 10 ^ 14: nanoseconds
abbrev pub IsDelay : List ℕ → ℕ → Type 0
IsDelay bytes delay = SpellsDigits 15 bytes delay × (delay ≤ 10 ^ 14)

-- the observed time: the time of the time word less the delay
abbrev pub IsObserved : List LeapPair → List (List ℕ) → ℤ → Type 0
IsObserved pairs fields time =
    (sent : ℤ) × (delay : ℕ) × SaysTime pairs (time_word (time_of fields)) sent × IsDelay (delay_of fields) delay
    × (time ≡ sent -ℤ pos (delay * 1000))

-- the tick of the record is not above that of the one before it
abbrev pub IsNotAbove : ClockView → List (List ℕ) → List (List ℕ) → Type 0
IsNotAbove clock before fields =
    (early : ℕ) × (late : ℕ) × IsClockWord clock (clock_of before) early × IsClockWord clock (clock_of fields) late × (late ≤ early)

-- what is refused of the time word and the delay of record n
abbrev pub observed_checks : List LeapPair → ℕ → List (List ℕ) → List (Check ObsFault)
observed_checks pairs n fields =
    time_checks pairs n (time_word (time_of fields))
    ++ ((delay : ℕ) → ¬ IsDelay (delay_of fields) delay) ⇒ BadDelay n
    ∷ ((time : ℤ) × IsObserved pairs fields time × ¬ IsObservedTime time) ⇒ TimeRange n
    ∷ []

-- what is refused of record n by itself
abbrev pub own_checks : ClockView → List LeapPair → ℕ → List (List ℕ) → List (Check ObsFault)
own_checks clock pairs n fields =
    (length fields ≢ 4) ⇒ FieldCount n
    ∷ (n ≡ 100002) ⇒ TooMany
    ∷ (¬ IsId (id_of fields)) ⇒ BadId n
    ∷ carried (FirstRefuses (word_checks clock (clock_of fields))) (ClockRefused n)
    ∷ observed_checks pairs n fields

-- and then behind the record before it
abbrev pub record_checks : ClockView → List LeapPair → Option (List (List ℕ)) → ℕ → List (List ℕ) → List (Check ObsFault)
record_checks clock pairs before n fields =
    own_checks clock pairs n fields ++ IsSomeAnd before (λ previous. IsNotAbove clock previous fields) ⇒ OutOfOrder n ∷ []

-- ---- why the first record is not the header

abbrev pub HoldsByte : List ℕ → ℕ → Type 0
HoldsByte bytes byte = IsTrue (list_any (λ b. b == byte) bytes)

abbrev pub BeginsWith : List ℕ → ℕ → Type 0
BeginsWith [] byte = ⊥
BeginsWith (b ∷ rest) byte = b ≡ byte

-- the header is the first of these
abbrev pub FollowsHeader : List (List (List ℕ)) → Type 0
FollowsHeader [] = ⊥
FollowsHeader (next ∷ later) = next ≡ header_fields

-- one field, with a semicolon or a tab
abbrev pub HasOtherSeparator : List (List ℕ) → Type 0
HasOtherSeparator fields = (length fields ≡ 1) × (HoldsByte (id_of fields) 59 ⊎ HoldsByte (id_of fields) 9)

abbrev pub lowered : List ℕ → List ℕ
lowered field = map to_ascii_lowercase field

-- in small letters the fields are those of the header
abbrev pub AreLowered : List (List ℕ) → Type 0
AreLowered fields = (length fields ≡ 4) × (lowered (id_of fields) ≡ codes "id") × (lowered (clock_of fields) ≡ codes "clock")
    × (lowered (time_of fields) ≡ codes "time") × (lowered (delay_of fields) ≡ codes "delay")

-- one of the first four fields
unfoldable pub HasColumn : List (List ℕ) → List ℕ → Type 0
HasColumn fields name = (id_of fields ≡ name) ⊎ (clock_of fields ≡ name) ⊎ (time_of fields ≡ name) ⊎ (delay_of fields ≡ name)

-- four fields, among them each of the header
abbrev pub AreReordered : List (List ℕ) → Type 0
AreReordered fields = (length fields ≡ 4) × HasColumn fields (codes "id") × HasColumn fields (codes "clock")
    × HasColumn fields (codes "time") × HasColumn fields (codes "delay")

-- of names, without the white space beside them
abbrev pub name_causes : List (List ℕ) → List (Check HeaderCause)
name_causes names =
    (names ≡ header_fields) ⇒ Blanks
    ∷ AreLowered names ⇒ Capitals
    ∷ AreReordered names ⇒ OtherOrder
    ∷ (length names < 4) ⇒ TooFew
    ∷ (4 < length names) ⇒ cause.TooMany
    ∷ Unit {0} ⇒ OtherNames
    ∷ []

-- of a first record that is not the header, by itself
abbrev pub own_causes : List (List ℕ) → List (Check HeaderCause)
own_causes first =
    HoldsByte (id_of first) 0 ⇒ ZeroByte
    ∷ BeginsWith (id_of first) 35 ⇒ Comment
    ∷ HasOtherSeparator first ⇒ OtherSeparator
    ∷ HoldsByte (time_of first) 58 ⇒ NoHeader
    ∷ name_causes (map trimmed first)

-- of a first record that is not the header, with the records after it; the last of these always holds
abbrev pub header_causes : List (List ℕ) → List (List (List ℕ)) → List (Check HeaderCause)
header_causes first rows = FollowsHeader rows ⇒ LineBefore ∷ own_causes first

-- the first record is not the header, for this cause
abbrev pub IsNoHeader : List (List ℕ) → List (List (List ℕ)) → HeaderCause → Type 0
IsNoHeader first rows cause = (first ≢ header_fields) × FirstRefuses (header_causes first rows) cause

-- what is refused of a file with these records: another header or none, and then the records in order, from 2
abbrev pub file_checks : ClockView → List LeapPair → List (List (List ℕ)) → List (Check ObsFault)
file_checks clock pairs [] = Unit {0} ⇒ Header Empty ∷ []
file_checks clock pairs (first ∷ rows) = carried (IsNoHeader first rows) Header ∷ each_after None 2 (record_checks clock pairs) rows

-- record n is this observation
pub record IsRecordOf (clock : ClockView) (pairs : List LeapPair) (n : ℕ) (fields : List (List ℕ)) (o : RowView) : Type 0 where
  pub id : o.id ≡ id_of fields
  pub number : o.number ≡ n
  pub tick : IsClockWord clock (clock_of fields) o.tick
  pub time : IsObserved pairs fields o.time

-- the records but the header, in order, are these observations
abbrev pub AreObservations : ClockView → List LeapPair → List (List (List ℕ)) → List RowView → Type 0
AreObservations clock pairs rows observations =
    AllZip (λ row o. IsRecordOf clock pairs row.0 row.1 o) (enumerate_from 2 (drop 1 rows)) observations
