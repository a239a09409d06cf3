-- A reader of a text's records, and the records that it has still to give.
use Rattle.std.specs.Prelude.{◌≡◌, ℕ, ◌+◌, true, List, [], length, Option, Some, unwrap_or}
use Rattle.std.specs.Borrow.{Bor}
use Rattle.csv.specs.declared.reader.Reader.{Reader}
use Rattle.csv.specs.declared.reader.Trim.TheVariants as trim
use Rattle.csv.specs.declared.parser.State.{State}
use Rattle.csv.specs.declared.parser.State.TheVariants as st
use Rattle.csv.specs.Reading.{Ready, default_config, records_from, source_of, reader_trim, reader_config, reader_state, is_flexible}

-- the bytes that the reader has not read, where it has not failed
abbrev pub bytes_left : Reader (Bor (List ℕ)) → Option (List ℕ)
bytes_left reader = source_of (λ (s : Bor (List ℕ)). Some s.now) reader

-- the states between two records
abbrev pub IsBetween : State → Type 0
IsBetween st.StartRecord = Unit {0}
IsBetween st.AfterCr = Unit {0}
IsBetween _ = ⊥

-- the reader reads by the crate's defaults but records of any lengths, has no header, stands between two records,
-- and has not failed
pub record IsReading (reader : Reader (Bor (List ℕ))) : Type 0 where
  pub untrimmed : reader_trim reader ≡ trim.None
  pub ready : Ready reader
  pub config : reader_config reader ≡ default_config
  pub any_length : is_flexible reader ≡ true
  pub between : IsBetween (reader_state reader)
  pub bytes : List ℕ
  pub left : bytes_left reader ≡ Some bytes

-- the records that it has still to give
abbrev pub rows_left : Reader (Bor (List ℕ)) → List (List (List ℕ))
rows_left reader =
    let bytes = unwrap_or (bytes_left reader) [] in
    records_from default_config (length bytes + 1) (reader_state reader) bytes
