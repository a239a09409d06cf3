-- A file that is taken has no more observations than a file may have.
use Rattle.std.proofs.Common.{◌≡◌, ◌≢◌, ℕ, ◌+◌, ◌≤◌, List, [], ◌∷◌, ◌++◌, length, Option, Some, None, arith, inl, inr}
use Rattle.std.specs.Prelude.{Ok, drop}
use Rattle.std.specs.List.{AllZip, enumerate_from}
use Rattle.std.proofs.lemmas.List.FromFn.{length-enumerate_from}
use Rattle.std.proofs.lemmas.Slice.Zip.{AllZip-long}
use Rattle.std.proofs.lemmas.Bool.Decides.{eqb_tells}
use Rattle.sk_checks.specs.Checks.{Check, NoneRefuses, each_after}
use Rattle.sk_clock.specs.Clock.{ClockView}
use Rattle.sk_leap.specs.declared.pair.LeapPair.{LeapPair}
use Rattle.sk_publishing.specs.Row.{RowView}
use Rattle.sk_obs.specs.File.{records_of, file_checks, record_checks, AreObservations, IsRecordOf}
use Rattle.sk_outcome.specs.Files.{ObservationsOf}

none_after : {F : Type 0} (a b : List (Check F)) → NoneRefuses (a ++ b) → NoneRefuses b
none_after [] b none = none
none_after (c ∷ a) b none = none_after a b none.1

few_from : (clock : ClockView) (pairs : List LeapPair) (before : Option (List (List ℕ))) (n : ℕ) (rows : List (List (List ℕ))) → n ≤ 100002
    → NoneRefuses (each_after before n (record_checks clock pairs) rows) → n + length rows ≤ 100002
few_from clock pairs before n [] within none = omega arith
few_from clock pairs before n (row ∷ rows) within none =
    let other : n ≢ 100002 = none.1.0 in
    let rest = few_from clock pairs (Some row) (n + 1) rows (omega arith)
    (none_after (record_checks clock pairs before n row) (each_after (Some row) (n + 1) (record_checks clock pairs) rows) none) in
    omega arith

few_rows : (clock : ClockView) (pairs : List LeapPair) (rows : List (List (List ℕ))) (list : List RowView)
    → NoneRefuses (file_checks clock pairs rows) → AreObservations clock pairs rows list → length list ≤ 100000
few_rows clock pairs [] list none are = absurd (none.0 tt)
few_rows clock pairs (first ∷ rows) list none are =
    let long = AllZip-long (λ row o. IsRecordOf clock pairs row.0 row.1 o) (enumerate_from 2 rows) list are in
    let numbered = length-enumerate_from 2 rows in
    let few = few_from clock pairs None 2 rows (omega arith) none.1 in
    omega arith

pub few_observations : (bytes : List ℕ) (clock : ClockView) (leap : List LeapPair) (list : List RowView) → ObservationsOf bytes clock leap (Ok list) → length list ≤ 100000
few_observations bytes clock leap list judged = few_rows clock leap (records_of bytes) list judged.0 judged.1
