-- What the observations so far are of the file.
use Rattle.std.proofs.Common.{◌≡◌, ℕ, zero, suc, ◌+◌, ◌-◌, ◌*◌, ◌<◌, ◌≤◌, List, [], ◌∷◌, ◌++◌, Option, Some, None, refl, sym, ◌∙◌, ap, subst, arith, add-one}
use Rattle.std.specs.Prelude.{ℤ}
use Rattle.sk_checks.specs.Checks.{FirstRefuses, NoneRefuses}
use Rattle.sk_clock.specs.Clock.{ClockView, total}
use Rattle.sk_publishing.specs.Row.{RowView, IsObservedTime}
use Rattle.sk_obs.specs.declared.fault.ObsFault.{ObsFault}
use Rattle.sk_obs.specs.File.{records_of, header_fields, own_checks, file_checks, clock_of, IsRecordOf, AreObservations}
use Rattle.sk_obs.proofs.Files.{HasPassed, passed_header, passed_one, own_refused, all_passed}
use Rattle.sk_obs.proofs.Laws.{IsClockWord-within}
use Rattle.sk_obs.proofs.Progress.{HasRows, IsAbove, no_rows, one_more}
use Rattle.sk_sample.specs.Sample.{observed_time, observations_text}
use Rattle.sk_sample.specs.Fields.{fields_at, rows_from, tick_at}
use Rattle.sk_sample.proofs.Rows.{rows_of}

-- k observations are made of `count`
pub record HasMade (clock : ClockView) (seed count k : ℕ) (list : List RowView) : Type 0 where
  pub few : k ≤ count
  pub rows : HasRows (total clock) (tick_at k) list
  pub passed : HasPassed clock [] (records_of (observations_text seed count)) (k + 1 + 1) (tick_at k) (rows_from seed k (count - k)) list

pub none_made : (clock : ClockView) (seed count : ℕ) → HasMade clock seed count 0 []
none_made clock seed count = record {
  few = omega arith;
  rows = no_rows (total clock);
  passed = passed_header clock [] (records_of (observations_text seed count)) (rows_from seed 0 (count - 0)) (rows_of seed count ∙ ap (λ (n : ℕ). header_fields ∷ rows_from seed 0 n) {x = count} {y = count - 0} (omega arith));
}

tick_next : (k : ℕ) → tick_at (k + 1) ≡ Some (25600 * (k + 1))
tick_next k = rw (add-one) refl

next_row : (seed count k : ℕ) → k < count → rows_from seed k (count - k) ≡ fields_at (k + 1) (observed_time seed (k + 1)) ∷ rows_from seed (k + 1) (count - (k + 1))
next_row seed count k less =
    let left : count - k ≡ suc (count - (k + 1)) = omega arith in
    ap (rows_from seed k) left
    ∙ ap (λ (n : ℕ). fields_at n (observed_time seed n) ∷ rows_from seed n (count - (k + 1))) (sym (add-one k))

rises : (k : ℕ) → IsAbove (tick_at k) (25600 * (k + 1))
rises zero = tt
rises (suc k) = omega arith

pub more_made : (clock : ClockView) (seed count k : ℕ) (z : ℤ) (list : List RowView) (o : RowView) → HasMade clock seed count k list → k < count → z ≡ observed_time seed (k + 1)
    → NoneRefuses (own_checks clock [] (k + 1 + 1) (fields_at (k + 1) z)) × IsRecordOf clock [] (k + 1 + 1) (fields_at (k + 1) z) o → o.tick ≡ 25600 * (k + 1) → IsObservedTime o.time
    → HasMade clock seed count (k + 1) (list ++ o ∷ [])
more_made clock seed count k z list o made less time is tick near =
    let high : IsAbove (tick_at k) o.tick = subst (λ (n : ℕ). IsAbove (tick_at k) n) (sym tick) (rises k) in
    let left : rows_from seed k (count - k) ≡ fields_at (k + 1) z ∷ rows_from seed (k + 1) (count - (k + 1)) =
    next_row seed count k less ∙ ap (λ (y : ℤ). fields_at (k + 1) y ∷ rows_from seed (k + 1) (count - (k + 1))) (sym time) in
    let at : Some o.tick ≡ tick_at (k + 1) = ap (λ (n : ℕ). Some n) tick ∙ sym (tick_next k) in
    record {
      few = omega arith;
      rows = subst (λ (before : Option ℕ). HasRows (total clock) before (list ++ o ∷ [])) at
          (one_more (total clock) (tick_at k) list o made.rows high (IsClockWord-within clock (clock_of (fields_at (k + 1) z)) o.tick is.1.tick) near);
      passed = subst (λ (before : Option ℕ). HasPassed clock [] (records_of (observations_text seed count)) (k + 1 + 1 + 1) before (rows_from seed (k + 1) (count - (k + 1))) (list ++ o ∷ [])) at
          (passed_one clock [] (records_of (observations_text seed count)) (k + 1 + 1) (tick_at k) (rows_from seed k (count - k)) (rows_from seed (k + 1) (count - (k + 1))) (fields_at (k + 1) z) list o
          made.passed left is.0 is.1 high);
    }

pub one_refused : (clock : ClockView) (seed count k : ℕ) (z : ℤ) (list : List RowView) (fault : ObsFault) → HasMade clock seed count k list → k < count → z ≡ observed_time seed (k + 1)
    → FirstRefuses (own_checks clock [] (k + 1 + 1) (fields_at (k + 1) z)) fault → FirstRefuses (file_checks clock [] (records_of (observations_text seed count))) fault
one_refused clock seed count k z list fault made less time h =
    let left : rows_from seed k (count - k) ≡ fields_at (k + 1) z ∷ rows_from seed (k + 1) (count - (k + 1)) =
    next_row seed count k less ∙ ap (λ (y : ℤ). fields_at (k + 1) y ∷ rows_from seed (k + 1) (count - (k + 1))) (sym time) in
    own_refused clock [] (records_of (observations_text seed count)) (k + 1 + 1) (tick_at k) (rows_from seed k (count - k)) (rows_from seed (k + 1) (count - (k + 1))) (fields_at (k + 1) z) list fault
    made.passed left h

pub all_made : (clock : ClockView) (seed count k : ℕ) (list : List RowView) → HasMade clock seed count k list → ¬ (k < count)
    → NoneRefuses (file_checks clock [] (records_of (observations_text seed count))) × AreObservations clock [] (records_of (observations_text seed count)) list
all_made clock seed count k list made done =
    let none : count - k ≡ 0 = omega arith in
    all_passed clock [] (records_of (observations_text seed count)) (k + 1 + 1) (tick_at k) (rows_from seed k (count - k)) list made.passed (ap (rows_from seed k) none)
