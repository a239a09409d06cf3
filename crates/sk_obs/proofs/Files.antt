-- What is known of a file after some of its records.
use Rattle.std.proofs.Common.{◌≡◌, ℕ, ◌+◌, List, [], ◌∷◌, ◌++◌, Option, Some, None, MatchOption, refl, sym, subst, inl, inr, arith, append_assoc, append-nil}
use Rattle.std.specs.Option.{IsSomeAnd}
use Rattle.std.specs.List.{AllZip, enumerate_from}
use Rattle.sk_checks.specs.Checks.{FirstRefuses, NoneRefuses, each_after, ◌⇒◌}
use Rattle.sk_checks.proofs.ChecksLemmas.{FirstRefuses-front, FirstRefuses-rest, NoneRefuses-append}
use Rattle.sk_clock.specs.Clock.{ClockView}
use Rattle.sk_publishing.specs.Row.{RowView}
use Rattle.sk_leap.specs.declared.pair.LeapPair.{LeapPair}
use Rattle.sk_obs.specs.declared.fault.ObsFault.{ObsFault}
use Rattle.sk_obs.specs.declared.fault.ObsFault.TheVariants.{OutOfOrder}
use Rattle.sk_obs.specs.Words.{IsClockWord}
use Rattle.sk_obs.specs.File.{file_checks, record_checks, own_checks, header_fields, clock_of, IsNotAbove, IsRecordOf, AreObservations}
use Rattle.sk_obs.proofs.Laws.{IsClockWord-one}
use Rattle.sk_obs.proofs.Progress.{IsAbove}

-- the record before, and its tick
abbrev pub IsBefore : ClockView → Option (List (List ℕ)) → Option ℕ → Type 0
IsBefore clock previous before =
    MatchOption before (previous ≡ None) (λ tick. (fields : List (List ℕ)) × (previous ≡ Some fields) × IsClockWord clock (clock_of fields) tick)

abbrev pub AreFrom : ClockView → List LeapPair → ℕ → List (List (List ℕ)) → List RowView → Type 0
AreFrom clock pairs n rows observations = AllZip (λ row o. IsRecordOf clock pairs row.0 row.1 o) (enumerate_from n rows) observations

-- Records before n have passed, and are these observations: what is refused of those left is refused of the file.
pub record HasPassed (clock : ClockView) (pairs : List LeapPair) (rows : List (List (List ℕ))) (n : ℕ) (before : Option ℕ) (left : List (List (List ℕ))) (list : List RowView) : Type 0 where
  pub previous : Option (List (List ℕ))
  pub is_before : IsBefore clock previous before
  pub refuses : (fault : ObsFault) → FirstRefuses (each_after previous n (record_checks clock pairs) left) fault → FirstRefuses (file_checks clock pairs rows) fault
  pub passes : NoneRefuses (each_after previous n (record_checks clock pairs) left) → NoneRefuses (file_checks clock pairs rows)
  pub lists : (more : List RowView) → AreFrom clock pairs n left more → AreObservations clock pairs rows (list ++ more)

begun : (clock : ClockView) (pairs : List LeapPair) (left : List (List (List ℕ))) → HasPassed clock pairs (header_fields ∷ left) 2 None left []
begun clock pairs left = record {
  previous = None;
  is_before = refl;
  refuses = λ fault h. inr (λ cause is. is.0 refl, h);
  passes = λ none. (λ cause is. is.0 refl, none);
  lists = λ more h. h;
}

-- behind the header
pub passed_header : (clock : ClockView) (pairs : List LeapPair) (rows left : List (List (List ℕ))) → rows ≡ header_fields ∷ left → HasPassed clock pairs rows 2 None left []
passed_header clock pairs rows left e = subst (λ (all : List (List (List ℕ))). HasPassed clock pairs all 2 None left []) (sym e) (begun clock pairs left)

-- a record that is refused by itself
pub own_refused : (clock : ClockView) (pairs : List LeapPair) (rows : List (List (List ℕ))) (n : ℕ) (before : Option ℕ) (left more : List (List (List ℕ))) (fields : List (List ℕ)) (list : List RowView) (fault : ObsFault)
    → HasPassed clock pairs rows n before left list → left ≡ fields ∷ more → FirstRefuses (own_checks clock pairs n fields) fault → FirstRefuses (file_checks clock pairs rows) fault
own_refused clock pairs rows n before left more fields list fault p e h =
    let here = FirstRefuses-front (own_checks clock pairs n fields) (IsSomeAnd p.previous (λ previous. IsNotAbove clock previous fields) ⇒ OutOfOrder n ∷ []) fault h in
    let all = FirstRefuses-front (record_checks clock pairs p.previous n fields) (each_after (Some fields) (n + 1) (record_checks clock pairs) more) fault here in
    p.refuses fault (subst (λ (rest : List (List (List ℕ))). FirstRefuses (each_after p.previous n (record_checks clock pairs) rest) fault) (sym e) all)

-- a tick that is not above the one before it
not_above : (clock : ClockView) (previous : Option (List (List ℕ))) (before : Option ℕ) (fields : List (List ℕ)) (tick : ℕ) → IsBefore clock previous before
    → IsClockWord clock (clock_of fields) tick → ¬ IsAbove before tick → IsSomeAnd previous (λ early. IsNotAbove clock early fields)
not_above clock previous None fields tick is word low = absurd (low tt)
not_above clock previous (Some early) fields tick is word low =
    rw is.1 (early, tick, is.2, word, omega (arith, low))

pub order_refused : (clock : ClockView) (pairs : List LeapPair) (rows : List (List (List ℕ))) (n : ℕ) (before : Option ℕ) (left more : List (List (List ℕ))) (fields : List (List ℕ)) (list : List RowView) (tick : ℕ)
    → HasPassed clock pairs rows n before left list → left ≡ fields ∷ more → NoneRefuses (own_checks clock pairs n fields) → IsClockWord clock (clock_of fields) tick → ¬ IsAbove before tick
    → FirstRefuses (file_checks clock pairs rows) (OutOfOrder n)
order_refused clock pairs rows n before left more fields list tick p e none word low =
    let order = not_above clock p.previous before fields tick p.is_before word low in
    let here = FirstRefuses-rest (own_checks clock pairs n fields) (IsSomeAnd p.previous (λ previous. IsNotAbove clock previous fields) ⇒ OutOfOrder n ∷ []) (OutOfOrder n) none (inl (order, refl)) in
    let all = FirstRefuses-front (record_checks clock pairs p.previous n fields) (each_after (Some fields) (n + 1) (record_checks clock pairs) more) (OutOfOrder n) here in
    p.refuses (OutOfOrder n) (subst (λ (rest : List (List (List ℕ))). FirstRefuses (each_after p.previous n (record_checks clock pairs) rest) (OutOfOrder n)) (sym e) all)

-- a tick above the one before it is not refused
above : (clock : ClockView) (previous : Option (List (List ℕ))) (before : Option ℕ) (fields : List (List ℕ)) (tick : ℕ) → IsBefore clock previous before
    → IsClockWord clock (clock_of fields) tick → IsAbove before tick → IsSomeAnd previous (λ early. IsNotAbove clock early fields) → ⊥
above clock previous None fields tick is word high h = absurd (rw is at h)
above clock previous (Some early) fields tick is word high h =
    let order : IsNotAbove clock is.0 fields = rw is.1 at h in
    let same_early : order.0 ≡ early = IsClockWord-one clock (clock_of is.0) order.0 early order.2 is.2 in
    let same_late : order.1 ≡ tick = IsClockWord-one clock (clock_of fields) order.1 tick order.3 word in
    omega (arith, order.4)

-- one more record has passed
pub passed_one : (clock : ClockView) (pairs : List LeapPair) (rows : List (List (List ℕ))) (n : ℕ) (before : Option ℕ) (left more : List (List (List ℕ))) (fields : List (List ℕ)) (list : List RowView) (o : RowView)
    → HasPassed clock pairs rows n before left list → left ≡ fields ∷ more → NoneRefuses (own_checks clock pairs n fields) → IsRecordOf clock pairs n fields o → IsAbove before o.tick
    → HasPassed clock pairs rows (n + 1) (Some o.tick) more (list ++ o ∷ [])
passed_one clock pairs rows n before left more fields list o p e none is high =
    let passes = NoneRefuses-append (own_checks clock pairs n fields) (IsSomeAnd p.previous (λ previous. IsNotAbove clock previous fields) ⇒ OutOfOrder n ∷ []) none
    (above clock p.previous before fields o.tick p.is_before is.tick high, tt) in
    record {
      previous = Some fields;
      is_before = (fields, refl, is.tick);
      refuses = λ fault h. p.refuses fault (subst (λ (rest : List (List (List ℕ))). FirstRefuses (each_after p.previous n (record_checks clock pairs) rest) fault) (sym e)
          (FirstRefuses-rest (record_checks clock pairs p.previous n fields) (each_after (Some fields) (n + 1) (record_checks clock pairs) more) fault passes h));
      passes = λ h. p.passes (subst (λ (rest : List (List (List ℕ))). NoneRefuses (each_after p.previous n (record_checks clock pairs) rest)) (sym e)
          (NoneRefuses-append (record_checks clock pairs p.previous n fields) (each_after (Some fields) (n + 1) (record_checks clock pairs) more) passes h));
      lists = λ others h. subst (λ (all : List RowView). AreObservations clock pairs rows all) (sym (append_assoc list (o ∷ []) others))
          (p.lists (o ∷ others) (subst (λ (rest : List (List (List ℕ))). AreFrom clock pairs n rest (o ∷ others)) (sym e) (is, h)));
    }

-- all records have passed
pub all_passed : (clock : ClockView) (pairs : List LeapPair) (rows : List (List (List ℕ))) (n : ℕ) (before : Option ℕ) (left : List (List (List ℕ))) (list : List RowView)
    → HasPassed clock pairs rows n before left list → left ≡ [] → NoneRefuses (file_checks clock pairs rows) × AreObservations clock pairs rows list
all_passed clock pairs rows n before left list p e = (
  p.passes (subst (λ (rest : List (List (List ℕ))). NoneRefuses (each_after p.previous n (record_checks clock pairs) rest)) (sym e) tt),
  subst (λ (all : List RowView). AreObservations clock pairs rows all) (append-nil list) (p.lists [] (subst (λ (rest : List (List (List ℕ))). AreFrom clock pairs n rest []) (sym e) tt)),
)
