-- No record is refused, but where the clock ends before its tick.
use Rattle.std.proofs.Common.{◌≡◌, ℕ, ◌+◌, ◌-◌, ◌*◌, ◌^◌, ◌<◌, ◌≤◌, Bool, true, List, [], ◌∷◌, ◌++◌, length, codes, refl, sym, ◌∙◌, ap, subst, arith, rules, inl, inr}
use Rattle.std.specs.Prelude.{ℤ, pos, negsuc, neg_ℤ, nat_abs, ◌+ℤ◌, ◌*ℤ◌, ◌-ℤ◌, ◌≤ℤ◌, decimal}
use Rattle.std.specs.Char.{is_ascii_digit}
use Rattle.std.specs.List.{list_all}
use Rattle.std.specs.Str.Parse.{digits_value}
use Rattle.std.proofs.lemmas.Int.{ints}
use Rattle.std.proofs.lemmas.Nat.{pow-add}
use Rattle.std.proofs.lemmas.Fmt.{digits_decimal, digits_value-decimal, length-decimal-le, decimal_nonempty}
use Rattle.std.proofs.lemmas.Str.Parse.{IsNumeralModel, numerals_by_value}
use lib.Signed.{lt_z}
use Rattle.sk_checks.specs.Checks.{FirstRefuses, NoneRefuses}
use Rattle.sk_decimal.specs.Number.{DecimalView, SpellsDecimal, signed}
use Rattle.sk_decimal.specs.Fixed.{fixed_text, HasUnits}
use Rattle.sk_decimal.specs.Reading.{reduced}
use Rattle.sk_decimal.proofs.Reduced.{reduced_is, is_decimal, has_units, signed_whole}
use Rattle.sk_decimal.proofs.Printed.{fixed_text_spells}
use Rattle.sk_line.proofs.Products.{twice}
use Rattle.sk_clock.specs.Clock.{ClockView, total}
use Rattle.sk_clock.specs.ClockText.{SpellsDigits}
use Rattle.sk_clock.specs.declared.fault.ClockFault.TheVariants.{OutsidePartition}
use Rattle.sk_publishing.specs.Row.{RowView, IsObservedTime}
use Rattle.sk_obs.specs.declared.fault.ClockWord.TheVariants.{Text}
use Rattle.sk_obs.specs.declared.fault.ObsFault.TheVariants.{ClockRefused}
use Rattle.sk_obs.specs.Observation.{IsId}
use Rattle.sk_obs.specs.Words.{TdtNumber, IsShortNumber, SaysTime, time_checks}
use Rattle.sk_obs.specs.File.{own_checks, observed_checks, IsObserved, IsRecordOf, IsDelay}
use Rattle.sk_obs.proofs.ObservedTimes.{none_refused}
use Rattle.sk_sample.specs.Fields.{fields_at}
use Rattle.sk_sample.proofs.Plain.{both, number}

-- ---- the id

pub id_is : (k : ℕ) → k < 10 ^ 9 → IsId (codes "s" ++ decimal k)
id_is k small = record {
  long = (omega arith, omega (arith, length-decimal-le 9 k (omega arith) small (omega arith)));
  bytes = both (codes "s") (decimal k) refl (number k);
}

-- ---- the tick

own : IsNumeralModel (λ ds. list_all is_ascii_digit ds ≡ true) (digits_value 10)
own = numerals_by_value (λ ds. list_all is_ascii_digit ds ≡ true) (search rules)

spelled : (n : ℕ) → n < 10 ^ 16 → SpellsDigits 16 (decimal n) n
spelled n small =
    ((decimal_nonempty n (omega arith), digits_decimal own n (omega arith)), length-decimal-le 16 n (omega arith) small (omega arith), sym (digits_value-decimal own n (omega arith)))

-- ---- the time

wider : (d : DecimalView) (z : ℤ) → HasUnits 9 d z → HasUnits 12 d (z *ℤ pos 1000)
wider d z h = (omega (arith, h.0), product d.coefficient z (10 ^ (9 - d.scale)) (10 ^ (12 - d.scale)) h.1 (power d.scale h.0))
  where
    power : (s : ℕ) → s ≤ 9 → 10 ^ (12 - s) ≡ 10 ^ (9 - s) * 1000
    power s le = ap (λ (n : ℕ). 10 ^ n) (omega arith) ∙ pow-add 10 (9 - s) 3

    product : (c z : ℤ) (p q : ℕ) → z ≡ c *ℤ pos p → q ≡ p * 1000 → (z *ℤ pos 1000) ≡ (c *ℤ pos q)
    product c z p q e f = ap (λ (y : ℤ). y *ℤ pos 1000) e ∙ twice c p 1000 ∙ ap (λ (n : ℕ). c *ℤ pos n) (sym f)

said : (z : ℤ) → nat_abs z < 2 ^ 127 → (d : DecimalView) × IsShortNumber (fixed_text 9 z) d × HasUnits 12 d (z *ℤ pos 1000)
said z narrow =
    let m = nat_abs z in
    let negative = lt_z z (pos 0) in
    let size = (reduced 9 m).0 in
    let scale = (reduced 9 m).1 in
    let left = reduced_is 9 m size scale refl in
    let d : DecimalView = record { coefficient = signed negative size; scale = scale } in
    let valid = is_decimal negative 9 m size scale (signed negative size) left narrow (omega arith) refl in
    let units : HasUnits 9 d z = subst (λ (y : ℤ). HasUnits 9 d y) (signed_whole z) (has_units negative 9 m size scale d left refl refl) in
    (d, (fixed_text_spells 9 z d valid units narrow, omega (arith, left.less)), wider d z units)

no_delay : IsDelay (codes "0") 0
no_delay = (((omega arith, refl), omega arith, refl), omega arith)

timed : (k n : ℕ) (z : ℤ) → nat_abs z < 2 ^ 127 → IsObservedTime (z *ℤ pos 1000)
    → NoneRefuses (observed_checks [] n (fields_at k z)) × IsObserved [] (fields_at k z) (z *ℤ pos 1000)
timed k n z narrow near =
    let s = said z narrow in
    none_refused [] n (fields_at k z) (z *ℤ pos 1000) (z *ℤ pos 1000) 0 (λ no. no s.0 s.1, tt) (s.0, s.1, s.2) no_delay (omega (arith, ints)) near

-- ---- the record

pub passes : (clock : ClockView) (k : ℕ) (z : ℤ) (o : RowView) → k ≤ 100000 → 25600 * k ≤ total clock → nat_abs z < 2 ^ 127
    → o.id ≡ codes "s" ++ decimal k → o.number ≡ k + 1 → o.tick ≡ 25600 * k → o.time ≡ z *ℤ pos 1000 → IsObservedTime o.time
    → NoneRefuses (own_checks clock [] (k + 1) (fields_at k z)) × IsRecordOf clock [] (k + 1) (fields_at k z) o
passes clock k z o few within narrow id counted tick time near =
    let t = timed k (k + 1) z narrow (subst IsObservedTime time near) in
    let word = spelled (25600 * k) (omega arith) in (
      (
        λ no. no refl,
        (
          λ many. absurd (omega arith),
          (
            λ no. no (id_is k (omega arith)),
            (λ fault refused. elim refused [ inl none ↦ none.0 (25600 * k) word | inr later ↦ elim later.1 [ inl past ↦ passed past.0 | inr none ↦ none.1 ] ], t.0),
          ),
        ),
      ),
      record {
        id = id;
        number = counted;
        tick = rw tick (word, within);
        time = subst (λ (y : ℤ). IsObserved [] (fields_at k z) y) (sym time) t.1;
      },
    )
  where
    passed : ((n : ℕ) × SpellsDigits 16 (decimal (25600 * k)) n × (total clock < n)) → ⊥
    passed past = absurd (omega (arith, past.1.2, (spelled (25600 * k) (omega arith)).2, past.2, within))

pub refused : (clock : ClockView) (k : ℕ) (z : ℤ) → k ≤ 100000 → total clock < 25600 * k
    → FirstRefuses (own_checks clock [] (k + 1) (fields_at k z)) (ClockRefused (k + 1) (Text OutsidePartition))
refused clock k z few past =
    let word = spelled (25600 * k) (omega arith) in
    inr (
      λ no. no refl,
      inr (
        λ many. absurd (omega arith),
        inr (
          λ no. no (id_is k (omega arith)),
          inl (Text OutsidePartition, inr (λ none. none (25600 * k) word, inl ((25600 * k, word, past), refl)), refl),
        ),
      ),
    )

-- ---- the times

size_le : (z : ℤ) (most : ℕ) → neg_ℤ (pos most) ≤ℤ z → z ≤ℤ pos most → nat_abs z ≤ most
size_le (pos n) most from to = omega (arith, ints)
size_le (negsuc n) most from to = omega (arith, ints)

pub near : (k : ℕ) (late : ℤ) → k ≤ 100000 → neg_ℤ (pos (10 ^ 15)) ≤ℤ late → late ≤ℤ pos (10 ^ 15) → IsObservedTime ((pos (10 ^ 11 * k) +ℤ late) *ℤ pos 1000)
near k late few from to = size_le ((pos (10 ^ 11 * k) +ℤ late) *ℤ pos 1000) (9 * 10 ^ 21) (omega (arith, ints)) (omega (arith, ints))

pub narrow : (k : ℕ) (late : ℤ) → k ≤ 100000 → neg_ℤ (pos (10 ^ 15)) ≤ℤ late → late ≤ℤ pos (10 ^ 15) → nat_abs (pos (10 ^ 11 * k) +ℤ late) < 2 ^ 127
narrow k late few from to =
    let small : nat_abs (pos (10 ^ 11 * k) +ℤ late) ≤ 2 * 10 ^ 16 = size_le (pos (10 ^ 11 * k) +ℤ late) (2 * 10 ^ 16) (omega (arith, ints)) (omega (arith, ints)) in
    omega arith
