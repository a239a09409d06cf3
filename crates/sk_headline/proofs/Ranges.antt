-- The clock, the triples and the observations of files that are not refused are in the ranges of their types.
use Rattle.std.proofs.Common.{◌≡◌, ◌⊎◌, ℕ, ◌+◌, ◌*◌, ◌^◌, ◌<◌, ◌≤◌, Bool, true, false, List, [], ◌∷◌, ◌++◌, length, Option, Some, None, Ok, refl, sym, subst, ◌∙◌, inl, inr, arith, append_assoc, append-nil}
use Rattle.std.proofs.lemmas.Bool.{cases_lt}
use Rattle.std.proofs.lemmas.Int.{ints}
use Rattle.std.proofs.lemmas.List.Elements.{All-nil, All-cons}
use Rattle.std.proofs.lemmas.Slice.Zip.{AllZip-long}
use Rattle.std.specs.Prelude.{ℤ, pos, negsuc, nat_abs, ◌-ℤ◌, ◌≤ℤ◌, ◌<ℤ◌, All}
use Rattle.std.specs.Int.{IsInRange}
use Rattle.std.specs.Option.{IsSomeAnd}
use Rattle.std.specs.List.{AllZip, AllByRecursion, list_all}
use Rattle.sk_checks.specs.Checks.{Check, ◌⇒◌, NoneRefuses, each_after}
use Rattle.sk_grammar.specs.Variables.{VariableView}
use Rattle.sk_clock.specs.declared.fault.ClockName.TheVariants as name
use Rattle.sk_clock.specs.Clock.{ClockView, IsClock, total}
use Rattle.sk_clock.specs.Kernel.{IsOneFrom, name_of}
use Rattle.sk_publishing.specs.Row.{RowView, AreRows, IsObservedTime}
use Rattle.sk_clock.proofs.KernelLemmas.{same_number}
use Rattle.sk_leap.specs.declared.pair.LeapPair.{LeapPair}
use Rattle.sk_obs.specs.declared.fault.ObsFault.TheVariants.{TimeRange, BadDelay, OutOfOrder}
use Rattle.sk_obs.specs.Observation.{IsId, is_id_byte}
use Rattle.sk_obs.specs.Words.{IsClockWord, time_word, time_checks}
use Rattle.sk_obs.specs.File.{records_of, file_checks, record_checks, own_checks, observed_checks, id_of, clock_of, time_of, delay_of, IsDelay, IsObserved, IsNotAbove, AreObservations}
use Rattle.sk_obs.proofs.Files.{IsBefore, AreFrom}
use Rattle.sk_obs.proofs.Laws.{IsClockWord-within}
use Rattle.sk_obs.proofs.Progress.{HasRows, IsAbove, no_rows, one_more}
use Rattle.sk_line.specs.Triple.{TripleView}
use Rattle.sk_triples.specs.Kernel.{TriplesView, IsTriple, Rise}
use Rattle.sk_triples.specs.Coefficients.{Row, row_checks, rows_of, values_for, IsTripleOf}
use Rattle.sk_triples.specs.Reading.{ArePair, Follows}
use Rattle.sk_triples.proofs.Decimals.{low_rate, large_rate, abs_from, abs_to}
use Rattle.sk_triples.proofs.ReadRows.{out_of_order}
use Rattle.sk_triples.proofs.RowTimes.{large_row_time}
use Rattle.sk_outcome.specs.Files.{ClockOf, TriplesOf, ObservationsOf}
use Rattle.sk_headline.proofs.OneAnswer.{whole_one}
use Rattle.sk_headline.proofs.Reread.{Leads}

-- ---- what is not false

not_above : (a b : ℕ) → ((a ≤ b → ⊥) → ⊥) → a ≤ b
not_above a b h = elim (cases_lt b a) [
  | inl less ↦ absurd (h (λ le. omega (arith, less, le)))
  | inr le ↦ le
]

not_below : (a b : ℕ) → ((a < b → ⊥) → ⊥) → a < b
not_below a b h = elim (cases_lt a b) [
  | inl less ↦ less
  | inr le ↦ absurd (h (λ less. omega (arith, less, le)))
]

is_true : (b : Bool) → ((b ≡ true → ⊥) → ⊥) → b ≡ true
is_true true h = refl
is_true false h = absurd (h (λ e. cc))

sign : (z : ℤ) → (pos 0 <ℤ z) ⊎ (z ≤ℤ pos 0)
sign (pos m) = elim (cases_lt 0 m) [
  | inl some ↦ inl (omega (arith, ints, some))
  | inr none ↦ inr (omega (arith, ints, none))
]
sign (negsuc m) = inr (omega (arith, ints))

order : (a b : ℤ) → (a <ℤ b) ⊎ (b ≤ℤ a)
order a b = elim (sign (b -ℤ a)) [
  | inl less ↦ inl (omega (arith, ints, less))
  | inr le ↦ inr (omega (arith, ints, le))
]

-- ---- clocks

pub clock_ranges : (variables : List VariableView) (sc : ℕ) (clock : ClockView) → ClockOf variables sc (Ok clock) → IsClock clock
clock_ranges variables sc clock h =
    let mark : (IsOneFrom variables (name_of name.Delim sc) 1 5 → ⊥) → ⊥ = h.0.1.1.1.1.1.1.1.1.1.1.1.1.1.0 in
    let one : (m : ℕ) → m ≡ clock.delimiter → IsInRange 1 5 m → IsInRange 1 5 clock.delimiter = λ m same range. subst (IsInRange 1 5) same range in
    let within : IsOneFrom variables (name_of name.Delim sc) 1 5 → IsInRange 1 5 clock.delimiter =
    λ found. one found.0 (same_number variables (name_of name.Delim sc) found.0 clock.delimiter found.1 h.1.delimiter) found.2 in
    record {
      moduli = h.1.moduli.are_moduli;
      as_many = same_number variables (name_of name.Fields sc) (length clock.offsets) (length clock.moduli) h.1.offsets.as_many h.1.moduli.as_many;
      offsets = h.1.offsets.small;
      delimiter = (
        not_above 1 clock.delimiter (λ no. mark (λ found. no (within found).0)),
        not_above clock.delimiter 5 (λ no. mark (λ found. no (within found).1)),
      );
      partitions = h.1.partitions.are_partitions;
    }

-- ---- triples

pub rise_of : (t : TripleView) (ts : List TripleView) → Leads (Some t) ts → Rise ts → Rise (t ∷ ts)
rise_of t [] leads rise = tt
rise_of t (u ∷ us) leads rise = (leads.0, leads.1, rise)

module _ (whole : ℕ) where
  row_kept : (before : Option Row) (previous : Option TripleView) (n : ℕ) (row : Row) (t : TripleView) → ArePair before previous → IsTripleOf row t → NoneRefuses (row_checks whole before n row)
      → IsTriple whole t × Follows previous t
  row_kept before previous n row t pair of none = (
    record {
      ticks = not_above t.anchor.ticks whole (λ no. none.0 (λ tick is. no (omega (arith, whole_one tick t.anchor.ticks (sym is.0 ∙ of.ticks), is.1))));
      from = abs_from t.anchor.time (10 ^ 28) small;
      to = abs_to t.anchor.time (10 ^ 28) small;
      positive = elim (sign t.rate) [
        | inl some ↦ some
        | inr low ↦ absurd (none.1.1.1.0 (low_rate row.rate (subst (λ (z : ℤ). z ≤ℤ pos 0) of.rate.1 low)))
      ];
      slow = elim (order (pos (1000 * 10 ^ 18)) t.rate) [
        | inl large ↦ absurd (none.1.1.1.0 (large_rate row.rate of.rate.0 (subst (λ (z : ℤ). pos (1000 * 10 ^ 18) <ℤ z) of.rate.1 large)))
        | inr slow ↦ slow
      ];
    },
    follows previous pair,
  )
    where
      small : nat_abs t.anchor.time ≤ 10 ^ 28
      small = elim (cases_lt (10 ^ 28) (nat_abs t.anchor.time)) [
        | inl large ↦ absurd (none.1.1.0 (large_row_time row.time t.anchor.time of.time large))
        | inr le ↦ le
      ]

      in_order : (previous : Option TripleView) → ArePair before previous → (Follows previous t → ⊥) → ⊥
      in_order previous pair other = none.1.1.1.1.0 (out_of_order before previous row t pair of other)

      follows : (previous : Option TripleView) → ArePair before previous → Follows previous t
      follows None pair = tt
      follows (Some u) pair = (
        not_below u.anchor.ticks t.anchor.ticks (λ no. in_order (Some u) pair (λ f. no f.0)),
        elim (order u.anchor.time t.anchor.time) [
          | inl less ↦ less
          | inr le ↦ absurd (in_order (Some u) pair (λ f. let less : u.anchor.time <ℤ t.anchor.time = f.1 in omega (arith, ints, less, le)))
        ],
      )

  rows_kept : (before : Option Row) (previous : Option TripleView) (n : ℕ) (rows : List Row) (ts : List TripleView) → ArePair before previous → AllZip IsTripleOf rows ts
      → NoneRefuses (each_after before n (row_checks whole) rows) → AllByRecursion (IsTriple whole) ts × Leads previous ts × Rise ts
  rows_kept before previous n [] [] pair zip none = (tt, tt, tt)
  rows_kept before previous n [] (t ∷ ts) pair zip none = absurd zip
  rows_kept before previous n (row ∷ rows) [] pair zip none = absurd zip
  rows_kept before previous n (row ∷ rows) (t ∷ ts) pair zip none =
      let here = row_kept before previous n row t pair zip.0 (none.0, (none.1.0, (none.1.1.0, (none.1.1.1.0, (none.1.1.1.1.0, tt))))) in
      let later = rows_kept (Some row) (Some t) (n + 1) rows ts zip.0 zip.1 none.1.1.1.1.1 in
      ((here.0, later.0), here.1, rise_of t ts later.1 later.2)

pub record AreSound (t : TriplesView) : Type 0 where
  pub few : length t.triples ≤ 50000
  pub each : AllByRecursion (IsTriple t.total) t.triples
  pub rise : Rise t.triples

pub triples_ranges : (variables : List VariableView) (clock : ClockView) (sc : ℕ) (t : TriplesView) → TriplesOf variables clock sc (Ok t) → AreSound t
triples_ranges variables clock sc t h =
    let long : length t.triples ≡ length (rows_of (values_for variables sc)) = AllZip-long IsTripleOf (rows_of (values_for variables sc)) t.triples h.1.rows in
    let kept = rows_kept (total clock) None None 1 (rows_of (values_for variables sc)) t.triples tt h.1.rows h.0.1.1.1 in
    record {
      few = elim (cases_lt 50000 (length t.triples)) [
        | inl more ↦ absurd (h.0.1.1.0 (omega (arith, long, more)))
        | inr le ↦ le
      ];
      each = subst (λ (m : ℕ). AllByRecursion (IsTriple m) t.triples) (sym h.1.of_clock.1) kept.0;
      rise = kept.2;
    }

-- ---- observations

both_pass : {F : Type 0} (a b : List (Check F)) → NoneRefuses (a ++ b) → NoneRefuses a × NoneRefuses b
both_pass [] b h = (tt, h)
both_pass (check ∷ a) b h = let more = both_pass a b h.1 in ((h.0, more.0), more.1)

id_kept : (id : List ℕ) → ((IsId id → ⊥) → ⊥) → IsId id
id_kept id h = record {
  long = (not_above 1 (length id) (λ no. h (λ is. no is.long.0)), not_above (length id) 32 (λ no. h (λ is. no is.long.1)));
  bytes = is_true (list_all is_id_byte id) (λ no. h (λ is. no is.bytes));
}

time_kept : (pairs : List LeapPair) (n : ℕ) (fields : List (List ℕ)) (time : ℤ) → NoneRefuses (observed_checks pairs n fields) → IsObserved pairs fields time → IsObservedTime time
time_kept pairs n fields time none is =
    let last = (both_pass (time_checks pairs n (time_word (time_of fields))) (((delay : ℕ) → ¬ IsDelay (delay_of fields) delay) ⇒ BadDelay n ∷ ((time : ℤ) × IsObserved pairs fields time × ¬ IsObservedTime time) ⇒ TimeRange n ∷ []) none).1 in
    not_above (nat_abs time) (9 * 10 ^ 21) (λ no. last.1.0 (time, is, no))

module _ (clock : ClockView) (pairs : List LeapPair) where
  above_before : (previous : Option (List (List ℕ))) (before : Option ℕ) (fields : List (List ℕ)) (tick : ℕ) → IsBefore clock previous before → IsClockWord clock (clock_of fields) tick
      → (IsSomeAnd previous (λ early. IsNotAbove clock early fields) → ⊥) → IsAbove before tick
  above_before previous None fields tick is word none = tt
  above_before previous (Some early) fields tick is word none = elim (cases_lt early tick) [
    | inl less ↦ less
    | inr le ↦ absurd (none (subst (λ (p : Option (List (List ℕ))). IsSomeAnd p (λ early. IsNotAbove clock early fields)) (sym is.1) (early, tick, is.2, word, le)))
  ]

  rows_from : (n : ℕ) (previous : Option (List (List ℕ))) (before : Option ℕ) (left : List (List (List ℕ))) (done rows : List RowView) → IsBefore clock previous before
      → NoneRefuses (each_after previous n (record_checks clock pairs) left) → AreFrom clock pairs n left rows → HasRows (total clock) before done
      → AreRows (total clock) (done ++ rows) × All (λ row. IsId row.id) rows
  rows_from n previous before [] done [] is none zip has = (subst (AreRows (total clock)) (sym (append-nil done)) has.rows, All-nil (λ (row : RowView). IsId row.id))
  rows_from n previous before [] done (o ∷ rows) is none zip has = absurd zip
  rows_from n previous before (fields ∷ left) done [] is none zip has = absurd zip
  rows_from n previous before (fields ∷ left) done (o ∷ rows) is none zip has =
      let parts = both_pass (record_checks clock pairs previous n fields) (each_after (Some fields) (n + 1) (record_checks clock pairs) left) none in
      let here = both_pass (own_checks clock pairs n fields) (IsSomeAnd previous (λ earlier. IsNotAbove clock earlier fields) ⇒ OutOfOrder n ∷ []) parts.0 in
      let id : IsId o.id = subst IsId (sym zip.0.id) (id_kept (id_of fields) here.0.1.1.0) in
      let time : IsObservedTime o.time = time_kept pairs n fields o.time here.0.1.1.1.1 zip.0.time in
      let up = above_before previous before fields o.tick is zip.0.tick here.1.0 in
      let within = IsClockWord-within clock (clock_of fields) o.tick zip.0.tick in
      let more = rows_from (n + 1) (Some fields) (Some o.tick) left (done ++ o ∷ []) rows (fields, refl, zip.0.tick) parts.1 zip.1 (one_more (total clock) before done o has up within time) in
      (subst (AreRows (total clock)) (append_assoc done (o ∷ []) rows) more.0, All-cons (λ (row : RowView). IsId row.id) o rows id more.1)

  of_records : (records : List (List (List ℕ))) (rows : List RowView) → NoneRefuses (file_checks clock pairs records) × AreObservations clock pairs records rows
      → AreRows (total clock) rows × All (λ row. IsId row.id) rows
  of_records [] rows h = absurd (h.0.0 tt)
  of_records (header ∷ left) rows h = rows_from 2 None None left [] rows refl h.0.1 h.1 (no_rows (total clock))

pub rows_ranges : (bytes : List ℕ) (clock : ClockView) (pairs : List LeapPair) (rows : List RowView) → ObservationsOf bytes clock pairs (Ok rows)
    → AreRows (total clock) rows × All (λ row. IsId row.id) rows
rows_ranges bytes clock pairs rows h = of_records clock pairs (records_of bytes) rows h
