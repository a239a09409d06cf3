-- The triples from one place to another are those that their values give.
use Rattle.std.proofs.Common.{◌≡◌, ◌≢◌, ℕ, zero, suc, ◌+◌, ◌-◌, ◌*◌, ◌≤◌, List, [], ◌∷◌, ◌++◌, length, take, drop, min, Option, Some, None, refl, sym, ap, subst, inl, inr, arith, ◌∙◌, length-take, length-drop}
use Rattle.std.specs.Prelude.{unwrap_or, Ok}
use Rattle.std.specs.Option.{option_map}
use Rattle.std.specs.List.{flat_map, AllZip, AllByRecursion}
use Rattle.std.proofs.lemmas.Bool.{cases_Bool, false≢true}
use Rattle.std.proofs.lemmas.Slice.Zip.{AllZip-long}
use Rattle.sk_checks.specs.Checks.{Check, Judges, NoneRefuses, each_after}
use Rattle.sk_checks.proofs.ChecksLemmas.{NoneRefuses-append}
use Rattle.sk_grammar.specs.declared.value.Value.{Value}
use Rattle.sk_grammar.specs.Variables.{VariableView, values_at}
use Rattle.sk_clock.specs.Clock.{ClockView, total}
use Rattle.sk_line.specs.Triple.{TripleView, coefficients_name}
use Rattle.sk_triples.specs.Coefficients.{Row, row_values, rows_of, row_checks, values_for, triples_checks, AreTriplesOf, IsTripleOf}
use Rattle.sk_triples.specs.Kernel.{TriplesView, AreKept, IsTriple, Rise}
use Rattle.sk_triples.specs.Reading.{AreRead}
use Rattle.sk_triples.specs.Values.{in_rows}
use Rattle.sk_triples.proofs.Threes.{rows_back, threes, are_in_rows}
use Rattle.sk_triples.proofs.Covering.{rise_tail}
use Rattle.sk_triples.proofs.KernelOf.{AreRows, accepted}
use Rattle.sk_excerpt.specs.Excerpt.{cut}
use Rattle.sk_excerpt.specs.Law.{between}

-- ---- values by their rows

pub rows_if_some : (values : List Value) → (((rows : List Row) → values ≢ flat_map row_values rows) → ⊥) → AreRows values
rows_if_some values some =
    elim (cases_Bool (in_rows values)) [
      | inl rows ↦ threes values rows
      | inr others ↦ absurd (some (λ rows e. false≢true (sym others ∙ are_in_rows values (own rows e))))
    ]
  where
    own : (rows : List Row) → values ≡ flat_map row_values rows → AreRows values
    own rows e = e ∙ ap (flat_map row_values) (sym (ap rows_of e ∙ rows_back rows))

drop_rows : (n : ℕ) (rows : List Row) → drop (3 * n) (flat_map row_values rows) ≡ flat_map row_values (drop n rows)
drop_rows zero rows = refl
drop_rows (suc n) [] = nothing (3 * suc n)
  where
    nothing : (m : ℕ) → ◌≡◌ {A = List Value} (drop m []) []
    nothing zero = refl
    nothing (suc m) = refl
drop_rows (suc n) (row ∷ rows) =
    let next : 3 * suc n ≡ suc (suc (suc (3 * n))) = omega arith in
    ap (λ (k : ℕ). drop k (flat_map row_values (row ∷ rows))) next ∙ drop_rows n rows

take_rows : (n : ℕ) (rows : List Row) → take (3 * n) (flat_map row_values rows) ≡ flat_map row_values (take n rows)
take_rows zero rows = refl
take_rows (suc n) [] = nothing (3 * suc n)
  where
    nothing : (m : ℕ) → ◌≡◌ {A = List Value} (take m []) []
    nothing zero = refl
    nothing (suc m) = refl
take_rows (suc n) (row ∷ rows) =
    let next : 3 * suc n ≡ suc (suc (suc (3 * n))) = omega arith in
    ap (λ (k : ℕ). take k (flat_map row_values (row ∷ rows))) next ∙ ap (λ (vs : List Value). row_values row ++ vs) (take_rows n rows)

cut_rows : (first last : ℕ) (values : List Value) → AreRows values → cut first last values ≡ flat_map row_values (take (last - first + 1) (drop first (rows_of values)))
cut_rows first last values rows =
    ap (λ (vs : List Value). take (3 * (last - first + 1)) (drop (3 * first) vs)) rows
    ∙ ap (take (3 * (last - first + 1))) (drop_rows first (rows_of values))
    ∙ take_rows (last - first + 1) (drop first (rows_of values))

rows_of_cut : (first last : ℕ) (values : List Value) → AreRows values → rows_of (cut first last values) ≡ take (last - first + 1) (drop first (rows_of values))
rows_of_cut first last values rows = ap rows_of (cut_rows first last values rows) ∙ rows_back (take (last - first + 1) (drop first (rows_of values)))

are_cut : (first last : ℕ) (values : List Value) → AreRows values → AreRows (cut first last values)
are_cut first last values rows = cut_rows first last values rows ∙ ap (flat_map row_values) (sym (rows_of_cut first last values rows))

-- ---- no row is refused

parts : {F : Type 0} (a b : List (Check F)) → NoneRefuses (a ++ b) → NoneRefuses a × NoneRefuses b
parts [] b h = (tt, h)
parts (check ∷ a) b h = let more = parts a b h.1 in ((h.0, more.0), more.1)

module _ (total : ℕ) where
  -- whatever their numbers
  numbered : (before : Option Row) (n m : ℕ) (rows : List Row) → NoneRefuses (each_after before n (row_checks total) rows) → NoneRefuses (each_after before m (row_checks total) rows)
  numbered before n m [] h = tt
  numbered before n m (row ∷ rows) h =
      let both = parts (row_checks total before n row) (each_after (Some row) (n + 1) (row_checks total) rows) h in
      NoneRefuses-append (row_checks total before m row) (each_after (Some row) (m + 1) (row_checks total) rows) both.0 (numbered (Some row) (n + 1) (m + 1) rows both.1)

  -- and where nothing stands before them
  alone : (before : Option Row) (n : ℕ) (rows : List Row) → NoneRefuses (each_after before n (row_checks total) rows) → NoneRefuses (each_after None 1 (row_checks total) rows)
  alone before n [] h = tt
  alone before n (row ∷ rows) h =
      let both = parts (row_checks total before n row) (each_after (Some row) (n + 1) (row_checks total) rows) h in
      let own = both.0 in
      NoneRefuses-append (row_checks total None 1 row) (each_after (Some row) 2 (row_checks total) rows) (own.0, (own.1.0, (own.1.1.0, (own.1.1.1.0, ((λ out. out), tt)))))
      (numbered (Some row) (n + 1) 2 rows both.1)

  front_passes : (before : Option Row) (n k : ℕ) (rows : List Row) → NoneRefuses (each_after before n (row_checks total) rows) → NoneRefuses (each_after before n (row_checks total) (take k rows))
  front_passes before n zero rows h = tt
  front_passes before n (suc k) [] h = tt
  front_passes before n (suc k) (row ∷ rows) h =
      let both = parts (row_checks total before n row) (each_after (Some row) (n + 1) (row_checks total) rows) h in
      NoneRefuses-append (row_checks total before n row) (each_after (Some row) (n + 1) (row_checks total) (take k rows)) both.0 (front_passes (Some row) (n + 1) k rows both.1)

  rest_passes : (before : Option Row) (n k : ℕ) (rows : List Row) → NoneRefuses (each_after before n (row_checks total) rows) → NoneRefuses (each_after None 1 (row_checks total) (drop k rows))
  rest_passes before n zero rows h = alone before n rows h
  rest_passes before n (suc k) [] h = tt
  rest_passes before n (suc k) (row ∷ rows) h =
      let both = parts (row_checks total before n row) (each_after (Some row) (n + 1) (row_checks total) rows) h in
      rest_passes (Some row) (n + 1) k rows both.1

-- ---- the triples

front_zip : (k : ℕ) (rows : List Row) (ts : List TripleView) → AllZip IsTripleOf rows ts → AllZip IsTripleOf (take k rows) (take k ts)
front_zip zero rows ts h = tt
front_zip (suc k) [] [] h = tt
front_zip (suc k) [] (t ∷ ts) h = absurd h
front_zip (suc k) (row ∷ rows) [] h = absurd h
front_zip (suc k) (row ∷ rows) (t ∷ ts) h = (h.0, front_zip k rows ts h.1)

rest_zip : (k : ℕ) (rows : List Row) (ts : List TripleView) → AllZip IsTripleOf rows ts → AllZip IsTripleOf (drop k rows) (drop k ts)
rest_zip zero rows ts h = h
rest_zip (suc k) [] [] h = tt
rest_zip (suc k) [] (t ∷ ts) h = absurd h
rest_zip (suc k) (row ∷ rows) [] h = absurd h
rest_zip (suc k) (row ∷ rows) (t ∷ ts) h = rest_zip k rows ts h.1

front_all : (P : TripleView → Type 0) (k : ℕ) (ts : List TripleView) → AllByRecursion P ts → AllByRecursion P (take k ts)
front_all P zero ts h = tt
front_all P (suc k) [] h = tt
front_all P (suc k) (t ∷ ts) h = (h.0, front_all P k ts h.1)

rest_all : (P : TripleView → Type 0) (k : ℕ) (ts : List TripleView) → AllByRecursion P ts → AllByRecursion P (drop k ts)
rest_all P zero ts h = h
rest_all P (suc k) [] h = tt
rest_all P (suc k) (t ∷ ts) h = rest_all P k ts h.1

front_rises : (k : ℕ) (ts : List TripleView) → Rise ts → Rise (take k ts)
front_rises zero ts rise = tt
front_rises (suc k) [] rise = tt
front_rises (suc zero) (a ∷ ts) rise = tt
front_rises (suc (suc k)) (a ∷ []) rise = tt
front_rises (suc (suc k)) (a ∷ b ∷ ts) rise = (rise.0, rise.1, front_rises (suc k) (b ∷ ts) rise.2)

rest_rises : (k : ℕ) (ts : List TripleView) → Rise ts → Rise (drop k ts)
rest_rises zero ts rise = rise
rest_rises (suc k) [] rise = tt
rest_rises (suc k) (a ∷ ts) rise = rest_rises k ts (rise_tail a ts rise)

pub rises : (first last : ℕ) (ts : List TripleView) → Rise ts → Rise (take (last - first + 1) (drop first ts))
rises first last ts rise = front_rises (last - first + 1) (drop first ts) (rest_rises first ts rise)

-- ---- what the values of the kept triples give

pub accepted_between : (old new : List VariableView) (clock : ClockView) (sc first last : ℕ) (t : TriplesView) → AreKept t
    → Judges (triples_checks old clock sc) (AreTriplesOf old clock sc) (Ok t)
    → values_at (coefficients_name sc) new ≡ option_map (cut first last) (values_at (coefficients_name sc) old)
    → Judges (triples_checks new clock sc) (AreTriplesOf new clock sc) (Ok (between first last t))
accepted_between old new clock sc first last t kept h held = by (values_at (coefficients_name sc) old) refl
  where
    by : (o : Option (List Value)) → values_at (coefficients_name sc) old ≡ o → Judges (triples_checks new clock sc) (AreTriplesOf new clock sc) (Ok (between first last t))
    by None none = absurd (h.0.0 none)
    by (Some values) found =
        let n : ℕ = last - first + 1 in
        let is : values_for old sc ≡ values = ap (λ (o : Option (List Value)). unwrap_or o []) found in
        let rows : AreRows values = subst AreRows is (rows_if_some (values_for old sc) h.0.1.0) in
        let passed : NoneRefuses (each_after None 1 (row_checks (total clock)) (rows_of values)) = subst (λ (vs : List Value). NoneRefuses (each_after None 1 (row_checks (total clock)) (rows_of vs))) is h.0.1.1.1 in
        let zip : AllZip IsTripleOf (rows_of values) t.triples = subst (λ (vs : List Value). AllZip IsTripleOf (rows_of vs) t.triples) is h.1.rows in
        let long : length t.triples ≡ length (rows_of values) = AllZip-long IsTripleOf (rows_of values) t.triples zip in
        let rows_are : rows_of (cut first last values) ≡ take n (drop first (rows_of values)) = rows_of_cut first last values rows in
        let size : length (take n (drop first (rows_of values))) ≡ min n (length (rows_of values) - first) = length-take n (drop first (rows_of values)) ∙ ap (min n) (length-drop first (rows_of values)) in
        let many = kept.triples.few in
        let few : length (rows_of (cut first last values)) ≤ 50000 = omega (arith, ap length rows_are, size, long, many) in
        let read : AreRead t.total (take n (drop first (rows_of values))) (take n (drop first t.triples)) = record {
          passed = subst (λ (whole : ℕ). NoneRefuses (each_after None 1 (row_checks whole) (take n (drop first (rows_of values))))) (sym h.1.of_clock.1)
              (front_passes (total clock) None 1 n (drop first (rows_of values)) (rest_passes (total clock) None 1 first (rows_of values) passed));
          numbers = front_zip n (drop first (rows_of values)) (drop first t.triples) (rest_zip first (rows_of values) t.triples zip);
          kept = front_all (IsTriple t.total) n (drop first t.triples) (rest_all (IsTriple t.total) first t.triples kept.triples.each);
          rise = rises first last t.triples kept.triples.rise;
        } in
        accepted new clock sc (cut first last values) (held ∙ ap (option_map (cut first last)) found) (are_cut first last values rows) few t.per_count t.total h.1.of_clock.0 h.1.of_clock.1
        (take n (drop first t.triples)) (subst (λ (rs : List Row). AreRead t.total rs (take n (drop first t.triples))) (sym rows_are) read)
