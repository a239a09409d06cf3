-- A kernel with the block of a publication behind it gives the old triples, and the new ones behind them.
use Rattle.std.proofs.Common.{◌≡◌, ◌≢◌, ℕ, ◌+◌, ◌*◌, ◌%◌, ◌^◌, ◌<◌, ◌≤◌, true, false, List, [], ◌∷◌, ◌++◌, length, map, Option, Some, None, refl, sym, ap, subst, ◌∙◌, arith, append_assoc, inl, inr}
use Rattle.std.proofs.lemmas.Bool.{false≢true, cases_Bool}
use Rattle.std.proofs.lemmas.Int.{ints}
use Rattle.std.proofs.lemmas.List.Concat.{flat_map-append}
use Rattle.std.proofs.lemmas.Slice.Eq.{bytes_eq-Decides}
use Rattle.std.proofs.lemmas.Slice.Zip.{AllZip-long}
use Rattle.std.specs.Prelude.{ℤ, pos, negsuc, neg_ℤ, nat_abs, ◌≤ℤ◌, ◌<ℤ◌, ◌==◌, codes, unwrap_or, Ok}
use Rattle.std.specs.Str.{bytes_eq}
use Rattle.std.specs.List.{flat_map, list_all, list_any, AllZip, AllByRecursion}
use Rattle.sk_checks.specs.Checks.{Judges, NoneRefuses, each_after}
use Rattle.sk_checks.proofs.ChecksLemmas.{NoneRefuses-append}
use Rattle.sk_grammar.specs.declared.value.Value.{Value}
use Rattle.sk_grammar.specs.declared.value.Value.TheVariants.{Date}
use Rattle.sk_grammar.specs.declared.value.Op.TheVariants.{Set, Append}
use Rattle.sk_grammar.specs.Document.{ItemView, BlockView, DocView, is_text}
use Rattle.sk_grammar.specs.Variables.{items_of, values_of, values_at, variables_of}
use Rattle.sk_pool.proofs.Growing.{values_of-other, values_of-same, values_at-variables_of}
use Rattle.sk_clock.specs.Clock.{ClockView, total}
use Rattle.sk_line.specs.Triple.{TripleView}
use Rattle.sk_triples.specs.Kernel.{TriplesView, IsTriple, Rise, AreTriples}
use Rattle.sk_triples.specs.Coefficients.{Row, RowTime, Seconds, Calendar, time_value, row_values, rows_of, row_checks, values_for, triples_checks, AreTriplesOf, IsTripleOf, IsRowTime, IsRowRate}
use Rattle.sk_publishing.specs.Published.{reduced, triple_values, id_items, coefficient_items, published_block, appended}
use Rattle.sk_line.specs.Triple.{coefficients_name}
use Rattle.sk_triples.specs.Reading.{ArePair, Follows, AreRead}
use Rattle.sk_triples.specs.Values.{in_rows}
use Rattle.sk_triples.proofs.Threes.{rows_back, threes, are_in_rows, are_threes}
use Rattle.sk_triples.proofs.RowTimes.{has_form, is_row_time}
use Rattle.sk_triples.proofs.Decimals.{is_rate}
use Rattle.sk_triples.proofs.ReadRows.{in_order}
use Rattle.sk_triples.proofs.KernelOf.{AreRows, accepted}
use Rattle.sk_publication.proofs.Reduced.{reduced_units}
use Rattle.sk_excerpt.proofs.Rows.{rows_if_some}
use Rattle.sk_outcome.specs.Files.{TriplesOf}

-- ---- the rows of the new triples

abbrev row_of : TripleView → Row
row_of t = record { ticks = reduced 0 (pos t.anchor.ticks); time = Seconds (reduced 18 t.anchor.time); rate = reduced 18 t.rate }

values_are : (ts : List TripleView) → flat_map triple_values ts ≡ flat_map row_values (map row_of ts)
values_are [] = refl
values_are (t ∷ ts) = ap (λ (vs : List Value). triple_values t ++ vs) (values_are ts)

rows_join : (old : List Value) (more : List Row) → AreRows old → rows_of (old ++ flat_map row_values more) ≡ rows_of old ++ more
rows_join old more e =
    ap (λ (vs : List Value). rows_of (vs ++ flat_map row_values more)) e
    ∙ ap rows_of (sym (flat_map-append row_values (rows_of old) more)) ∙ rows_back (rows_of old ++ more)

are_joined : (old : List Value) (more : List Row) → AreRows old → AreRows (old ++ flat_map row_values more)
are_joined old more e =
    ap (λ (vs : List Value). vs ++ flat_map row_values more) e ∙ sym (flat_map-append row_values (rows_of old) more)
    ∙ ap (flat_map row_values) (sym (rows_join old more e))

zip_of : (ts : List TripleView) → AllZip IsTripleOf (map row_of ts) ts
zip_of [] = tt
zip_of (t ∷ ts) = (record { ticks = refl; time = reduced_units 18 t.anchor.time; rate = reduced_units 18 t.rate }, zip_of ts)

zip_join : (rows more : List Row) (ts us : List TripleView) → AllZip IsTripleOf rows ts → AllZip IsTripleOf more us → AllZip IsTripleOf (rows ++ more) (ts ++ us)
zip_join [] more [] us h k = k
zip_join [] more (t ∷ ts) us h k = absurd h
zip_join (row ∷ rows) more [] us h k = absurd h
zip_join (row ∷ rows) more (t ∷ ts) us h k = (h.0, zip_join rows more ts us h.1 k)

-- ---- no row is refused

abs_within : (z : ℤ) (n : ℕ) → neg_ℤ (pos n) ≤ℤ z → z ≤ℤ pos n → nat_abs z ≤ n
abs_within (pos m) n p q = omega (arith, ints)
abs_within (negsuc m) n p q = omega (arith, ints)

-- the first triple follows the one before it
abbrev pub Leads : Option TripleView → List TripleView → Type 0
Leads before [] = Unit {0}
Leads before (t ∷ ts) = Follows before t

behind_first : (t : TripleView) (ts : List TripleView) → Rise (t ∷ ts) → Leads (Some t) ts × Rise ts
behind_first t [] rise = (tt, tt)
behind_first t (u ∷ us) rise = ((rise.0, rise.1), rise.2)

module _ (total : ℕ) where
  row_passes : (previous : Option Row) (before : Option TripleView) (n : ℕ) (row : Row) (t : TripleView) → ArePair previous before → IsTripleOf row t → IsTriple total t → Follows before t
      → NoneRefuses (row_checks total previous n row)
  row_passes previous before n row t pair of is follows =
      let sized : nat_abs t.anchor.time ≤ 10 ^ 28 = abs_within t.anchor.time (10 ^ 28) is.from is.to in
      let time : IsRowTime row.time = is_row_time row.time t.anchor.time of.time sized in
      let rate : IsRowRate row.rate =
      is_rate row.rate of.rate.0 (subst (λ (z : ℤ). pos 0 <ℤ z) of.rate.1 is.positive) (subst (λ (z : ℤ). z ≤ℤ pos (1000 * 10 ^ 18)) of.rate.1 is.slow) in
      ((λ none. none t.anchor.ticks (of.ticks, is.ticks)), (has_form row.time t.anchor.time of.time, ((λ no. no time), ((λ no. no rate), (in_order previous before row t pair of follows, tt)))))

  rows_pass : (previous : Option Row) (before : Option TripleView) (n : ℕ) (rows : List Row) (ts : List TripleView) → ArePair previous before → AllZip IsTripleOf rows ts
      → AllByRecursion (IsTriple total) ts → Leads before ts → Rise ts → NoneRefuses (each_after previous n (row_checks total) rows)
  rows_pass previous before n [] ts pair zip are leads rise = tt
  rows_pass previous before n (row ∷ rows) [] pair zip are leads rise = absurd zip
  rows_pass previous before n (row ∷ rows) (t ∷ ts) pair zip are leads rise =
      let next = behind_first t ts rise in
      NoneRefuses-append (row_checks total previous n row) (each_after (Some row) (n + 1) (row_checks total) rows) (row_passes previous before n row t pair zip.0 are.0 leads)
      (rows_pass (Some row) (Some t) (n + 1) rows ts zip.0 zip.1 are.1 next.0 next.1)

  leads_none : (ts : List TripleView) → Leads None ts
  leads_none [] = tt
  leads_none (t ∷ ts) = tt

  are_read : (rows : List Row) (ts : List TripleView) → AllZip IsTripleOf rows ts → AreTriples total ts → AreRead total rows ts
  are_read rows ts zip are = record {
    passed = rows_pass None None 1 rows ts tt zip are.each (leads_none ts) are.rise;
    numbers = zip;
    kept = are.each;
    rise = are.rise;
  }

-- ---- the values of the coefficients

append-nothing : {A : Type 0} (xs : List A) → xs ++ [] ≡ xs
append-nothing [] = refl
append-nothing (x ∷ xs) = ap (λ t. x ∷ t) (append-nothing xs)

same_bytes : (name : List ℕ) → bytes_eq name name ≡ true
same_bytes name = (bytes_eq-Decides name name).1 refl

module _ (sc : ℕ) (items : List ItemView) where
  behind_id : (id : Option (List ℕ)) → values_of (coefficients_name sc) (items ++ id_items id) ≡ values_of (coefficients_name sc) items
  behind_id None = ap (values_of (coefficients_name sc)) (append-nothing items)
  behind_id (Some date) = values_of-other (coefficients_name sc) items (record { name = codes "SCLK_KERNEL_ID"; op = Set; values = Date date ∷ [] }) refl

  behind_numbers : (values : List Value) → values_of (coefficients_name sc) (items ++ coefficient_items sc values) ≡ values_of (coefficients_name sc) items ++ values
  behind_numbers [] = ap (values_of (coefficients_name sc)) (append-nothing items) ∙ sym (append-nothing (values_of (coefficients_name sc) items))
  behind_numbers (value ∷ values) =
      values_of-same (coefficients_name sc) items (record { name = coefficients_name sc; op = Append; values = value ∷ values }) (same_bytes (coefficients_name sc))

-- the items of the document with the block behind it
pub items_behind : (doc : DocView) (block : BlockView) → items_of (appended doc block) ≡ items_of doc ++ block.items
items_behind doc block =
    flat_map-append (λ (b : BlockView). b.items) doc.blocks (block ∷ []) ∙ ap (λ (items : List ItemView). items_of doc ++ items) (append-nothing block.items)

values_behind_block : (doc : DocView) (sc : ℕ) (id : Option (List ℕ)) (new : List TripleView) (table : List (List ℕ))
    → values_of (coefficients_name sc) (items_of (appended doc (published_block id sc new table))) ≡ values_of (coefficients_name sc) (items_of doc) ++ flat_map triple_values new
values_behind_block doc sc id new table =
    ap (values_of (coefficients_name sc))
    (items_behind doc (published_block id sc new table) ∙ sym (append_assoc (items_of doc) (id_items id) (coefficient_items sc (flat_map triple_values new))))
    ∙ behind_numbers sc (items_of doc ++ id_items id) (flat_map triple_values new)
    ∙ ap (λ (values : List Value). values ++ flat_map triple_values new) (behind_id sc (items_of doc) id)

-- ---- the old triples

found_at : (o : Option (List Value)) (values : List Value) → unwrap_or o [] ≡ values → 0 < length values → o ≡ Some values
found_at None values e some = let none : length values ≡ 0 = ap length (sym e) in absurd (omega arith)
found_at (Some x) values e some = ap Some e

rows_plain : (rows : List Row) → list_any is_text (flat_map row_values rows) ≡ false
rows_plain [] = refl
rows_plain (row ∷ rows) = time_plain row.time (flat_map row_values rows) ∙ rows_plain rows
  where
    time_plain : (time : RowTime) (values : List Value) → list_any is_text (time_value time ∷ values) ≡ list_any is_text values
    time_plain (Seconds number) values = refl
    time_plain (Calendar date) values = refl

-- the old coefficients are no texts
pub old_plain : (doc : DocView) (clock : ClockView) (sc : ℕ) (old : TriplesView) → TriplesOf (variables_of (items_of doc)) clock sc (Ok old)
    → list_any is_text (values_of (coefficients_name sc) (items_of doc)) ≡ false
old_plain doc clock sc old h =
    let name : List ℕ = coefficients_name sc in
    let from : values_for (variables_of (items_of doc)) sc ≡ values_of name (items_of doc) = values_at-variables_of name (items_of doc) in
    let rows : AreRows (values_of name (items_of doc)) = subst AreRows from (rows_if_some (values_for (variables_of (items_of doc)) sc) h.0.1.0) in
    ap (list_any is_text) rows ∙ rows_plain (rows_of (values_of name (items_of doc)))

-- what the variables of the new document give
pub reread : (doc : DocView) (clock : ClockView) (sc : ℕ) (old : TriplesView) (id : Option (List ℕ)) (new : List TripleView) (table : List (List ℕ))
    → Judges (triples_checks (variables_of (items_of doc)) clock sc) (AreTriplesOf (variables_of (items_of doc)) clock sc) (Ok old)
    → AreTriples (total clock) (old.triples ++ new)
    → Judges (triples_checks (variables_of (items_of (appended doc (published_block id sc new table)))) clock sc)
    (AreTriplesOf (variables_of (items_of (appended doc (published_block id sc new table)))) clock sc)
    (Ok (record { triples = old.triples ++ new; per_count = old.per_count; total = old.total }))
reread doc clock sc old id new table h are =
    let name : List ℕ = coefficients_name sc in
    let items : List ItemView = items_of (appended doc (published_block id sc new table)) in
    let before : List Value = values_of name (items_of doc) in
    let more : List Row = map row_of new in
    let values : List Value = before ++ flat_map row_values more in
    let all : List TripleView = old.triples ++ new in
    let from : values_for (variables_of (items_of doc)) sc ≡ before = values_at-variables_of name (items_of doc) in
    let rows : AreRows before = subst AreRows from (rows_if_some (values_for (variables_of (items_of doc)) sc) h.0.1.0) in
    let joined : AreRows values = are_joined before more rows in
    let apart : AllZip IsTripleOf (rows_of before ++ more) all =
    zip_join (rows_of before) more old.triples new (subst (λ (vs : List Value). AllZip IsTripleOf (rows_of vs) old.triples) from h.1.rows) (zip_of new) in
    let zip : AllZip IsTripleOf (rows_of values) all = subst (λ (rs : List Row). AllZip IsTripleOf rs all) (sym (rows_join before more rows)) apart in
    let long : length all ≡ length (rows_of values) = AllZip-long IsTripleOf (rows_of values) all zip in
    let three : length values ≡ length (rows_of values) * 3 = are_threes values joined in
    let few : length (rows_of values) ≤ 50000 = omega (arith, long, are.few) in
    let some : 0 < length values = omega (arith, three, long, are.some) in
    let is : values_of name items ≡ values = values_behind_block doc sc id new table ∙ ap (λ (vs : List Value). before ++ vs) (values_are new) in
    let found : values_at name (variables_of items) ≡ Some values = found_at (values_at name (variables_of items)) values (values_at-variables_of name items ∙ is) some in
    let read : AreRead old.total (rows_of values) all =
    subst (λ (n : ℕ). AreRead n (rows_of values) all) (sym h.1.of_clock.1) (are_read (total clock) (rows_of values) all zip are) in
    accepted (variables_of items) clock sc values found joined few old.per_count old.total h.1.of_clock.0 h.1.of_clock.1 all read
