-- Rows that are read, one after the other.
use Rattle.std.proofs.Common.{◌≡◌, ◌⊎◌, ℕ, ◌+◌, ◌<◌, List, [], ◌∷◌, ◌++◌, length, Option, Some, None, IsSomeAnd, refl, sym, ap, subst, inl, inr, arith, ◌∙◌, append_assoc, length-append}
use Rattle.std.proofs.lemmas.Bool.{cases_lt}
use Rattle.std.proofs.lemmas.Int.{ints}
use Rattle.std.specs.Prelude.{ℤ, pos, ◌<ℤ◌}
use Rattle.sk_decimal.specs.Number.{DecimalView}
use Rattle.sk_grammar.specs.declared.value.Value.TheVariants.{Number}
use Rattle.sk_grammar.specs.Variables.{whole}
use Rattle.sk_line.specs.Triple.{TripleView}
use Rattle.sk_triples.specs.Coefficients.{Row, RowTime, HasTime, IsEarlier, IsLess, IsTickUpTo, IsTripleOf, time_checks, row_checks}
use Rattle.sk_triples.specs.Kernel.{IsTriple, Rise}
use Rattle.sk_triples.specs.Reading.{ArePair, Follows, IsRead, AreRead, IsReadUpTo}
use Rattle.sk_triples.specs.declared.triple.TriplesFault.{TriplesFault}
use Rattle.std.specs.List.{AllZip, last_or}
use Rattle.sk_checks.specs.Checks.{Check, FirstRefuses, NoneRefuses, each_after}
use Rattle.sk_checks.proofs.ChecksLemmas.{FirstRefuses-front, FirstRefuses-rest, NoneRefuses-append, each_after-at}
use Rattle.sk_line.proofs.Lists.{all_append}
use Rattle.sk_triples.proofs.RowTimes.{time_one}

-- ---- whole numbers

number_is : (d : DecimalView) (n : ℕ) → Number d ≡ whole n → d ≡ record { coefficient = pos n; scale = 0 }
number_is d n e = cc

abbrev whole_number : ℕ → DecimalView
whole_number n = record { coefficient = pos n; scale = 0 }

ticks_less : (a b : DecimalView) (m n : ℕ) → Number a ≡ whole m → Number b ≡ whole n → IsLess a b → m < n
ticks_less a b m n p q h =
    let l : IsLess (whole_number m) (whole_number n) =
    subst (λ (x : DecimalView). IsLess x (whole_number n)) (number_is a m p) (subst (λ (x : DecimalView). IsLess a x) (number_is b n q) h) in
    omega (arith, ints)

less_ticks : (a b : DecimalView) (m n : ℕ) → Number a ≡ whole m → Number b ≡ whole n → m < n → IsLess a b
less_ticks a b m n p q h =
    let l : IsLess (whole_number m) (whole_number n) = omega (arith, ints) in
    subst (λ (x : DecimalView). IsLess x b) (sym (number_is a m p)) (subst (λ (x : DecimalView). IsLess (whole_number m) x) (sym (number_is b n q)) l)

times_less : (a b : RowTime) (x y : ℤ) → HasTime a x → HasTime b y → IsEarlier a b → x <ℤ y
times_less a b x y p q h =
    subst (λ (z : ℤ). z <ℤ y) (time_one a h.0 x h.2 p) (subst (λ (z : ℤ). h.0 <ℤ z) (time_one b h.1 y h.3 q) h.4)

less_times : (a b : RowTime) (x y : ℤ) → HasTime a x → HasTime b y → x <ℤ y → IsEarlier a b
less_times a b x y p q h = (x, y, p, q, h)

-- ---- the order of two rows

-- the row is not behind the one before it
abbrev pub IsOut : Row → Row → Type 0
IsOut row previous = (¬ IsLess previous.ticks row.ticks) ⊎ (¬ IsEarlier previous.time row.time)

pub in_order : (previous : Option Row) (before : Option TripleView) (row : Row) (triple : TripleView)
    → ArePair previous before → IsTripleOf row triple → Follows before triple → ¬ IsSomeAnd previous (IsOut row)
in_order None before row triple pair of follows out = out
in_order (Some previous) None row triple pair of follows out = pair
in_order (Some previous) (Some before) row triple pair of follows (inl out) = out (less_ticks _ _ _ _ pair.ticks of.ticks follows.0)
in_order (Some previous) (Some before) row triple pair of follows (inr out) = out (less_times _ _ _ _ pair.time of.time follows.1)

pub out_of_order : (previous : Option Row) (before : Option TripleView) (row : Row) (triple : TripleView)
    → ArePair previous before → IsTripleOf row triple → ¬ Follows before triple → IsSomeAnd previous (IsOut row)
out_of_order None None row triple pair of not = absurd (not tt)
out_of_order None (Some before) row triple pair of not = absurd pair
out_of_order (Some previous) None row triple pair of not = absurd pair
out_of_order (Some previous) (Some before) row triple pair of not = elim (cases_lt before.anchor.ticks triple.anchor.ticks) [
  | inl p ↦ inr (λ l. not (p, times_less _ _ _ _ pair.time of.time l))
  | inr p ↦ inl (λ l. let less = ticks_less _ _ _ _ pair.ticks of.ticks l in omega arith)
]

-- ---- one row

-- what is refused of the time is refused of the row
pub time_refused : (total n : ℕ) (before : Option Row) (row : Row) (fault : TriplesFault) → (((tick : ℕ) → ¬ IsTickUpTo total row.ticks tick) → ⊥)
    → FirstRefuses (time_checks n row.time) fault → FirstRefuses (row_checks total before n row) fault
time_refused total n before row fault tick (inl form) = inr (tick, inl form)
time_refused total n before row fault tick (inr (form, inl range)) = inr (tick, inr (form, inl range))
time_refused total n before row fault tick (inr (form, inr none)) = absurd none.1

-- what is refused of the row alone is refused of it behind another one
pub refused_alone : (total n : ℕ) (before : Option Row) (row : Row) (fault : TriplesFault) → FirstRefuses (row_checks total None n row) fault → FirstRefuses (row_checks total before n row) fault
refused_alone total n before row fault (inl ticks) = inl ticks
refused_alone total n before row fault (inr (a, inl form)) = inr (a, inl form)
refused_alone total n before row fault (inr (a, inr (b, inl range))) = inr (a, inr (b, inl range))
refused_alone total n before row fault (inr (a, inr (b, inr (c, inl rate)))) = inr (a, inr (b, inr (c, inl rate)))
refused_alone total n before row fault (inr (a, inr (b, inr (c, inr (d, inl out))))) = absurd out.0
refused_alone total n before row fault (inr (a, inr (b, inr (c, inr (d, inr none))))) = absurd none.1

-- ---- one row more

pairs : (o : Option Row) (p : Option TripleView) (rows : List Row) (triples : List TripleView) → ArePair o p → AllZip IsTripleOf rows triples
    → ArePair (last_or o rows) (last_or p triples)
pairs o p [] [] pair zip = pair
pairs o p [] (t ∷ triples) pair zip = absurd zip
pairs o p (row ∷ rows) [] pair zip = absurd zip
pairs o p (row ∷ rows) (t ∷ triples) pair zip = pairs (Some row) (Some t) rows triples zip.0 zip.1

zip_push : (rows : List Row) (triples : List TripleView) (row : Row) (triple : TripleView) → AllZip IsTripleOf rows triples → IsTripleOf row triple
    → AllZip IsTripleOf (rows ++ row ∷ []) (triples ++ triple ∷ [])
zip_push [] [] row triple zip of = (of, tt)
zip_push [] (t ∷ triples) row triple zip of = absurd zip
zip_push (r ∷ rows) [] row triple zip of = absurd zip
zip_push (r ∷ rows) (t ∷ triples) row triple zip of = (zip.0, zip_push rows triples row triple zip.1 of)

pub rise_push : (triples : List TripleView) (triple : TripleView) → Rise triples → Follows (last_or None triples) triple → Rise (triples ++ triple ∷ [])
rise_push [] triple rise follows = tt
rise_push (a ∷ []) triple rise follows = (follows.0, follows.1, tt)
rise_push (a ∷ b ∷ triples) triple rise follows = (rise.0, rise.1, rise_push (b ∷ triples) triple rise.2 follows)

pub last-push : {X : Type 0} (o : Option X) (xs : List X) (x : X) → Some x ≡ last_or o (xs ++ x ∷ [])
last-push o [] x = refl
last-push o (y ∷ xs) x = last-push (Some y) xs x

module _ (total : ℕ) where
  checks_at : (done : List Row) (row : Row) (rest : List Row) (n : ℕ) → n ≡ length done + 1
      → each_after None 1 (row_checks total) (done ++ row ∷ rest)
      ≡ each_after None 1 (row_checks total) done ++ (row_checks total (last_or None done) n row ++ each_after (Some row) (n + 1) (row_checks total) rest)
  checks_at done row rest n e =
      let same : 1 + length done ≡ n = omega arith in
      let at = each_after-at None 1 (row_checks total) done row rest in rw same at at

  pub refused_at : (all done : List Row) (row : Row) (rest : List Row) (triples : List TripleView) (n : ℕ) (fault : TriplesFault)
      → all ≡ done ++ row ∷ rest → n ≡ length done + 1 → AreRead total done triples
      → FirstRefuses (row_checks total (last_or None done) n row) fault → FirstRefuses (each_after None 1 (row_checks total) all) fault
  refused_at all done row rest triples n fault e same read h =
      subst (λ (rows : List Row). FirstRefuses (each_after None 1 (row_checks total) rows) fault) (sym e)
      (transport_checks _ _ (sym (checks_at done row rest n same))
      (FirstRefuses-rest (each_after None 1 (row_checks total) done) _ fault read.passed (FirstRefuses-front (row_checks total (last_or None done) n row) _ fault h)))
    where
      transport_checks : (a b : List (Check TriplesFault)) → a ≡ b → FirstRefuses a fault → FirstRefuses b fault
      transport_checks a b e h = subst (λ (checks : List (Check TriplesFault)). FirstRefuses checks fault) e h

  pub read_more : (done : List Row) (triples : List TripleView) (row : Row) (triple : TripleView) (n : ℕ) → n ≡ length done + 1
      → AreRead total done triples → NoneRefuses (row_checks total (last_or None done) n row) → IsRead total row triple → Follows (last_or None triples) triple
      → AreRead total (done ++ row ∷ []) (triples ++ triple ∷ [])
  read_more done triples row triple n same read passed one follows = record {
    passed = subst NoneRefuses (sym (checks_at done row [] n same))
        (NoneRefuses-append (each_after None 1 (row_checks total) done) _ read.passed (NoneRefuses-append (row_checks total (last_or None done) n row) [] passed tt));
    numbers = zip_push done triples row triple read.numbers one.numbers;
    kept = all_append (IsTriple total) triples (triple ∷ []) read.kept (one.kept, tt);
    rise = rise_push triples triple read.rise follows;
  }

  pub pair_at : (done : List Row) (triples : List TripleView) → AreRead total done triples → ArePair (last_or None done) (last_or None triples)
  pair_at done triples read = pairs None None done triples tt read.numbers

  pub pair_of : (all done rest : List Row) (triples : List TripleView) (before : Option TripleView) (n : ℕ)
      → IsReadUpTo total all done rest triples before n → ArePair (last_or None done) before
  pair_of all done rest triples before n up = subst (λ (b : Option TripleView). ArePair (last_or None done) b) (sym up.last) (pair_at done triples up.read)

  pub refused_next : (all done rest : List Row) (triples : List TripleView) (before : Option TripleView) (n : ℕ) (row : Row) (later : List Row) (fault : TriplesFault)
      → rest ≡ row ∷ later → IsReadUpTo total all done rest triples before n
      → FirstRefuses (row_checks total (last_or None done) (n + 1) row) fault → FirstRefuses (each_after None 1 (row_checks total) all) fault
  refused_next all done rest triples before n row later fault e up h =
      refused_at all done row later triples (n + 1) fault (up.joined ∙ ap (λ (rows : List Row). done ++ rows) e) (omega (arith, up.counted)) up.read h

  pub one_more : (all done rest : List Row) (triples : List TripleView) (before : Option TripleView) (n : ℕ) (row : Row) (later later' : List Row) (triple : TripleView) (items : List TripleView)
      → rest ≡ row ∷ later → later' ≡ later → items ≡ triples ++ triple ∷ [] → IsReadUpTo total all done rest triples before n
      → NoneRefuses (row_checks total (last_or None done) (n + 1) row) → IsRead total row triple → Follows before triple
      → IsReadUpTo total all (done ++ row ∷ []) later' items (Some triple) (n + 1)
  one_more all done rest triples before n row later later' triple items e same i up passed one follows =
      let counted : n + 1 ≡ length done + 1 = omega (arith, up.counted) in
      let behind : Follows (last_or None triples) triple = subst (λ (b : Option TripleView). Follows b triple) up.last follows in
      record {
        joined = up.joined ∙ ap (λ (rows : List Row). done ++ rows) (e ∙ ap (λ (rows : List Row). row ∷ rows) (sym same)) ∙ sym (append_assoc done (row ∷ []) later');
        read = subst (λ (ts : List TripleView). AreRead total (done ++ row ∷ []) ts) (sym i) (read_more done triples row triple (n + 1) counted up.read passed one behind);
        last = last-push None triples triple ∙ ap (λ (ts : List TripleView). last_or None ts) (sym i);
        counted = counted ∙ sym (length-append done (row ∷ []));
      }
