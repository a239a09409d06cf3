-- How the pairs of a leap second kernel are read, one behind the other.
use Rattle.std.proofs.Common.{◌≡◌, ◌≢◌, ℕ, zero, suc, ◌+◌, ◌-◌, ◌*◌, ◌^◌, ◌<◌, ◌≤◌, ◌⊎◌, inl, inr, Bool, true, false, List, [], ◌∷◌, ◌++◌, length, Option, Some, None, All, refl, ap, sym, ◌∙◌, subst, arith, lit≤, append_assoc, length-append}
use Rattle.std.specs.Prelude.{ℤ, pos, negsuc, neg_ℤ, ◌<ℤ◌, ◌≤ℤ◌, IsSomeAnd, slice_get, ◌==◌}
use Rattle.std.specs.List.{AllZip, last_or}
use Rattle.std.specs.Option.{ForSome}
use Rattle.std.proofs.lemmas.Bool.{cases_eq, eqb-true}
use Rattle.std.proofs.lemmas.Int.{ints, by_lt_z}
use Rattle.std.proofs.lemmas.List.Elements.{All-push, All-head, All-tail, All-nil}
use Rattle.std.proofs.lemmas.Option.{none-some, same_Some}
use Rattle.sk_checks.specs.Checks.{Check, ◌⇒◌, NoneRefuses, FirstRefuses, each_after}
use Rattle.sk_checks.proofs.ChecksLemmas.{FirstRefuses-front, FirstRefuses-rest, NoneRefuses-append, each_after-at}
use Rattle.sk_grammar.specs.declared.value.Value.{Value}
use Rattle.sk_leap.specs.declared.pair.LeapPair.{LeapPair}
use Rattle.sk_leap.specs.declared.table.LeapFault.{LeapFault}
use Rattle.sk_leap.specs.declared.table.LeapFault.TheVariants.{LeapStep}
use Rattle.sk_leap.specs.Leap.{AreInStep, IsLeapTable}
use Rattle.sk_leap.specs.Kernel.{Entry, IsLeapDate, FallsBack, entries_of, entry_checks}
use Rattle.sk_leap.specs.Entries.{in_turn, IsPairOf, IsReadFrom, pair_checks}
use Rattle.sk_leap.proofs.KernelDates.{one_date}
use Rattle.sk_leap.proofs.LeapDays.{leap_day_bounds}
use Rattle.sk_leap.proofs.Lookups.{last_or-push}
use Rattle.sk_leap.proofs.Turns.{entry_of, Begins}

-- ---- the last pair and the last entry

abbrev pub AreRelated : Option LeapPair → Option Entry → Type 0
AreRelated None None = Unit {0}
AreRelated None (Some entry) = ⊥
AreRelated (Some pair) None = ⊥
AreRelated (Some pair) (Some entry) = IsPairOf pair entry

last_related : (o : Option LeapPair) (e : Option Entry) (pairs : List LeapPair) (entries : List Entry) → AreRelated o e → AllZip IsPairOf pairs entries → AreRelated (last_or o pairs) (last_or e entries)
last_related o e [] [] r z = r
last_related o e [] (y ∷ ys) r z = absurd z
last_related o e (x ∷ xs) [] r z = absurd z
last_related o e (x ∷ xs) (y ∷ ys) r z = last_related (Some x) (Some y) xs ys z.0 z.1

zip_length : (pairs : List LeapPair) (entries : List Entry) → AllZip IsPairOf pairs entries → length pairs ≡ length entries
zip_length [] [] z = refl
zip_length [] (y ∷ ys) z = absurd z
zip_length (x ∷ xs) [] z = absurd z
zip_length (x ∷ xs) (y ∷ ys) z = ap suc (zip_length xs ys z.1)

zip_push : (pairs : List LeapPair) (entries : List Entry) (pair : LeapPair) (entry : Entry) → AllZip IsPairOf pairs entries → IsPairOf pair entry → AllZip IsPairOf (pairs ++ pair ∷ []) (entries ++ entry ∷ [])
zip_push [] [] pair entry z r = (r, tt)
zip_push [] (y ∷ ys) pair entry z r = absurd z
zip_push (x ∷ xs) [] pair entry z r = absurd z
zip_push (x ∷ xs) (y ∷ ys) pair entry z r = (z.0, zip_push xs ys pair entry z.1 r)

-- the last item by its place
last_at : (x : LeapPair) (xs : List LeapPair) → slice_get (x ∷ xs) (length xs) ≡ last_or (Some x) xs
last_at x [] = refl
last_at x (y ∷ ys) = last_at y ys

pub last_is : (xs : List LeapPair) → slice_get xs (length xs - 1) ≡ last_or None xs
last_is [] = refl
last_is (x ∷ xs) = let back : length (x ∷ xs) - 1 ≡ length xs = omega arith in ap (slice_get (x ∷ xs)) back ∙ last_at x xs

-- ---- checks on a pair are those on its entry

checks_pass : (last : Option LeapPair) (before : Option Entry) (n number : ℕ) (date : List ℕ) → AreRelated last before
    → NoneRefuses (pair_checks last n number date) → NoneRefuses (entry_checks before n (entry_of number date))
checks_pass None None n number date r h = h
checks_pass None (Some entry) n number date r h = absurd r
checks_pass (Some pair) None n number date r h = absurd r
checks_pass (Some pair) (Some entry) n number date r h = (
  h.0,
  (
    (λ falls. let same : falls.0 ≡ pair.day = one_date entry.date falls.0 pair.day falls.2 r.1 in
        h.1.0 (falls.1, falls.3, omega (arith, ints, falls.4, same))),
    ((λ differs. h.1.1.0 (λ is. differs (is ∙ ap (λ (v : ℕ). v + 1) r.0))), tt),
  ),
)

checks_refuse : (last : Option LeapPair) (before : Option Entry) (n number : ℕ) (date : List ℕ) (fault : LeapFault) → AreRelated last before
    → FirstRefuses (pair_checks last n number date) fault → FirstRefuses (entry_checks before n (entry_of number date)) fault
checks_refuse None None n number date fault r h = h
checks_refuse None (Some entry) n number date fault r h = absurd r
checks_refuse (Some pair) None n number date fault r h = absurd r
checks_refuse (Some pair) (Some entry) n number date fault r h = elim h [
  | inl form ↦ inl form
  | inr formed ↦ inr (
    formed.0,
    (elim formed.1 [
      | inl order ↦ inl ((pair.day, order.0.0, r.1, order.0.1, order.0.2), order.1)
      | inr ordered ↦ inr (
        (λ falls. let same : falls.0 ≡ pair.day = one_date entry.date falls.0 pair.day falls.2 r.1 in
            ordered.0 (falls.1, falls.3, omega (arith, ints, falls.4, same))),
        (elim ordered.1 [
          | inl step ↦ inl ((λ is. step.0 (is ∙ ap (λ (v : ℕ). v + 1) (sym r.0))), step.1)
          | inr stepped ↦ absurd stepped.1
        ]),
      )
    ]),
  )
]

-- ---- one more pair in step

abbrev IsNext : Option LeapPair → LeapPair → Type 0
IsNext None pair = Unit {0}
IsNext (Some last) pair = (last.day <ℤ pair.day) × (pair.value ≡ last.value + 1)

step_push : (x : LeapPair) (xs : List LeapPair) (pair : LeapPair) → AreInStep (x ∷ xs) → IsNext (last_or (Some x) xs) pair → AreInStep (x ∷ (xs ++ pair ∷ []))
step_push x [] pair h next = (next.0, next.1, tt)
step_push x (y ∷ ys) pair h next = (h.0, h.1, step_push y ys pair h.2 next)

in_step_push : (pairs : List LeapPair) (pair : LeapPair) → AreInStep pairs → IsNext (last_or None pairs) pair → AreInStep (pairs ++ pair ∷ [])
in_step_push [] pair h next = tt
in_step_push (x ∷ xs) pair h next = step_push x xs pair h next

is_next : (last : Option LeapPair) (n number : ℕ) (date : List ℕ) (pair : LeapPair) → NoneRefuses (pair_checks last n number date) → pair.value ≡ number → IsLeapDate date pair.day → IsNext last pair
is_next None n number date pair h value day = tt
is_next (Some last) n number date pair h value day = (
  by_lt_z last.day pair.day (λ later. later) (λ not_later. absurd (h.1.0 (pair.day, day, not_later))),
  (elim (cases_eq number (last.value + 1)) [ inl is ↦ value ∙ is | inr differs ↦ absurd (h.1.1.0 differs) ]),
)

last_all : (p : Option LeapPair) (xs : List LeapPair) (x : LeapPair) → All (λ (pair : LeapPair). pair.value ≤ 1000) xs → ((y : LeapPair) → p ≡ Some y → y.value ≤ 1000) → last_or p xs ≡ Some x → x.value ≤ 1000
last_all p [] x all h e = h x e
last_all p (y ∷ ys) x all h e =
    last_all (Some y) ys x (All-tail (λ (pair : LeapPair). pair.value ≤ 1000) y ys all)
    (λ (z : LeapPair) is. subst (λ (w : LeapPair). w.value ≤ 1000) (same_Some y z is) (All-head (λ (pair : LeapPair). pair.value ≤ 1000) y ys all)) e

pub last_small : (pairs : List LeapPair) (o : Option LeapPair) → IsLeapTable pairs → o ≡ last_or None pairs → ForSome o (λ (last : LeapPair). last.value ≤ 1000)
last_small pairs o table is = λ x e. last_all None pairs x table.values (λ (y : LeapPair) none. absurd (none-some y none)) (sym is ∙ e)

-- ---- one pair behind another

not_falling : (last : LeapPair) (date : List ℕ) (day : ℤ) → IsLeapDate date day → last.day <ℤ day → ¬ ((d : ℤ) × IsLeapDate date d × (d ≤ℤ last.day))
not_falling last date day h later = λ falls. let same : falls.0 ≡ day = one_date date falls.0 day falls.1 h in absurd (omega (arith, ints, falls.2, same, later))

pub step_refused : (before : Option LeapPair) (last : LeapPair) (n number : ℕ) (date : List ℕ) (day : ℤ) → before ≡ Some last → IsLeapDate date day → last.day <ℤ day → number ≢ last.value + 1
    → FirstRefuses (pair_checks before n number date) (LeapStep n)
step_refused before last n number date day is h later differs =
    let P : Option LeapPair → Type 0 = λ o. FirstRefuses (pair_checks o n number date) (LeapStep n) in
    subst P (sym is) (inr ((λ none. none day h), inr (not_falling last date day h later, inl (differs, refl))))

pub step_taken : (before : Option LeapPair) (last : LeapPair) (n number : ℕ) (date : List ℕ) (day : ℤ) → before ≡ Some last → IsLeapDate date day → last.day <ℤ day → number ≡ last.value + 1
    → NoneRefuses (pair_checks before n number date)
step_taken before last n number date day is h later step =
    let P : Option LeapPair → Type 0 = λ o. NoneRefuses (pair_checks o n number date) in
    subst P (sym is) ((λ none. none day h), (not_falling last date day h later, ((λ differs. differs step), tt)))

-- ---- the loop

-- the entries in front are read, and those of the rest are to come
pub record ReadsTo (values rest : List Value) (pairs : List LeapPair) : Type 0 where
  pub done : List Entry
  pub whole : entries_of values ≡ done ++ entries_of rest
  pub passed : NoneRefuses (each_after None 1 entry_checks done)
  pub read : IsReadFrom done pairs
  pub turn : in_turn rest ≡ true
  pub room : length pairs + length rest ≤ length values

pub reads_none : (values : List Value) → in_turn values ≡ true → ReadsTo values values []
reads_none values turn = record {
  done = [];
  whole = refl;
  passed = tt;
  read = record { zipped = tt; table = record { in_step = tt; values = All-nil (λ (pair : LeapPair). pair.value ≤ 1000); days = All-nil (λ (pair : LeapPair). (neg_ℤ (pos 15340) ≤ℤ pair.day) × (pair.day ≤ℤ pos 73048)) } };
  turn = turn;
  room = omega arith;
}

-- the checks on all entries, where the next one is seen
each_next : (done : List Entry) (entry : Entry) (rest : List Entry) (pairs : List LeapPair) → AllZip IsPairOf pairs done
    → each_after None 1 entry_checks (done ++ entry ∷ rest)
    ≡ each_after None 1 entry_checks done ++ (entry_checks (last_or None done) (length pairs + 1) entry ++ each_after (Some entry) (length pairs + 2) entry_checks rest)
each_next done entry rest pairs zipped =
    let place : 1 + length done ≡ length pairs + 1 = omega (arith, zip_length pairs done zipped) in
    let next : 1 + length done + 1 ≡ length pairs + 2 = omega (arith, zip_length pairs done zipped) in
    each_after-at None 1 entry_checks done entry rest
    ∙ ap (λ (n : ℕ). each_after None 1 entry_checks done ++ (entry_checks (last_or None done) n entry ++ each_after (Some entry) (1 + length done + 1) entry_checks rest)) place
    ∙ ap (λ (n : ℕ). each_after None 1 entry_checks done ++ (entry_checks (last_or None done) (length pairs + 1) entry ++ each_after (Some entry) n entry_checks rest)) next

-- a pair that is refused refuses the whole
pub pair_refused : (values rest behind : List Value) (pairs : List LeapPair) (last : Option LeapPair) (number : ℕ) (date : List ℕ) (fault : LeapFault) → ReadsTo values rest pairs → Begins rest number date behind
    → last ≡ last_or None pairs → FirstRefuses (pair_checks last (length pairs + 1) number date) fault → FirstRefuses (each_after None 1 entry_checks (entries_of values)) fault
pair_refused values rest behind pairs last number date fault h begins is refused =
    let entry = entry_of number date in
    let all : entries_of values ≡ h.done ++ entry ∷ entries_of behind = h.whole ∙ ap (λ (es : List Entry). h.done ++ es) begins.entries in
    let related = last_related None None pairs h.done tt h.read.zipped in
    let here : FirstRefuses (pair_checks (last_or None pairs) (length pairs + 1) number date) fault = subst (λ (o : Option LeapPair). FirstRefuses (pair_checks o (length pairs + 1) number date) fault) is refused in
    let own = checks_refuse (last_or None pairs) (last_or None h.done) (length pairs + 1) number date fault related here in
    let P : List (Check LeapFault) → Type 0 = λ checks. FirstRefuses checks fault in
    let Q : List Entry → Type 0 = λ es. FirstRefuses (each_after None 1 entry_checks es) fault in
    subst Q (sym all) (subst P (sym (each_next h.done entry (entries_of behind) pairs h.read.zipped))
    (FirstRefuses-rest (each_after None 1 entry_checks h.done) _ fault h.passed
    (FirstRefuses-front (entry_checks (last_or None h.done) (length pairs + 1) entry) _ fault own)))

-- a pair that is taken is read
pub pair_taken : (values rest behind : List Value) (pairs : List LeapPair) (last : Option LeapPair) (number : ℕ) (date : List ℕ) (pair : LeapPair) → ReadsTo values rest pairs → Begins rest number date behind
    → last ≡ last_or None pairs → number ≤ 1000 → NoneRefuses (pair_checks last (length pairs + 1) number date) → pair.value ≡ number → IsLeapDate date pair.day
    → ReadsTo values behind (pairs ++ pair ∷ [])
pair_taken values rest behind pairs last number date pair h begins is small none value day =
    let entry = entry_of number date in
    let related = last_related None None pairs h.done tt h.read.zipped in
    let here : NoneRefuses (pair_checks (last_or None pairs) (length pairs + 1) number date) = subst (λ (o : Option LeapPair). NoneRefuses (pair_checks o (length pairs + 1) number date)) is none in
    let own = checks_pass (last_or None pairs) (last_or None h.done) (length pairs + 1) number date related here in
    let next = is_next (last_or None pairs) (length pairs + 1) number date pair here value day in
    let P : List (Check LeapFault) → Type 0 = λ checks. NoneRefuses checks in
    let bounds = leap_day_bounds date pair.day day in
    record {
      done = h.done ++ entry ∷ [];
      whole = h.whole ∙ ap (λ (es : List Entry). h.done ++ es) begins.entries ∙ sym (append_assoc h.done (entry ∷ []) (entries_of behind));
      passed = subst P (sym (each_next h.done entry [] pairs h.read.zipped))
          (NoneRefuses-append (each_after None 1 entry_checks h.done) _ h.passed
          (NoneRefuses-append (entry_checks (last_or None h.done) (length pairs + 1) entry) [] own tt));
      read = record {
        zipped = zip_push pairs h.done pair entry h.read.zipped (value, day);
        table = record {
          in_step = in_step_push pairs pair h.read.table.in_step next;
          values = All-push (λ (p : LeapPair). p.value ≤ 1000) pairs pair h.read.table.values (omega arith);
          days = All-push (λ (p : LeapPair). (neg_ℤ (pos 15340) ≤ℤ p.day) × (p.day ≤ℤ pos 73048)) pairs pair h.read.table.days bounds;
        };
      };
      turn = sym begins.turn ∙ h.turn;
      room = omega (arith, length-append pairs (pair ∷ []), begins.long, h.room);
    }

append-nil : (es : List Entry) → es ++ [] ≡ es
append-nil [] = refl
append-nil (e ∷ es) = ap (λ (xs : List Entry). e ∷ xs) (append-nil es)

no_values : (rest : List Value) → (length rest == 0) ≡ true → rest ≡ []
no_values [] h = refl
no_values (v ∷ vs) h = absurd (omega (arith, eqb-true (length (v ∷ vs)) 0 h))

-- at the end all entries are read
pub reads_all : (values rest : List Value) (pairs : List LeapPair) → ReadsTo values rest pairs → in_turn rest ≡ (length rest == 0)
    → NoneRefuses (each_after None 1 entry_checks (entries_of values)) × IsReadFrom (entries_of values) pairs
reads_all values rest pairs h stops =
    let none : rest ≡ [] = no_values rest (sym stops ∙ h.turn) in
    let all : entries_of values ≡ h.done = h.whole ∙ ap (λ (vs : List Value). h.done ++ entries_of vs) none ∙ append-nil h.done in
    let P : List Entry → Type 0 = λ es. NoneRefuses (each_after None 1 entry_checks es) × IsReadFrom es pairs in
    subst P (sym all) (h.passed, h.read)
