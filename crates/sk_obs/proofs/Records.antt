-- The records that a reader has still to give.
use Rattle.std.proofs.Common.{◌≡◌, ℕ, zero, suc, ◌+◌, ◌<◌, ◌≤◌, Bool, true, false, List, [], ◌∷◌, ◌++◌, length, Option, Some, None, Bor, refl, sym, ◌∙◌, ap, subst, inl, arith, lit≤, ◌==◌, if◌then◌else◌, add-one}
use Rattle.std.specs.Bool.{MatchBool}
use Rattle.csv.specs.Machine.{Read, next_record, step, is_end, ends_at_end, fields_after, field_after, after_end, in_field, start_field, start_record, ends_with}
use Rattle.csv.specs.declared.parser.Terminator.TheVariants as term
use Rattle.csv.specs.declared.reader.Reader.{Reader}
use Rattle.csv.specs.Reading.{records_from, records_next, default_config, NextIs, ReadsNext, ReadRecord, is_flexible, took_first}
use Rattle.csv.specs.declared.parser.State.{State}
use Rattle.csv.specs.declared.parser.Action.{Action}
use Rattle.csv.specs.declared.parser.Action.TheVariants as act
use Rattle.csv.specs.declared.parser.State.TheVariants as st
use Rattle.sk_obs.specs.Reading.{IsBetween, IsReading, bytes_left, rows_left}

after_between : (c : ℕ) → IsBetween (after_end term.CRLF c)
after_between c = elim (c == 13) as (λ b. IsBetween (if b then st.AfterCr else st.StartRecord)) [ true ↦ tt | false ↦ tt ]

-- a step that ends a record leaves a state between records
abbrev EndsBetween : State × Action → Type 0
EndsBetween r = is_end r.1 ≡ true → IsBetween r.0

if_between : (b : Bool) (x y : State × Action) → EndsBetween x → EndsBetween y → EndsBetween (if b then x else y)
if_between true x y a b = a
if_between false x y a b = b

in_between : (c : ℕ) → EndsBetween (in_field default_config c)
in_between c =
    if_between (c == 44) (st.StartField, act.EndField) _ (λ e. absurd (cc))
    (if_between (ends_with term.CRLF c) (after_end term.CRLF c, act.EndRecord) (st.InField, act.Copy) (λ e. after_between c) (λ e. absurd (cc)))

field_between : (c : ℕ) → EndsBetween (start_field default_config c)
field_between c = if_between (c == 34) (st.InQuoted, act.Skip) (in_field default_config c) (λ e. absurd (cc)) (in_between c)

start_between : (c : ℕ) → EndsBetween (start_record default_config c)
start_between c = if_between (ends_with term.CRLF c) (st.StartRecord, act.Skip) (start_field default_config c) (λ e. absurd (cc)) (field_between c)

ends_between : (s : State) (c : ℕ) → EndsBetween (step default_config s c)
ends_between st.StartRecord c = start_between c
ends_between st.StartField c = field_between c
ends_between st.InField c = in_between c
ends_between st.InQuoted c = if_between (c == 34) (st.AfterQuote, act.Skip) (st.InQuoted, act.Copy) (λ e. absurd (cc)) (λ e. absurd (cc))
ends_between st.InEscape c = λ e. absurd (cc)
ends_between st.AfterQuote c = if_between (c == 34) (st.InQuoted, act.Copy) (in_field default_config c) (λ e. absurd (cc)) (in_between c)
ends_between st.InComment c = if_between (c == 10) (st.StartRecord, act.Skip) (st.InComment, act.Skip) (λ e. absurd (cc)) (λ e. absurd (cc))
ends_between st.AfterCr c = if_between (c == 10) (st.StartRecord, act.Skip) (start_record default_config c) (λ e. absurd (cc)) (start_between c)

-- a record takes no more than there is, and leaves a state between records
next_record-leaves : (s : State) (fields : List (List ℕ)) (field xs : List ℕ) (p : Read)
    → next_record default_config s fields field xs ≡ Some p → (length p.2 ≤ length xs) × IsBetween p.1
unfolding next_record
next_record-leaves s fields field [] p e =
    let done : Read = (fields ++ (field ∷ []), st.StartRecord, []) in
    elim (ends_at_end s) as (λ b. ◌≡◌ {A = Option Read} (if b then Some done else None) (Some p) → (length p.2 ≤ 0) × IsBetween p.1) [
      | true ↦ λ h. let same : done ≡ p = cc in subst (λ (q : Read). (length q.2 ≤ 0) × IsBetween q.1) same (lit≤ tt, tt)
      | false ↦ λ h. absurd (cc)
    ] e
next_record-leaves s fields field (c ∷ xs) p e =
    let r = step default_config s c in
    let done : Read = (fields_after r.1 fields field, r.0, xs) in
    elim (is_end r.1) as (λ b. is_end r.1 ≡ b → ◌≡◌ {A = Option Read} (if b then Some done else next_record default_config r.0 (fields_after r.1 fields field) (field_after r.1 c field) xs) (Some p)
    → (length p.2 ≤ suc (length xs)) × IsBetween p.1) [
      | true ↦ λ is h. let same : done ≡ p = cc in subst (λ (q : Read). (length q.2 ≤ suc (length xs)) × IsBetween q.1) same (omega arith, ends_between s c is)
      | false ↦ λ is h. let later = next_record-leaves r.0 (fields_after r.1 fields field) (field_after r.1 c field) xs p h in (omega (arith, later.0), later.1)
    ] refl e

-- with a byte left it takes one at least
next_record-takes : (s : State) (fields : List (List ℕ)) (field : List ℕ) (c : ℕ) (xs : List ℕ) (p : Read)
    → next_record default_config s fields field (c ∷ xs) ≡ Some p → length p.2 ≤ length xs
unfolding next_record
next_record-takes s fields field c xs p e =
    let r = step default_config s c in
    let done : Read = (fields_after r.1 fields field, r.0, xs) in
    elim (is_end r.1) as (λ b. ◌≡◌ {A = Option Read} (if b then Some done else next_record default_config r.0 (fields_after r.1 fields field) (field_after r.1 c field) xs) (Some p)
    → length p.2 ≤ length xs) [
      | true ↦ λ h. let same : done ≡ p = cc in subst (λ (q : Read). length q.2 ≤ length xs) same (omega arith)
      | false ↦ λ h. (next_record-leaves r.0 (fields_after r.1 fields field) (field_after r.1 c field) xs p h).0
    ] e

-- at the end of the text no record begins
none_at_end : (s : State) → IsBetween s → next_record default_config s [] [] [] ≡ None
unfolding next_record
none_at_end st.StartRecord h = refl
none_at_end st.AfterCr h = refl
none_at_end st.StartField h = absurd h
none_at_end st.InField h = absurd h
none_at_end st.InQuoted h = absurd h
none_at_end st.AfterQuote h = absurd h
none_at_end st.InEscape h = absurd h
none_at_end st.InComment h = absurd h

-- between records each record takes a byte
next_record-shorter : (s : State) (xs : List ℕ) (p : Read) → IsBetween s → next_record default_config s [] [] xs ≡ Some p → length p.2 + 1 ≤ length xs
next_record-shorter s [] p between e = absurd (let none = none_at_end s between in cc)
next_record-shorter s (c ∷ xs) p between e = omega (arith, next_record-takes s [] [] c xs p e)

-- with room for them, the records of a text do not depend on the room
records_from-enough : (n m : ℕ) (s : State) (xs : List ℕ) → IsBetween s → length xs < n → length xs < m
    → records_from default_config n s xs ≡ records_from default_config m s xs
unfolding records_from
records_from-enough zero m s xs between a b = absurd (omega arith)
records_from-enough (suc n) zero s xs between a b = absurd (omega arith)
records_from-enough (suc n) (suc m) s xs between a b =
    elim (next_record default_config s [] [] xs) as (λ (o : Option Read). next_record default_config s [] [] xs ≡ o
    → records_next (records_from default_config n) o ≡ records_next (records_from default_config m) o) [
      | None ↦ λ e. refl
      | Some p ↦ λ e. let shorter = next_record-shorter s xs p between e in
          ap (λ others. p.0 ∷ others) (records_from-enough n m p.1 p.2 (next_record-leaves s [] [] xs p e).1 (omega (arith, shorter)) (omega (arith, shorter)))
    ] refl

-- the records of a text, with just enough room
abbrev all_from : State → List ℕ → List (List (List ℕ))
all_from s xs = records_from default_config (length xs + 1) s xs

all_from-some : (s : State) (xs : List ℕ) (p : Read) → IsBetween s → next_record default_config s [] [] xs ≡ Some p
    → all_from s xs ≡ p.0 ∷ all_from p.1 p.2
unfolding records_from
all_from-some s xs p between e =
    let shorter = next_record-shorter s xs p between e in
    rw (add-one, e) (ap (λ others. p.0 ∷ others) (records_from-enough (length xs) (length p.2 + 1) p.1 p.2 (next_record-leaves s [] [] xs p e).1 (omega (arith, shorter)) (omega arith)))

all_from-none : (s : State) (xs : List ℕ) → next_record default_config s [] [] xs ≡ None → all_from s xs ≡ []
unfolding records_from
all_from-none s xs e = rw (add-one, e) refl

-- what a read that took a record tells
taken-next : (o : Option Read) (row : List (List ℕ)) (s : State) (z : List ℕ) → NextIs o true row s z
    → (p : Read) × (o ≡ Some p) × (row ≡ p.0) × (s ≡ p.1) × (z ≡ p.2)
taken-next None row s z n = cc n
taken-next (Some p) row s z n = (p, refl, n.1, n.2, n.3)

joined : (a b : State) (xs z : List ℕ) (row : List (List ℕ)) (p : Read) → all_from a xs ≡ p.0 ∷ all_from p.1 p.2
    → row ≡ p.0 → b ≡ p.1 → z ≡ p.2 → all_from a xs ≡ row ∷ all_from b z
joined a b xs z row p all f g h = rw (f, g, h) all

taken : (a b : State) (xs : List ℕ) (k : Option (List ℕ)) (row : List (List ℕ)) → IsBetween a → ReadsNext default_config a (Some xs) k true row b
    → (z : List ℕ) × (k ≡ Some z) × (all_from a xs ≡ row ∷ all_from b z) × IsBetween b
taken a b xs None row between r = absurd r
taken a b xs (Some z) row between r =
    let t = taken-next _ row b z r in
    (z, refl, joined a b xs z row t.0 (all_from-some a xs t.0 between t.1) t.2 t.3 t.4, subst IsBetween (sym t.3) (next_record-leaves a [] [] xs t.0 t.1).1)

ended-next : (o : Option Read) (row : List (List ℕ)) (s : State) (z : List ℕ) → NextIs o false row s z → o ≡ None
ended-next None row s z n = refl
ended-next (Some p) row s z n = cc n.0

ended : (a b : State) (xs : List ℕ) (k : Option (List ℕ)) (row : List (List ℕ)) → ReadsNext default_config a (Some xs) k false row b
    → all_from a xs ≡ []
ended a b xs None row r = absurd r
ended a b xs (Some z) row r = all_from-none a xs (ended-next _ row b z r)

abbrev known : Bor (List ℕ) → Option (List ℕ)
known s = Some s.now

-- a read gives the next of the records that a reader has still to give, or tells that there is none
pub read_next : (old new : Reader (Bor (List ℕ))) (found : Bool) (fields : List (List ℕ)) → IsReading old → ReadRecord known old new found fields
    → took_first new ≡ true → is_flexible new ≡ is_flexible old
    → MatchBool found (IsReading new × (rows_left old ≡ fields ∷ rows_left new)) (rows_left old ≡ [])
read_next old new true fields reading r first flexible =
    let t = taken old.state new.state reading.bytes _ fields reading.between (rw (reading.config, reading.left) at r.0) in
    let left : bytes_left new ≡ Some t.0 = rw r.1 t.1 in
    let after : IsReading new = record {
      untrimmed = r.3 ∙ reading.untrimmed;
      ready = inl first;
      config = r.2 ∙ reading.config;
      any_length = flexible ∙ reading.any_length;
      between = t.3;
      bytes = t.0;
      left = left;
    } in
    (after, rw (reading.left, left) t.2)
read_next old new false fields reading r first flexible =
    rw reading.left (ended old.state new.state reading.bytes _ fields (rw (reading.config, reading.left) at r.0))
