-- The pairs that a leap second kernel gives are a leap table.
use Rattle.std.proofs.Common.{◌≡◌, ℕ, ◌+◌, ◌<◌, ◌≤◌, ◌⊎◌, Bool, true, false, ◌&&◌, List, [], ◌∷◌, length, Option, Some, None, Ok, refl, sym, subst, inl, inr, ◌∙◌, arith}
use Rattle.std.proofs.lemmas.Int.{ints, by_lt_z}
use Rattle.std.proofs.lemmas.Bool.{cases_order, and_parts, leb-true, false≢true}
use Rattle.std.proofs.lemmas.List.Elements.{All-nil, All-cons, All-head, All-tail}
use Rattle.std.specs.Prelude.{ℤ, pos, neg_ℤ, ◌≤ℤ◌, ◌<ℤ◌, All, nat_lt, unwrap_or, IsSomeAnd, ◌≢◌}
use Rattle.std.specs.List.{AllZip}
use Rattle.sk_checks.specs.Checks.{NoneRefuses, each_after}
use Rattle.sk_grammar.specs.declared.value.Value.{Value}
use Rattle.sk_grammar.specs.Variables.{VariableView, values_at}
use Rattle.sk_leap.specs.declared.pair.LeapPair.{LeapPair}
use Rattle.sk_leap.specs.Kernel.{Entry, AreEntries, IsLeapDate, FallsBack, entries_of, entry_checks, IsTableOf, leap_checks, delta_at}
use Rattle.sk_leap.specs.Entries.{IsPairOf, in_turn}
use Rattle.sk_leap.specs.Leap.{AreInStep, IsLeapTable}
use Rattle.sk_leap.proofs.LeapDays.{leap_day_bounds}
use Rattle.sk_leap.proofs.Turns.{turn_entries, entries_turn}

-- ---- steps

not_back : (before entry : Entry) (early late : ℤ) → IsLeapDate before.date early → IsLeapDate entry.date late → ¬ FallsBack before entry → early <ℤ late
not_back before entry early late p q never = by_lt_z early late (λ less. less) (λ back. absurd (never (early, late, p, q, back)))

same_number : (a b : ℕ) → ¬ (a ≢ b) → a ≡ b
same_number a b apart = elim (cases_order a b) [
  | inl same ↦ same
  | inr (inl less) ↦ absurd (apart (λ same. omega (arith, same, less)))
  | inr (inr more) ↦ absurd (apart (λ same. omega (arith, same, more)))
]

steps : (n : ℕ) (before : Entry) (first : LeapPair) (entries : List Entry) (pairs : List LeapPair) → IsPairOf first before → AllZip IsPairOf pairs entries
    → NoneRefuses (each_after (Some before) n entry_checks entries) → AreInStep (first ∷ pairs)
steps n before first [] [] p z none = tt
steps n before first [] (pair ∷ pairs) p z none = absurd z
steps n before first (entry ∷ entries) [] p z none = absurd z
steps n before first (entry ∷ entries) (pair ∷ pairs) p z none =
    let number : entry.number ≡ before.number + 1 = same_number entry.number (before.number + 1) none.1.1.0 in (
      not_back before entry first.day pair.day p.1 z.0.1 none.1.0,
      omega (arith, number, p.0, z.0.0),
      steps (n + 1) entry pair entries pairs z.0 z.1 none.1.1.1,
    )

in_step : (entries : List Entry) (pairs : List LeapPair) → AllZip IsPairOf pairs entries → NoneRefuses (each_after None 1 entry_checks entries) → AreInStep pairs
in_step [] [] z none = tt
in_step [] (pair ∷ pairs) z none = absurd z
in_step (entry ∷ entries) [] z none = absurd z
in_step (entry ∷ entries) (pair ∷ pairs) z none = steps 2 entry pair entries pairs z.0 z.1 none.1.1.1

-- ---- ranges

abbrev IsSmallPair : LeapPair → Type 0
IsSmallPair pair = pair.value ≤ 1000

abbrev IsNearDay : LeapPair → Type 0
IsNearDay pair = (neg_ℤ (pos 15340) ≤ℤ pair.day) × (pair.day ≤ℤ pos 73048)

small : (entries : List Entry) (pairs : List LeapPair) → AllZip IsPairOf pairs entries → All (λ entry. entry.number ≤ 1000) entries → All IsSmallPair pairs
small [] [] z all = All-nil IsSmallPair
small [] (pair ∷ pairs) z all = absurd z
small (entry ∷ entries) [] z all = absurd z
small (entry ∷ entries) (pair ∷ pairs) z all =
    let here : entry.number ≤ 1000 = All-head (λ (e : Entry). e.number ≤ 1000) entry entries all in
    All-cons IsSmallPair pair pairs (omega (arith, here, z.0.0)) (small entries pairs z.1 (All-tail (λ (e : Entry). e.number ≤ 1000) entry entries all))

near : (entries : List Entry) (pairs : List LeapPair) → AllZip IsPairOf pairs entries → All IsNearDay pairs
near [] [] z = All-nil IsNearDay
near [] (pair ∷ pairs) z = absurd z
near (entry ∷ entries) [] z = absurd z
near (entry ∷ entries) (pair ∷ pairs) z = All-cons IsNearDay pair pairs (leap_day_bounds entry.date pair.day z.0.1) (near entries pairs z.1)

-- the values are pairs of a small number and a date
are_entries : (values : List Value) → ¬ ((entries : List Entry) → ¬ AreEntries values entries) → AreEntries values (entries_of values)
are_entries values some = of (nat_lt 0 (length values) && in_turn values) refl
  where
    of : (b : Bool) → (nat_lt 0 (length values) && in_turn values) ≡ b → AreEntries values (entries_of values)
    of true is =
        let parts = and_parts (nat_lt 0 (length values)) (in_turn values) is in
        turn_entries values parts.1 (long (length values) parts.0)
      where
        long : (n : ℕ) → nat_lt 0 n ≡ true → 0 < n
        long n h = let less = leb-true 1 n h in omega (arith, less)
    of false is = absurd (some (λ entries are. false≢true (sym is ∙ entries_turn values entries are)))

pub is_leap_table : (variables : List VariableView) (pairs : List LeapPair) → NoneRefuses (leap_checks variables) → IsTableOf variables pairs → IsLeapTable pairs
is_leap_table variables pairs none zipped =
    let values : List Value = unwrap_or (values_at delta_at variables) [] in
    record {
      in_step = in_step (entries_of values) pairs zipped none.1.1.1.1;
      values = small (entries_of values) pairs zipped (are_entries values none.1.1.1.0).small;
      days = near (entries_of values) pairs zipped;
    }
