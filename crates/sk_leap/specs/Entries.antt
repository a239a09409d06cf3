-- Numbers and dates in turn, as the code goes over them.
use Rattle.std.specs.Prelude.{◌≡◌, ◌≢◌, ℕ, ◌+◌, ◌<◌, ◌≤◌, Bool, true, false, ◌&&◌, ◌==◌, nat_le, ℤ, pos, negsuc, nat_abs, ◌≤ℤ◌, List, [], ◌∷◌, Option, Some, None, IsSomeAnd, is_some, if◌then◌else◌}
use Rattle.std.specs.List.{AllZip}
use Rattle.sk_leap.specs.Leap.{IsLeapTable}
use Rattle.sk_checks.specs.Checks.{Check, ◌⇒◌}
use Rattle.sk_decimal.specs.Number.{DecimalView}
use Rattle.sk_grammar.specs.declared.value.Value.{Value}
use Rattle.sk_grammar.specs.declared.value.Value.TheVariants.{Number, Date, Text}
use Rattle.sk_leap.specs.declared.pair.LeapPair.{LeapPair}
use Rattle.sk_leap.specs.declared.table.LeapFault.{LeapFault}
use Rattle.sk_leap.specs.declared.table.LeapFault.TheVariants.{DateForm, DateOrder, LeapStep}
use Rattle.sk_leap.specs.Kernel.{Entry, IsLeapDate}

-- a whole number from 0 to 1000
abbrev pub small_of : ℤ → ℕ → Option ℕ
small_of (pos n) scale = if (scale == 0) && nat_le n 1000 then Some n else None
small_of (negsuc n) scale = None

abbrev pub small_whole : DecimalView → Option ℕ
small_whole d = small_of d.coefficient d.scale

-- the number and the date in front, and what stands behind them
abbrev pub with_date : Option ℕ → List ℕ → List Value → Option (ℕ × List ℕ × List Value)
with_date None date rest = None
with_date (Some number) date rest = Some (number, date, rest)

abbrev pub entry_at : List Value → Option (ℕ × List ℕ × List Value)
entry_at (Number number ∷ Date date ∷ values) = with_date (small_whole number) date values
entry_at _ = None

-- the values are such pairs and nothing else
abbrev pub in_turn : List Value → Bool
in_turn [] = true
in_turn (Number number ∷ Date date ∷ values) = is_some (small_whole number) && in_turn values
in_turn _ = false

-- a pair has the number and the date of its entry
abbrev pub IsPairOf : LeapPair → Entry → Type 0
IsPairOf pair entry = (pair.value ≡ entry.number) × IsLeapDate entry.date pair.day

-- a leap table with the numbers and dates of these entries
pub record IsReadFrom (entries : List Entry) (pairs : List LeapPair) : Type 0 where
  pub zipped : AllZip IsPairOf pairs entries
  pub table : IsLeapTable pairs

-- what is refused of the date and the number behind a pair
abbrev pub pair_checks : Option LeapPair → ℕ → ℕ → List ℕ → List (Check LeapFault)
pair_checks before n number date =
    ((day : ℤ) → ¬ IsLeapDate date day) ⇒ DateForm n
    ∷ IsSomeAnd before (λ last. (day : ℤ) × IsLeapDate date day × (day ≤ℤ last.day)) ⇒ DateOrder n
    ∷ IsSomeAnd before (λ last. number ≢ last.value + 1) ⇒ LeapStep n
    ∷ []
