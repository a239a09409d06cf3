-- The pairs of a leap second kernel that was read are a leap table.
use Rattle.std.proofs.Common.{◌≡◌, ℕ, List, [], ◌∷◌, Option, Some, None, Ok, subst}
use Rattle.std.proofs.lemmas.List.Elements.{All-nil}
use Rattle.std.specs.Prelude.{ℤ, pos, neg_ℤ, ◌≤ℤ◌, ◌≤◌}
use Rattle.sk_leap.specs.declared.pair.LeapPair.{LeapPair}
use Rattle.sk_leap.specs.Leap.{IsLeapTable}
use Rattle.sk_leap.proofs.KernelTables.{is_leap_table}
use Rattle.sk_outcome.specs.Seen.{Source}
use Rattle.sk_outcome.specs.Files.{leap_named}

no_table : IsLeapTable []
no_table = record {
  in_step = tt;
  values = All-nil (λ (pair : LeapPair). pair.value ≤ 1000);
  days = All-nil (λ (pair : LeapPair). (neg_ℤ (pos 15340) ≤ℤ pair.day) × (pair.day ≤ℤ pos 73048));
}

pub named_table : (source : Source) (name : Option (List ℕ)) (pairs : List LeapPair) → leap_named source name (Ok pairs) → IsLeapTable pairs
named_table source None pairs h = let none : [] ≡ pairs = cc in subst IsLeapTable none no_table
named_table source (Some name) pairs h = is_leap_table h.2.0 pairs h.2.2.0 h.2.2.1
