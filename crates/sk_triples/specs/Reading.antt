-- Triples as they are read, one after the other.
use Rattle.std.specs.Prelude.{◌≡◌, ℕ, ◌^◌, ◌<◌, ℤ, pos, neg_ℤ, ◌<ℤ◌, ◌≤ℤ◌, List, ◌++◌, length, Option, Some, None}
use Rattle.std.specs.List.{AllZip, AllByRecursion, last_or}
use Rattle.sk_checks.specs.Checks.{NoneRefuses, each_after}
use Rattle.sk_line.specs.Triple.{TripleView}
use Rattle.sk_triples.specs.Kernel.{IsTriple, Rise}
use Rattle.sk_triples.specs.Coefficients.{Row, RowTime, IsRowTime, HasTime, IsTripleOf, row_checks}

-- the time of a row, at most 10 ^ 10 s in size
pub record IsTimeOf (row : RowTime) (time : ℤ) : Type 0 where
  pub is_row : IsRowTime row
  pub has : HasTime row time
  pub from : neg_ℤ (pos (10 ^ 28)) ≤ℤ time
  pub to : time ≤ℤ pos (10 ^ 28)

-- the triple before, where there is one, has the numbers of the row before
abbrev pub ArePair : Option Row → Option TripleView → Type 0
ArePair None None = Unit {0}
ArePair None (Some before) = ⊥
ArePair (Some row) None = ⊥
ArePair (Some row) (Some before) = IsTripleOf row before

-- ticks and times are greater than those of the triple before
abbrev pub Follows : Option TripleView → TripleView → Type 0
Follows None triple = Unit {0}
Follows (Some before) triple = (before.anchor.ticks < triple.anchor.ticks) × (before.anchor.time <ℤ triple.anchor.time)

-- the triple that a row gives
pub record IsRead (total : ℕ) (row : Row) (triple : TripleView) : Type 0 where
  pub numbers : IsTripleOf row triple
  pub kept : IsTriple total triple

-- no row is refused, and the triples are those of the rows
pub record AreRead (total : ℕ) (rows : List Row) (triples : List TripleView) : Type 0 where
  pub passed : NoneRefuses (each_after None 1 (row_checks total) rows)
  pub numbers : AllZip IsTripleOf rows triples
  pub kept : AllByRecursion (IsTriple total) triples
  pub rise : Rise triples

-- the rows in front are read, and before is the last triple
pub record IsReadUpTo (total : ℕ) (all done rest : List Row) (triples : List TripleView) (before : Option TripleView) (number : ℕ) : Type 0 where
  pub joined : all ≡ done ++ rest
  pub read : AreRead total done triples
  pub last : before ≡ last_or None triples
  pub counted : number ≡ length done
