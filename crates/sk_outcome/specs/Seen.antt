-- What a run sees of its files, and that it leaves them as they were, by the members of a depot.
use Rattle.std.specs.Prelude.{ℕ, List, Option}
use Rattle.sk_edge.specs.Causes.{Rose, NoneFalls}
use Rattle.sk_edge.specs.Transfer.{SameFiles}

-- The files by name, where they are known; how many bytes of the last one were read; and the names whose count of
-- faults rose in this run.
pub record Source : Type 1 where
  pub holds : List ℕ → Option (List ℕ)
  pub given : ℕ
  pub rose : List ℕ → Type 0

-- what is seen between two states of a depot
abbrev pub seen_by : {D : Type 0} → (D → List ℕ → Option (List ℕ)) → (D → ℕ) → (D → List ℕ → ℕ) → D → D → Source
seen_by holds given faults old new = record {
  holds = holds old;
  given = given new;
  rose = λ name. Rose (faults old name) (faults new name);
}

-- files hold what they held, and no count of faults falls
abbrev pub Stays : {D : Type 0} → (D → List ℕ → Option (List ℕ)) → (D → List ℕ → ℕ) → D → D → Type 0
Stays holds faults old new = SameFiles (holds old) (holds new) × NoneFalls (faults old) (faults new)
