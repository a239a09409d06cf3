-- What a publication is made from, and what is asked of it before the first new triple.
use Rattle.std.specs.Prelude.{◌≡◌, ◌≢◌, ◌⊎◌, ℕ, ◌+◌, ◌<◌, ℤ, List, [], ◌∷◌, ◌++◌, length}
use Rattle.sk_publishing.specs.Terms.{Sight, Terms, partition_at, hold_of}
use Rattle.sk_line.specs.Triple.{TripleView}
use Rattle.sk_line.specs.Line.{FallsOver}
use Rattle.sk_publishing.specs.Chain.{SegmentView, IsAllowedStep, new_triples}

pub record Input : Type 0 where
  -- those of the old kernel
  pub triples : List TripleView
  -- the greatest tick
  pub total : ℕ
  -- the observations
  pub all : List Sight
  -- in 10 ^ -18 s
  pub slip : ℤ
  -- by the old last triple
  pub terms : TripleView → Terms

-- the old last triple
abbrev pub HasLast : Input → TripleView → Type 0
HasLast x old = (front : List TripleView) × (x.triples ≡ front ++ old ∷ [])

-- the hold is before the old last triple, above the total, or in another partition
abbrev pub IsBadHold : Input → TripleView → Type 0
IsBadHold x old =
    let t = x.terms old in
    (hold_of t < old.anchor.ticks) ⊎ (x.total < hold_of t) ⊎ (partition_at t (hold_of t) ≢ partition_at t old.anchor.ticks)

abbrev pub IsBandEmpty : Input → TripleView → Type 0
IsBandEmpty x old = (n : ℤ) → ¬ IsAllowedStep (x.terms old) n

-- The hold is good, no old join falls by more than the slip, and some rate is allowed.
pub record Begins (x : Input) (old : TripleView) : Type 0 where
  pub last : HasLast x old
  pub hold : ¬ IsBadHold x old
  pub falls : (i : ℕ) → ¬ FallsOver (x.terms old).gauge.per_count x.triples x.slip i
  pub band : ¬ IsBandEmpty x old

-- old and new triples are more than a kernel may have
abbrev pub AreTooMany : Input → List SegmentView → Type 0
AreTooMany x chain = 50000 < length x.triples + length (new_triples chain)
