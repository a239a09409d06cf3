-- What an excerpt keeps of its source.
use Rattle.std.specs.Prelude.{◌≡◌, List, [], ◌∷◌, ◌++◌, ◌↔◌, ℕ, ◌+◌, ◌-◌, ◌≤◌, ℤ, take, drop, Ok}
use Rattle.sk_checks.specs.Checks.{Judges, NoneRefuses}
use Rattle.sk_grammar.specs.Document.{DocView}
use Rattle.sk_grammar.specs.Variables.{items_of, variables_of}
use Rattle.sk_pool.specs.Pool.{pool_checks}
use Rattle.sk_clock.specs.Clock.{ClockView}
use Rattle.sk_clock.specs.Kernel.{clock_checks, IsClockOf}
use Rattle.sk_line.specs.Line.{IsTimeAt}
use Rattle.sk_triples.specs.Kernel.{TriplesView, AreKept}
use Rattle.sk_triples.specs.Coefficients.{triples_checks, AreTriplesOf}
use Rattle.sk_excerpt.specs.Excerpt.{joined, IsExcerpt}

-- documents that are joined one after another are those joined at once
abbrev pub JoinLaw : Type 0
JoinLaw = (doc later : DocView) (docs : List DocView) → joined (joined (doc ∷ docs) ∷ later ∷ []) ≡ joined (doc ∷ docs ++ later ∷ [])

-- the document is taken as a clock kernel, and gives this clock and these triples
pub record IsKernel (doc : DocView) (sc : ℕ) (clock : ClockView) (triples : TriplesView) : Type 0 where
  pub is_pool : NoneRefuses (pool_checks doc)
  pub has_clock : Judges (clock_checks (variables_of (items_of doc)) sc) (IsClockOf (variables_of (items_of doc)) sc) (Ok clock)
  pub has_triples : Judges (triples_checks (variables_of (items_of doc)) clock sc) (AreTriplesOf (variables_of (items_of doc)) clock sc) (Ok triples)

-- the triples from place first to place last, from 0
abbrev pub between : ℕ → ℕ → TriplesView → TriplesView
between first last t = record { triples = take (last - first + 1) (drop first t.triples); per_count = t.per_count; total = t.total }

-- each tick of the range has the same time by both
abbrev pub SameTimes : ℕ → ℕ → TriplesView → TriplesView → Type 0
SameTimes from to old new =
    (tick : ℕ) (over : ℤ) → from ≤ tick → tick ≤ to → IsTimeAt old.per_count old.triples tick over ↔ IsTimeAt new.per_count new.triples tick over

-- The excerpt of a kernel is a kernel with the same clock and the triples that were kept, by which each tick of the
-- range has the same time.
abbrev pub ExcerptLaw : Type 0
ExcerptLaw =
    (doc result : DocView) (sc from to : ℕ) (clock : ClockView) (triples : TriplesView)
    → IsKernel doc sc clock triples → AreKept triples → from ≤ to
    → (is : IsExcerpt doc sc triples.triples from to result)
    → IsKernel result sc clock (between (is.first.0 - 1) (is.last.0 - 1) triples)
    × SameTimes from to triples (between (is.first.0 - 1) (is.last.0 - 1) triples)
