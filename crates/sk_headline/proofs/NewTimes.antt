-- Each kept observation is within the tolerance by the triples of a published kernel.
use Rattle.std.proofs.Common.{rules, ◌≡◌, ◌⊎◌, ℕ, suc, ◌+◌, ◌<◌, ◌≤◌, Bool, true, false, ◌||◌, List, [], ◌∷◌, ◌++◌, length, get_or, None, refl, arith, inl, inr}
use Rattle.std.proofs.lemmas.Bool.{cases_lt, leb-true}
use Rattle.std.specs.Prelude.{nat_lt, max}
use Rattle.std.specs.List.{AllByRecursion, AllPairs}
use Rattle.sk_publishing.specs.Row.{RowView, AreRows}
use Rattle.sk_publishing.specs.Terms.{Sight, Terms, sights, sights_from, partition_at, hold_of, seam}
use Rattle.sk_line.specs.Triple.{TripleView}
use Rattle.sk_publishing.specs.Chain.{SegmentView, IsChain, new_triples}
use Rattle.sk_publishing.specs.Kept.{is_new, Sorts}
use Rattle.sk_triples.specs.Kernel.{Rise}
use Rattle.sk_publishing.specs.Laws.{SightsRise, TriplesRise}
use Rattle.sk_publishing.specs.Meets.{IsWithinTolerance}
use Rattle.sk_line.proofs.Lists.{all_map}
use Rattle.sk_publishing.proofs.NewKernel.{tolerance_law}
use Rattle.sk_fit.proofs.Ranges.{partition_rises}
use Rattle.sk_fit.proofs.Kept.{kept_all, kept_ordered}

-- ---- order

later_ticks : (tick place : ℕ) (rows : List RowView) → ((k : ℕ) (d : RowView) → k < length rows → tick < (get_or rows k d).tick) → AllByRecursion (λ p. tick < p.tick) (sights_from place rows)
later_ticks tick place [] h = tt
later_ticks tick place (row ∷ rows) h = (h 0 row (omega arith), later_ticks tick (place + 1) rows (λ k d within. h (suc k) d (omega (arith, within))))

pub sights_rise : (place : ℕ) (rows : List RowView) → AllPairs (λ a b. a.tick < b.tick) rows → SightsRise (sights_from place rows)
sights_rise place [] h = tt
sights_rise place (row ∷ rows) h = (
  later_ticks row.tick (place + 1) rows (λ k d within. h 0 (suc k) d (omega arith) (omega (arith, within))),
  sights_rise (place + 1) rows (λ j k d less within. h (suc j) (suc k) d (omega (arith, less)) (omega (arith, within))),
)

later_triples : (a : TripleView) (ts : List TripleView) → Rise (a ∷ ts) → AllByRecursion (λ b. a.anchor.ticks < b.anchor.ticks) ts
later_triples a [] rise = tt
later_triples a (b ∷ ts) rise = (
  rise.0,
  all_map (λ (c : TripleView). b.anchor.ticks < c.anchor.ticks) (λ (c : TripleView). a.anchor.ticks < c.anchor.ticks) (λ c less. omega (arith, rise.0, less)) ts (later_triples b ts rise.2),
)

behind_first : (a : TripleView) (ts : List TripleView) → Rise (a ∷ ts) → Rise ts
behind_first a [] rise = tt
behind_first a (b ∷ ts) rise = rise.2

pub triples_rise : (ts : List TripleView) → Rise ts → TriplesRise ts
triples_rise [] rise = tt
triples_rise (a ∷ ts) rise = (later_triples a ts rise, triples_rise ts (behind_first a ts rise))

-- ---- new observations

either_true : (a b : Bool) → (a || b) ≡ true → (a ≡ true) ⊎ (b ≡ true)
either_true true b h = inl refl
either_true false b h = inr h

max_above : (a b : ℕ) → b ≤ max a b
max_above a b = search rules

past_seam : (t : Terms) (o : Sight) → is_new t o ≡ true → partition_at t o.tick ≡ partition_at t t.old.anchor.ticks → seam t < o.tick
past_seam t o new same = elim (either_true (nat_lt (partition_at t t.old.anchor.ticks) (partition_at t o.tick)) (nat_lt (seam t) o.tick) new) [
  | inl later ↦ absurd (let less = leb-true (suc (partition_at t t.old.anchor.ticks)) (partition_at t o.tick) later in omega (arith, less, same))
  | inr past ↦ let less = leb-true (suc (seam t)) o.tick past in omega (arith, less)
]

past_old : (t : Terms) (o : Sight) → is_new t o ≡ true → t.old.anchor.ticks < o.tick
past_old t o new = elim (either_true (nat_lt (partition_at t t.old.anchor.ticks) (partition_at t o.tick)) (nat_lt (seam t) o.tick) new) [
  | inl later ↦ elim (cases_lt t.old.anchor.ticks o.tick) [
    | inl less ↦ less
    | inr not ↦ absurd (let less = leb-true (suc (partition_at t t.old.anchor.ticks)) (partition_at t o.tick) later in let under = partition_rises 0 t.lengths o.tick t.old.anchor.ticks (omega (arith, not)) in omega (arith, less, under))
  ]
  | inr past ↦ let less = leb-true (suc (seam t)) o.tick past in let above = max_above (hold_of t) (t.old.anchor.ticks + 1) in omega (arith, less, above)
]

each : (P : Sight → Type 0) → ((o : Sight) → P o) → (xs : List Sight) → AllByRecursion P xs
each P p [] = tt
each P p (o ∷ xs) = (p o, each P p xs)

-- the new observations that are kept
pub kept_rise : (t : Terms) (total : ℕ) (rows : List RowView) (kept dropped : List Sight) → AreRows total rows → Sorts t (sights rows) kept dropped → SightsRise kept
kept_rise t total rows kept dropped are sorts = kept_ordered (λ (a b : Sight). a.tick < b.tick) t (sights rows) kept dropped sorts (sights_rise 0 rows are.rising)

pub kept_past_old : (t : Terms) (all kept dropped : List Sight) → Sorts t all kept dropped → AllByRecursion (λ o. t.old.anchor.ticks < o.tick) kept
kept_past_old t all kept dropped sorts =
    kept_all t (λ (o : Sight). t.old.anchor.ticks < o.tick) all kept dropped sorts (each (λ (o : Sight). is_new t o ≡ true → t.old.anchor.ticks < o.tick) (past_old t) all)

pub kept_past_seam : (t : Terms) (all kept dropped : List Sight) → Sorts t all kept dropped
    → AllByRecursion (λ o. partition_at t o.tick ≡ partition_at t t.old.anchor.ticks → seam t < o.tick) kept
kept_past_seam t all kept dropped sorts =
    kept_all t (λ (o : Sight). partition_at t o.tick ≡ partition_at t t.old.anchor.ticks → seam t < o.tick) all kept dropped sorts
    (each (λ (o : Sight). is_new t o ≡ true → partition_at t o.tick ≡ partition_at t t.old.anchor.ticks → seam t < o.tick) (past_seam t) all)

pub kept_within : (t : Terms) (total : ℕ) (rows : List RowView) (front : List TripleView) (kept dropped : List Sight) (chain : List SegmentView) → 0 < t.gauge.per_count → AreRows total rows
    → Rise ((front ++ t.old ∷ []) ++ new_triples chain) → Sorts t (sights rows) kept dropped → IsChain t kept None chain
    → AllByRecursion (IsWithinTolerance t.gauge ((front ++ t.old ∷ []) ++ new_triples chain)) kept
kept_within t total rows front kept dropped chain positive are rise sorts is =
    tolerance_law t front kept None chain positive (triples_rise ((front ++ t.old ∷ []) ++ new_triples chain) rise)
    (kept_rise t total rows kept dropped are sorts) (kept_past_old t (sights rows) kept dropped sorts) (kept_past_seam t (sights rows) kept dropped sorts) is
