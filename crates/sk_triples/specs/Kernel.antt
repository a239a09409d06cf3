-- The triples of a kernel as contracts see them, and what calls on them answer.
use Rattle.std.specs.Prelude.{◌≡◌, ℕ, ◌+◌, ◌-◌, ◌*◌, ◌^◌, ◌<◌, ◌≤◌, ℤ, pos, neg_ℤ, ◌≤ℤ◌, ◌<ℤ◌, List, [], ◌∷◌, length, Some, None, slice_get}
use Rattle.std.specs.List.{AllByRecursion}
use Rattle.std.specs.Int.{IsInRange}
use Rattle.sk_checks.specs.Checks.{Check, ◌⇒◌}
use Rattle.sk_clock.specs.Clock.{ClockView, ticks_per, total}
use Rattle.sk_line.specs.Triple.{TripleView}
use Rattle.sk_line.specs.Line.{covering, fall_over, line_over}
use Rattle.sk_triples.specs.declared.triple.RangeFault.{RangeFault}
use Rattle.sk_triples.specs.declared.triple.RangeFault.TheVariants.{BeforeFirst, PastPartitions}

-- the triples, with the ticks of one most significant count and the greatest tick of their clock
pub record TriplesView : Type 0 where
  pub triples : List TripleView
  pub per_count : ℕ
  pub total : ℕ

-- the triples are this clock's
abbrev pub AreOf : ClockView → TriplesView → Type 0
AreOf clock t = (t.per_count ≡ ticks_per clock) × (t.total ≡ total clock)

-- ---- what triples keep

-- at most 10 ^ 10 s in size, and rates above 0 and at most 1000 s
pub record IsTriple (total : ℕ) (t : TripleView) : Type 0 where
  pub ticks : t.anchor.ticks ≤ total
  pub from : neg_ℤ (pos (10 ^ 28)) ≤ℤ t.anchor.time
  pub to : t.anchor.time ≤ℤ pos (10 ^ 28)
  pub positive : pos 0 <ℤ t.rate
  pub slow : t.rate ≤ℤ pos (1000 * 10 ^ 18)

-- ticks and times rise
abbrev pub Rise : List TripleView → Type 0
Rise [] = Unit {0}
Rise (a ∷ []) = Unit {0}
Rise (a ∷ b ∷ triples) = (a.anchor.ticks < b.anchor.ticks) × (a.anchor.time <ℤ b.anchor.time) × Rise (b ∷ triples)

-- triples that a kernel may have
pub record AreTriples (total : ℕ) (triples : List TripleView) : Type 0 where
  pub some : 0 < length triples
  pub few : length triples ≤ 50000
  pub each : AllByRecursion (IsTriple total) triples
  pub rise : Rise triples

pub record AreKept (t : TriplesView) : Type 0 where
  pub triples : AreTriples t.total t.triples
  pub per_count : IsInRange 1 (2 ^ 32) t.per_count
  pub total : t.total < 2 ^ 53

-- ---- the triple of a tick

-- the triple at this place, from 0, is the last whose ticks are not greater
pub record IsCovering (triples : List TripleView) (tick place : ℕ) (triple : TripleView) : Type 0 where
  pub here : slice_get triples place ≡ Some triple
  pub begun : triple.anchor.ticks ≤ tick
  pub last : (later : ℕ) (next : TripleView) → place < later → slice_get triples later ≡ Some next → tick < next.anchor.ticks

-- what is refused of a tick that is to have a time
abbrev pub range_checks : TriplesView → ℕ → List (Check RangeFault)
range_checks t tick =
    (covering t.triples tick ≡ None) ⇒ BeforeFirst
    ∷ (t.total < tick) ⇒ PastPartitions
    ∷ []

-- the triple at this place, from 0, covers the tick, and its line is there at this time, over the ticks per count
abbrev pub IsPlacedTime : TriplesView → ℕ → ℕ → ℤ → Type 0
IsPlacedTime t tick place over =
    (triple : TripleView) × (covering t.triples tick ≡ Some (place + 1, triple)) × (over ≡ line_over t.per_count triple.anchor triple.rate tick)

-- ---- falls

-- join i, from 1, falls by amount / per_count
pub record HasFall (per_count : ℕ) (triples : List TripleView) (i : ℕ) (amount : ℤ) : Type 0 where
  pub before : TripleView
  pub after : TripleView
  pub counted : 0 < i
  pub is_before : slice_get triples (i - 1) ≡ Some before
  pub is_after : slice_get triples i ≡ Some after
  pub is_amount : amount ≡ fall_over per_count before after
