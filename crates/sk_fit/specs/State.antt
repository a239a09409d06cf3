-- The state of a fit: what is built so far, by places, and when that is a publication of what came.
use Rattle.std.specs.Prelude.{◌≡◌, ◌⊎◌, ℕ, ◌+◌, ◌*◌, ◌^◌, ◌<◌, ◌≤◌, ℤ, pos, neg_ℤ, ◌≤ℤ◌, ◌*ℤ◌, List, [], ◌∷◌, ◌++◌, map, length, true, ◌==◌, if◌then◌else◌, count_by, not}
use Rattle.std.specs.List.{AllByRecursion, list_any}
use Rattle.sk_decimal.specs.declared.fixed.Fixed.{Fixed}
use Rattle.sk_fit.specs.declared.settings.Line.{Line}
use Rattle.sk_fit.specs.declared.chain.Segment.{Segment}
use Rattle.sk_fit.specs.declared.open_segment.Running.{Running}
use Rattle.sk_fit.specs.declared.ending.Beginning.{Beginning}
use Rattle.sk_fit.specs.declared.fault.FitFault.{FitFault}
use Rattle.sk_fit.specs.declared.fault.FitFault.TheVariants.{NoRate, TimeFalls, NoMemory}
use Rattle.sk_fit.specs.declared.chain.End.{End}
use Rattle.sk_fit.specs.declared.chain.End.TheVariants.{Last}
use Rattle.sk_publishing.specs.Row.{RowView}
use Rattle.sk_publishing.specs.Terms.{Sight, Terms, in_seconds, sights}
use Rattle.sk_line.specs.Triple.{TripleView}
use Rattle.sk_publishing.specs.Chain.{SegmentView, IsInPartition, left_at, rounded_up}
use Rattle.sk_publishing.specs.Kept.{SortsNext, is_new, HasNoRate, HasTimeFall}
use Rattle.sk_clock.specs.Clock.{ClockView, ticks_per, total}
use Rattle.sk_publishing.specs.Built.{Built}
use Rattle.sk_fit.specs.Given.{segment_view, IsRate, ArePlaced}
use Rattle.sk_fit.specs.Barriers.{IsBarrier}

-- ---- what arithmetic needs

pub record IsSmallClock (clock : ClockView) : Type 0 where
  pub some : 0 < ticks_per clock
  pub few : ticks_per clock ≤ 2 ^ 32
  pub short : total clock < 2 ^ 53

-- the anchor's time times ticks per count is small
pub record HoldsLine (per_count : ℕ) (line : Line) : Type 0 where
  pub from : neg_ℤ (pos (6 * 10 ^ 37)) ≤ℤ (line.time.units *ℤ pos per_count)
  pub to : (line.time.units *ℤ pos per_count) ≤ℤ pos (6 * 10 ^ 37)

-- ---- what is built

pub record FittingView : Type 0 where
  pub closed : List Segment
  pub open_one : Segment
  -- where the line of the open segment is left
  pub leave_tick : ℕ
  -- the running interval of the open segment, and the places that set it
  pub least : ℤ
  pub greatest : ℤ
  pub least_place : ℕ
  pub greatest_place : ℕ
  pub dropped : List ℕ

-- a place that the open segment covers too; an empty one begins there
abbrev pub first_from : Segment → ℕ → ℕ
first_from s place = if s.first == s.past then place else s.first

abbrev pub gone_on : FittingView → ℕ → ℕ → Fixed 18 → FittingView
gone_on f place tick rate = record f {
  open_one = record { anchor = f.open_one.anchor; rate = rate; first = first_from f.open_one place; past = place + 1; ended = Last };
  leave_tick = tick;
}

abbrev pub bounded : FittingView → Running → FittingView
bounded f r = record f { least = r.bounds.least; greatest = r.bounds.greatest; least_place = r.least_place; greatest_place = r.greatest_place }

abbrev pub begun_at : FittingView → End → Beginning → ℕ → ℕ → FittingView
begun_at f ended b place tick = record f {
  closed = f.closed ++ record f.open_one { ended = ended } ∷ [];
  open_one = record { anchor = b.anchor; rate = b.rate; first = place; past = place + 1; ended = Last };
  leave_tick = tick;
  least = b.bounds.least;
  greatest = b.bounds.greatest;
  least_place = place;
  greatest_place = place;
}

abbrev pub dropped_at : FittingView → ℕ → FittingView
dropped_at f place = record f { dropped = f.dropped ++ place ∷ [] }

-- nothing is covered yet: the line of the old last triple is left at the seam, and observations are to come from a place on
abbrev pub fresh : TripleView → ℕ → ℕ → FittingView
fresh old left place = record {
  closed = [];
  open_one = record {
    anchor = record { ticks = old.anchor.ticks; time = record { units = old.anchor.time } };
    rate = record { units = old.rate };
    first = place;
    past = place;
    ended = Last;
  };
  leave_tick = left;
  least = pos 0;
  greatest = pos 0;
  least_place = place;
  greatest_place = place;
  dropped = [];
}

-- ---- when it is a publication of the first n observations

abbrev pub front_of : List Sight → FittingView → List SegmentView
front_of all f = map (segment_view all f.dropped) f.closed

abbrev pub open_of : List Sight → FittingView → SegmentView
open_of all f = segment_view all f.dropped f.open_one

-- every place between these is dropped
abbrev pub AreDroppedBetween : List Sight → List ℕ → ℕ → ℕ → Type 0
AreDroppedBetween all dropped past n = AllByRecursion (λ x. past ≤ x.place → x.place < n → list_any (λ d. d == x.place) dropped ≡ true) all

-- The places: those of segments and dropped ones are before n, and all between the open segment and n are dropped.
pub record HasPlaces (all : List Sight) (n : ℕ) (f : FittingView) (dropped : List Sight) : Type 0 where
  pub places : f.dropped ≡ map (λ o. o.place) dropped
  pub dropped_before : AllByRecursion (λ d. d < n) f.dropped
  pub closed_before : AllByRecursion (λ s. s.past ≤ n) f.closed
  pub ordered : f.open_one.first ≤ f.open_one.past
  pub open_before : f.open_one.past ≤ n
  pub gap : (f.open_one.first ≡ f.open_one.past) ⊎ AreDroppedBetween all f.dropped f.open_one.past n

-- The open segment: where it is left, and that it is left behind by all that is to come.
pub record IsOpen (t : Terms) (all : List Sight) (n : ℕ) (f : FittingView) : Type 0 where
  pub left : f.leave_tick ≡ left_at t (open_of all f)
  pub covered_to : AllByRecursion (λ x. x.tick ≤ f.leave_tick) (open_of all f).covered
  pub from_anchor : f.open_one.anchor.ticks ≤ f.leave_tick
  pub first_from_anchor : (f.closed ≡ []) → f.open_one.anchor.ticks < f.leave_tick
  pub whole : 0 < length f.closed → (units : ℤ) × (f.open_one.anchor.time.units ≡ in_seconds t.gauge units)
  pub ahead : AllByRecursion (λ x. n ≤ x.place → (f.open_one.anchor.ticks < x.tick) × (IsInPartition t (open_of all f) x → f.leave_tick < x.tick)) all
  -- what arithmetic needs
  pub line : HoldsLine t.gauge.per_count f.open_one.anchor
  pub rate : IsRate f.open_one.rate.units
  pub due_from : HoldsLine t.gauge.per_count (record { ticks = f.leave_tick; time = record { units = rounded_up t (open_of all f) f.leave_tick } })

-- how many observations are old
abbrev pub old_number : Terms → List Sight → ℕ
old_number t all = count_by (λ o. not (is_new t o)) all

pub record IsFitting (t : Terms) (all : List Sight) (n : ℕ) (f : FittingView) (kept dropped : List Sight) : Type 0 where
  pub low : Sight
  pub high : Sight
  pub low_place : f.least_place ≡ low.place
  pub high_place : f.greatest_place ≡ high.place
  pub built : Built t kept (front_of all f) (open_of all f) low high f.least f.greatest
  pub room : length dropped ≤ t.reject
  pub places : HasPlaces all n f dropped
  pub placed : ArePlaced (old_number t all) all f.dropped (f.closed ++ f.open_one ∷ [])
  pub is_open : IsOpen t all n f

-- ---- the next observation

-- n observations stand before o, and their places are smaller; those of later ones are greater
pub record IsAt (all : List Sight) (n : ℕ) (o : Sight) : Type 0 where
  pub before : List Sight
  pub after : List Sight
  pub here : all ≡ before ++ o ∷ after
  pub place : o.place ≡ n
  pub smaller : AllByRecursion (λ x. x.place < n) before
  pub greater : AllByRecursion (λ x. n < x.place) after

-- the ticks of later observations are greater
abbrev pub Rises : List Sight → ℕ → Sight → Type 0
Rises all n o = AllByRecursion (λ x. n < x.place → o.tick < x.tick) all

-- where the line of a segment is left, it keeps to what arithmetic needs
abbrev pub HoldsDue : Terms → SegmentView → ℕ → Type 0
HoldsDue t s left = HoldsLine t.gauge.per_count (record { ticks = left; time = record { units = rounded_up t s left } })

-- it is a publication of what came, whatever is kept and dropped
abbrev pub IsBuilt : Terms → List Sight → ℕ → FittingView → Type 0
IsBuilt t all n f = (kept : List Sight) × (dropped : List Sight) × IsFitting t all n f kept dropped

-- One observation more leaves a publication of what came, with what is kept and dropped by then.
abbrev pub Moves : Terms → List Sight → ℕ → Sight → FittingView → FittingView → Type 0
Moves t all n o f f' = (kept dropped : List Sight) → IsFitting t all n f kept dropped
    → (kept' : List Sight) × (dropped' : List Sight) × SortsNext t kept dropped o kept' dropped' × IsFitting t all (n + 1) f' kept' dropped'

-- why one observation more, with this record number, stops what is built of the rows
abbrev pub StopsBy : Terms → List RowView → ℕ → Sight → FittingView → ℕ → FitFault → Type 0
StopsBy t rows n o f number (NoRate named barrier) = (named ≡ number)
    × ((kept dropped : List Sight) → IsFitting t (sights rows) n f kept dropped
    → (none : HasNoRate t kept o) × IsBarrier t.gauge rows o none.last barrier × (length dropped ≡ t.reject))
StopsBy t rows n o f number (TimeFalls named) = (named ≡ number)
    × ((kept dropped : List Sight) → IsFitting t (sights rows) n f kept dropped → HasTimeFall t kept o)
StopsBy t rows n o f number NoMemory = Unit {0}
StopsBy t rows n o f number _ = ⊥
