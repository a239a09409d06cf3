-- The state of a walk over observations: what is built so far, and when that is a publication of what came.
use Rattle.std.specs.Prelude.{◌≡◌, ◌⊎◌, ℕ, ◌+◌, ◌<◌, ◌≤◌, ℤ, pos, List, [], ◌∷◌, ◌++◌, map, length, Option, None, Some}
use Rattle.std.specs.List.{AllByRecursion}
use Rattle.std.specs.Option.{option_map}
use Rattle.sk_decimal.specs.declared.fixed.Fixed.{Fixed}
use Rattle.sk_audit.specs.declared.line.Line.{Line}
use Rattle.sk_audit.specs.declared.told.Told.{Told}
use Rattle.sk_audit.specs.declared.told.End.{End}
use Rattle.sk_audit.specs.declared.interval.Running.{Running}
use Rattle.sk_audit.specs.declared.ending.Beginning.{Beginning}
use Rattle.sk_publishing.specs.Terms.{Sight, Terms, in_seconds}
use Rattle.sk_line.specs.Triple.{Anchor, TripleView}
use Rattle.sk_publishing.specs.Chain.{SegmentView, EndView, LastEnd, IsInPartition, left_at, rounded_up, last_of}
use Rattle.sk_publishing.specs.Kept.{SortsNext, HasNoRate, HasTimeFall}
use Rattle.sk_publishing.specs.Built.{Built}
use Rattle.sk_audit.specs.Given.{IsRate, HoldsLine, anchor_of, end_view}

-- ---- what is told of a segment

-- its line, the place of the last observation that it covers, and why it ended
pub record ToldView : Type 0 where
  pub anchor : Anchor
  pub rate : ℤ
  pub place : Option ℕ
  pub ended : EndView

abbrev pub told_of : Told → ToldView
told_of s = record { anchor = anchor_of s.anchor; rate = s.rate.units; place = s.place; ended = end_view s.ended }

-- the place of the last of these
abbrev pub last_place : List Sight → Option ℕ
last_place covered = option_map (λ o. o.place) (last_of covered)

abbrev pub told : SegmentView → ToldView
told s = record { anchor = s.anchor; rate = s.rate; place = last_place s.covered; ended = s.ended }

-- these are the segments of a chain
abbrev pub Tell : List Told → List SegmentView → Type 0
Tell list chain = map told_of list ≡ map told chain

-- ---- what is built

pub record WalkView : Type 0 where
  pub closed : List Told
  -- the open segment's line, and the last place that it covers
  pub anchor : Line
  pub rate : Fixed 18
  pub last : Option ℕ
  -- where the line of the open segment is left
  pub leave_tick : ℕ
  -- the running interval of the open segment, and the places that set it
  pub least : ℤ
  pub greatest : ℤ
  pub least_place : ℕ
  pub greatest_place : ℕ
  pub dropped : List ℕ

abbrev pub gone_on : WalkView → ℕ → ℕ → Fixed 18 → WalkView
gone_on w place tick rate = record w { rate = rate; last = Some place; leave_tick = tick }

abbrev pub bounded : WalkView → Running → WalkView
bounded w r = record w { least = r.bounds.least; greatest = r.bounds.greatest; least_place = r.least_place; greatest_place = r.greatest_place }

-- the open segment, ended
abbrev pub closed_as : WalkView → End → Told
closed_as w ended = record { anchor = w.anchor; rate = w.rate; place = w.last; ended = ended }

abbrev pub begun_at : WalkView → End → Beginning → ℕ → ℕ → WalkView
begun_at w ended b place tick = record w {
  closed = w.closed ++ closed_as w ended ∷ [];
  anchor = b.anchor;
  rate = b.rate;
  last = Some place;
  leave_tick = tick;
  least = b.bounds.least;
  greatest = b.bounds.greatest;
  least_place = place;
  greatest_place = place;
}

abbrev pub dropped_at : WalkView → ℕ → WalkView
dropped_at w place = record w { dropped = w.dropped ++ place ∷ [] }

-- nothing is covered yet: the line of the old last triple is left at the seam
abbrev pub fresh : TripleView → ℕ → WalkView
fresh old left = record {
  closed = [];
  anchor = record { ticks = old.anchor.ticks; time = record { units = old.anchor.time } };
  rate = record { units = old.rate };
  last = None;
  leave_tick = left;
  least = pos 0;
  greatest = pos 0;
  least_place = 0;
  greatest_place = 0;
  dropped = [];
}

-- ---- when it is a publication of the first n observations

-- the segment of a line that covers these, without an end
abbrev pub open_at : Line → ℤ → List Sight → SegmentView
open_at anchor rate covered = record { anchor = anchor_of anchor; rate = rate; covered = covered; ended = LastEnd }

-- the open segment, where it covers these
abbrev pub open_of : WalkView → List Sight → SegmentView
open_of w covered = open_at w.anchor w.rate.units covered

-- The open segment: where it is left, and that it is left behind by all that is to come.
pub record IsOpen (t : Terms) (all : List Sight) (n : ℕ) (w : WalkView) (covered : List Sight) : Type 0 where
  pub left : w.leave_tick ≡ left_at t (open_of w covered)
  pub covered_to : AllByRecursion (λ x. x.tick ≤ w.leave_tick) covered
  pub from_anchor : w.anchor.ticks ≤ w.leave_tick
  pub first_from_anchor : (w.closed ≡ []) → w.anchor.ticks < w.leave_tick
  pub whole : 0 < length w.closed → (units : ℤ) × (w.anchor.time.units ≡ in_seconds t.gauge units)
  pub ahead : AllByRecursion (λ x. n ≤ x.place → (w.anchor.ticks < x.tick) × (IsInPartition t (open_of w covered) x → w.leave_tick < x.tick)) all
  -- what arithmetic needs
  pub line : HoldsLine t.gauge.per_count w.anchor
  pub rate : IsRate w.rate.units
  pub due_from : HoldsLine t.gauge.per_count (record { ticks = w.leave_tick; time = record { units = rounded_up t (open_of w covered) w.leave_tick } })

pub record IsWalk (t : Terms) (all : List Sight) (n : ℕ) (w : WalkView) (kept dropped : List Sight) : Type 0 where
  pub front : List SegmentView
  pub covered : List Sight
  pub low : Sight
  pub high : Sight
  pub low_place : w.least_place ≡ low.place
  pub high_place : w.greatest_place ≡ high.place
  pub tells : Tell w.closed front
  pub last : w.last ≡ last_place covered
  pub built : Built t kept front (open_of w covered) low high w.least w.greatest
  pub room : length dropped ≤ t.reject
  pub places : w.dropped ≡ map (λ o. o.place) dropped
  pub is_open : IsOpen t all n w covered

-- ---- the next observation

-- n observations stand before o, and their places are smaller; those of later ones are greater
pub record IsAt (all : List Sight) (n : ℕ) (o : Sight) : Type 0 where
  pub before : List Sight
  pub after : List Sight
  pub here : all ≡ before ++ o ∷ after
  pub place : o.place ≡ n
  pub smaller : AllByRecursion (λ x. x.place < n) before
  pub greater : AllByRecursion (λ x. n < x.place) after

-- the ticks of later observations are greater
abbrev pub Rises : List Sight → ℕ → Sight → Type 0
Rises all n o = AllByRecursion (λ x. n < x.place → o.tick < x.tick) all

-- where the line of a segment is left, it keeps to what arithmetic needs
abbrev pub HoldsDue : Terms → SegmentView → ℕ → Type 0
HoldsDue t s left = HoldsLine t.gauge.per_count (record { ticks = left; time = record { units = rounded_up t s left } })

-- it is a publication of what came, whatever is kept and dropped
abbrev pub IsBuilt : Terms → List Sight → ℕ → WalkView → Type 0
IsBuilt t all n w = (kept : List Sight) × (dropped : List Sight) × IsWalk t all n w kept dropped

-- One observation more leaves a publication of what came, with what is kept and dropped by then.
abbrev pub Moves : Terms → List Sight → ℕ → Sight → WalkView → WalkView → Type 0
Moves t all n o w w' = (kept dropped : List Sight) → IsWalk t all n w kept dropped
    → (kept' : List Sight) × (dropped' : List Sight) × SortsNext t kept dropped o kept' dropped' × IsWalk t all (n + 1) w' kept' dropped'

-- one observation more stops what is built: no allowed rate meets it and no more may be dropped, or time falls there
abbrev pub StopsWalk : Terms → List Sight → ℕ → Sight → WalkView → Type 0
StopsWalk t all n o w = (kept dropped : List Sight) → IsWalk t all n w kept dropped
    → (HasNoRate t kept o × (length dropped ≡ t.reject)) ⊎ HasTimeFall t kept o
