-- What the search for runs goes by.
use Rattle.std.specs.Prelude.{◌≡◌, ℕ, ◌-◌, ◌*◌, ◌<◌, ◌≤◌, ◌^◌, pos, neg_ℤ, ◌*ℤ◌, ◌<ℤ◌, List, [], ◌∷◌, length, map, take, drop}
use Rattle.std.specs.List.{AllByRecursion}
use Rattle.sk_publishing.specs.Terms.{Sight}
use Rattle.sk_least.specs.declared.pair.Pair.{Pair}
use Rattle.sk_least.specs.declared.stretch.Stretch.{Stretch}
use Rattle.sk_clock.specs.Clock.{ClockView, total, lengths}
use Rattle.sk_least.specs.declared.stretch.Stop.{Stop}
use Rattle.sk_least.specs.Hull.{IsEarlier, EachPair, rise, HullView, IsHullOf}
use Rattle.sk_least.specs.Cover.{IsStretch}
use Rattle.sk_least.specs.Answer.{run_of, IsAt, IsStop}

-- the observation with the other sign of its time: room is then need
abbrev pub turned : Sight → Sight
turned o = record { place = o.place; tick = o.tick; time = neg_ℤ o.time }

-- the need of the one pair is above the room of the other, whose times are turned
abbrev pub IsConflict : ℕ → Pair → Pair → Type 0
IsConflict slack need room =
    neg_ℤ (rise slack room.from room.to *ℤ pos (need.to.tick - need.from.tick)) <ℤ (rise slack need.from need.to *ℤ pos (room.to.tick - room.from.tick))

pub record SearchView : Type 0 where
  pub clock : ClockView
  pub tolerance : ℕ
  pub all : List Sight

-- Observations in their order and places; over are those with their times turned.
pub record IsSearch (v : SearchView) (over : List Sight) : Type 0 where
  pub is_over : over ≡ map turned v.all
  pub rising : EachPair IsEarlier v.all
  pub placed : AllByRecursion (λ o. IsAt v.all o.place o) v.all
  pub within : AllByRecursion (λ o. o.tick ≤ total v.clock) v.all
  pub tolerance : v.tolerance ≤ 60 * 10 ^ 12

-- the observations from one place to before another
abbrev pub between_places : List Sight → ℕ → ℕ → List Sight
between_places all first past = take (past - first) (drop first all)

pub record HullsView : Type 0 where
  pub need : HullView
  pub room : HullView

-- One line meets the run, and its hulls are known.
pub record IsRun (v : SearchView) (first past : ℕ) (h : HullsView) : Type 0 where
  pub some : first < past
  pub within : past ≤ length v.all
  pub need : IsHullOf (2 * v.tolerance) (between_places v.all first past) h.need.points h.need.best
  pub room : IsHullOf (2 * v.tolerance) (map turned (between_places v.all first past)) h.room.points h.room.best
  pub stretch : IsStretch (lengths v.clock) (pos v.tolerance) (between_places v.all first past)

-- the run ends before past for this reason
abbrev pub EndsAs : SearchView → ℕ → ℕ → Stop → Type 0
EndsAs v first past stop = IsStop (lengths v.clock) (pos v.tolerance) v.all (record { first = first; past = past; stop = stop }) stop

-- the longest run from a place
pub record IsLongestFrom (v : SearchView) (first : ℕ) (s : Stretch) : Type 0 where
  pub begins : s.first ≡ first
  pub some : first < s.past
  pub within : s.past ≤ length v.all
  pub stretch : IsStretch (lengths v.clock) (pos v.tolerance) (run_of v.all s)
  pub stops : IsStop (lengths v.clock) (pos v.tolerance) v.all s s.stop

-- longest runs, one after another, from one place to another
abbrev pub AreLongestFrom : SearchView → ℕ → List Stretch → ℕ → Type 0
AreLongestFrom v first [] past = first ≡ past
AreLongestFrom v first (s ∷ stretches) past = IsLongestFrom v first s × AreLongestFrom v s.past stretches past
