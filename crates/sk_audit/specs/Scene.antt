-- What a walk goes by, and what it says of one observation more.
use Rattle.std.specs.Prelude.{◌≡◌, ℕ, ◌+◌, ◌*◌, ◌^◌, ◌<◌, ◌≤◌, ℤ, pos, neg_ℤ, ◌≤ℤ◌, List, true}
use Rattle.sk_publishing.specs.Row.{RowView, AreRows}
use Rattle.sk_clock.specs.Clock.{ClockView, total}
use Rattle.sk_line.specs.Triple.{TripleView}
use Rattle.sk_publishing.specs.Terms.{Sight, Terms, partition_at, sights}
use Rattle.sk_publishing.specs.Meets.{Meets}
use Rattle.sk_publishing.specs.Rates.{IsBand, IsLeastRate, IsGreatestRate, on_grid}
use Rattle.sk_publishing.specs.Chain.{IsAllowedStep}
use Rattle.sk_publishing.specs.Kept.{is_new, HasNoRate, HasTimeFall}
use Rattle.sk_publishing.specs.Built.{middle_rate}
use Rattle.sk_audit.specs.declared.settings.AuditSettings.{AuditSettings}
use Rattle.sk_audit.specs.declared.line.Line.{Line}
use Rattle.sk_audit.specs.declared.told.End.{End}
use Rattle.sk_audit.specs.declared.start.Start.{Start}
use Rattle.sk_audit.specs.declared.ending.Beginning.{Beginning}
use Rattle.sk_audit.specs.declared.interval.Running.{Running}
use Rattle.sk_audit.specs.Given.{AreSettings, IsUsableBand, IsRate, IsSmallClock, terms_of, anchor_of, band_view, sight_at, end_view}
use Rattle.sk_audit.specs.Walking.{WalkView, IsWalk, IsBuilt, IsAt, Rises, Moves, StopsWalk}
use Rattle.sk_audit.specs.Pairs.{IsRunning, CanEnd}

-- all that a walk reads and never changes
pub record SceneView : Type 0 where
  pub settings : AuditSettings
  pub clock : ClockView
  pub start : Start
  pub rows : List RowView
  pub claims : List TripleView

-- where these triples are claimed
abbrev pub claiming : SceneView → List TripleView → SceneView
claiming scene claims = record scene { claims = claims }

abbrev pub terms : SceneView → Terms
terms scene = terms_of scene.settings scene.clock scene.start.old

abbrev pub all_of : SceneView → List Sight
all_of scene = sights scene.rows

-- everything is in its range, and the band is that of the allowed rates
pub record IsScene (scene : SceneView) : Type 0 where
  pub ranges : AreSettings scene.settings
  pub clocked : IsSmallClock scene.clock
  pub usable : IsUsableBand scene.settings.rate_decimals (band_view scene.start.band)
  pub allowed : IsBand (IsAllowedStep (terms scene)) (band_view scene.start.band)
  pub observed : AreRows (total scene.clock) scene.rows

-- the next observation is in its place, new, and in the ranges of observations
pub record IsNext (scene : SceneView) (n : ℕ) (row : RowView) : Type 0 where
  pub given : IsScene scene
  pub at : IsAt (all_of scene) n (sight_at n row)
  pub rises : Rises (all_of scene) n (sight_at n row)
  pub new : is_new (terms scene) (sight_at n row) ≡ true
  pub not_past : row.tick ≤ total scene.clock
  pub from : neg_ℤ (pos (9 * 10 ^ 21)) ≤ℤ row.time
  pub to : row.time ≤ℤ pos (9 * 10 ^ 21)
  pub short : n + 1 < 2 ^ 64

-- ---- what is built

-- it is a publication of the first n observations
abbrev pub IsBuiltTo : SceneView → ℕ → WalkView → Type 0
IsBuiltTo scene n w = IsBuilt (terms scene) (all_of scene) n w

-- and with the next observation it is one of the first n + 1
abbrev pub Grows : SceneView → ℕ → RowView → WalkView → WalkView → Type 0
Grows scene n row w w' = Moves (terms scene) (all_of scene) n (sight_at n row) w w'

-- the next observation is in the partition of the open segment
abbrev pub IsHere : SceneView → RowView → WalkView → Type 0
IsHere scene row w = partition_at (terms scene) row.tick ≡ partition_at (terms scene) w.anchor.ticks

-- the running interval, with the next observation
abbrev pub RunsOver : SceneView → ℕ → RowView → WalkView → Running → Type 0
RunsOver scene n row w r = (kept dropped : List Sight) → (h : IsWalk (terms scene) (all_of scene) n w kept dropped)
    → IsRunning (terms scene) w h.covered (sight_at n row) r

-- the open segment can end so at the next observation
abbrev pub CanEndAs : SceneView → ℕ → RowView → WalkView → End → Type 0
CanEndAs scene n row w ended = CanEnd (terms scene) (all_of scene) n w (sight_at n row) (end_view ended)

-- no allowed rate meets the next observation, or time falls there
abbrev pub LacksRate : SceneView → ℕ → RowView → WalkView → Type 0
LacksRate scene n row w = (kept dropped : List Sight) → IsWalk (terms scene) (all_of scene) n w kept dropped → HasNoRate (terms scene) kept (sight_at n row)

abbrev pub LetsTimeFall : SceneView → ℕ → RowView → WalkView → Type 0
LetsTimeFall scene n row w = (kept dropped : List Sight) → IsWalk (terms scene) (all_of scene) n w kept dropped → HasTimeFall (terms scene) kept (sight_at n row)

-- the next observation stops the walk
abbrev pub IsStop : SceneView → ℕ → RowView → WalkView → Type 0
IsStop scene n row w = StopsWalk (terms scene) (all_of scene) n (sight_at n row) w

-- ---- a segment that begins

-- its rate is in the middle of the allowed rates that meet its first observation from the anchor
pub record IsBeginning (t : Terms) (o : Sight) (b : Beginning) : Type 0 where
  pub is_least : IsLeastRate (IsAllowedStep t) t.gauge (anchor_of b.anchor) o b.bounds.least
  pub is_greatest : IsGreatestRate (IsAllowedStep t) t.gauge (anchor_of b.anchor) o b.bounds.greatest
  pub filled : b.bounds.least ≤ℤ b.bounds.greatest
  pub middle : b.rate.units ≡ middle_rate t b.bounds.least b.bounds.greatest
  pub good : IsRate b.rate.units

abbrev pub NoneMeets : Terms → Line → Sight → Type 0
NoneMeets t anchor o = (n : ℤ) → IsAllowedStep t n → ¬ Meets t.gauge (anchor_of anchor) (on_grid t.gauge.rate_decimals n) o
