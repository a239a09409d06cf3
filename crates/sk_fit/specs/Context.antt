-- What a fit goes by, and what it says of one observation more.
use Rattle.std.specs.Prelude.{◌≡◌, ℕ, ◌+◌, ◌*◌, ◌^◌, ◌<◌, ◌≤◌, ℤ, pos, neg_ℤ, ◌≤ℤ◌, List, true}
use Rattle.sk_publishing.specs.Row.{RowView, AreRows}
use Rattle.sk_clock.specs.Clock.{ClockView, total}
use Rattle.sk_publishing.specs.Terms.{Sight, Terms, sights}
use Rattle.sk_publishing.specs.Meets.{Meets}
use Rattle.sk_publishing.specs.Rates.{IsBand, IsLeastRate, IsGreatestRate, on_grid}
use Rattle.sk_publishing.specs.Chain.{IsAllowedStep, IsInPartition}
use Rattle.sk_publishing.specs.Kept.{is_new, HasNoRate, HasTimeFall}
use Rattle.sk_publishing.specs.Built.{middle_rate}
use Rattle.sk_fit.specs.declared.settings.Settings.{Settings}
use Rattle.sk_fit.specs.declared.settings.Line.{Line}
use Rattle.sk_fit.specs.declared.chain.End.{End}
use Rattle.sk_fit.specs.declared.fault.FitFault.{FitFault}
use Rattle.sk_fit.specs.declared.start.Start.{Start}
use Rattle.sk_fit.specs.declared.ending.Beginning.{Beginning}
use Rattle.sk_fit.specs.declared.open_segment.Running.{Running}
use Rattle.sk_fit.specs.Given.{AreSettings, IsUsableBand, IsRate, terms_of, anchor_of, band_view, sight_at, end_view}
use Rattle.sk_fit.specs.State.{IsSmallClock, FittingView, IsFitting, IsBuilt, IsAt, Rises, Moves, StopsBy, open_of}
use Rattle.sk_fit.specs.Pairs.{IsRunning, CanEnd, ended_with}

-- all that a fit reads and never changes
pub record FitView : Type 0 where
  pub settings : Settings
  pub clock : ClockView
  pub start : Start
  pub rows : List RowView

abbrev pub terms : FitView → Terms
terms fit = terms_of fit.settings fit.clock fit.start.old

abbrev pub all_of : FitView → List Sight
all_of fit = sights fit.rows

-- everything is in its range, and the band is that of the allowed rates
pub record IsFit (fit : FitView) : Type 0 where
  pub ranges : AreSettings fit.settings
  pub clocked : IsSmallClock fit.clock
  pub usable : IsUsableBand fit.settings.rate_decimals (band_view fit.start.band)
  pub allowed : IsBand (IsAllowedStep (terms fit)) (band_view fit.start.band)
  pub observed : AreRows (total fit.clock) fit.rows

-- the next observation is in its place, new, and in the ranges of observations
pub record IsNext (fit : FitView) (n : ℕ) (row : RowView) : Type 0 where
  pub given : IsFit fit
  pub at : IsAt (all_of fit) n (sight_at n row)
  pub rises : Rises (all_of fit) n (sight_at n row)
  pub new : is_new (terms fit) (sight_at n row) ≡ true
  pub not_past : row.tick ≤ total fit.clock
  pub from : neg_ℤ (pos (9 * 10 ^ 21)) ≤ℤ row.time
  pub to : row.time ≤ℤ pos (9 * 10 ^ 21)
  pub short : n + 1 < 2 ^ 64

-- ---- what is built

-- it is a publication of the first n observations
abbrev pub IsBuiltTo : FitView → ℕ → FittingView → Type 0
IsBuiltTo fit n f = IsBuilt (terms fit) (all_of fit) n f

-- and with the next observation it is one of the first n + 1
abbrev pub Grows : FitView → ℕ → RowView → FittingView → FittingView → Type 0
Grows fit n row f f' = Moves (terms fit) (all_of fit) n (sight_at n row) f f'

-- the next observation is in the partition of the open segment
abbrev pub IsHere : FitView → ℕ → RowView → FittingView → Type 0
IsHere fit n row f = IsInPartition (terms fit) (open_of (all_of fit) f) (sight_at n row)

-- the running interval, with the next observation
abbrev pub RunsOver : FitView → ℕ → RowView → FittingView → Running → Type 0
RunsOver fit n row f r = IsRunning (terms fit) (all_of fit) f (sight_at n row) r

-- the open segment can end so at the next observation
abbrev pub CanEndAs : FitView → ℕ → RowView → FittingView → End → Type 0
CanEndAs fit n row f ended = CanEnd (terms fit) (all_of fit) n f (sight_at n row) (end_view ended)

-- no allowed rate meets the next observation, and the open segment, which ends so, is the last one; or time falls there
abbrev pub LacksRate : FitView → ℕ → RowView → End → FittingView → Type 0
LacksRate fit n row ended f = (kept dropped : List Sight) → IsFitting (terms fit) (all_of fit) n f kept dropped
    → (none : HasNoRate (terms fit) kept (sight_at n row)) × (none.last ≡ ended_with (open_of (all_of fit) f) (end_view ended))

abbrev pub LetsTimeFall : FitView → ℕ → RowView → FittingView → Type 0
LetsTimeFall fit n row f = (kept dropped : List Sight) → IsFitting (terms fit) (all_of fit) n f kept dropped → HasTimeFall (terms fit) kept (sight_at n row)

-- why the next observation stops the fit
abbrev pub StopsFit : FitView → ℕ → RowView → FittingView → FitFault → Type 0
StopsFit fit n row f fault = StopsBy (terms fit) fit.rows n (sight_at n row) f row.number fault

-- ---- a segment that begins

-- its rate is in the middle of the allowed rates that meet its first observation from the anchor
pub record IsBeginning (t : Terms) (o : Sight) (b : Beginning) : Type 0 where
  pub is_least : IsLeastRate (IsAllowedStep t) t.gauge (anchor_of b.anchor) o b.bounds.least
  pub is_greatest : IsGreatestRate (IsAllowedStep t) t.gauge (anchor_of b.anchor) o b.bounds.greatest
  pub filled : b.bounds.least ≤ℤ b.bounds.greatest
  pub middle : b.rate.units ≡ middle_rate t b.bounds.least b.bounds.greatest
  pub good : IsRate b.rate.units

abbrev pub NoneMeets : Terms → Line → Sight → Type 0
NoneMeets t anchor o = (n : ℤ) → IsAllowedStep t n → ¬ Meets t.gauge (anchor_of anchor) (on_grid t.gauge.rate_decimals n) o
