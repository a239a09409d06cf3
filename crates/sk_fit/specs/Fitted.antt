-- What is built over the first observations of a list, and why a list of observations stops it.
use Rattle.std.specs.Prelude.{◌≡◌, ℕ, ◌<◌, Bool, true, false, ◌||◌, nat_lt, List, take, Some, slice_get, length, [], ◌∷◌, ◌++◌}
use Rattle.sk_publishing.specs.Row.{RowView}
use Rattle.sk_clock.specs.Clock.{ClockView, total, partition_at}
use Rattle.sk_publishing.specs.Terms.{Sight, Terms, sights, seam as seam_of}
use Rattle.sk_line.specs.Triple.{TripleView}
use Rattle.sk_publishing.specs.Rates.{BandView, IsBand}
use Rattle.sk_publishing.specs.Chain.{IsAllowedStep}
use Rattle.sk_triples.specs.Kernel.{TriplesView, IsTriple}
use Rattle.sk_publishing.specs.Input.{Begins}
use Rattle.sk_publishing.specs.Kept.{Sorts, StopsAtNoRate, StopsAtTimeFall}
use Rattle.sk_fit.specs.declared.fault.FitFault.{FitFault}
use Rattle.sk_fit.specs.declared.fault.FitFault.TheVariants.{NoRate, TimeFalls, NoMemory}
use Rattle.sk_fit.specs.declared.settings.Settings.{Settings}
use Rattle.sk_fit.specs.Given.{IsUsableBand, terms_of}
use Rattle.sk_fit.specs.Causes.{IsNumberOf, input}
use Rattle.sk_fit.specs.Barriers.{IsBarrier}
use Rattle.sk_fit.specs.declared.chain.Chain.{Chain}
use Rattle.sk_fit.specs.Context.{FitView, terms}
use Rattle.sk_fit.specs.State.{FittingView, IsFitting, IsSmallClock}

-- a publication of the first n observations
pub record IsFitted (t : Terms) (rows : List RowView) (n : ℕ) (f : FittingView) : Type 0 where
  pub kept : List Sight
  pub dropped : List Sight
  pub sorts : Sorts t (take n (sights rows)) kept dropped
  pub fitting : IsFitting t (sights rows) n f kept dropped

-- the chain is that of a publication of all observations
pub record IsChainOf (fit : FitView) (first_new : ℕ) (chain : Chain) : Type 0 where
  pub built : FittingView
  pub fitted : IsFitted (terms fit) fit.rows (length fit.rows) built
  pub finished : chain ≡ record { first_new = first_new; dropped = built.dropped; segments = built.closed ++ built.open_one ∷ [] }

-- the observation that stops a publication, for this reason; or memory runs out
abbrev pub StopsAt : Terms → List RowView → FitFault → Type 0
StopsAt t rows (NoRate number barrier) = (o : Sight) × (stop : StopsAtNoRate t (sights rows) o) × IsNumberOf rows o number
    × IsBarrier t.gauge rows o stop.no_rate.last barrier
StopsAt t rows (TimeFalls number) = (o : Sight) × StopsAtTimeFall t (sights rows) o × IsNumberOf rows o number
StopsAt t rows NoMemory = Unit {0}
StopsAt t rows _ = ⊥

-- what new triples go on from
pub record IsStart (triples : TriplesView) (clock : ClockView) (settings : Settings) (old : TripleView) (band : BandView) (left : ℕ) : Type 0 where
  pub small : IsSmallClock clock
  pub triple : IsTriple (total clock) old
  pub begins : (rows : List RowView) → Begins (input triples clock rows settings) old
  pub allowed : IsBand (IsAllowedStep (terms_of settings clock old)) band
  pub usable : IsUsableBand settings.rate_decimals band
  pub seam : left ≡ seam_of (terms_of settings clock old)

-- ---- new observations

-- the tick is in a later partition than the old last triple, or after the seam
abbrev pub is_new_tick : ClockView → ℕ → ℕ → ℕ → Bool
is_new_tick clock last seam tick = nat_lt (partition_at clock last) (partition_at clock tick) || nat_lt seam tick

-- the first n are old
abbrev pub AreOldTicks : ClockView → ℕ → ℕ → List RowView → ℕ → Type 0
AreOldTicks clock last seam rows n = (k : ℕ) (row : RowView) → k < n → slice_get rows k ≡ Some row → is_new_tick clock last seam row.tick ≡ false

-- the one behind these, if any, is new
abbrev pub IsNewTick : ClockView → ℕ → ℕ → List RowView → ℕ → Type 0
IsNewTick clock last seam rows n = (row : RowView) → slice_get rows n ≡ Some row → is_new_tick clock last seam row.tick ≡ true
