-- What a walk has built over the first observations of a list, and why there is no publication of all.
use Rattle.std.specs.Prelude.{◌≡◌, ◌⊎◌, ℕ, ◌<◌, Bool, true, false, ◌||◌, nat_lt, List, take, Some, slice_get, map}
use Rattle.sk_publishing.specs.Row.{RowView}
use Rattle.sk_clock.specs.Clock.{ClockView, total, partition_at}
use Rattle.sk_publishing.specs.Terms.{Sight, Terms, sights, seam as seam_of}
use Rattle.sk_line.specs.Triple.{TripleView}
use Rattle.sk_publishing.specs.Rates.{BandView, IsBand}
use Rattle.sk_publishing.specs.Chain.{IsAllowedStep, SegmentView}
use Rattle.sk_publishing.specs.Kept.{Sorts, IsPublication}
use Rattle.sk_publishing.specs.Laws.{Stops}
use Rattle.sk_publishing.specs.Input.{Input, HasLast, IsBadHold, IsBandEmpty, Begins}
use Rattle.sk_line.specs.Line.{FallsOver}
use Rattle.sk_triples.specs.Kernel.{TriplesView, IsTriple}
use Rattle.sk_audit.specs.declared.settings.AuditSettings.{AuditSettings}
use Rattle.sk_audit.specs.declared.walking.Account.{Account}
use Rattle.sk_audit.specs.Given.{IsUsableBand, IsSmallClock, terms_of}
use Rattle.sk_audit.specs.Audit.{input_of}
use Rattle.sk_audit.specs.Walking.{WalkView, IsWalk, Tell}

-- a publication of the first n observations
pub record IsWalked (t : Terms) (rows : List RowView) (n : ℕ) (w : WalkView) : Type 0 where
  pub kept : List Sight
  pub dropped : List Sight
  pub sorts : Sorts t (take n (sights rows)) kept dropped
  pub walk : IsWalk t (sights rows) n w kept dropped

-- an observation stops every publication
abbrev pub IsStopped : Terms → List RowView → Type 0
IsStopped t rows = (o : Sight) × Stops t (sights rows) o

-- what is told is a publication's
pub record IsAccount (t : Terms) (all : List Sight) (a : Account) : Type 0 where
  pub dropped : List Sight
  pub chain : List SegmentView
  pub publication : IsPublication t all dropped chain
  pub tells : Tell a.segments.items chain
  pub places : a.dropped.items ≡ map (λ o. o.place) dropped

-- the hold is bad, an old join falls by more than the slip, or no rate is allowed
abbrev pub HasBadTerms : Input → Type 0
HasBadTerms x = (last : TripleView) × HasLast x last
    × (IsBadHold x last ⊎ ((i : ℕ) × FallsOver (x.terms last).gauge.per_count x.triples x.slip i) ⊎ IsBandEmpty x last)

-- what new triples go on from
pub record IsStart (triples : TriplesView) (clock : ClockView) (settings : AuditSettings) (old : TripleView) (band : BandView) (left : ℕ) : Type 0 where
  pub small : IsSmallClock clock
  pub triple : IsTriple (total clock) old
  pub begins : (rows : List RowView) → Begins (input_of triples clock rows settings) old
  pub allowed : IsBand (IsAllowedStep (terms_of settings clock old)) band
  pub usable : IsUsableBand settings.rate_decimals band
  pub seam : left ≡ seam_of (terms_of settings clock old)

-- ---- new observations

-- the tick is in a later partition than the old last triple, or after the seam
abbrev pub is_new_tick : ClockView → ℕ → ℕ → ℕ → Bool
is_new_tick clock last seam tick = nat_lt (partition_at clock last) (partition_at clock tick) || nat_lt seam tick

-- the first n are old
abbrev pub AreOldTicks : ClockView → ℕ → ℕ → List RowView → ℕ → Type 0
AreOldTicks clock last seam rows n = (k : ℕ) (row : RowView) → k < n → slice_get rows k ≡ Some row → is_new_tick clock last seam row.tick ≡ false

-- the one behind these, if any, is new
abbrev pub IsNewTick : ClockView → ℕ → ℕ → List RowView → ℕ → Type 0
IsNewTick clock last seam rows n = (row : RowView) → slice_get rows n ≡ Some row → is_new_tick clock last seam row.tick ≡ true
