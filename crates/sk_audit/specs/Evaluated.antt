-- What of claimed triples is evaluated so far, and when no publication has them.
use Rattle.std.specs.Prelude.{◌≡◌, ◌≢◌, ℕ, ◌<◌, ℤ, ◌≤ℤ◌, List, [], ◌∷◌, ◌++◌, map, length, Some, slice_get}
use Rattle.sk_publishing.specs.Row.{RowView}
use Rattle.sk_publishing.specs.Terms.{Sight, Terms}
use Rattle.sk_line.specs.Triple.{TripleView}
use Rattle.sk_publishing.specs.Rates.{on_grid}
use Rattle.sk_publishing.specs.Chain.{SegmentView, new_triples}
use Rattle.sk_publishing.specs.Kept.{IsPublication}
use Rattle.sk_publishing.specs.Built.{middle_rate}
use Rattle.sk_audit.specs.declared.told.Told.{Told}
use Rattle.sk_audit.specs.declared.ending.Due.{Due}
use Rattle.sk_audit.specs.declared.ending.Beginning.{Beginning}
use Rattle.sk_audit.specs.declared.line.Line.{Line}
use Rattle.sk_audit.specs.Claims.{triple_of}
use Rattle.sk_audit.specs.Given.{IsRate, anchor_of, sight_at}
use Rattle.sk_audit.specs.Walking.{WalkView, begun_at}
use Rattle.sk_audit.specs.Walked.{IsWalked}
use Rattle.sk_audit.specs.Scene.{SceneView, terms, all_of, IsNext, IsBeginning, Grows}

-- ---- the open segment

-- the old rate, or else the middle one
abbrev pub rate_of : List Told → ℤ → ℤ → ℤ
rate_of [] old middle = old
rate_of (s ∷ closed) old middle = middle

-- the rate that the open segment has over what it covers: the old one, or the middle of the running interval
abbrev pub rate_so_far : Terms → WalkView → ℤ
rate_so_far t w = rate_of w.closed w.rate.units (middle_rate t w.least w.greatest)

-- what is built so far has that rate, where the claimed one is the rate in the end
abbrev pub so_far : Terms → WalkView → WalkView
so_far t w = record w { rate = record { units = rate_so_far t w } }

-- a rate is a step of the grid between these
pub record IsBetween (t : Terms) (rate least greatest : ℤ) : Type 0 where
  pub step : ℤ
  pub is : rate ≡ on_grid t.gauge.rate_decimals step
  pub from : least ≤ℤ step
  pub to : step ≤ℤ greatest

-- ---- the claims

-- a line as a triple
abbrev pub line_triple : Line → ℤ → TripleView
line_triple line rate = record { anchor = anchor_of line; rate = rate }

-- the triples of these segments and of one more, without the first segment's
abbrev pub late : List Told → TripleView → List TripleView
late [] x = []
late (s ∷ closed) x = map triple_of closed ++ x ∷ []

-- the claimed triples whose segments are begun
abbrev pub begun : WalkView → List TripleView
begun w = late w.closed (line_triple w.anchor w.rate.units)

-- Over the first n observations the claims are evaluated, and agree with the publication of these.
pub record IsEvaluated (scene : SceneView) (n : ℕ) (w : WalkView) : Type 0 where
  pub walked : IsWalked (terms scene) scene.rows n (so_far (terms scene) w)
  pub held : 0 < length w.closed → IsBetween (terms scene) w.rate.units w.least w.greatest
  pub good : IsRate w.rate.units
  pub left : List TripleView
  pub claimed : scene.claims ≡ begun w ++ left

abbrev pub Evaluates : SceneView → WalkView → Type 0
Evaluates scene w = (n : ℕ) × IsEvaluated scene n w

-- no publication of all observations has the claimed triples
abbrev pub IsRefuted : SceneView → Type 0
IsRefuted scene = (dropped : List Sight) (chain : List SegmentView) → IsPublication (terms scene) (all_of scene) dropped chain → new_triples chain ≢ scene.claims

-- the next observation is that of its place
pub record IsNextAt (scene : SceneView) (n : ℕ) (row : RowView) : Type 0 where
  pub next : IsNext scene n row
  pub at : slice_get scene.rows n ≡ Some row

-- ---- a segment that is due

abbrev pub beginning_of : Due → ℤ → Beginning
beginning_of d rate = record { anchor = d.anchor; rate = record { units = rate }; bounds = d.bounds }

-- A segment is due with the next observation: whichever begins there, what is built grows by it.
pub record IsDue (scene : SceneView) (n : ℕ) (row : RowView) (w : WalkView) (d : Due) : Type 0 where
  pub begins : IsBeginning (terms scene) (sight_at 0 row) (beginning_of d (middle_rate (terms scene) d.bounds.least d.bounds.greatest))
  pub grows : Grows scene n row (so_far (terms scene) w)
      (begun_at (so_far (terms scene) w) d.ended (beginning_of d (middle_rate (terms scene) d.bounds.least d.bounds.greatest)) n row.tick)
