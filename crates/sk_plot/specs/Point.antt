-- What is drawn of observations and triples.
use Rattle.std.specs.Prelude.{ℕ, ◌^◌, ℤ, pos, neg_ℤ, ◌≤ℤ◌, List}
use Rattle.sk_plot.specs.declared.piece.Piece.{Piece}

-- what contracts see of a `Point`
pub record PointView : Type 0 where
  pub id : List ℕ
  pub clock : List ℕ
  pub time : ℤ
  pub residual : ℤ

pub record IsPoint (p : PointView) : Type 0 where
  pub time_from : neg_ℤ (pos (10 ^ 22)) ≤ℤ p.time
  pub time_to : p.time ≤ℤ pos (10 ^ 22)

-- what contracts see of a `Panel`
pub record PanelView : Type 0 where
  pub points : List PointView
  pub pieces : List Piece
