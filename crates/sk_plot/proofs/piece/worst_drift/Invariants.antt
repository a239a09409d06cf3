use Rattle.std.proofs.Common.{◌≡◌, ℕ, take}
use Rattle.std.specs.Prelude.{fold, max}
use Rattle.sk_plot.specs.Picture.{drift_size}
use Rattle.sk_plot.specs.declared.piece.Piece.{Piece}
use Rattle.sk_plot.proofs.piece.worst_drift.Given as goal

abbrev pub invariant-loop-piece : goal.invariant-loop-piece
invariant-loop-piece l = l.worst ≡ fold (λ (m : ℕ) (p : Piece). max m (drift_size l.sheet p)) 0 (take l.piece-index l.pieces)
