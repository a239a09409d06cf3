-- Points and pieces, one after the other.
use Rattle.std.proofs.Common.{◌≡◌, ℕ, zero, suc, ◌+◌, ◌<◌, List, [], ◌∷◌, ◌++◌, length, take, get_or, Option, None, Some, refl, sym, ap, subst, arith, ◌∙◌}
use Rattle.std.specs.Prelude.{map, slice_get}
use Rattle.std.specs.List.{AllByRecursion}
use Rattle.std.proofs.lemmas.List.{take_more, length-take-le}
use Rattle.std.proofs.lemmas.Option.{none-some, same_Some}
use Rattle.sk_clock.specs.Clock.{ClockView}
use Rattle.sk_line.specs.Triple.{TripleView}
use Rattle.sk_plot.specs.Point.{PointView}
use Rattle.sk_plot.specs.declared.piece.Piece.{Piece}
use Rattle.sk_publishing.specs.Row.{RowView}
use Rattle.sk_publishing.specs.Table.{KernelView}
use Rattle.sk_outcome.specs.Drawn.{point_by, points_of, piece_at, pieces_from, pieces_of}

points_push : (k : KernelView) (rows : List RowView) (row : RowView) → points_of k (rows ++ row ∷ []) ≡ points_of k rows ++ point_by k row ∷ []
points_push k [] row = refl
points_push k (r ∷ rows) row = ap (λ (ps : List PointView). point_by k r ∷ ps) (points_push k rows row)

-- one observation more, as a loop takes it
pub points_more : (k : KernelView) (rows : List RowView) (i : ℕ) (row : RowView) → i < length rows → row ≡ get_or rows i row
    → points_of k (take (i + 1) rows) ≡ points_of k (take i rows) ++ point_by k row ∷ []
points_more k rows i row less at =
    ap (points_of k) (take_more rows i row less ∙ ap (λ (r : RowView). take i rows ++ r ∷ []) (sym at)) ∙ points_push k (take i rows) row

pieces_push : (clock : ClockView) (all : List TripleView) (place : ℕ) (triples : List TripleView) (triple : TripleView)
    → pieces_from clock all place (triples ++ triple ∷ []) ≡ pieces_from clock all place triples ++ piece_at clock all (place + length triples) triple ∷ []
pieces_push clock all place [] triple = let same : place ≡ place + 0 = omega arith in ap (λ (n : ℕ). piece_at clock all n triple ∷ []) same
pieces_push clock all place (t ∷ triples) triple =
    let same : place + 1 + length triples ≡ place + length (t ∷ triples) = omega arith in
    ap (λ (ps : List Piece). piece_at clock all place t ∷ ps)
    (pieces_push clock all (place + 1) triples triple ∙ ap (λ (n : ℕ). pieces_from clock all (place + 1) triples ++ piece_at clock all n triple ∷ []) same)

-- one triple more, as a loop takes it
pub pieces_more : (clock : ClockView) (all : List TripleView) (i : ℕ) (triple : TripleView) → i < length all → triple ≡ get_or all i triple
    → pieces_from clock all 0 (take (i + 1) all) ≡ pieces_from clock all 0 (take i all) ++ piece_at clock all i triple ∷ []
pieces_more clock all i triple less at =
    let same : 0 + length (take i all) ≡ i = let e = length-take-le i all (omega arith) in omega arith in
    ap (λ (ts : List TripleView). pieces_from clock all 0 ts) (take_more all i triple less ∙ ap (λ (t : TripleView). take i all ++ t ∷ []) (sym at))
    ∙ pieces_push clock all 0 (take i all) triple ∙ ap (λ (n : ℕ). pieces_from clock all 0 (take i all) ++ piece_at clock all n triple ∷ []) same

-- what holds of each holds of one
pub holds_at : {X : Type 0} (P : X → Type 0) (xs : List X) (i : ℕ) (x : X) → AllByRecursion P xs → slice_get xs i ≡ Some x → P x
holds_at P [] i x h e = absurd (none-some x e)
holds_at P (y ∷ xs) zero x h e = subst P (same_Some y x e) h.0
holds_at P (y ∷ xs) (suc i) x h e = holds_at P xs i x h.1 e
