use Rattle.std.proofs.Common.{◌≡◌, ◌<◌, ℕ, List, [], ◌∷◌, ◌++◌, length, take, get_or, sym, ap, subst, ◌∙◌}
use Rattle.sk_clock.specs.Clock.{ClockView}
use Rattle.sk_line.specs.Triple.{TripleView}
use Rattle.sk_plot.specs.declared.piece.Piece.{Piece}
use Rattle.sk_outcome.specs.Drawn.{piece_at, pieces_from}
use Rattle.sk_outcome.proofs.Pictures.{pieces_more}
use Rattle.sk_commands.proofs.drawn.pieces_of.Goals as goal

pub loop-place-preserved : goal.loop-place-preserved
loop-place-preserved c =
    let clock : ClockView = c.args.clock.now in
    let all : List TripleView = c.args.triples.now.triples in
    let i : ℕ = c.loop-place.place in
    let triple : TripleView = c.index-list-place.result in
    let listed : c.list-list.result.now ≡ all = c.list-list.ensures.value in
    let less : i < length all = subst (λ (ts : List TripleView). i < length ts) listed c.loop-place-test.true in
    let at : triple ≡ get_or all i triple = subst (λ (ts : List TripleView). triple ≡ get_or ts i triple) listed c.index-list-place.is in
    let piece : c.piece_at.result ≡ piece_at clock all i triple = subst (λ (ts : List TripleView). c.piece_at.result ≡ piece_at clock ts i triple) listed c.piece_at.ensures in
    c.in_ok-push.ensures.items ∙ ap (λ (ps : List Piece). ps ++ c.piece_at.result ∷ []) c.loop-place.invariant
    ∙ ap (λ (p : Piece). pieces_from clock all 0 (take i all) ++ p ∷ []) piece
    ∙ sym (pieces_more clock all i triple less at)
