use Rattle.std.proofs.Common.{◌≡◌, ◌++◌, ap, sym, ◌∙◌, subst}
use Rattle.sk_grammar.specs.HasRead.{ReaderView, HasRead, reader_of}
use Rattle.sk_grammar.proofs.Failing.{feed_begun, feed_fault}
use Rattle.sk_grammar.proofs.reader.Reader.feed.Goals as goal

pub returns-clause-begun : goal.returns-clause-begun
returns-clause-begun c = λ bytes h.
    let same : c.args.self.now ≡ reader_of c.replace-taken.result = sym c.self.view_is ∙ ap reader_of (sym c.replace-taken.ensures.value) in
    feed_begun c.stopped.result (reader_of c.read_piece.result) (bytes ++ c.args.piece.now) c.stopped.ensures (c.read_piece.ensures.read bytes (subst (λ (v : ReaderView). HasRead v bytes) same h))

pub returns-clause-fault : goal.returns-clause-fault
returns-clause-fault c = λ bytes h.
    let same : c.args.self.now ≡ reader_of c.replace-taken.result = sym c.self.view_is ∙ ap reader_of (sym c.replace-taken.ensures.value) in
    feed_fault c.stopped.result (reader_of c.read_piece.result) (bytes ++ c.args.piece.now) c.stopped.ensures (c.read_piece.ensures.read bytes (subst (λ (v : ReaderView). HasRead v bytes) same h))
