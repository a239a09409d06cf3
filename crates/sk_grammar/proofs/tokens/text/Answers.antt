use Rattle.std.proofs.Common.{◌≡◌, ◌+◌, ◌++◌, [], ◌∷◌, get_or, Bool, true, false, refl, ap, ◌∙◌, sym, arith, not}
use Rattle.std.proofs.lemmas.Bool.{eq-eqb, ne_eqb}
use Rattle.sk_grammar.proofs.Quotations.{plain_read, quote_read, doubled_read, read_on}
use Rattle.sk_grammar.proofs.tokens.text.Goals.{then-byte-eq39, then-behind_quote+in_ok-push, else-behind_quote, else-byte-eq39+else-behind_quote-2+else-byte-eq10+in_ok-push-2}
use Rattle.sk_grammar.proofs.tokens.text.Goals as goal

pub loop-i-preserved : goal.loop-i-preserved
loop-i-preserved c =
    let bytes = c.args.bytes.now in
    let at = c.loop-i.i in
    let byte = get_or bytes at 0 in
    let front = c.loop-i.text.items in
    elim c.if-byte-eq39.branch [
      | then-byte-eq39 w ↦
          let flipped : c.if-byte-eq39.behind_quote ≡ not c.loop-i.behind_quote = w.behind_quote-is in
          elim w.if-behind_quote.branch [
            | then-behind_quote+in_ok-push w' ↦
                let items : c.if-byte-eq39.text.items ≡ front ++ byte ∷ [] = cc (w'.in_ok-push.ensures.items, w.text-is, w'.text-is) in
                read_on bytes (front ++ byte ∷ []) c.if-byte-eq39.text.items false c.if-byte-eq39.behind_quote (at + 1) items (flipped ∙ ap not w'.if-behind_quote.true)
                (doubled_read bytes front at byte c.loop-i-test.true refl (eq-eqb byte 39 w.if-byte-eq39.true) (read_on bytes front front c.loop-i.behind_quote true at refl (sym w'.if-behind_quote.true) c.loop-i.invariant))
            | else-behind_quote w' ↦
                let items : c.if-byte-eq39.text.items ≡ front = cc (w.text-is, w'.text-is) in
                read_on bytes front c.if-byte-eq39.text.items true c.if-byte-eq39.behind_quote (at + 1) items (flipped ∙ ap not w'.if-behind_quote.false)
                (quote_read bytes front at byte c.loop-i-test.true refl (eq-eqb byte 39 w.if-byte-eq39.true) (read_on bytes front front c.loop-i.behind_quote false at refl (sym w'.if-behind_quote.false) c.loop-i.invariant))
          ]
      | else-byte-eq39+else-behind_quote-2+else-byte-eq10+in_ok-push-2 w ↦
          let items : c.if-byte-eq39.text.items ≡ front ++ byte ∷ [] = cc (w.in_ok-push-2.ensures.items, w.text-is) in
          read_on bytes (front ++ byte ∷ []) c.if-byte-eq39.text.items false c.if-byte-eq39.behind_quote (at + 1) items (w.behind_quote-is ∙ w.if-behind_quote-2.false)
          (plain_read bytes front at byte c.loop-i-test.true refl (ne_eqb byte 39 w.if-byte-eq39.false) (ne_eqb byte 10 w.if-byte-eq10.false) (read_on bytes front front c.loop-i.behind_quote false at refl (sym w.if-behind_quote-2.false) c.loop-i.invariant))
    ]
