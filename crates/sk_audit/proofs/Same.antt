-- Parts of documents are the same where their texts are.
use Rattle.std.proofs.Common.{◌≡◌, ℕ, List, [], ◌∷◌, refl, sym, ap, ◌∙◌, append_assoc}
use Rattle.std.specs.List.{All}
use Rattle.std.proofs.lemmas.List.Elements.{All-head, All-tail}
use Rattle.sk_grammar.specs.Document.{ItemView, IsItem, IsTextLine}
use Rattle.sk_grammar.specs.Lines.{held_lines}
use Rattle.sk_grammar.specs.Canonical.{ended_by_line_feeds}
use Rattle.sk_grammar.specs.HeldItems.{held_items, items_text}
use Rattle.sk_grammar.proofs.HeldItems.{held_of_text}
use Rattle.sk_grammar.proofs.HeldLines.{held_front}

pub lines_held : (lines : List (List ℕ)) → All IsTextLine lines → held_lines (ended_by_line_feeds lines) ≡ lines
lines_held [] valid = refl
lines_held (line ∷ lines) valid =
    held_front (ended_by_line_feeds (line ∷ lines)) line (ended_by_line_feeds lines)
    (record { joined = append_assoc line (10 ∷ []) (ended_by_line_feeds lines); one_line = (All-head IsTextLine line lines valid).one_line })
    ∙ ap (λ (z : List (List ℕ)). line ∷ z) (lines_held lines (All-tail IsTextLine line lines valid))

pub same_lines : (xs ys : List (List ℕ)) → All IsTextLine xs → All IsTextLine ys → ended_by_line_feeds xs ≡ ended_by_line_feeds ys → xs ≡ ys
same_lines xs ys p q e = sym (lines_held xs p) ∙ ap held_lines e ∙ lines_held ys q

pub same_items : (xs ys : List ItemView) → All IsItem xs → All IsItem ys → items_text xs ≡ items_text ys → xs ≡ ys
same_items xs ys p q e = sym (held_of_text xs p) ∙ ap held_items e ∙ held_of_text ys q
