-- Texts in parts.
use Rattle.std.proofs.Common.{◌≡◌, ℕ, ◌+◌, ◌<◌, List, [], ◌∷◌, ◌++◌, length, take, get_or, codes, ap, sym, ◌∙◌, append_assoc, append-nil}
use Rattle.std.specs.List.{flat_map}
use Rattle.std.proofs.lemmas.List.{take_more}
use Rattle.std.proofs.lemmas.List.Concat.{flat_map-append}
use Rattle.sk_grammar.specs.Document.{BlockView}
use Rattle.sk_grammar.specs.Canonical.{item_lines, block_lines, ended_by_line_feeds}

pub ended-append : (front behind : List (List ℕ)) → ended_by_line_feeds (front ++ behind) ≡ ended_by_line_feeds front ++ ended_by_line_feeds behind
ended-append front behind = flat_map-append (λ (line : List ℕ). line ++ 10 ∷ []) front behind

pub block_text : (block : BlockView)
    → ended_by_line_feeds (block_lines block)
    ≡ (codes "\\begindata" ++ 10 ∷ []) ++ (ended_by_line_feeds (flat_map item_lines block.items) ++ ((codes "\\begintext" ++ 10 ∷ []) ++ ended_by_line_feeds block.text))
block_text block = ap (λ (text : List ℕ). (codes "\\begindata" ++ 10 ∷ []) ++ text) (ended-append (flat_map item_lines block.items) (codes "\\begintext" ∷ block.text))

pub four_parts : (o o1 o2 o3 o4 a b c d : List ℕ) → o1 ≡ o ++ a → o2 ≡ o1 ++ b → o3 ≡ o2 ++ c → o4 ≡ o3 ++ d → o4 ≡ o ++ (a ++ (b ++ (c ++ d)))
four_parts o o1 o2 o3 o4 a b c d p q r s = rw (s, r, q, p) (simp append_assoc)

pub blocks_more : (start now next : List ℕ) (blocks : List BlockView) (i : ℕ) (block : BlockView) → i < length blocks → block ≡ get_or blocks i block
    → now ≡ start ++ ended_by_line_feeds (flat_map block_lines (take i blocks)) → next ≡ now ++ ended_by_line_feeds (block_lines block)
    → next ≡ start ++ ended_by_line_feeds (flat_map block_lines (take (i + 1) blocks))
blocks_more start now next blocks i block within here now_is next_is =
    let before = take i blocks in
    let one : take (i + 1) blocks ≡ before ++ block ∷ [] = take_more blocks i block within ∙ ap (λ (b : BlockView). before ++ b ∷ []) (sym here) in
    let lines : flat_map block_lines (take (i + 1) blocks) ≡ flat_map block_lines before ++ block_lines block =
    ap (flat_map block_lines) one ∙ flat_map-append block_lines before (block ∷ []) ∙ ap (λ (ls : List (List ℕ)). flat_map block_lines before ++ ls) (append-nil (block_lines block)) in
    next_is ∙ ap (λ (text : List ℕ). text ++ ended_by_line_feeds (block_lines block)) now_is
    ∙ append_assoc start (ended_by_line_feeds (flat_map block_lines before)) (ended_by_line_feeds (block_lines block))
    ∙ ap (λ (text : List ℕ). start ++ text) (sym (ap ended_by_line_feeds lines ∙ ended-append (flat_map block_lines before) (block_lines block)))
