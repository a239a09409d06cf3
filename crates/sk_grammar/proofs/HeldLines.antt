-- Texts in which a line feed ends each line.
use Rattle.std.proofs.Common.{◌≡◌, ℕ, ◌<◌, List, [], ◌∷◌, ◌++◌, length, append_assoc, false, refl, ap, sym, ◌∙◌, inl, inr, arith}
use Rattle.std.specs.List.{list_any, slice_split, onto_first}
use Rattle.std.proofs.lemmas.Bool.{cases_Bool, eqb-true}
use Rattle.sk_grammar.specs.Canonical.{ended_by_line_feeds}
use Rattle.sk_grammar.specs.Taken.{IsSplitAtFeed}
use Rattle.sk_grammar.specs.Lines.{is_line_feed, ended_parts, last_part, held_lines, unfinished, IsEnded}
use Rattle.sk_grammar.proofs.Bytewise.{unfinished_by_feed}
use Rattle.sk_grammar.proofs.Lists.{append-[], or_parts}
use Rattle.sk_grammar.proofs.Pieces.{held_lines-append, unfinished-append, split_line, split_some, ended-cons}

-- ---- a text, and more

pub held_behind : (text more : List ℕ) → IsEnded text → held_lines (text ++ more) ≡ held_lines text ++ held_lines more
held_behind text more ended = held_lines-append text more ∙ ap (λ (u : List ℕ). held_lines text ++ held_lines (u ++ more)) ended

pub ended_behind : (text more : List ℕ) → IsEnded text → IsEnded more → IsEnded (text ++ more)
ended_behind text more ended behind = unfinished-append text more ∙ ap (λ (u : List ℕ). unfinished (u ++ more)) ended ∙ behind

pub ended_line : (line : List ℕ) → IsEnded (line ++ 10 ∷ [])
ended_line line = unfinished_by_feed line

held_line : (line : List ℕ) → list_any is_line_feed line ≡ false → held_lines (line ++ 10 ∷ []) ≡ line ∷ []
held_line line none = ap ended_parts (split_line line [] none)

pub line_behind : (text line : List ℕ) → IsEnded text → list_any is_line_feed line ≡ false → held_lines (text ++ (line ++ 10 ∷ [])) ≡ held_lines text ++ line ∷ []
line_behind text line ended none = held_behind text (line ++ 10 ∷ []) ended ∙ ap (λ (more : List (List ℕ)). held_lines text ++ more) (held_line line none)

-- ---- the text of its lines

onto_text : (byte : ℕ) (parts : List (List ℕ))
    → ended_by_line_feeds (ended_parts (onto_first byte parts)) ++ last_part (onto_first byte parts) ≡ byte ∷ (ended_by_line_feeds (ended_parts parts) ++ last_part parts)
onto_text byte [] = refl
onto_text byte (p ∷ []) = refl
onto_text byte (p ∷ q ∷ parts) = refl

feed_text : (parts : List (List ℕ)) → 0 < length parts → ended_by_line_feeds (ended_parts ([] ∷ parts)) ++ last_part ([] ∷ parts) ≡ 10 ∷ (ended_by_line_feeds (ended_parts parts) ++ last_part parts)
feed_text [] some = absurd (omega arith)
feed_text (p ∷ parts) some = refl

text_held : (text : List ℕ) → ended_by_line_feeds (held_lines text) ++ unfinished text ≡ text
text_held [] = refl
text_held (byte ∷ text) =
    elim (cases_Bool (is_line_feed byte)) [
      | inl feed ↦ rw feed (feed_text (slice_split is_line_feed text) (split_some text) ∙ ap (λ (t : List ℕ). 10 ∷ t) (text_held text) ∙ ap (λ (b : ℕ). b ∷ text) (sym (eqb-true byte 10 feed)))
      | inr other ↦ rw other (onto_text byte (slice_split is_line_feed text) ∙ ap (λ (t : List ℕ). byte ∷ t) (text_held text))
    ]

pub text_of_held : (text : List ℕ) → IsEnded text → ended_by_line_feeds (held_lines text) ≡ text
text_of_held text ended = sym (append-[] (ended_by_line_feeds (held_lines text))) ∙ ap (λ (u : List ℕ). ended_by_line_feeds (held_lines text) ++ u) (sym ended) ∙ text_held text

-- ---- line by line

pub held_front : (rest line behind : List ℕ) → IsSplitAtFeed rest line behind → held_lines rest ≡ line ∷ held_lines behind
held_front rest line behind split =
    ap held_lines split.joined ∙ ap ended_parts (split_line line behind split.one_line) ∙ ended-cons line (slice_split is_line_feed behind) (split_some behind)

one_part : (rest : List ℕ) → list_any is_line_feed rest ≡ false → slice_split is_line_feed rest ≡ rest ∷ []
one_part [] none = refl
one_part (byte ∷ rest) none =
    let parts = or_parts (is_line_feed byte) (list_any is_line_feed rest) none in
    rw parts.0 (ap (onto_first byte) (one_part rest parts.1))

pub none_held : (rest : List ℕ) → list_any is_line_feed rest ≡ false → held_lines rest ≡ []
none_held rest none = ap ended_parts (one_part rest none)

pub ended_rest : (text line behind : List ℕ) → IsSplitAtFeed text line behind → IsEnded text → IsEnded behind
ended_rest text line behind split ended =
    sym (ap unfinished (split.joined ∙ sym (append_assoc line (10 ∷ []) behind))
    ∙ unfinished-append (line ++ 10 ∷ []) behind
    ∙ ap (λ (u : List ℕ). unfinished (u ++ behind)) (ended_line line)) ∙ ended
