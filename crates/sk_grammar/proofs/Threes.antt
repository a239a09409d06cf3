-- Numbers stand three on a line.
use Rattle.std.proofs.Common.{◌≡◌, ℕ, ◌+◌, ◌<◌, suc, List, [], ◌∷◌, ◌++◌, length, map, Bool, true, false, cond, refl, ap, sym, ◌∙◌, append_assoc, subst, arith, codes}
use Rattle.std.specs.List.{All, list_any, join_with_byte}
use Rattle.sk_grammar.specs.declared.value.Value.{Value}
use Rattle.sk_grammar.specs.Document.{IsValue}
use Rattle.sk_grammar.specs.Canonical.{value_text, rows_of_three, ended_by_line_feeds}
use Rattle.sk_grammar.specs.HeldValues.{values_text}
use Rattle.sk_grammar.specs.Lines.{is_line_feed}
use Rattle.sk_grammar.specs.Writing.{in_threes}
use Rattle.sk_grammar.proofs.HeldValues.{value_feeds}
use Rattle.sk_grammar.proofs.Lists.{append-[], or_parts}

ended_joined : (line : List ℕ) (ls : List (List ℕ)) → ended_by_line_feeds (line ∷ ls) ≡ join_with_byte 10 (line ∷ ls) ++ 10 ∷ []
ended_joined line [] = append-[] (line ++ 10 ∷ [])
ended_joined line (next ∷ ls) =
    append_assoc line (10 ∷ []) (ended_by_line_feeds (next ∷ ls))
    ∙ ap (λ (t : List ℕ). line ++ 10 ∷ t) (ended_joined next ls)
    ∙ sym (append_assoc line (10 ∷ join_with_byte 10 (next ∷ ls)) (10 ∷ []))

passes : (column : ℕ) (line rest : List ℕ) → list_any is_line_feed line ≡ false → in_threes column (line ++ rest) ≡ line ++ in_threes column rest
passes column [] rest none = refl
passes column (byte ∷ line) rest none =
    let parts = or_parts (is_line_feed byte) (list_any is_line_feed line) none in
    rw parts.0 (ap (λ (t : List ℕ). byte ∷ t) (passes column line rest parts.1))

alone : (column : ℕ) (line : List ℕ) → list_any is_line_feed line ≡ false → in_threes column line ≡ line
alone column line none = ap (in_threes column) (sym (append-[] line)) ∙ passes column line [] none ∙ append-[] line

two_joined : (a b e : List ℕ) → (a ++ 32 ∷ b) ++ e ≡ ((a ++ codes " " ++ b) ++ e) ++ []
two_joined a b e = simp (append-[], append_assoc)

three_joined : (a b c e : List ℕ) → (a ++ 32 ∷ (b ++ 32 ∷ c)) ++ e ≡ ((a ++ codes " " ++ b ++ codes " " ++ c) ++ e) ++ []
three_joined a b c e = simp (append-[], append_assoc)

more_joined : (a b c t e : List ℕ) → (a ++ 32 ∷ (b ++ 32 ∷ (c ++ 10 ∷ t))) ++ e ≡ ((a ++ codes " " ++ b ++ codes " " ++ c) ++ 10 ∷ []) ++ (t ++ e)
more_joined a b c t e = simp append_assoc

first_feeds : (value : Value) (values : List Value) → All IsValue (value ∷ values) → (list_any is_line_feed (value_text value) ≡ false) × All IsValue values
first_feeds value values all = (value_feeds value (all 0 value (omega arith)), λ k d below. all (suc k) d (omega arith))

rows : (values : List Value) → 0 < length values → All IsValue values → in_threes 1 (join_with_byte 10 (map value_text values)) ++ 10 ∷ [] ≡ ended_by_line_feeds (rows_of_three values)
rows [] some valid = absurd (omega arith)
rows (a ∷ []) some valid =
    let f = first_feeds a [] valid in
    ap (λ (t : List ℕ). t ++ 10 ∷ []) (alone 1 (value_text a) f.0) ∙ sym (append-[] (value_text a ++ 10 ∷ []))
rows (a ∷ b ∷ []) some valid =
    let f = first_feeds a (b ∷ []) valid in
    let g = first_feeds b [] f.1 in
    ap (λ (t : List ℕ). t ++ 10 ∷ []) (passes 1 (value_text a) (10 ∷ value_text b) f.0 ∙ ap (λ (t : List ℕ). value_text a ++ 32 ∷ t) (alone 2 (value_text b) g.0))
    ∙ two_joined (value_text a) (value_text b) (10 ∷ [])
rows (a ∷ b ∷ c ∷ []) some valid =
    let f = first_feeds a (b ∷ c ∷ []) valid in
    let g = first_feeds b (c ∷ []) f.1 in
    let h = first_feeds c [] g.1 in
    ap (λ (t : List ℕ). t ++ 10 ∷ []) (
    passes 1 (value_text a) (10 ∷ (value_text b ++ 10 ∷ value_text c)) f.0
    ∙ ap (λ (t : List ℕ). value_text a ++ 32 ∷ t) (passes 2 (value_text b) (10 ∷ value_text c) g.0)
    ∙ ap (λ (t : List ℕ). value_text a ++ 32 ∷ (value_text b ++ 32 ∷ t)) (alone 3 (value_text c) h.0))
    ∙ three_joined (value_text a) (value_text b) (value_text c) (10 ∷ [])
rows (a ∷ b ∷ c ∷ d ∷ values) some valid =
    let f = first_feeds a (b ∷ c ∷ d ∷ values) valid in
    let g = first_feeds b (c ∷ d ∷ values) f.1 in
    let h = first_feeds c (d ∷ values) g.1 in
    let rest = join_with_byte 10 (map value_text (d ∷ values)) in
    let row = (value_text a ++ codes " " ++ value_text b ++ codes " " ++ value_text c) ++ 10 ∷ [] in
    ap (λ (t : List ℕ). t ++ 10 ∷ []) (
    passes 1 (value_text a) (10 ∷ (value_text b ++ 10 ∷ (value_text c ++ 10 ∷ rest))) f.0
    ∙ ap (λ (t : List ℕ). value_text a ++ 32 ∷ t) (passes 2 (value_text b) (10 ∷ (value_text c ++ 10 ∷ rest)) g.0)
    ∙ ap (λ (t : List ℕ). value_text a ++ 32 ∷ (value_text b ++ 32 ∷ t)) (passes 3 (value_text c) (10 ∷ rest) h.0))
    ∙ more_joined (value_text a) (value_text b) (value_text c) (in_threes 1 rest) (10 ∷ [])
    ∙ ap (λ (t : List ℕ). row ++ t) (rows (d ∷ values) (omega arith) h.1)

front_of : (values : List Value) → 0 < length values → values_text values ≡ join_with_byte 10 (map value_text values) ++ 10 ∷ []
front_of [] some = absurd (omega arith)
front_of (value ∷ values) some = ended_joined (value_text value) (map value_text values)

-- the text of numbers, and what its front is in threes
pub record HasRows (text : List ℕ) (values : List Value) : Type 0 where
  pub front : List ℕ
  pub whole : text ≡ front ++ 10 ∷ []
  pub in_rows : in_threes 1 front ++ 10 ∷ [] ≡ ended_by_line_feeds (rows_of_three values)

pub has_rows : (values : List Value) → 0 < length values → All IsValue values → HasRows (values_text values) values
has_rows values some valid = record {
  front = join_with_byte 10 (map value_text values);
  whole = front_of values some;
  in_rows = rows values some valid;
}
