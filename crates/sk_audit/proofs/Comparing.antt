-- The lines that stand against those of the table, one after the other.
use Rattle.std.proofs.Common.{◌≡◌, ◌≢◌, ℕ, zero, suc, ◌+◌, ◌<◌, ◌≤◌, List, [], ◌∷◌, ◌++◌, length, take, drop, refl, sym, ap, subst, arith, ◌∙◌, append_assoc, append-nil, Some}
use Rattle.std.proofs.lemmas.List.{take_all, length-take-le}
use Rattle.std.proofs.lemmas.Option.{slice_get_within, get_or_from_slice_get}
use Rattle.std.specs.Prelude.{slice_get}
use Rattle.sk_publishing.specs.Row.{RowView}
use Rattle.sk_audit.specs.declared.table.Table.{Table}
use Rattle.sk_audit.specs.Audit.{IsFirstDifference}
use Rattle.sk_audit.specs.Tables.{line_of, lines_from, lines_of, head_of}
use Rattle.sk_audit.proofs.Differing.{first_differs, other_line, line_more}
use Rattle.sk_audit.proofs.Lining.{lines_at, lines_more, length-lines}

row_in : (rows : List RowView) (i : ℕ) → i < length rows → (row : RowView) × (slice_get rows i ≡ Some row)
row_in [] i less = absurd (omega arith)
row_in (row ∷ rows) zero less = (row, refl)
row_in (row ∷ rows) (suc i) less = row_in rows i (omega arith)

module _ (t : Table) where
  abbrev rows : List RowView
  rows = t.observations.now

  -- the head and the lines of the first i observations
  abbrev done : ℕ → List (List ℕ)
  done i = head_of rows ∷ lines_from t 0 (take i rows)

  pub row_at : (i : ℕ) → i < length rows → (row : RowView) × (slice_get rows i ≡ Some row)
  row_at i less = row_in rows i less

  length-done : (i : ℕ) → i ≤ length rows → i + 2 ≡ length (done i) + 1
  length-done i within = let lines = length-lines t 0 (take i rows) in let taken = length-take-le i rows within in omega arith

  pub differs_at : (lines held : List (List ℕ)) (i : ℕ) (row : RowView) → slice_get rows i ≡ Some row → lines ≡ done i ++ held
      → ((more : List (List ℕ)) → held ≢ line_of t i row ∷ more) → IsFirstDifference lines (lines_of t) (i + 2)
  differs_at lines held i row here are other =
      let less : i < length rows = slice_get_within rows i row here in
      let behind = lines_from t (i + 1) (drop (i + 1) rows) in
      let all : lines_of t ≡ done i ++ line_of t i row ∷ behind =
      ap (λ (ls : List (List ℕ)). head_of rows ∷ ls) (lines_at t rows i row less (sym (get_or_from_slice_get rows i row row here))) in
      subst (λ (ls : List (List ℕ)). IsFirstDifference ls (lines_of t) (i + 2)) (sym are)
      (subst (λ (ls : List (List ℕ)). IsFirstDifference (done i ++ held) ls (i + 2)) (sym all)
      (first_differs (done i) held (line_of t i row ∷ behind) (i + 2) (length-done i (omega arith)) (other_line held (line_of t i row) behind other)))

  pub more_lines : (lines held behind : List (List ℕ)) (i : ℕ) (row : RowView) → slice_get rows i ≡ Some row → lines ≡ done i ++ held
      → held ≡ line_of t i row ∷ behind → lines ≡ done (i + 1) ++ behind
  more_lines lines held behind i row here are is =
      let less : i < length rows = slice_get_within rows i row here in
      are ∙ ap (λ (ls : List (List ℕ)). done i ++ ls) is
      ∙ sym (ap (λ (ls : List (List ℕ)). head_of rows ∷ (ls ++ behind)) (lines_more t rows i row less (sym (get_or_from_slice_get rows i row row here)))
      ∙ append_assoc (done i) (line_of t i row ∷ []) behind)

  -- behind the last observation
  all_done : (i : ℕ) → i ≡ length rows → done i ≡ lines_of t
  all_done i is = ap (λ (rs : List RowView). head_of rows ∷ lines_from t 0 rs) (take_all i rows (omega arith))

  pub more_stand : (lines held : List (List ℕ)) (i : ℕ) → i ≡ length rows → lines ≡ done i ++ held → held ≢ [] → IsFirstDifference lines (lines_of t) (length rows + 2)
  more_stand lines held i is are some =
      let all : done i ++ [] ≡ lines_of t = append-nil (done i) ∙ all_done i is in
      let long : length rows + 2 ≡ length (done i) + 1 = (let l = length-done i (omega arith) in omega arith) in
      subst (λ (ls : List (List ℕ)). IsFirstDifference ls (lines_of t) (length rows + 2)) (sym are)
      (subst (λ (ls : List (List ℕ)). IsFirstDifference (done i ++ held) ls (length rows + 2)) all
      (first_differs (done i) held [] (length rows + 2) long (line_more held some)))

  pub none_more : (lines held : List (List ℕ)) (i : ℕ) → i ≡ length rows → lines ≡ done i ++ held → held ≡ [] → lines ≡ lines_of t
  none_more lines held i is are none = are ∙ ap (λ (ls : List (List ℕ)). done i ++ ls) none ∙ append-nil (done i) ∙ all_done i is
