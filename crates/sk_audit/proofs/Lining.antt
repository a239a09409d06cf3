-- The lines of the table, one after the other.
use Rattle.std.proofs.Common.{◌≡◌, ℕ, suc, ◌+◌, ◌<◌, List, [], ◌∷◌, ◌++◌, length, take, drop, get_or, refl, sym, ap, arith, ◌∙◌, None, Some, slice_index_or}
use Rattle.std.proofs.lemmas.List.{take_more, take-append-drop, length-take-le}
use Rattle.std.proofs.Math.Seq.{drop-cons}
use Rattle.sk_publishing.specs.Row.{RowView}
use Rattle.sk_publishing.specs.Table.{ChainView, row_line, row_lines_from, table_lines, kind_text}
use Rattle.sk_audit.specs.declared.table.Table.{Table}
use Rattle.sk_audit.specs.Marks.{Tells, end_words}
use Rattle.sk_audit.specs.Rows.{fields_of}
use Rattle.sk_audit.specs.Tables.{kernel_of, line_of, lines_from, lines_of, head_of}

module _ (t : Table) where
  -- the lines of some rows and those of the rows behind them
  lines_split : (place : ℕ) (front back : List RowView) → lines_from t place (front ++ back) ≡ lines_from t place front ++ lines_from t (place + length front) back
  lines_split place [] back = let same : place ≡ place + 0 = omega arith in ap (λ (n : ℕ). lines_from t n back) same
  lines_split place (row ∷ front) back =
      let same : place + 1 + length front ≡ place + length (row ∷ front) = omega arith in
      ap (λ (ls : List (List ℕ)). line_of t place row ∷ ls) (lines_split (place + 1) front back
      ∙ ap (λ (n : ℕ). lines_from t (place + 1) front ++ lines_from t n back) same)

  -- the row at a place is behind those before it
  row_split : (rows : List RowView) (i : ℕ) (row : RowView) → i < length rows → row ≡ get_or rows i row → rows ≡ take i rows ++ row ∷ drop (i + 1) rows
  row_split rows i row less at =
      let suc_is : suc i ≡ i + 1 = omega arith in
      let next : drop i rows ≡ row ∷ drop (i + 1) rows = drop-cons rows i row less ∙ ap (λ (r : RowView). r ∷ drop (suc i) rows) (sym at) ∙ ap (λ (n : ℕ). row ∷ drop n rows) suc_is in
      sym (take-append-drop i rows) ∙ ap (λ (rs : List RowView). take i rows ++ rs) next

  -- all lines: those before a place, that of the place, and more
  pub lines_at : (rows : List RowView) (i : ℕ) (row : RowView) → i < length rows → row ≡ get_or rows i row
      → lines_from t 0 rows ≡ lines_from t 0 (take i rows) ++ line_of t i row ∷ lines_from t (i + 1) (drop (i + 1) rows)
  lines_at rows i row less at =
      let here : 0 + length (take i rows) ≡ i = (let e = length-take-le i rows (omega arith) in omega arith) in
      ap (lines_from t 0) (row_split rows i row less at) ∙ lines_split 0 (take i rows) (row ∷ drop (i + 1) rows)
      ∙ ap (λ (n : ℕ). lines_from t 0 (take i rows) ++ lines_from t n (row ∷ drop (i + 1) rows)) here

  -- one line more
  pub lines_more : (rows : List RowView) (i : ℕ) (row : RowView) → i < length rows → row ≡ get_or rows i row
      → lines_from t 0 (take (i + 1) rows) ≡ lines_from t 0 (take i rows) ++ line_of t i row ∷ []
  lines_more rows i row less at =
      let here : 0 + length (take i rows) ≡ i = (let e = length-take-le i rows (omega arith) in omega arith) in
      let more : take (i + 1) rows ≡ take i rows ++ row ∷ [] = take_more rows i row less ∙ ap (λ (r : RowView). take i rows ++ r ∷ []) (sym at) in
      ap (lines_from t 0) more ∙ lines_split 0 (take i rows) (row ∷ []) ∙ ap (λ (n : ℕ). lines_from t 0 (take i rows) ++ line_of t n row ∷ []) here

  pub length-lines : (place : ℕ) (rows : List RowView) → length (lines_from t place rows) ≡ length rows
  length-lines place [] = refl
  length-lines place (row ∷ rows) = ap suc (length-lines (place + 1) rows)

  -- ---- by what a chain tells

  module _ (chain : ChainView) (tells : (place : ℕ) → place < length t.observations.now → Tells t.observations.now chain t.marks.now place) where
    line_same : (place : ℕ) (row : RowView) → place < length t.observations.now → line_of t place row ≡ row_line (kernel_of t) (Some chain) t.observations.now place row
    line_same place row less =
        let told = tells place less in
        ap (λ (w : List ℕ). fields_of (kernel_of t) row w (end_words t.observations.now (slice_index_or t.marks.now.ends.items place None))) told.kind ∙ ap (λ (w : List ℕ). fields_of (kernel_of t) row (kind_text (Some chain) place) w) told.ended

    lines_same : (place : ℕ) (rows : List RowView) → place + length rows ≡ length t.observations.now → lines_from t place rows ≡ row_lines_from (kernel_of t) (Some chain) t.observations.now place rows
    lines_same place [] e = refl
    lines_same place (row ∷ rows) e =
        ap (λ (l : List ℕ). l ∷ lines_from t (place + 1) rows) (line_same place row (omega arith))
        ∙ ap (λ (ls : List (List ℕ)). row_line (kernel_of t) (Some chain) t.observations.now place row ∷ ls) (lines_same (place + 1) rows (omega arith))

    pub table_same : lines_of t ≡ table_lines (kernel_of t) (Some chain) t.observations.now
    table_same = ap (λ (ls : List (List ℕ)). head_of t.observations.now ∷ ls) (lines_same 0 t.observations.now (omega arith))
