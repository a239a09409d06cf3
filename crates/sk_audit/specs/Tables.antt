-- The lines of the table by what is told of each observation.
use Rattle.std.specs.Prelude.{ℕ, ◌+◌, List, [], ◌∷◌, ◌++◌, length, codes, decimal, slice_index_or, None}
use Rattle.sk_publishing.specs.Row.{RowView}
use Rattle.sk_publishing.specs.Table.{KernelView, kernel_view}
use Rattle.sk_audit.specs.declared.table.Table.{Table}
use Rattle.sk_audit.specs.Marks.{end_words, kind_word}
use Rattle.sk_audit.specs.Rows.{fields_of}

abbrev pub kernel_of : Table → KernelView
kernel_of t = kernel_view 12 t.clock.now t.triples.now.triples

-- the line of the observation at a place
abbrev pub line_of : Table → ℕ → RowView → List ℕ
line_of t place row =
    fields_of (kernel_of t) row (kind_word t.marks.now place) (end_words t.observations.now (slice_index_or t.marks.now.ends.items place None))

abbrev pub lines_from : Table → ℕ → List RowView → List (List ℕ)
lines_from t place [] = []
lines_from t place (row ∷ rows) = line_of t place row ∷ lines_from t (place + 1) rows

abbrev pub head_of : List RowView → List ℕ
head_of rows = codes "residuals;" ++ decimal (length rows)

abbrev pub lines_of : Table → List (List ℕ)
lines_of t = head_of t.observations.now ∷ lines_from t 0 t.observations.now
