-- The lines of observations, one after the other.
use Rattle.std.proofs.Common.{◌≡◌, ℕ, suc, ◌+◌, ◌<◌, List, [], ◌∷◌, ◌++◌, length, take, drop, get_or, Option, None, Some, sym, ap, subst, arith, ◌∙◌, append_assoc}
use Rattle.std.proofs.lemmas.List.{take_more, take-append-drop, length-take-le}
use Rattle.std.proofs.Math.Seq.{drop-cons}
use Rattle.sk_checks.specs.Checks.{Check, carried, FirstRefuses, NoneRefuses, each_after}
use Rattle.sk_checks.proofs.ChecksLemmas.{FirstRefuses-front, FirstRefuses-rest, NoneRefuses-append, each_after-at}
use Rattle.sk_publishing.specs.Row.{RowView}
use Rattle.sk_triples.specs.Kernel.{TriplesView, range_checks}
use Rattle.sk_publishing.specs.Table.{ChainView, KernelView, row_line, row_lines_from}
use Rattle.sk_report.specs.Report.{table_checks}
use Rattle.sk_report.specs.declared.fault.ReportFault.{ReportFault}
use Rattle.sk_report.specs.declared.fault.ReportFault.TheVariants.{Range}

-- what is refused of one observation
abbrev pub row_checks : TriplesView → RowView → List (Check ReportFault)
row_checks k row = carried (FirstRefuses (range_checks k row.tick)) (Range row.number) ∷ []

module _ (k : TriplesView) where
  checks_at : (done : List RowView) (row : RowView) (rest : List RowView)
      → table_checks k (done ++ row ∷ rest) ≡ table_checks k done ++ (row_checks k row ++ each_after (Some row) (0 + length done + 1) (λ before n r. row_checks k r) rest)
  checks_at done row rest = each_after-at None 0 (λ before n r. row_checks k r) done row rest

  pub checks_more : (done : List RowView) (row : RowView) → NoneRefuses (table_checks k done) → NoneRefuses (row_checks k row) → NoneRefuses (table_checks k (done ++ row ∷ []))
  checks_more done row passed one =
      subst NoneRefuses (sym (checks_at done row [])) (NoneRefuses-append (table_checks k done) _ passed (NoneRefuses-append (row_checks k row) [] one tt))

  pub checks_refused : (done : List RowView) (row : RowView) (rest : List RowView) (fault : ReportFault) → NoneRefuses (table_checks k done) → FirstRefuses (row_checks k row) fault
      → FirstRefuses (table_checks k (done ++ row ∷ rest)) fault
  checks_refused done row rest fault passed one =
      subst (λ (checks : List (Check ReportFault)). FirstRefuses checks fault) (sym (checks_at done row rest))
      (FirstRefuses-rest (table_checks k done) _ fault passed (FirstRefuses-front (row_checks k row) _ fault one))

lines_push : (k : KernelView) (chain : Option ChainView) (all : List RowView) (place : ℕ) (rows : List RowView) (row : RowView)
    → row_lines_from k chain all place (rows ++ row ∷ []) ≡ row_lines_from k chain all place rows ++ row_line k chain all (place + length rows) row ∷ []
lines_push k chain all place [] row = let same : place ≡ place + 0 = omega arith in ap (λ (n : ℕ). row_line k chain all n row ∷ []) same
lines_push k chain all place (r ∷ rows) row =
    let same : place + 1 + length rows ≡ place + length (r ∷ rows) = omega arith in
    ap (λ (ls : List (List ℕ)). row_line k chain all place r ∷ ls) (lines_push k chain all (place + 1) rows row ∙ ap (λ (n : ℕ). row_lines_from k chain all (place + 1) rows ++ row_line k chain all n row ∷ []) same)

-- one observation more, as a loop takes it
pub split_at : (rows : List RowView) (i : ℕ) (row : RowView) → i < length rows → row ≡ get_or rows i row → rows ≡ take i rows ++ row ∷ drop (i + 1) rows
split_at rows i row less at =
    let suc_is : suc i ≡ i + 1 = omega arith in
    let next : drop i rows ≡ row ∷ drop (i + 1) rows = drop-cons rows i row less ∙ ap (λ (r : RowView). r ∷ drop (suc i) rows) (sym at) ∙ ap (λ (n : ℕ). row ∷ drop n rows) suc_is in
    sym (take-append-drop i rows) ∙ ap (λ (rs : List RowView). take i rows ++ rs) next

pub take_next : (rows : List RowView) (i : ℕ) (row : RowView) → i < length rows → row ≡ get_or rows i row → take (i + 1) rows ≡ take i rows ++ row ∷ []
take_next rows i row less at = take_more rows i row less ∙ ap (λ (r : RowView). take i rows ++ r ∷ []) (sym at)

pub lines_more : (k : KernelView) (chain : Option ChainView) (rows : List RowView) (i : ℕ) (row : RowView) (before lines lines' : List (List ℕ)) (line : List ℕ)
    → i < length rows → row ≡ get_or rows i row → line ≡ row_line k chain rows i row → lines' ≡ lines ++ line ∷ []
    → lines ≡ before ++ row_lines_from k chain rows 0 (take i rows) → lines' ≡ before ++ row_lines_from k chain rows 0 (take (i + 1) rows)
lines_more k chain rows i row before lines lines' line less at is pushed so_far =
    let same : 0 + length (take i rows) ≡ i = let e = length-take-le i rows (omega arith) in omega arith in
    pushed ∙ ap (λ (ls : List (List ℕ)). ls ++ line ∷ []) so_far ∙ append_assoc before (row_lines_from k chain rows 0 (take i rows)) (line ∷ [])
    ∙ ap (λ (l : List ℕ). before ++ (row_lines_from k chain rows 0 (take i rows) ++ l ∷ [])) is
    ∙ ap (λ (ls : List (List ℕ)). before ++ ls) (sym (ap (λ (rs : List RowView). row_lines_from k chain rows 0 rs) (take_next rows i row less at)
    ∙ lines_push k chain rows 0 (take i rows) row ∙ ap (λ (n : ℕ). row_lines_from k chain rows 0 (take i rows) ++ row_line k chain rows n row ∷ []) same))
