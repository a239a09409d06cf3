-- The line of a sample.
use Rattle.std.proofs.Common.{◌≡◌, ℕ, ◌+◌, ◌<◌, List, [], ◌∷◌, ◌++◌, length, take, get_or, Ok, sym, ap, subst, ◌∙◌}
use Rattle.std.specs.Prelude.{codes, decimal, max}
use Rattle.std.proofs.lemmas.List.Sums.{fold_more}
use Rattle.sk_publishing.specs.Row.{RowView}
use Rattle.sk_publishing.specs.Table.{KernelView, kernel_view}
use Rattle.sk_line.specs.Triple.{TripleView}
use Rattle.sk_triples.specs.Kernel.{TriplesView}
use Rattle.sk_fit.specs.declared.chain.Chain.{Chain}
use Rattle.sk_fit.specs.Given.{new_triples_of}
use Rattle.sk_words.specs.Request.{Options}
use Rattle.sk_outcome.specs.Files.{KernelRead}
use Rattle.sk_outcome.specs.Output.{new_kernel, line_of}
use Rattle.sk_outcome.specs.Outcome.{all_covered, sampled}
use Rattle.sk_outcome.specs.Sample.{seed_of, count_of, difference, greatest_difference, last_ticks}
use Rattle.sk_outcome.proofs.Additions.{same_behind}

-- one observation more, as a loop takes it
pub greatest_more : (k : KernelView) (rows : List RowView) (i : ℕ) (row : RowView) → i < length rows → row ≡ get_or rows i row
    → greatest_difference k (take (i + 1) rows) ≡ max (greatest_difference k (take i rows)) (difference k row)
greatest_more k rows i row less at =
    fold_more (λ (greatest : ℕ) (row : RowView). max greatest (difference k row)) 0 rows i row less
    ∙ ap (λ (r : RowView). max (greatest_difference k (take i rows)) (difference k r)) (sym at)

abbrev pub told_line : ℕ → ℕ → ℕ → ℕ → ℕ → List ℕ
told_line seed count new greatest ticks = line_of (codes "sample" ∷ decimal seed ∷ decimal count ∷ decimal new ∷ decimal greatest ∷ decimal ticks ∷ [])

-- what is told of the new triples and of all of them is what the line of the chain holds
pub is_sampled : (options : Options) (kernel : KernelRead) (rows : List RowView) (chain : Chain) (triples : TriplesView) (added : List TripleView) (seed count greatest ticks : ℕ) (line : List ℕ)
    → triples ≡ new_kernel kernel chain → triples.triples ≡ kernel.triples.triples ++ added → all_covered triples rows (Ok tt)
    → greatest ≡ greatest_difference (kernel_view 12 kernel.clock triples.triples) rows → ticks ≡ last_ticks triples.triples
    → seed ≡ seed_of options → count ≡ count_of options → line ≡ told_line seed count (length added) greatest ticks
    → sampled options kernel rows chain (Ok line)
is_sampled options kernel rows chain triples added seed count greatest ticks line is behind covered of_rows of_last of_seed of_count told =
    let all : triples.triples ≡ kernel.triples.triples ++ new_triples_of chain = ap (λ (t : TriplesView). t.triples) is in
    let new : added ≡ new_triples_of chain = same_behind kernel.triples.triples added (new_triples_of chain) (sym behind ∙ all) in
    let size : greatest ≡ greatest_difference (kernel_view 12 kernel.clock (kernel.triples.triples ++ new_triples_of chain)) rows =
    of_rows ∙ ap (λ (ts : List TripleView). greatest_difference (kernel_view 12 kernel.clock ts) rows) all in
    let last : ticks ≡ last_ticks (kernel.triples.triples ++ new_triples_of chain) = of_last ∙ ap last_ticks all in (
      tt,
      subst (λ (t : TriplesView). all_covered t rows (Ok tt)) is covered,
      ap Ok
          (told ∙ ap (λ (n : ℕ). told_line n count (length added) greatest ticks) of_seed
          ∙ ap (λ (n : ℕ). told_line (seed_of options) n (length added) greatest ticks) of_count
          ∙ ap (λ (ts : List TripleView). told_line (seed_of options) (count_of options) (length ts) greatest ticks) new
          ∙ ap (λ (n : ℕ). told_line (seed_of options) (count_of options) (length (new_triples_of chain)) n ticks) size
          ∙ ap (λ (n : ℕ). told_line (seed_of options) (count_of options) (length (new_triples_of chain)) (greatest_difference (kernel_view 12 kernel.clock (kernel.triples.triples ++ new_triples_of chain)) rows) n) last),
    )
