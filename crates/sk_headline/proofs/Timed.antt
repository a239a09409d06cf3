-- Where no record of a table is out of range, every observation has a time, and the other way round.
use Rattle.std.proofs.Common.{◌≡◌, true, false, ℕ, ◌+◌, ◌<◌, ◌≤◌, List, [], ◌∷◌, Option, Some, None, refl, sym, subst, inl, inr, ◌∙◌, arith}
use Rattle.std.proofs.lemmas.Option.{none-some}
use Rattle.std.specs.Prelude.{IsSome}
use Rattle.std.specs.List.{AllByRecursion}
use Rattle.sk_checks.specs.Checks.{carried, FirstRefuses, NoneRefuses, each_after}
use Rattle.sk_line.specs.Triple.{TripleView}
use Rattle.sk_line.specs.Line.{covering}
use Rattle.sk_publishing.specs.Row.{RowView}
use Rattle.sk_triples.specs.Kernel.{TriplesView, range_checks}
use Rattle.sk_triples.specs.declared.triple.RangeFault.{RangeFault}
use Rattle.sk_triples.specs.declared.triple.RangeFault.TheVariants.{BeforeFirst, PastPartitions}
use Rattle.sk_report.specs.declared.fault.ReportFault.TheVariants.{Range}
use Rattle.sk_report.specs.Report.{table_checks}

some_or_none : (o : Option (ℕ × TripleView)) → (¬ (o ≡ None)) → IsSome o
some_or_none None h = absurd (h refl)
some_or_none (Some found) h = refl

all_from : (triples : TriplesView) (before : Option RowView) (n : ℕ) (rows : List RowView)
    → NoneRefuses (each_after before n (λ before n row. carried (FirstRefuses (range_checks triples row.tick)) (Range row.number) ∷ []) rows)
    → AllByRecursion (λ row. IsSome (covering triples.triples row.tick)) rows
all_from triples before n [] h = tt
all_from triples before n (row ∷ rows) h =
    (some_or_none (covering triples.triples row.tick) (λ none. h.0 BeforeFirst (inl (none, refl))), all_from triples (Some row) (n + 1) rows h.1)

pub all_timed : (triples : TriplesView) (rows : List RowView) → NoneRefuses (table_checks triples rows) → AllByRecursion (λ row. IsSome (covering triples.triples row.tick)) rows
all_timed triples rows h = all_from triples None 0 rows h

passes_at : (triples : TriplesView) (tick : ℕ) (fault : RangeFault) → IsSome (covering triples.triples tick) → tick ≤ triples.total → ¬ FirstRefuses (range_checks triples tick) fault
passes_at triples tick fault some within (inl before) = absurd (no_none (covering triples.triples tick) some before.0)
  where
    no_none : (o : Option (ℕ × TripleView)) → IsSome o → ¬ (o ≡ None)
    no_none None some none = let f : false ≡ true = some in cc
    no_none (Some found) some none = none-some found (sym none)
passes_at triples tick fault some within (inr (pass, inl past)) = omega (arith, past.0, within)
passes_at triples tick fault some within (inr (pass, inr (other, later))) = later

passes_from : (triples : TriplesView) (before : Option RowView) (n : ℕ) (rows : List RowView)
    → AllByRecursion (λ row. IsSome (covering triples.triples row.tick)) rows → AllByRecursion (λ row. row.tick ≤ triples.total) rows
    → NoneRefuses (each_after before n (λ before n row. carried (FirstRefuses (range_checks triples row.tick)) (Range row.number) ∷ []) rows)
passes_from triples before n [] timed within = tt
passes_from triples before n (row ∷ rows) timed within =
    ((λ fault. passes_at triples row.tick fault timed.0 within.0), passes_from triples (Some row) (n + 1) rows timed.1 within.1)

pub none_refused : (triples : TriplesView) (rows : List RowView) → AllByRecursion (λ row. IsSome (covering triples.triples row.tick)) rows
    → AllByRecursion (λ row. row.tick ≤ triples.total) rows → NoneRefuses (table_checks triples rows)
none_refused triples rows timed within = passes_from triples None 0 rows timed within
