use Rattle.std.proofs.Common.{ℕ, List, sym, subst}
use Rattle.sk_checks.specs.Checks.{Judges}
use Rattle.sk_grammar.specs.declared.value.Value.{Value}
use Rattle.sk_triples.specs.Coefficients.{Calendar, time_checks}
use Rattle.sk_triples.specs.Reading.{IsTimeOf}
use Rattle.sk_triples.specs.Values.{timed}
use Rattle.sk_triples.proofs.numbers.time_of.Goals as goal

pub returns-in-Date : goal.returns-in-Date
returns-in-Date c =
    let P : List ℕ → Type 0 = λ date. Judges (time_checks c.args.number (Calendar date)) (λ time. IsTimeOf (Calendar date) time.units) c.date_time.result in
    let Q : Value → Type 0 = λ value. Judges (time_checks c.args.number (timed value)) (λ time. IsTimeOf (timed value) time.units) c.date_time.result in
    subst Q (sym c.in-Date.is) (subst P c.as_slice.ensures c.date_time.ensures)
