use Rattle.std.proofs.Common.{None, inl, inr, refl}
use Rattle.sk_triples.specs.Values.{row_of}
use Rattle.sk_triples.proofs.ReadRows.{time_refused}
use Rattle.sk_triples.proofs.reading.triple_of.Goals as goal

pub returns-in-Err : goal.returns-in-Err
returns-in-Err c = time_refused c.args.total c.args.number None (row_of c.args.row) c.in-Err.fault (λ none. none c.in-Some.ticks c.in-Some.ensures) c.in-Err.ensures

pub returns-in_default-rate_of : goal.returns-in_default-rate_of
returns-in_default-rate_of c =
    inr ((λ none. none c.in-Some.ticks c.in-Some.ensures), inr (c.in-Ok.ensures.0.0, inr (c.in-Ok.ensures.0.1.0, inl (c.in_default-rate_of.ensures, refl))))
