use Rattle.std.proofs.Common.{◌+◌}
use Rattle.sk_triples.proofs.triples.Triples.time_at.Goals as goal

pub returns-in-Ok : goal.returns-in-Ok
returns-in-Ok c =
    let timed = c.in-Ok.ensures.1 in
    (c.in-Ok.ensures.0, ((c.in-Ok.found.0 + 1, timed.0.0, timed.0.1, timed.0.2), timed.1))
