use Rattle.std.proofs.Common.{[], ◌∷◌, ◌++◌, None, inr, drop, ap}
use Rattle.std.specs.List.{last_or}
use Rattle.sk_triples.specs.Coefficients.{rows_of}
use Rattle.sk_triples.specs.Values.{row_of}
use Rattle.sk_triples.proofs.ReadRows.{pair_of, refused_next, one_more}
use Rattle.sk_triples.proofs.reading.read_triples.Goals as goal

pub returns-in-Err : goal.returns-in-Err
returns-in-Err c =
    let done = c.rows.invariant.0 in
    let up = c.rows.invariant.1 in
    let all = rows_of c.args.values.now in
    let rest = rows_of c.rows.rest.now in
    let pair = pair_of c.args.total all done rest c.rows.triples.items c.rows.before c.rows.number up in
    let judged = c.in-Err.ensures (last_or None done) pair in
    inr (refused_next c.args.total all done rest c.rows.triples.items c.rows.before c.rows.number (row_of c.in-Some.row) (rows_of (drop 3 c.rows.rest.now)) c.in-Err.fault c.in-Some.ensures.2 up judged)

pub rows-preserved : goal.rows-preserved
rows-preserved c =
    let done = c.rows.invariant.0 in
    let up = c.rows.invariant.1 in
    let all = rows_of c.args.values.now in
    let rest = rows_of c.rows.rest.now in
    let pair = pair_of c.args.total all done rest c.rows.triples.items c.rows.before c.rows.number up in
    let judged = c.in-Ok.ensures (last_or None done) pair in (
      done ++ (row_of c.in-Some.row) ∷ [],
      one_more c.args.total all done rest c.rows.triples.items c.rows.before c.rows.number (row_of c.in-Some.row) (rows_of (drop 3 c.rows.rest.now)) (rows_of c.split_at.result.1.now)
          c.in-Ok.triple c.push.new.self.items c.in-Some.ensures.2 (ap rows_of c.split_at.ensures.back) c.in-Ok-push.ensures.items up judged.0 judged.1.0 judged.1.1,
    )
