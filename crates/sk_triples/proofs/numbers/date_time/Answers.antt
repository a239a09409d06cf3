use Rattle.std.proofs.Common.{◌≡◌, ◌≤◌, ◌<◌, ◌^◌, inl, inr, refl, arith, rules}
use Rattle.std.specs.Prelude.{nat_abs}
use Rattle.sk_triples.specs.Coefficients.{Calendar}
use Rattle.sk_triples.proofs.Decimals.{abs_from, abs_to}
use Rattle.sk_triples.proofs.RowTimes.{large_row_time}
use Rattle.sk_triples.proofs.numbers.date_time.Goals as goal

pub returns-then-unsigned_abs-le-MOST_TIME : goal.returns-then-unsigned_abs-le-MOST_TIME
returns-then-unsigned_abs-le-MOST_TIME c =
    let time = c.in-Some.time.units in
    let a : c.unsigned_abs.result ≡ nat_abs time = search rules in
    let small : nat_abs time ≤ 10 ^ 28 = omega arith in (
      ((λ none. none time c.in-Some.ensures), ((λ none. none (time, c.in-Some.ensures, small)), tt)),
      record { is_row = (time, c.in-Some.ensures, small); has = c.in-Some.ensures; from = abs_from time (10 ^ 28) small; to = abs_to time (10 ^ 28) small },
    )

pub returns-else-unsigned_abs-le-MOST_TIME : goal.returns-else-unsigned_abs-le-MOST_TIME
returns-else-unsigned_abs-le-MOST_TIME c =
    let time = c.in-Some.time.units in
    let a : c.unsigned_abs.result ≡ nat_abs time = search rules in
    let large : 10 ^ 28 < nat_abs time = omega arith in
    inr ((λ none. none time c.in-Some.ensures), inl (large_row_time (Calendar c.args.date.now) time c.in-Some.ensures large, refl))
