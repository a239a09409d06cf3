use Rattle.std.proofs.Common.{◌≡◌, ◌≤◌, ◌<◌, ◌^◌, arith, subst, rules}
use Rattle.std.specs.Prelude.{ℤ, nat_abs}
use Rattle.sk_decimal.specs.Fixed.{units_of}
use Rattle.sk_triples.proofs.Decimals.{no_time, is_time, large_time, abs_from, abs_to}
use Rattle.sk_triples.proofs.numbers.seconds_of.Goals as goal

pub returns-in-None : goal.returns-in-None
returns-in-None c = no_time c.args.number c.in-None.ensures

pub returns-then-unsigned_abs-le-MOST_TIME : goal.returns-then-unsigned_abs-le-MOST_TIME
returns-then-unsigned_abs-le-MOST_TIME c =
    let e : c.in-Some.time.units ≡ units_of 18 c.args.number = search rules in
    let a : c.unsigned_abs.result ≡ nat_abs c.in-Some.time.units = search rules in
    let small : nat_abs c.in-Some.time.units ≤ 10 ^ 28 = omega arith in (
      is_time c.args.number c.in-Some.ensures.0.0 (subst (λ (x : ℤ). nat_abs x ≤ 10 ^ 28) e small),
      (c.in-Some.ensures.0.0, e),
      abs_from c.in-Some.time.units (10 ^ 28) small,
      abs_to c.in-Some.time.units (10 ^ 28) small,
    )

pub returns-else-unsigned_abs-le-MOST_TIME : goal.returns-else-unsigned_abs-le-MOST_TIME
returns-else-unsigned_abs-le-MOST_TIME c =
    let e : c.in-Some.time.units ≡ units_of 18 c.args.number = search rules in
    let a : c.unsigned_abs.result ≡ nat_abs c.in-Some.time.units = search rules in
    let large : 10 ^ 28 < nat_abs c.in-Some.time.units = omega arith in
    large_time c.args.number c.in-Some.ensures.0.0 (subst (λ (x : ℤ). 10 ^ 28 < nat_abs x) e large)
