use Rattle.std.proofs.Common.{◌≡◌, ◌*◌, ◌^◌, arith, subst, rules}
use Rattle.std.proofs.lemmas.Int.{ints}
use Rattle.std.specs.Prelude.{ℤ, pos, ◌≤ℤ◌, ◌<ℤ◌}
use Rattle.sk_decimal.specs.Fixed.{units_of}
use Rattle.sk_triples.proofs.Decimals.{no_rate, is_rate, low_rate, large_rate}
use Rattle.sk_triples.proofs.numbers.rate_of.Goals as goal

pub returns-in-None : goal.returns-in-None
returns-in-None c = no_rate c.args.number c.in-None.ensures

pub returns-then-rate-le0 : goal.returns-then-rate-le0
returns-then-rate-le0 c =
    let e : c.in-Some.rate.units ≡ units_of 18 c.args.number = search rules in
    let low : c.in-Some.rate.units ≤ℤ pos 0 = omega (arith, ints) in
    low_rate c.args.number (subst (λ (x : ℤ). x ≤ℤ pos 0) e low)

pub returns-then-rate-gt-MOST_RATE : goal.returns-then-rate-gt-MOST_RATE
returns-then-rate-gt-MOST_RATE c =
    let e : c.in-Some.rate.units ≡ units_of 18 c.args.number = search rules in
    let large : pos (1000 * 10 ^ 18) <ℤ c.in-Some.rate.units = omega (arith, ints) in
    large_rate c.args.number c.in-Some.ensures.0.0 (subst (λ (x : ℤ). pos (1000 * 10 ^ 18) <ℤ x) e large)

pub returns-else-rate-gt-MOST_RATE : goal.returns-else-rate-gt-MOST_RATE
returns-else-rate-gt-MOST_RATE c =
    let e : c.in-Some.rate.units ≡ units_of 18 c.args.number = search rules in
    let positive : pos 0 <ℤ c.in-Some.rate.units = omega (arith, ints) in
    let slow : c.in-Some.rate.units ≤ℤ pos (1000 * 10 ^ 18) = omega (arith, ints) in (
      is_rate c.args.number c.in-Some.ensures.0.0 (subst (λ (x : ℤ). pos 0 <ℤ x) e positive) (subst (λ (x : ℤ). x ≤ℤ pos (1000 * 10 ^ 18)) e slow),
      (c.in-Some.ensures.0.0, e),
      positive,
      slow,
    )
