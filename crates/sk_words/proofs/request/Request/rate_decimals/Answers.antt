use Rattle.std.proofs.Common.{refl, arith}
use Rattle.sk_words.proofs.request.Request.rate_decimals.Goals as goal

pub overflow_cast-result : goal.overflow_cast-result
overflow_cast-result c =
    let within = c.number.ensures.range 1 15 (λ text. refl) (omega arith, omega arith) in
    omega (arith, within.1)

pub returns-clause-number : goal.returns-clause-number
returns-clause-number c = c.number.ensures.number 1 15 (λ text. refl)

pub returns-clause-range : goal.returns-clause-range
returns-clause-range c = c.number.ensures.range 1 15 (λ text. refl) (omega arith, omega arith)
