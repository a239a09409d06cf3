use Rattle.std.proofs.Common.{refl, arith}
use Rattle.sk_words.proofs.request.Request.count.Goals as goal

pub overflow_cast-result : goal.overflow_cast-result
overflow_cast-result c =
    let within = c.number.ensures.most 1 100000 (λ text. refl) (omega arith) in
    omega (arith, within)

pub returns-clause-number : goal.returns-clause-number
returns-clause-number c = c.number.ensures.number 1 100000 (λ text. refl)

pub returns-clause-range : goal.returns-clause-range
returns-clause-range c = c.number.ensures.most 1 100000 (λ text. refl) (omega arith)
