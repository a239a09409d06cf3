use Rattle.std.proofs.Common.{refl, arith}
use Rattle.sk_words.proofs.request.Request.tolerance.Goals as goal

pub returns-clause-number : goal.returns-clause-number
returns-clause-number c = c.number.ensures.number 1 60000000000 (λ text. refl)

pub returns-clause-range : goal.returns-clause-range
returns-clause-range c = c.number.ensures.range 1 60000000000 (λ text. refl) (omega arith, omega arith)
