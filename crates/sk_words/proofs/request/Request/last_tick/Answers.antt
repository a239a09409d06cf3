use Rattle.std.proofs.Common.{refl, arith}
use Rattle.sk_words.proofs.request.Request.last_tick.Goals as goal

pub returns-clause-number : goal.returns-clause-number
returns-clause-number c = c.number.ensures.number 0 9007199254740991 (λ text. refl)

pub returns-clause-range : goal.returns-clause-range
returns-clause-range c = (c.number.ensures.range 0 9007199254740991 (λ text. refl) (omega arith, omega arith)).1
