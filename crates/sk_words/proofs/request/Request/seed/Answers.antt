use Rattle.std.proofs.Common.{refl, arith}
use Rattle.sk_words.proofs.request.Request.seed.Goals as goal

pub overflow_cast-result : goal.overflow_cast-result
overflow_cast-result c =
    let within = c.number.ensures.most 0 4294967295 (λ text. refl) (omega arith) in
    omega (arith, within)

pub returns : goal.returns
returns c = c.number.ensures.number 0 4294967295 (λ text. refl)
