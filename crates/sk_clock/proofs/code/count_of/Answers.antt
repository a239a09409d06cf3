use Rattle.std.proofs.Common.{◌≤◌, ◌^◌, lit<, arith}
use Rattle.std.proofs.Math.Nat.{pow-le-pow_right}
use Rattle.std.proofs.lemmas.Nat.{mul-le}
use Rattle.sk_clock.proofs.code.count_of.Goals as goal

pub pow-requires : goal.pow-requires
pow-requires c =
    let small : 256 ^ c.fraction.result ≤ 256 ^ 6 = pow-le-pow_right (lit< tt) c.fraction.ensures.most in
    omega arith

pub overflow_mul-result : goal.overflow_mul-result
overflow_mul-result c =
    let small : 256 ^ c.fraction.result ≤ 256 ^ 6 = pow-le-pow_right (lit< tt) c.fraction.ensures.most in
    let product = mul-le c.from.result c.pow.result (2 ^ 64) (256 ^ 6) (omega (arith, c.from.ensures)) (omega (arith, c.pow.ensures)) in
    omega (arith, product)

pub overflow_add-result : goal.overflow_add-result
overflow_add-result c =
    let small : 256 ^ c.fraction.result ≤ 256 ^ 6 = pow-le-pow_right (lit< tt) c.fraction.ensures.most in
    let product = mul-le c.from.result c.pow.result (2 ^ 64) (256 ^ 6) (omega (arith, c.from.ensures)) (omega (arith, c.pow.ensures)) in
    omega (arith, product)
