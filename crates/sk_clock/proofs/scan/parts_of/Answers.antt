use Rattle.std.proofs.Common.{◌^◌, ◌≤◌, length, lit<, arith, sym, ◌∙◌}
use Rattle.std.proofs.Math.Nat.{pow-le-pow_right}
use Rattle.sk_clock.proofs.ScanLemmas.{is_count-le}
use Rattle.sk_clock.proofs.scan.parts_of.Goals as goal

pub overflow_cast-result : goal.overflow_cast-result
overflow_cast-result c =
    let few = (is_count-le 4 c.split_digits.result.0.now (sym c.is_count.ensures ∙ c.if-is_count.true)).1 in
    let small : 10 ^ length c.split_digits.result.0.now ≤ 10 ^ 4 = pow-le-pow_right (lit< tt) few in
    omega (arith, c.number_of.ensures.below, small)
