use Rattle.std.proofs.Common.{◌≡◌, pos, arith}
use Rattle.std.specs.Int.{int_div_euclid}
use Rattle.std.proofs.lemmas.Int.{ints, to_z-of_z}
use Rattle.sk_leap.proofs.Clocks.{day_of_second}
use Rattle.sk_leap.proofs.tdt.split_second.Goals as goal

pub overflow_sub-part : goal.overflow_sub-part
overflow_sub-part c =
    let fits = c.ranges.counted in
    let is : c.div_euclid-day.result ≡ int_div_euclid c.args.counted (pos 86400) = simp to_z-of_z at c.div_euclid-day.ensures in
    let day = day_of_second c.args.counted c.div_euclid-day.result is in
    omega (arith, ints, day.from, day.to, c.requires.from, c.requires.to)

pub overflow_cast-result : goal.overflow_cast-result
overflow_cast-result c =
    let fits = c.ranges.counted in
    let is : c.div_euclid-day.result ≡ int_div_euclid c.args.counted (pos 86400) = simp to_z-of_z at c.div_euclid-day.ensures in
    let day = day_of_second c.args.counted c.div_euclid-day.result is in
    grind (arith, ints, day.from, day.to, c.requires.from, c.requires.to)

pub returns-clause-sum : goal.returns-clause-sum
returns-clause-sum c =
    let fits = c.ranges.counted in
    let is : c.div_euclid-day.result ≡ int_div_euclid c.args.counted (pos 86400) = simp to_z-of_z at c.div_euclid-day.ensures in
    let day = day_of_second c.args.counted c.div_euclid-day.result is in
    omega (arith, ints, day.from, day.to, c.requires.from, c.requires.to)

pub returns-clause-part : goal.returns-clause-part
returns-clause-part c =
    let fits = c.ranges.counted in
    let is : c.div_euclid-day.result ≡ int_div_euclid c.args.counted (pos 86400) = simp to_z-of_z at c.div_euclid-day.ensures in
    let day = day_of_second c.args.counted c.div_euclid-day.result is in
    omega (arith, ints, day.from, day.to, c.requires.from, c.requires.to)
