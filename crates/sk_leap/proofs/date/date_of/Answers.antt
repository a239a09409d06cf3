use Rattle.std.proofs.Common.{◌≡◌, pos, arith}
use Rattle.std.specs.Prelude.{◌+ℤ◌}
use Rattle.std.proofs.lemmas.Int.{ints}
use Rattle.jiff_core.specs.Date.{epoch_day}
use Rattle.sk_leap.proofs.LeapDays.{late_year}
use Rattle.sk_leap.proofs.date.date_of.Goals as goal

pub returns-clause-year : goal.returns-clause-year
returns-clause-year c =
    let value = rw c.unwrap.ensures at c.from_unix_epoch_day.ensures.value in
    let is : epoch_day c.unwrap.result ≡ c.args.day +ℤ pos 10957 = omega (arith, ints, value, c.from-since_1970.ensures, c.requires.from, c.requires.to) in
    late_year c.unwrap.result c.args.day is c.requires.from
