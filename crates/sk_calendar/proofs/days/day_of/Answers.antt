use Rattle.std.proofs.Common.{◌≡◌, pos, arith}
use Rattle.std.proofs.lemmas.Int.{ints}
use Rattle.jiff_core.specs.Calendar.{days_from_civil, days_in_month}
use Rattle.sk_calendar.proofs.days.day_of.Goals as goal

pub returns-in-Ok : goal.returns-in-Ok
returns-in-Ok c =
    let ymd = c.in-Ok.ensures.value in
    let year : c.in-Ok.date.year ≡ pos c.args.year = omega (arith, ints, ymd) in
    let month : c.in-Ok.date.month ≡ c.args.month = omega (arith, ints, ymd) in
    let day : c.in-Ok.date.day ≡ c.args.date = omega (arith, ints, ymd) in
    let same : c.to_unix_epoch_day.result ≡ days_from_civil (pos c.args.year) c.args.month c.args.date = cc (c.to_unix_epoch_day.ensures.value) in
    let month_days : days_in_month c.in-Ok.date.year c.in-Ok.date.month ≡ days_in_month (pos c.args.year) c.args.month = cc in
    let inside = c.in-Ok.date in (
      (
        (omega (arith, ints), omega (arith, ints)),
        (omega (arith, ints, inside.month_in), omega (arith, ints, inside.month_in)),
        (omega (arith, ints, inside.day_in), omega (arith, ints, inside.day_in, month_days)),
      ),
      omega (arith, ints, same, c.to_unix_epoch_day.ensures.bound),
    )
