use Rattle.std.proofs.Common.{◌≡◌, pos, to_z, w16, refl, ap, arith}
use Rattle.std.proofs.lemmas.Int.{ints}
use Rattle.jiff_core.specs.Calendar.{days_from_civil, days_in_year}
use Rattle.jiff_core.specs.Date.{ordinal}
use Rattle.jiff_core.proofs.DateLemmas.{epoch_day-ordinal}
use Rattle.sk_calendar.proofs.days.ordinal_day.Goals as goal

pub returns-in-Ok : goal.returns-in-Ok
returns-in-Ok c =
    let value = c.in-Ok.ensures.value in
    let year : c.in-Ok.date.year ≡ pos c.args.year = omega (arith, ints, value) in
    let place : ordinal c.in-Ok.date ≡ c.args.place = omega (arith, ints, value) in
    let first : days_from_civil c.in-Ok.date.year 1 1 ≡ days_from_civil (pos c.args.year) 1 1 = cc in
    let days : days_in_year c.in-Ok.date.year ≡ days_in_year (pos c.args.year) = cc in
    let inside = c.in-Ok.ensures.succeeds.0 refl in
    let read : to_z w16 c.args.year ≡ pos c.args.year = omega (arith, ints) in
    let same_days : days_in_year (to_z w16 c.args.year) ≡ days_in_year (pos c.args.year) = ap days_in_year read in
    ((omega (arith, ints, inside), omega (arith, ints, inside, same_days)), omega (arith, ints, first, place, epoch_day-ordinal c.in-Ok.date, c.to_unix_epoch_day.ensures.value, c.to_unix_epoch_day.ensures.bound))
