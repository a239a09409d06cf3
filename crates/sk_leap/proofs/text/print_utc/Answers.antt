use Rattle.std.proofs.Common.{◌≡◌, pos, lit<, arith}
use Rattle.std.specs.Prelude.{◌+ℤ◌}
use Rattle.std.specs.String.{string_bytes}
use Rattle.std.proofs.lemmas.Int.{ints}
use Rattle.jiff_core.specs.Date.{epoch_day}
use Rattle.sk_leap.specs.UtcText.{IsPrintedUtc}
use Rattle.sk_leap.proofs.Printing.{all_printed, printed_spells}
use Rattle.sk_leap.proofs.text.print_utc.Goals as goal

pub returns-clause-printed : goal.returns-clause-printed
returns-clause-printed c =
    let date = c.date_of-date.result in
    let day : epoch_day date ≡ c.args.utc.day +ℤ pos 10957 = omega (arith, ints, c.date_of-date.ensures.day, c.requires.from, c.requires.to) in
    let year : date.year ≡ pos c.from-year.result = omega (arith, ints, c.from-year.ensures, c.unsigned_abs.ensures, c.date_of-date.ensures.year, date.year_in) in
    all_printed _ _ _ _ _ (string_bytes c.push-2.new.self) _ _ date c.from-year.result c.of.result c.args.utc c.in_ok-text.ensures.bytes c.in_ok-push_date.ensures c.in_ok-push_clock.ensures
    c.in_ok-push.ensures.bytes (c.in_ok-push.ensures.ascii (lit< tt)) c.in_ok-push_digits.ensures c.in_ok-push-2.ensures.bytes (c.in_ok-push-2.ensures.ascii (lit< tt))
    day c.date_of-date.ensures.year year c.of.ensures

pub returns-clause-read : goal.returns-clause-read
returns-clause-read c =
    let date = c.date_of-date.result in
    let day : epoch_day date ≡ c.args.utc.day +ℤ pos 10957 = omega (arith, ints, c.date_of-date.ensures.day, c.requires.from, c.requires.to) in
    let year : date.year ≡ pos c.from-year.result = omega (arith, ints, c.from-year.ensures, c.unsigned_abs.ensures, c.date_of-date.ensures.year, date.year_in) in
    printed_spells (string_bytes c.push-2.new.self) c.args.utc
    (all_printed _ _ _ _ _ (string_bytes c.push-2.new.self) _ _ date c.from-year.result c.of.result c.args.utc c.in_ok-text.ensures.bytes c.in_ok-push_date.ensures c.in_ok-push_clock.ensures
    c.in_ok-push.ensures.bytes (c.in_ok-push.ensures.ascii (lit< tt)) c.in_ok-push_digits.ensures c.in_ok-push-2.ensures.bytes (c.in_ok-push-2.ensures.ascii (lit< tt))
    day c.date_of-date.ensures.year year c.of.ensures)
