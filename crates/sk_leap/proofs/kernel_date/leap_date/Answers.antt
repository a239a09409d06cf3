use Rattle.std.proofs.Common.{◌∙◌, sym, subst, inl, inr, arith}
use Rattle.std.proofs.lemmas.Option.{none-some}
use Rattle.sk_leap.proofs.KernelDates.{IsMonthName, date_read, same_parts, leap_day}
use Rattle.sk_leap.proofs.kernel_date.leap_date.Goals as goal

pub returns-in_default : goal.returns-in_default
returns-in_default c = λ day is. none-some _ (sym c.in_default.ensures.none ∙ date_read c.args.bytes.now day is)

pub returns-then-year-lt1958 : goal.returns-then-year-lt1958
returns-then-year-lt1958 c = λ day is.
    let same = same_parts c.args.bytes.now c.in-Some.year c.in-Some.name.now c.in-Some.date day is c.in-Some.ensures.some in
    elim c.then-year-lt1958.either [ inl early ↦ omega (arith, early, is.in_range, same.year_is) | inr late ↦ omega (arith, late, is.in_range, same.year_is) ]

pub returns-in_default-month_of : goal.returns-in_default-month_of
returns-in_default-month_of c = λ day is.
    let same = same_parts c.args.bytes.now c.in-Some.year c.in-Some.name.now c.in-Some.date day is c.in-Some.ensures.some in
    c.in_default-month_of.ensures _ (subst (IsMonthName is.month) same.name_is is.is_name)

pub returns : goal.returns
returns c =
    leap_day c.day_of.result c.args.bytes.now c.in-Some.year c.in-Some.name.now c.in-Some.date c.in-Some-month_of.month c.in-Some.ensures.some
    (omega arith, omega arith) c.in-Some-month_of.ensures.0 c.in-Some-month_of.ensures.2 c.day_of.ensures
