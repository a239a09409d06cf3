use Rattle.std.proofs.Common.{◌≡◌, ◌∙◌, inl, inr, sym, ap, Some, [], get_or, slice_get, arith}
use Rattle.std.specs.Str.{str_to_ascii_lowercase}
use Rattle.std.proofs.lemmas.Bool.{false≢true, cases_lt}
use Rattle.sk_leap.specs.Kernel.{month_names}
use Rattle.sk_leap.proofs.KernelDates.{month_small, month_at}
use Rattle.sk_calendar.proofs.months.month_place.Goals as goal

pub loop-place-preserved : goal.loop-place-preserved
loop-place-preserved c = λ k below is.
    let element : c.as_slice.result.now ≡ get_or month_names c.loop-place.place [] = c.as_slice.ensures in
    elim (cases_lt k c.loop-place.place) [
      | inl before ↦ c.loop-place.invariant k before is
      | inr here ↦
          let same : k ≡ c.loop-place.place = omega arith in
          let place : slice_get month_names c.loop-place.place ≡ Some (str_to_ascii_lowercase c.args.name.now) = ap (slice_get month_names) (sym same) ∙ is in
          false≢true (sym c.if-eq_ignore_ascii_case.false ∙ c.eq_ignore_ascii_case.ensures.test.1 (month_at c.loop-place.place _ c.as_slice.result.now element place))
    ]

pub returns : goal.returns
returns c = λ place is. c.loop-place.invariant place (omega (arith, c.loop-place-test.false, month_small place _ is)) is
