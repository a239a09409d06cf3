use Rattle.std.proofs.Common.{ℕ, ◌≢◌, ◌<◌, Some, slice_get}
use Rattle.std.specs.Str.{str_to_ascii_lowercase}
use Rattle.sk_leap.specs.Kernel.{month_names}
use Rattle.sk_calendar.proofs.months.month_place.Given as goal

abbrev pub invariant-loop-place : goal.invariant-loop-place
invariant-loop-place l = (k : ℕ) → k < l.place → slice_get month_names k ≢ Some (str_to_ascii_lowercase l.name)
