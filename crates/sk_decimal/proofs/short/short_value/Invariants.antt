use Rattle.std.proofs.Common.{◌≡◌, ◌+◌, ◌-◌, ◌*◌, ◌^◌, ◌≤◌, length, drop}
use Rattle.std.specs.Str.Parse.{digits_value_after}
use Rattle.sk_decimal.proofs.short.short_value.Given as goal

abbrev pub invariant-loop-byte : goal.invariant-loop-byte
invariant-loop-byte l =
    (digits_value_after 10 l.fn.front l.digits ≡ digits_value_after 10 l.value (drop l.byte-index l.digits))
    × ((l.value + 1) * 10 ^ (length l.digits - l.byte-index) ≤ (l.fn.front + 1) * 10 ^ length l.digits)
