use Rattle.std.proofs.Common.{◌≡◌, take}
use Rattle.sk_leap.specs.Leap.{leap_value}
use Rattle.sk_leap.proofs.lookup.leap_value.Given as goal

abbrev pub invariant-loop-pair : goal.invariant-loop-pair
invariant-loop-pair l = l.value ≡ leap_value (take l.pair-index l.pairs) l.day
