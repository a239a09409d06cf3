use Rattle.std.proofs.Common.{◌≡◌, ◌≤◌, ◌++◌}
use Rattle.std.specs.String.{string_bytes}
use Rattle.sk_leap.specs.Digits.{last_digits}
use Rattle.sk_leap.proofs.text.push_digits.Given as goal

abbrev pub invariant-loop-place : goal.invariant-loop-place
invariant-loop-place l = record { room : l.place ≤ 12; text : string_bytes l.text ++ last_digits l.place l.number ≡ string_bytes l.initial.text ++ last_digits l.width l.number }

abbrev pub decreases-loop-place : goal.decreases-loop-place
decreases-loop-place l = l.place
