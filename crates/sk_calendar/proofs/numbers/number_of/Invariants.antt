use Rattle.std.proofs.Common.{take}
use Rattle.sk_leap.proofs.DigitsRead.{IsReadTo}
use Rattle.sk_calendar.proofs.numbers.number_of.Given as goal

abbrev pub invariant-loop-byte : goal.invariant-loop-byte
invariant-loop-byte l = IsReadTo (take l.byte-index l.digits) l.number
