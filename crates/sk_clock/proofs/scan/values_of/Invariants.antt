use Rattle.std.proofs.Common.{length}
use Rattle.sk_clock.proofs.ScanLemmas.{ReadsOn}
use Rattle.sk_clock.proofs.scan.values_of.Given as goal

abbrev pub invariant-loop-digits : goal.invariant-loop-digits
invariant-loop-digits l = ReadsOn l.bytes l.rest l.values

abbrev pub decreases-loop-digits : goal.decreases-loop-digits
decreases-loop-digits l = length l.rest
