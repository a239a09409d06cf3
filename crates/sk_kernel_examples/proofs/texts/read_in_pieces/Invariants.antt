use Rattle.std.proofs.Common.{◌+◌, ◌≤◌, length}
use Rattle.sk_grammar.specs.HasRead.{ended_count}
use Rattle.sk_kernel_examples.proofs.texts.read_in_pieces.Given as goal

abbrev pub invariant-loop-rest : goal.invariant-loop-rest
invariant-loop-rest l = ended_count l.reader + length l.rest ≤ 65536

abbrev pub decreases-loop-rest : goal.decreases-loop-rest
decreases-loop-rest l = length l.rest
