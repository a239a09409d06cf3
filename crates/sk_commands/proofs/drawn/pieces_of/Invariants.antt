use Rattle.std.proofs.Common.{◌≡◌, take}
use Rattle.sk_outcome.specs.Drawn.{pieces_from}
use Rattle.sk_commands.proofs.drawn.pieces_of.Given as goal

abbrev pub invariant-loop-place : goal.invariant-loop-place
invariant-loop-place l = l.pieces.items ≡ pieces_from l.clock l.triples.triples 0 (take l.place l.triples.triples)
