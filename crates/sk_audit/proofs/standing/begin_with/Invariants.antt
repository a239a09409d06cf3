use Rattle.std.proofs.Common.{◌≡◌, take}
use Rattle.sk_audit.proofs.standing.begin_with.Given as goal

abbrev pub invariant-loop-place : goal.invariant-loop-place
invariant-loop-place l = take l.place l.blocks ≡ take l.place l.front
