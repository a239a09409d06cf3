use Rattle.std.proofs.Common.{◌≡◌, ◌++◌, take}
use Rattle.std.specs.List.{flat_map}
use Rattle.sk_publishing.specs.Published.{triple_values}
use Rattle.sk_audit.proofs.claims.are_claimed.Given as goal

abbrev pub invariant-loop-triple : goal.invariant-loop-triple
invariant-loop-triple l = l.values ≡ flat_map triple_values (take l.triple-index l.triples) ++ l.rest
