use Rattle.std.proofs.Common.{◌≡◌}
use Rattle.sk_sample.specs.Sample.{drawn, walk}
use Rattle.sk_sample.proofs.Passed.{HasMade}
use Rattle.sk_sample.proofs.observations.observations_of.Given as goal

-- the walk and the observations have come to this place
abbrev pub invariant-loop-before : goal.invariant-loop-before
invariant-loop-before l = record {
  drawn : l.walk.drawn ≡ drawn l.seed l.before;
  late : l.walk.late ≡ walk l.seed l.before;
  made : HasMade l.clock l.seed l.count l.before l.list;
}
