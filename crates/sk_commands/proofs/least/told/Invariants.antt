use Rattle.std.proofs.Common.{◌≡◌, [], ◌∷◌, ◌++◌, length, take}
use Rattle.std.specs.Prelude.{codes, decimal}
use Rattle.std.specs.List.{flat_map}
use Rattle.sk_outcome.specs.Output.{line_of, stretch_line}
use Rattle.sk_commands.proofs.least.told.Given as goal

abbrev pub invariant-loop-stretch : goal.invariant-loop-stretch
invariant-loop-stretch l =
    l.text.items ≡ line_of (codes "least" ∷ decimal (length l.stretches) ∷ []) ++ flat_map (stretch_line l.observations) (take l.stretch-index l.stretches)
