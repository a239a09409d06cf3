use Rattle.std.proofs.Common.{◌≡◌, ◌++◌, take}
use Rattle.std.specs.Prelude.{codes}
use Rattle.std.specs.List.{flat_map}
use Rattle.sk_words.specs.Asked.{options_in}
use Rattle.sk_words.specs.Help.{version}
use Rattle.sk_words.specs.Request.{uses}
use Rattle.sk_words.specs.declared.tables.Command.TheVariants.{Plot}
use Rattle.sk_outcome.specs.Drawn.{given_as}
use Rattle.sk_commands.proofs.plot.foot_of.Given as goal

abbrev pub invariant-loop-name : goal.invariant-loop-name
invariant-loop-name l = l.foot.items ≡ (codes "station " ++ (version ++ codes " plot")) ++ flat_map (λ name. given_as name (options_in l.request name)) (take l.name-index (uses Plot))
