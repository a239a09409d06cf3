use Rattle.std.proofs.Common.{arith}
use Rattle.std.proofs.lemmas.Int.{to_z-of_z}
use Rattle.sk_plot.proofs.place.under_band.Goals as goal

pub returns-clause-place : goal.returns-clause-place
returns-clause-place c = grind (arith, to_z-of_z)
