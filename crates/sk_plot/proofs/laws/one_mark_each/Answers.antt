use Rattle.std.proofs.Common.{◌∷◌}
use Rattle.std.proofs.lemmas.Grind.{flat_map-append}
use Rattle.sk_plot.specs.Picture.{mark_text}
use Rattle.sk_plot.proofs.laws.one_mark_each.Goals as goal

pub returns : goal.returns
returns c = λ sheet before after p. flat_map-append (mark_text sheet) before (p ∷ after)
