use Rattle.std.proofs.Common.{◌≡◌, [], ◌∷◌, ◌++◌}
use Rattle.std.specs.Prelude.{codes, decimal}
use Rattle.sk_status.proofs.Behind.{both}
use Rattle.sk_status.proofs.pieces.push_three.Goals as goal

pub returns-clause-words : goal.returns-clause-words
returns-clause-words c = both c.args.line.now c.push_two.new.line c.push_word.new.line (c.args.a.now ∷ c.args.b.now ∷ []) (c.args.c.now ∷ []) c.push_two.ensures.words c.push_word.ensures.words
